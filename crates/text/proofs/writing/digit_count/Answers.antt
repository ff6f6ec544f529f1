-- Some power of ten is no larger than the number, or it is 0.
use Rattle.text.proofs.Decimal.{counted, one-digit}
use Rattle.text.proofs.writing.digit_count.Goals as goal

pub returns-in-Some : goal.returns-in-Some
returns-in-Some c = counted _ _ c.in-Some.ensures.power_le c.in-Some.ensures.next_power_gt

pub returns-in-None : goal.returns-in-None
returns-in-None c = one-digit _ c.in-None.ensures.none
