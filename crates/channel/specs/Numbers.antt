-- 01, "Numbers we answer with".
use Rattle.std.specs.Prelude.{ℕ, Bool, true, false, ◌||◌, eqb}
use Rattle.channel.specs.declared.Answer.{Answer}
use Rattle.channel.specs.declared.Answer.TheVariants.{Good, Done, Disconnected, Malformed, BlockSize, NotDue, Busy, BadLength, ShortBuffer, OtherLength, UsedUp, Broken, NoChange}
use Rattle.channel.specs.declared.Said.{Said}

-- a number of the table with nothing more to say
abbrev pub plain : ℕ → Said
plain n = record { number = n; done = false; disconnected = false }

-- each answer's number in the table, and the values that it carries
abbrev pub said : Answer → Said
said Good = plain 0
said Done = record { number = 0; done = true; disconnected = false }
said Disconnected = record { number = 0; done = false; disconnected = true }
said Malformed = plain 1
said BlockSize = plain 2
said NotDue = plain 4
said Busy = plain 5
said BadLength = plain 6
said ShortBuffer = plain 7
said OtherLength = plain 7
said UsedUp = plain 8
said (Broken c) = plain 9
said NoChange = plain 12

-- the answer closes the record: row 8, or "Disconnect: closed"
abbrev pub closes : Answer → Bool
closes a = eqb (said a).number 8 || (said a).disconnected
