-- 01, "Numbers we answer with", 02, 5, for its row 8, and 02, 7, for 13: what a call of a record is answered with, at either end.
use Rattle.std.specs.Prelude.{ℕ, Bool, false, List, Some, None, take}
use Rattle.std.specs.Borrow.{Bor}
use Rattle.telegram.specs.declared.cutting.Message.{Message}
use Rattle.channel.specs.declared.Answer.{Answer as ChannelAnswer}
use Rattle.channel.specs.declared.Answer.TheVariants.{Good}
use Rattle.channel.specs.Numbers.{said as channel_said}
use Rattle.open_end.specs.declared.answers.Answer.{Answer}
use Rattle.open_end.specs.declared.answers.Answer.TheVariants.{Channel, OtherId, OutOfRange, Refused, Ended, Full}
use Rattle.open_end.specs.declared.answers.Answered.{Answered}
use Rattle.open_end.specs.declared.answers.Arrived.{Arrived}
use Rattle.open_end.specs.declared.answers.Due.{Due}
use Rattle.open_end.specs.declared.answers.Said.{Said}
use Rattle.open_end.specs.declared.answers.TakeStep.{TakeStep}
use Rattle.open_end.specs.declared.answers.Taken.{Taken}
use Rattle.open_end.specs.declared.answers.Told.{Told}
use Rattle.open_end.specs.declared.Frame.{Frame}

-- an answer that carries its number alone
abbrev pub plain : ℕ → Said
plain n = record { number = n; done = false; opcode = 0 }

-- each answer's number, and the values that it carries; an open channel's are its own
abbrev pub said : Answer → Said
said (Channel a) = record { number = (channel_said a).number; done = (channel_said a).done; opcode = 0 }
said OtherId = plain 3
said OutOfRange = plain 10
said (Refused opcode) = record { number = 11; done = false; opcode = opcode }
said Ended = plain 8
said Full = plain 13

-- what a call tells: the answer, and what it says
abbrev pub told : Answer → Told
told a = record { answer = a; said = said a }

-- an answer that an open channel gives too, with what it says, and the record left
abbrev pub gives : {R : Type 0} → ChannelAnswer → R → Answered R
gives a c = record { told = told (Channel a); left = c }

-- the answer to a frame that arrives "carries that mark on" (02, 4): whether its telegram is padded
abbrev pub marked : {R : Type 0} → (padded : Bool) → Answered R → Arrived R
marked p r = record { told = r.told; padded = p; left = r.left }

-- 0 with a frame handed over
abbrev pub hand_over : {R : Type 0} → Frame → R → Due R
hand_over f c = record { told = told (Channel Good); frame = Some f; left = c }

-- 0 with no frame
abbrev pub hand_nothing : {R : Type 0} → R → Due R
hand_nothing c = record { told = told (Channel Good); frame = None; left = c }

-- an answer with the length and the flags of what a take shows
abbrev pub shows : {R : Type 0} → ChannelAnswer → Message → R → TakeStep R
shows a m c = record { told = told (Channel a); len = m.length; flags = m.flags; left = c }

-- what a caller sees of a take: the message's flags, where its first byte lies, and its bytes
pub record Look (R : Type 0) : Type 0 where
  pub told : Told
  pub flags : ℕ
  pub left : R
  pub place : ℕ × ℕ
  pub message : List ℕ

-- what a take comes to, lent a buffer: the message is shown as the first part of it, where it lies
abbrev pub seen : {R : Type 0} → TakeStep R → (buffer : Bor (List ℕ)) → Look R
seen t b = record { told = t.told; flags = t.flags; left = t.left; place = b.ref_ptr; message = take t.len b.now }

-- a take's result, as it is seen
abbrev pub looked : {R : Type 0} → Taken R → Look R
looked t = record { told = t.told; flags = t.flags; left = t.left; place = t.message.ref_ptr; message = t.message.now }
