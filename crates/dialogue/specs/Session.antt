-- What is kept from line to line.
use Rattle.std.specs.Prelude.{◌≡◌, ℕ, ◌+◌, ◌%◌, ◌^◌, Bool, ◌||◌, false, List, length, take}
use Rattle.std.proofs.lemmas.List.Edits.{sets}
use Rattle.text.specs.Output.{Said, fresh}
use Rattle.text.specs.declared.output.Output.{Output}
use Rattle.dialogue.specs.declared.session.Session.{Session}

-- no line read
abbrev pub fresh_session : Session
fresh_session = record { room = 1024; length = 0; lines = 0; ended = false; output = fresh }

-- as a new record finds it: 1,024 bytes lent, and no message
abbrev pub renewed : Session → Session
renewed s = record { room = 1024; length = 0; lines = s.lines; ended = s.ended; output = s.output }

-- one line more, with which the input may have ended
abbrev pub next_line : Session → Bool → Session
next_line s ended = record { room = s.room; length = s.length; lines = (s.lines + 1) % 2 ^ 64; ended = ended; output = s.output }

-- the input has ended, or the output takes no more
abbrev pub is_over : Session → Bool
is_over s = s.ended || s.output.failed

-- so many bytes are lent
abbrev pub lending : Session → ℕ → Session
lending s room = record { room = room; length = s.length; lines = s.lines; ended = s.ended; output = s.output }

-- a message of this length was accepted
abbrev pub keeping : Session → ℕ → Session
keeping s length = record { room = s.room; length = length; lines = s.lines; ended = s.ended; output = s.output }

abbrev pub with_output : Session → Output → Session
with_output s o = record { room = s.room; length = s.length; lines = s.lines; ended = s.ended; output = o }

-- a session before and after a text is said: its output alone changes
pub record Says (s : Session) (text : List ℕ) (r : Session) : Type 0 where
  pub said : Said s.output text r.output
  pub kept : r ≡ with_output s r.output

-- a session and a lent text before and after a line is said: it is written to the text's start as far as there is room, and what
-- stands there is said
pub record Answers (s : Session) (line b after : List ℕ) (r : Session) : Type 0 where
  pub text : after ≡ sets b 0 line
  pub says : Says s (take (length line) after) r
