-- What each call of a control unit answers and leaves, as a line tells it.
use Rattle.std.specs.Prelude.{ℕ, ◌%◌, false, List, length, Option, Some, None, ◌==◌, if◌then◌else◌}
use Rattle.telegram.specs.Cutting.{longest}
use Rattle.unit.specs.Record.{closed_unit}
use Rattle.unit.specs.Calls as unit
use Rattle.unit.specs.declared.ControlUnit.{ControlUnit}
use Rattle.open_end.specs.declared.answers.Answered.{Answered}
use Rattle.open_end.specs.declared.answers.Arrived.{Arrived}
use Rattle.open_end.specs.declared.answers.Due.{Due}
use Rattle.open_end.specs.declared.answers.TakeStep.{TakeStep}
use Rattle.dialogue.specs.Answers.{marked, handing, showing}
use Rattle.dialogue.specs.Numbers.{given_by, next_number, are_all}
use Rattle.dialogue.specs.Driven.{Calls}
use Rattle.dialogue.specs.declared.driven.Reply.{Reply}
use Rattle.unit_console.specs.declared.Car.{Car}
use Rattle.unit_console.specs.declared.Setting.{Setting}

-- the name of its own call, as the number that its letters make
abbrev pub set_name : ℕ
set_name = 0x736574

-- an answer that carries nothing
abbrev pub answers : Answered ControlUnit → Reply Car
answers a = record { carried = marked a.told.said false; len = 0; next = record { unit = a.left } }

abbrev pub arrives : Arrived ControlUnit → Reply Car
arrives a = record { carried = marked a.told.said a.padded; len = 0; next = record { unit = a.left } }

abbrev pub hands : Due ControlUnit → Reply Car
hands d = record { carried = handing d.told.said d.frame; len = 0; next = record { unit = d.left } }

abbrev pub takes : TakeStep ControlUnit → Reply Car
takes t = record { carried = showing t.told.said t.flags; len = t.len; next = record { unit = t.left } }

-- a closed unit's own where no word is given, and else eleven settings and the reply, if these are all the words
abbrev pub setting_read : List ℕ → Option Setting
setting_read s =
    if length s == 0 then Some (record { settings = closed_unit.settings; reply = closed_unit.reply })
    else (let read = next_number (given_by s).numbers s 255 in
    if are_all read s then Some (record { settings = (given_by s).settings; reply = read.value % 256 }) else None)

abbrev pub sets : Car → Option Setting → Option (Reply Car)
sets c None = None
sets c (Some s) = Some (answers (unit.set_to c.unit s.settings s.reply))

abbrev pub own_of : Car → (name : ℕ) → (words : List ℕ) → Option (Reply Car)
own_of c name words = if name == set_name then sets c (setting_read words) else None

abbrev pub car_calls : Calls Car
car_calls = record {
  closed = record { unit = closed_unit };
  arrived = λ c id s room. arrives (unit.arrived longest c.unit id s room);
  buffered = λ c id s b. unit.buffered longest c.unit id s b;
  elapsed = λ c n. answers (unit.elapsed c.unit n);
  due = λ c s. hands (unit.due_of c.unit s);
  sent = λ c s. answers (unit.sent_by longest c.unit (length s));
  accepted = λ number. number == 0;
  taken = λ c room. takes (unit.taken_by c.unit room);
  close = λ c. answers (unit.closed c.unit);
  own = own_of;
}
