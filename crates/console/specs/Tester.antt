-- What each call of a connection answers and leaves, as a line tells it.
use Rattle.std.specs.Prelude.{ℕ, false, List, length, Option, Some, None, ◌==◌, if◌then◌else◌}
use Rattle.telegram.specs.Cutting.{longest}
use Rattle.connection.specs.Record.{closed_record}
use Rattle.connection.specs.Calls as connection
use Rattle.connection.specs.declared.Connection.{Connection}
use Rattle.open_end.specs.declared.answers.Answered.{Answered}
use Rattle.open_end.specs.declared.answers.Arrived.{Arrived}
use Rattle.open_end.specs.declared.answers.Due.{Due}
use Rattle.open_end.specs.declared.answers.TakeStep.{TakeStep}
use Rattle.dialogue.specs.Answers.{marked, handing, showing}
use Rattle.dialogue.specs.Numbers.{opening_of}
use Rattle.dialogue.specs.Rows.{opening16_of}
use Rattle.dialogue.specs.Driven.{Calls}
use Rattle.dialogue.specs.declared.driven.Reply.{Reply}
use Rattle.dialogue.specs.declared.rows.Opening16.{Opening16}
use Rattle.settings.specs.declared.Settings.{Settings}
use Rattle.console.specs.declared.Tester.{Tester}

-- the names of its own calls, as the numbers that their letters make
abbrev pub open_name : ℕ
open_name = 0x6F70656E

abbrev pub open16_name : ℕ
open16_name = 0x6F70656E3136

-- an answer that carries nothing
abbrev pub answers : Answered Connection → Reply Tester
answers a = record { carried = marked a.told.said false; len = 0; next = record { connection = a.left } }

abbrev pub arrives : Arrived Connection → Reply Tester
arrives a = record { carried = marked a.told.said a.padded; len = 0; next = record { connection = a.left } }

abbrev pub hands : Due Connection → Reply Tester
hands d = record { carried = handing d.told.said d.frame; len = 0; next = record { connection = d.left } }

abbrev pub takes : TakeStep Connection → Reply Tester
takes t = record { carried = showing t.told.said t.flags; len = t.len; next = record { connection = t.left } }

abbrev pub opens : Tester → Option Settings → Option (Reply Tester)
opens t None = None
opens t (Some s) = Some (answers (connection.opening t.connection s))

abbrev pub opens_16 : Tester → Option Opening16 → Option (Reply Tester)
opens_16 t None = None
opens_16 t (Some o) = Some (answers (connection.opening_as t.connection o.profile o.settings))

abbrev pub own_of : Tester → (name : ℕ) → (words : List ℕ) → Option (Reply Tester)
own_of t name words =
    if name == open_name then opens t (opening_of words)
    else if name == open16_name then opens_16 t (opening16_of words)
    else None

abbrev pub tester_calls : Calls Tester
tester_calls = record {
  closed = record { connection = closed_record };
  arrived = λ t id s room. arrives (connection.arrived longest t.connection id s room);
  buffered = λ t id s b. connection.buffered longest t.connection id s b;
  elapsed = λ t n. answers (connection.elapsed t.connection n);
  due = λ t s. hands (connection.due_of t.connection s);
  sent = λ t s. answers (connection.sent_by longest t.connection (length s));
  accepted = λ number. number == 0;
  taken = λ t room. takes (connection.taken_by t.connection room);
  close = λ t. answers (connection.closed t.connection);
  own = own_of;
}
