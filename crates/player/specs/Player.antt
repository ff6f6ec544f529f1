-- What an exchange makes of a record.
use Rattle.std.specs.Prelude.{ℕ, zero, suc, List, is_some, if◌then◌else◌}
use Rattle.connection.specs.Calls.{due_of}
use Rattle.connection.specs.declared.Connection.{Connection}
use Rattle.player.specs.declared.Player.{Player}

abbrev pub with_connection : Player → Connection → Player
with_connection p c = record { output = p.output; connection = c }

-- how many frames are handed over at a time, at most
abbrev pub most_due : ℕ
most_due = 4

-- the record that is left when what is due is handed over, up to so many frames
unfoldable pub handed : ℕ → Connection → (message : List ℕ) → Connection
handed zero c message = c
handed (suc n) c message =
    if is_some (due_of c message).frame then handed n (due_of c message).left message else (due_of c message).left
