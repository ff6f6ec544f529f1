-- What functions inside the crate promise. No public promise cites it; proofs/Verdict.antt ties it to what arrives.
use Rattle.std.specs.Prelude.{ℕ, ◌+◌, ◌-◌, ◌%◌, Bool, not, List, length, get_or, ltb, if◌then◌else◌}
use Rattle.telegram.specs.Cutting.{none, declared_of}
use Rattle.receiver.specs.Receiving.{first, discarded, used, completed, on_first, on_later}
use Rattle.receiver.specs.declared.Brought.{Brought}
use Rattle.receiver.specs.declared.Receiver.{Receiver}
use Rattle.receiver.specs.declared.Received.{Received}
use Rattle.receiver.specs.declared.Receipt.{Receipt}
use Rattle.receiver.specs.declared.Receipt.TheVariants.{Used, Complete, ThrownAway, OutOfPlace, Untaken, ShortFirst, ShortLater, Broken, NoData}

-- a first or a later frame, as `on_data` has them
abbrev pub in_order : (limit : ℕ) → Receiver → (asks last : Bool) → (p : List ℕ) → (room : ℕ) → Received
in_order limit r asks last p room = if first r then on_first limit r asks last p room else on_later r asks last p room

-- what a frame with the bytes p behind its first one brings to the message begun, or to the one that it begins
unfoldable pub brought_by : Receiver → (p : List ℕ) → Brought
brought_by r p =
    if not (first r) then record { message = r.at.begun; fill = r.at.fill + length p }
    else if ltb (length p) 2 then record { message = none; fill = 0 }
    else record { message = declared_of (get_or p 0 0) (get_or p 1 0); fill = length p - 2 }

-- the receiver after a first or a later frame, by what became of it; the other receipts are not theirs
unfoldable pub receiver_after : Receiver → Receipt → (asks last : Bool) → Brought → Receiver
receiver_after r Used asks last b = used r asks b.message (b.fill % 65536)
receiver_after r Complete asks last b = completed r asks b.message
receiver_after r ThrownAway asks last b = r
receiver_after r (OutOfPlace e) asks last b = r
receiver_after r Untaken asks last b = r
receiver_after r ShortFirst asks last b = discarded r asks last
receiver_after r ShortLater asks last b = r
receiver_after r (Broken c) asks last b = discarded r asks last
receiver_after r NoData asks last b = r
