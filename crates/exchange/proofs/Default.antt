-- 02, request 3, of the definitions: what a default opening agrees, and a long message behind it.
use Prim.Native.Nat.{ℕ, ◌+◌, ◌*◌, ◌<◌, ◌≤◌}
use native.Mathlib.Omega.{arith}
use mathlib.Core.List.{List, [], ◌∷◌, flat_map}
use mathlib.Core.Bool.{false}
use mathlib.Core.Path.{◌≡◌, refl, ap}
use lib.ListN.{length}
use borrow.Author.Tests.{lt-ltb, le-ltb, ne_eqb}
use Rattle.laws.proofs.Cases.{smaller-min}
use Rattle.telegram.specs.Cutting.{longest, stream_of, frames_of, header_of, frame_at}
use Rattle.telegram.specs.Kinds.{bad_block, kind_of}
use Rattle.telegram.specs.Time.{tenths_of}
use Rattle.opening.specs.Opening.{reply_read}
use Rattle.profile.specs.Profile.{tp20, within, sorted_by}
use Rattle.profile.specs.Opening.{request_for, reply_for, named}
use Rattle.profile.proofs.Opening.{named-inside}
use Rattle.settings.specs.Settings.{defaults, allowed_by}
use Rattle.sender.specs.Sending.{offered, distance, on_ack, heard, frame_due, first_number, handed}
use Rattle.channel.specs.Opened.{test_due, hand_ack, hand_data, due, sent}
use Rattle.channel.specs.declared.Answer.TheVariants.{Good}
use Rattle.arrival.specs.Arrived.{answered, on_ack as ack_on, arrived as arrived_on}
use Rattle.open_end.specs.OpenEnd.{course_of, arrived_at, frame_on, due_at, sent_at}
use Rattle.connection.specs.declared.Connection.{Connection}
use Rattle.connection.specs.Record.{requesting, agreeing, opened, with_attempt, listens_on, hears}
use Rattle.connection.specs.Calls.{attempt_out, opening_as, on_reply, on_accept, on_agreeing, settled, on_open, arrived, request_due, open_due, due_of, open_sent, sent_by}
use Rattle.open_end.specs.Answers.{gives, marked}
use Rattle.connection.proofs.Rules.{buffered-requesting}
use Rattle.exchange.specs.Exchange.{step, run}
use Rattle.exchange.specs.Default.{DefaultBlocks, first_bytes, blocks_of_eight}

-- ---- what comes in: a D0 with any transmit ID of eleven bits, and an A1 of block size 1 to 15

-- the record once its C0 is out
abbrev waiting : Connection
waiting = with_attempt (requesting defaults) (attempt_out (requesting defaults))

-- a D0 to our receive ID 0x300, with a transmit ID by its two bytes
abbrev d0 : (low high : ℕ) → List ℕ
d0 low high = 0x00 ∷ 0xD0 ∷ 0x00 ∷ 0x03 ∷ low ∷ high ∷ 0x01 ∷ []

d0-comes : (low high room : ℕ) → low + 256 * high < 0x800
    → arrived longest waiting 0x201 (d0 low high) room ≡ marked false (gives Good (agreeing waiting (low + 256 * high)))
unfolding reply_for reply_read listens_on hears on_reply arrived
d0-comes low high room h =
    rw (lt-ltb high 8 (omega arith), named-inside tp20 (low + 256 * high) (omega arith, omega arith)) (ap (λ t. marked false (gives Good (agreeing waiting t))) (omega arith))

-- the record once its A0 is out
abbrev offering : (transmit : ℕ) → Connection
offering t = with_attempt (agreeing waiting t) (attempt_out (agreeing waiting t))

a1-comes : (t block t1 t2 t3 t4 room : ℕ) → 1 ≤ block → block ≤ 15
    → arrived longest (offering t) 0x300 (0xA1 ∷ block ∷ t1 ∷ t2 ∷ t3 ∷ t4 ∷ []) room
    ≡ marked false (gives Good (opened (offering t) (record { block = block; t1 = t1; t3 = t3 })))
unfolding kind_of bad_block sorted_by listens_on hears on_accept on_agreeing arrived
a1-comes t block t1 t2 t3 t4 room some most = rw (ne_eqb block 0 (λ z. omega arith), le-ltb 15 block most)

-- whatever they are
pub default-blocks : DefaultBlocks
unfolding flat_map bad_block tenths_of within request_for allowed_by opening_as request_due due_of step run
default-blocks b low high block t1 t2 t3 t4 h some most =
    let replied = d0-comes low high (length b) h in
    let kept = buffered-requesting waiting refl longest 0x201 (d0 low high) b in
    let accepted = a1-comes (low + 256 * high) block t1 t2 t3 t4 (length b) some most in
    record {
      answered = rw (replied, kept, accepted);
      offered = rw replied;
      phases = rw (replied, kept, accepted);
      agreed = rw (replied, kept, accepted, smaller-min 8 block);
    }

-- the run, with all that it goes through unfolded
computed : List ℕ
unfolding flat_map tenths_of stream_of frames_of header_of frame_at bad_block kind_of reply_read reply_for named request_for sorted_by allowed_by within offered distance on_ack heard frame_due first_number handed test_due hand_ack hand_data due sent answered ack_on arrived_on course_of arrived_at frame_on due_at sent_at listens_on hears opening_as on_reply on_accept on_agreeing settled on_open arrived request_due open_due due_of open_sent sent_by step run first_bytes
computed = first_bytes

-- "a unit that names 15 gets blocks of 8"
pub default-asks : first_bytes ≡ blocks_of_eight
unfolding computed
default-asks = refl
