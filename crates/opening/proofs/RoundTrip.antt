-- Reading an opening frame that is written gives it back, for every value of its fields; and how long it is.
use Prim.Native.Nat.{ℕ, ◌/◌, ◌%◌, ◌<◌}
use native.Mathlib.Nat.{mod-lt, mod-eq_of_lt}
use native.Mathlib.Omega.{arith}
use mathlib.Core.Bool.{true}
use mathlib.Core.Path.{◌≡◌, refl, ap}
use lib.ListN.{length}
use borrow.Author.Tests.{lt-ltb, eq-eqb}
use Rattle.telegram.specs.Outgoing.{bytes_of}
use Rattle.opening.specs.Opening.{low_of, high_of, id_of, clear, request_of, reply_of, request_read, reply_read, refusal, Positive, Refused, Open}
use Rattle.opening.specs.Short.{short_request_of, short_reply_of, short_request_read, short_reply_read}

-- an ID's high byte has no bit beside the ID's
high-clear : (i : ℕ) → clear (high_of i) ≡ true
high-clear i = lt-ltb _ _ (mod-lt (i / 256) (omega arith))

-- an ID of eleven bits is that of its two bytes
id-joined : (i : ℕ) → i < 2048 → id_of (low_of i) (high_of i) ≡ i
id-joined i h = let e : i / 256 % 8 ≡ i / 256 = mod-eq_of_lt (omega arith) in omega arith

-- a request, read, names the unit and the receive ID that it was written for
pub request-read : (u r : ℕ) → r < 2048 → request_read (bytes_of (request_of u r)) ≡ Open u r
unfolding request_read
request-read u r h = rw (high-clear r) (ap (Open u) (id-joined r h))

-- a positive reply, read by the end that asked, names the transmit ID that it was written for
pub positive-read : (r t : ℕ) → r < 2048 → t < 2048 → reply_read (bytes_of (reply_of 0xD0 r t)) r ≡ Positive t
unfolding reply_read
positive-read r t h k = rw (high-clear r, eq-eqb _ _ (id-joined r h), high-clear t) (ap Positive (id-joined t k))

-- a refusal, read, names its opcode, whatever IDs stand in it and whoever reads it
pub refused-read : (op r t own : ℕ) → refusal op ≡ true → reply_read (bytes_of (reply_of op r t)) own ≡ Refused op
unfolding reply_read
refused-read op r t own h = rw h

-- requests and replies have seven bytes
pub opening-length : (u r op t : ℕ) → (length (bytes_of (request_of u r)) ≡ 7) × (length (bytes_of (reply_of op r t)) ≡ 7)
opening-length u r op t = (refl, refl)

-- ---- the frames of TP 1.6: read, they give back the unit, the opcode and the low byte of the ID

pub short-request-read : (u r : ℕ) → short_request_read (bytes_of (short_request_of u r)) ≡ Open u (r % 256)
unfolding short_request_read
short-request-read u r = refl

pub short-positive-read : (t : ℕ) → short_reply_read (bytes_of (short_reply_of 0xD0 t)) ≡ Positive (t % 256)
unfolding short_reply_read
short-positive-read t = refl

pub short-refused-read : (t : ℕ) → short_reply_read (bytes_of (short_reply_of 0xD8 t)) ≡ Refused 0xD8
unfolding short_reply_read
short-refused-read t = refl

-- "a fixed length of 3 data bytes"
pub short-length : (u r op t : ℕ) → (length (bytes_of (short_request_of u r)) ≡ 3) × (length (bytes_of (short_reply_of op t)) ≡ 3)
short-length u r op t = (refl, refl)
