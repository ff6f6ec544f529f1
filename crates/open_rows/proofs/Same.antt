-- What specs/Rows.antt writes in its own words, and what the definitions call it.
use Rattle.std.specs.Prelude.{if◌then◌else◌}
use Prim.Native.Nat.{ℕ, ◌+◌, ◌*◌, ◌/◌, ◌%◌, ◌^◌, min}
use native.Mathlib.Nat.{mul_comm}
use native.Mathlib.Omega.{arith}
use mathlib.Core.Bool.{Bool, true, false, not, ◌&&◌}
use mathlib.Core.List.{List, ◌∷◌}
use mathlib.Core.Path.{◌≡◌, refl, sym, ◌∙◌}
use lib.ListN.{length, take, drop, get_or, length-take}
use lib.Seq.{drop-drop}
use lib.Dec.{ltb, leb, eqb}
use borrow.Author.Tests.{ltb-true, eqb-true}
use Rattle.laws.proofs.Cases.{either, and_first, and_second, smaller-min}
use Rattle.telegram.specs.Time.{tenths_of}
use Rattle.telegram.specs.Outgoing.{payload_of}
use Rattle.telegram.specs.Kinds.{top, bit4, bit5, bad_block, fields, own_or_filled}
use Rattle.telegram.specs.Cutting.{frames_of, header_of, stream_of, last_at, asks_at, frame_at}
use Rattle.profile.specs.Profile.{within}
use Rattle.profile.specs.declared.Range.{Range}
use Rattle.profile.specs.declared.Profile.{Profile}
use Rattle.settings.specs.Settings.{wait_allowed, allowed_by, used}
use Rattle.settings.specs.Agreed.{agreed}
use Rattle.settings.specs.declared.Settings.{Settings}
use Rattle.sender.specs.Sending.{distance, first_number, frame_due, advanced}
use Rattle.sender.specs.declared.Sender.{Sender}
use Rattle.receiver.specs.Receiving.{copied}
use Rattle.receiver.specs.declared.Receiver.{Receiver}
use Rattle.channel.specs.Opened.{fresh, with_sender, restarted, test_due as channel_test_due}
use Rattle.channel.specs.declared.Channel.{Channel}
use Rattle.open_rows.specs.Records.{fresh_channel, agreed_by, tenths, smaller}
use Rattle.open_rows.specs.Rows.{block_out, is_data, asks_ack, is_last, number_in, is_ack, is_ready, ahead, carried_by, is_outside, wait_out, in_range_of, test_due, zero_filled, data_due, is_end, with_ar, first_byte, data_of, data_out, written_at}
use Rattle.open_rows.proofs.Words.{below-40, below-20, upper-half, ack-byte, ready-byte, ahead-by, number_by, acked-to, carried, left_behind, multiple, some_left, larger-max, not-above, below_next, below-not, neither, unbound, unit-pow, zeros-behind}

-- ---- bytes

module _ (s : List ℕ) where
  -- data
  pub data-same : is_data s ≡ (eqb (top (get_or s 0 0)) 0 && leb 2 (length s) && leb (length s) 8)
  unfolding is_data
  data-same = rw (below-40 (get_or s 0 0), below_next (length s) 8)

  -- AR of data
  pub asks-same : is_data s ≡ true → asks_ack s ≡ eqb (bit5 (get_or s 0 0)) 0
  unfolding is_data asks_ack
  asks-same d = below-20 (get_or s 0 0) (ltb-true (get_or s 0 0) 0x40 (search (and_first, and_second)))

  -- EOM
  pub last-same : is_last s ≡ eqb (bit4 (get_or s 0 0)) 1
  unfolding is_last
  last-same = upper-half (get_or s 0 0)

  -- an Ack
  pub ack-same : is_ack s ≡ (own_or_filled 1 s && eqb (top (get_or s 0 0)) 2 && eqb (bit4 (get_or s 0 0)) 1)
  unfolding is_ack
  ack-same = rw (ack-byte (get_or s 0 0)) (either (own_or_filled 1 s) (λ e. rw e) (λ e. rw e))

  -- RS of an Ack
  pub ready-same : is_ack s ≡ true → is_ready s ≡ eqb (bit5 (get_or s 0 0)) 1
  unfolding is_ready
  ready-same a =
      let h : (own_or_filled 1 s && eqb (top (get_or s 0 0)) 2 && eqb (bit4 (get_or s 0 0)) 1) ≡ true = sym ack-same ∙ a in
      ready-byte (get_or s 0 0) (eqb-true _ _ (search (and_first, and_second))) (eqb-true _ _ (search (and_first, and_second)))

-- ---- settings and time codes

-- time codes
pub tenths-same : (code : ℕ) → tenths code ≡ tenths_of code
unfolding tenths tenths_of
tenths-same code = rw (unit-pow (code / 64)) (mul_comm (10 ^ (code / 64)) (code % 64))

-- a number in a range
pub outside-same : (r : Range) (n : ℕ) → not (is_outside r n) ≡ within r n
unfolding is_outside within
outside-same r n = rw (not-above n r.least, not-above r.most n, neither true (ltb n r.least) (ltb r.most n))

-- T_WAIT between T3 and T1
wait-same : (p : Profile) (s : Settings) → not (wait_out p s) ≡ wait_allowed p s
unfolding wait_out
wait-same p s =
    rw (tenths-same s.t3, tenths-same s.t1, below-not (tenths_of s.t3) s.t_wait, below-not s.t_wait (tenths_of s.t1))
    (unbound p.bounded (leb s.t_wait (tenths_of s.t3)) (leb (tenths_of s.t1) s.t_wait))

-- the settings' ranges
pub range_same : (p : Profile) (s : Settings) → in_range_of p s ≡ allowed_by p s
unfolding in_range_of allowed_by bad_block
range_same p s =
    rw (outside-same p.receives s.receive, outside-same p.units s.unit, below_next s.t_e 10000, some_left s.block, below-not s.block 16, some_left (s.t1 % 64), tenths-same s.t3, ← not-above (tenths_of s.t3) p.least_t3, wait-same p s)
    (rw (neither (within p.receives s.receive && within p.units s.unit) (eqb s.block 0) (ltb 15 s.block)))

-- the smaller block size
pub smaller-same : (m n : ℕ) → smaller m n ≡ min m n
unfolding smaller
smaller-same m n = smaller-min m n

-- what an A0 or A1 of these bytes opens
pub opened-same : (p : Profile) (s : Settings) (b : List ℕ) → fresh_channel (agreed_by p.tests s (get_or b 1 0) (get_or b 4 0)) ≡ fresh (agreed (used p s) (fields b))
opened-same p s b = rw (smaller-same s.block (get_or b 1 0), tenths-same s.t1, tenths-same (get_or b 4 0))

-- ---- sending

-- how far an Ack lies ahead
pub ahead-same : (ch : Channel) (s : List ℕ) → ahead ch s ≡ distance ch.sender (number_in s)
unfolding ahead distance
ahead-same ch s = ahead-by (number_in s) ch.sender.oldest

-- frames acknowledged up to the number of the Ack
pub acked-same : (t : Sender) (s : List ℕ) → (t.oldest + distance t (number_in s)) % 16 ≡ number_in s
unfolding distance
acked-same t s = acked-to (get_or s 0 0) t.oldest

-- as many frames carry a message
pub carried_same : (n k : ℕ) → carried_by n k ≡ eqb k (frames_of n)
unfolding carried_by frames_of
carried_same n k = carried n k

-- EOM on the last frame
pub end_same : (n k : ℕ) → is_end n k ≡ last_at n k
unfolding is_end
end_same n k = carried_same n (k + 1)

-- AR on multiples of the block size and on the last
pub asks-at-same : (block n k : ℕ) → with_ar block n k ≡ asks_at block n k
unfolding with_ar
asks-at-same block n k = rw (multiple (k + 1) block, end_same n k)

-- data is due
pub due-same : (s : Sender) → data_due s ≡ frame_due s
unfolding data_due frame_due frames_of
due-same s = rw (left_behind s.length s.next)

-- a test is due
pub test-same : (ch : Channel) → test_due ch ≡ channel_test_due ch
unfolding test_due channel_test_due
test-same ch = rw (not-above ch.sender.acked ch.sender.high, some_left ch.parameters.interval)

-- at most eight bytes, with zeros behind them
zero_filled-same : (b : ℕ) (s : List ℕ) → zero_filled (b ∷ take 7 s) ≡ payload_of (b ∷ take 7 s)
zero_filled-same b s = rw (zeros-behind (b ∷ take 7 s) (simp length-take (omega arith)))

-- a first byte
first-same : (asks last : Bool) (number : ℕ) → first_byte asks last (number % 16) ≡ header_of asks last number
unfolding first_byte header_of
first-same true true n = refl
first-same true false n = refl
first-same false true n = refl
first-same false false n = refl

-- the frame handed over, of a lent message of the accepted length
pub frame_same : (ch : Channel) (m : List ℕ) → length m ≡ ch.sender.length
    → data_of ch m ≡ frame_at m ch.parameters.terms.block (first_number ch.sender) ch.sender.next
unfolding frame_at first_number stream_of
frame_same ch m e =
    rw (← e, asks-at-same ch.parameters.terms.block (length m) ch.sender.next, end_same (length m) ch.sender.next, number_by ch.sender.oldest ch.sender.acked ch.sender.next, first-same)
    (zero_filled-same _ (drop (7 * ch.sender.next) (stream_of m)))

-- what it leaves
pub out-same : (ch : Channel) → data_out ch ≡ restarted (with_sender ch (advanced ch.parameters.terms ch.sender))
out-same ch = rw (asks-at-same ch.parameters.terms.block ch.sender.length ch.sender.next, larger-max ch.sender.next ch.sender.high)

-- ---- the buffer

-- the buffer behind data that is used
pub copied-same : (r : Receiver) (s b : List ℕ)
    → copied r (drop 1 s) b ≡ (if eqb r.at.begun.length 0 then written_at 0 (drop 3 s) b else written_at r.at.fill (drop 1 s) b)
unfolding copied
copied-same r s b = rw (drop-drop)

-- ---- block sizes

-- row 2 asks for the block size byte
pub block_same : (s : List ℕ) {t : Bool} → bad_block (get_or s 1 0) ≡ t → block_out s ≡ t
unfolding bad_block
block_same s e = e
