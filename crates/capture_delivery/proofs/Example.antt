-- Logs that meet all that the claim assumes, so that it is not empty.
--     example, example-shown     the tester's message of two frames, the first of them twice, among other lines
--     cut_off, cut-off-shown     the unit's, where the log ends behind the first, without a line end
use Rattle.std.specs.Prelude.{if◌then◌else◌}
use Prim.Native.Nat.{ℕ, ◌+◌, ◌/◌, ◌%◌}
use native.Mathlib.Omega.{arith}
use mathlib.Core.Bool.{true}
use mathlib.Core.List.{List, [], ◌∷◌, ◌++◌, map, flatten}
use mathlib.Core.Logic.{◌≢◌, inl, inr}
use mathlib.Core.Path.{◌≡◌, refl, sym, subst}
use lib.Dec.{ltb}
use lib.ListN.{replicate}
use borrow.Author.Tests.{ltb-true}
use Rattle.text.specs.Numbers.{digit_of}
use Rattle.candump.specs.Line.{run, time_end, id_place, hexes, id_at, bytes_of, body_of, line_of, data_of}
use Rattle.candump.specs.Text.{without_return}
use Rattle.telegram.specs.Kinds.{kind_of}
use Rattle.telegram.specs.Cutting.{stream_of, frames_of, header_of, sevens, headed}
use Rattle.telegram.specs.declared.kinds.Parameters.{Parameters}
use Rattle.telegram.specs.declared.kinds.Telegram.{Telegram}
use Rattle.telegram.specs.declared.kinds.Telegram.TheVariants.{Ack, Accept, Disconnect}
use Rattle.opening.specs.Opening.{request_read, reply_read}
use Rattle.follow.specs.declared.Side.{Side}
use Rattle.follow.specs.declared.Side.TheVariants.{Tester, Unit as CarUnit}
use Rattle.capture_delivery.specs.Sent.{Sent, cuttings, none, more}
use Rattle.capture.specs.Lines.{lines_from}
use Rattle.capture_delivery.specs.Lines.{Content, frame, no-frame, read_from}
use Rattle.capture_delivery.specs.Channel.{C0, A1, own_id, opposite, Carries, Sends, log-ends, channel-ends, new, again, aside, across, elsewhere, asks, grants, sets-up, accepts, passes, none-held}
use Rattle.capture_delivery.specs.Claim.{as_sent, LogOf, shown_in}
use Rattle.capture_delivery.proofs.ShowsWhatWasSent.{shows_what_was_sent}

-- ---- lines

abbrev digit : ℕ → ℕ
digit n = if ltb n 10 then 48 + n else 55 + n

abbrev pair : ℕ → List ℕ
pair n = digit (n / 16) ∷ digit (n % 16) ∷ []

-- "(0.0) c ", the ID, "#" and the bytes; an empty line breaks the form
abbrev line : Content → List ℕ
line (frame id s) = 40 ∷ 48 ∷ 46 ∷ 48 ∷ 41 ∷ 32 ∷ 99 ∷ 32 ∷ digit (id / 256) ∷ pair (id % 256) ++ (35 ∷ flatten (map pair s))
line no-frame = []

-- with CR LF behind each
abbrev written : List Content → List ℕ
written cs = flatten (map (λ (c : Content). line c ++ (13 ∷ 10 ∷ [])) cs)

-- ---- a log

-- unit 01 is asked, the tester is to receive on 300 and to transmit on 740
abbrev opens : List Content
opens =
    frame 0x200 (0x01 ∷ 0xC0 ∷ 0x00 ∷ 0x10 ∷ 0x00 ∷ 0x03 ∷ 0x01 ∷ [])
    ∷ frame 0x201 (0x00 ∷ 0xD0 ∷ 0x00 ∷ 0x03 ∷ 0x40 ∷ 0x07 ∷ 0x01 ∷ [])
    ∷ no-frame
    ∷ frame 0x740 (0xA0 ∷ 0x0F ∷ 0x8A ∷ 0xFF ∷ 0x32 ∷ 0xFF ∷ [])
    ∷ frame 0x300 (0xB1 ∷ [])
    ∷ frame 0x300 (0xA1 ∷ 0x0F ∷ 0x8A ∷ 0xFF ∷ 0x4A ∷ 0xFF ∷ [])
    ∷ []

-- the message in blocks of 15, and its two frames
abbrev sent : Sent
sent = record { message = 0x31 ∷ 0xB8 ∷ 0x00 ∷ 0x00 ∷ 0x04 ∷ 0x13 ∷ []; block = 15 }

abbrev first : List ℕ
first = 0x20 ∷ 0x00 ∷ 0x06 ∷ 0x31 ∷ 0xB8 ∷ 0x00 ∷ 0x00 ∷ 0x04 ∷ []

abbrev second : List ℕ
second = 0x11 ∷ 0x13 ∷ []

abbrev held : List Content
held =
    opens
    ++ (frame 0x740 first
    ∷ frame 0x123 []
    ∷ frame 0x300 (0xB1 ∷ [])
    ∷ frame 0x740 first
    ∷ frame 0x740 (0xA3 ∷ [])
    ∷ frame 0x740 second
    ∷ frame 0x300 (0xA8 ∷ [])
    ∷ frame 0x740 first
    ∷ [])

abbrev log : List ℕ
log = written held

reads : read_from 100 log ≡ held
unfolding lines_from without_return digit_of run time_end id_place hexes id_at bytes_of body_of line_of data_of flatten
reads = refl

apart : (a b : ℕ) → ltb a b ≡ true → b ≢ a
apart a b t e = let l = ltb-true a b t in omega arith

ack-alone : {t : Telegram} → t ≡ Ack true 1 → (p : Parameters) → (t ≢ Accept p) × (t ≢ Disconnect)
ack-alone a p = (λ e. let z : ◌≡◌ {A = ℕ} 0 1 = cc in omega arith, λ e. let z : ◌≡◌ {A = ℕ} 0 1 = cc in omega arith)

-- the opening, and what comes behind it
opening : {side : Side} {at : List ℕ} (cs : List Content)
    → Carries (own_id side 0x300 0x740) (own_id (opposite side) 0x300 0x740) (cuttings 0 (sent ∷ [])) 6 0 cs at → Sends side (cuttings 0 (sent ∷ [])) 0 C0 (opens ++ cs) at
unfolding request_read reply_read kind_of
opening cs c =
    asks refl refl
    (grants refl refl (apart 0x300 0x740 refl)
    (none-held
    (sets-up refl refl
    (passes {w = A1 0x01 0x300 0x740} (inl (apart 0x200 0x300 refl)) (inr (λ p good. (ack-alone refl p).0))
    (accepts {p = record { block = 0x0F; t1 = 0x8A; t3 = 0x4A }} refl refl (omega arith, omega arith) c)))))

sends : Sends Tester (cuttings 0 (sent ∷ [])) 0 C0 held (7 ∷ 12 ∷ [])
unfolding kind_of cuttings stream_of frames_of header_of sevens headed
sends =
    opening _
    (new {seen = 0} refl (omega arith) refl
    (elsewhere (λ e. apart 0x123 0x740 refl (sym e)) (λ e. apart 0x123 0x300 refl (sym e))
    (across refl (ack-alone refl (record { block = 0; t1 = 0; t3 = 0 })).1
    (again {seen = 1} 0 refl (omega arith) (omega arith) refl
    (aside refl tt
    (new {seen = 1} refl (omega arith) refl
    (channel-ends (inr refl) refl)))))))

-- the reader has room for eight bytes of the tester, and none for the unit's
pub example : LogOf 1024 100 Tester (replicate 8 0) [] (sent ∷ []) log (7 ∷ 12 ∷ [])
example =
    record {
      fit = more {m = sent} (record { some = omega arith; within = omega arith; roomy = omega arith }) none;
      sends = subst (λ (cs : List Content). Sends Tester (cuttings 0 (sent ∷ [])) 0 C0 cs (7 ∷ 12 ∷ [])) (sym reads) sends;
    }

-- so the message is shown, once, from the first line that has its first frame to that of its last
pub example-shown : shown_in 1024 100 Tester (replicate 8 0) [] log ≡ record { first = 7; last = 12; flags = 0; bytes = 0x31 ∷ 0xB8 ∷ 0x00 ∷ 0x00 ∷ 0x04 ∷ 0x13 ∷ [] } ∷ []
unfolding cuttings stream_of frames_of sevens headed as_sent
example-shown = ((shows_what_was_sent 1024 (omega arith)).all 100 Tester (replicate 8 0) [] (sent ∷ []) log (7 ∷ 12 ∷ []) example refl).whole

-- ---- a log that ends inside a message

abbrev part : List ℕ
part = written opens ++ line (frame 0x300 first)

part-reads : read_from 100 part ≡ opens ++ (frame 0x300 first ∷ [])
unfolding lines_from without_return digit_of run time_end id_place hexes id_at bytes_of body_of line_of data_of flatten
part-reads = refl

pub cut_off : LogOf 1024 100 CarUnit [] (replicate 8 0) (sent ∷ []) part (7 ∷ [])
unfolding cuttings stream_of frames_of header_of sevens headed
cut_off =
    record {
      fit = more {m = sent} (record { some = omega arith; within = omega arith; roomy = omega arith }) none;
      sends =
          subst (λ (cs : List Content). Sends CarUnit (cuttings 0 (sent ∷ [])) 0 C0 cs (7 ∷ [])) (sym part-reads)
          (opening (frame 0x300 first ∷ []) (new {seen = 0} refl (omega arith) refl log-ends));
    }

pub cut-off-shown : shown_in 1024 100 CarUnit [] (replicate 8 0) part ≡ []
unfolding cuttings stream_of sevens headed as_sent
cut-off-shown = ((shows_what_was_sent 1024 (omega arith)).inside 100 CarUnit [] (replicate 8 0) [] sent part (7 ∷ []) cut_off (omega arith) (omega arith)).whole
