-- What becomes of a frame of one side.
--     data-turned      data: what the receiver of 01 makes of it
--     aside-quiet      no data, no break and no A8: nothing
--     again-quiet      data with another number than the expected one: nothing
--     next-read        the next frame of the message at hand
use Prim.Native.Nat.{ℕ, ◌*◌, ◌<◌, ◌≤◌}
use native.Mathlib.Omega.{arith}
use mathlib.Core.Bool.{Bool, false}
use mathlib.Core.List.{List}
use mathlib.Core.Path.{◌≡◌, refl, sym, ap, ap₂, ◌∙◌, subst}
use lib.ListN.{length, take, drop}
use borrow.Author.Tests.{ne_eqb}
use Rattle.telegram.specs.Outgoing.{bytes_of}
use Rattle.telegram.specs.Kinds.{sorted}
use Rattle.telegram.specs.Cutting.{frames_of, frame_at, asks_at}
use Rattle.telegram.specs.declared.kinds.Sorted.{Sorted}
use Rattle.telegram.specs.declared.kinds.Telegram.{Telegram}
use Rattle.telegram.specs.declared.kinds.Telegram.TheVariants.{Data, Ack, Test, Break, Disconnect, Setup, Accept, Malformed}
use Rattle.telegram.proofs.RoundTrip.{frame-sorted, frame-carries}
use Rattle.receiver.specs.declared.Receipt.TheVariants.{NoData, OutOfPlace}
use Rattle.receiver.specs.declared.Receiver.{Receiver}
use Rattle.receiver.specs.Receiving.{kept, on_data, received, buffered}
use Rattle.receiver.proofs.Laws.{received-data, kept-is}
use Rattle.reading.specs.Reading.{Reading, arrives}
use Rattle.reading.proofs.Frame.{unflagged, Behind, Reads, reads-frame}
use Rattle.follow.specs.declared.Side.{Side}
use Rattle.follow.specs.declared.Reception.{Reception}
use Rattle.follow.specs.declared.Turn.{Turn}
use Rattle.follow.specs.Following.{receiver_of, fate_of, first_after, reception_after, on_data as on_side, on_telegram, turned, buffer_after}
use Rattle.capture.specs.declared.Event.TheVariants.{Nothing}
use Rattle.capture.specs.Reading.{event_of}
use Rattle.capture_delivery.specs.Channel.{Aside}

-- one side, with the buffer lent for it, as a reader of 01
abbrev pub reading_of : Reception → List ℕ → Reading
reading_of n b = record { receiver = receiver_of n; buffer = b; note = NoData }

-- a frame in a line goes to this reader, and its note decides what becomes of it
pub record Takes (side : Side) (n : Reception) (line : ℕ) (h : Reading) (t : Turn) : Type 0 where
  pub fate : t.fate ≡ fate_of side h.receiver.complete t.reception.first h.note
  pub first : t.reception.first ≡ first_after n line h.note
  pub ends : t.ends ≡ false
  pub at : t.reception.at ≡ h.receiver.at

-- nothing is told, and the side stands as it stood
pub record Quiet (limit : ℕ) (n : Reception) (s b : List ℕ) (t : Turn) : Type 0 where
  pub silent : event_of t.fate ≡ Nothing
  pub ends : t.ends ≡ false
  pub at : t.reception.at ≡ n.at
  pub first : t.reception.first ≡ n.first
  pub buffer : buffer_after limit n s b ≡ b

module _ (limit : ℕ) (side : Side) (n : Reception) (line : ℕ) (b : List ℕ) where
  kind-taken : (asks last : Bool) (number : ℕ) (p : List ℕ)
      → Takes side n line (arrives limit (reading_of n b) (Data asks last number) p) (on_telegram limit side n line (Data asks last number) p (length b))
  unfolding on_telegram on_side reception_after arrives
  kind-taken asks last number p = record { fate = refl; first = refl; ends = refl; at = refl }

  module _ (s : List ℕ) where
    -- what the reader has of a frame
    abbrev pub read : Reading
    read = arrives limit (reading_of n b) (sorted s).kind (drop 1 s)

    -- the buffer is the reader's
    pub turned-buffer : buffer_after limit n s b ≡ read.buffer
    unfolding buffer_after arrives
    turned-buffer = refl

    pub data-taken : {asks last : Bool} {number : ℕ} → (sorted s).kind ≡ Data asks last number → Takes side n line read (turned limit side n line s (length b))
    data-taken {asks} {last} {number} e =
        subst (λ (t : Telegram). Takes side n line (arrives limit (reading_of n b) t (drop 1 s)) (on_telegram limit side n line t (drop 1 s) (length b))) (sym e)
        (kind-taken asks last number (drop 1 s))

    -- what a frame out of place leaves
    abbrev out : Bool → Reading
    out asks = record { receiver = kept (receiver_of n) asks; buffer = b; note = OutOfPlace n.at.expected }

    out-read : {asks last : Bool} {number : ℕ} → (sorted s).kind ≡ Data asks last number → (number ≡ n.at.expected → ⊥) → read ≡ out asks
    unfolding arrives on_data buffered
    out-read {asks} {last} {number} e d =
        ap (λ (t : Telegram). arrives limit (reading_of n b) t (drop 1 s)) e
        ∙ rw (received-data limit (receiver_of n) (drop 1 s) (length b) asks last number, ne_eqb number n.at.expected d)

    first-kept : (e : ℕ) → first_after n line (OutOfPlace e) ≡ n.first
    unfolding first_after
    first-kept e = refl

    -- it is told by nothing, and the side stands where it stood
    pub again-quiet : {asks last : Bool} {number : ℕ} → (sorted s).kind ≡ Data asks last number → (number ≡ n.at.expected → ⊥)
        → Quiet limit n s b (turned limit side n line s (length b))
    again-quiet {asks} {last} {number} e d =
        let t = data-taken e in
        let o = out-read e d in
        record {
          silent = ap event_of (t.fate ∙ ap (λ (h : Reading). fate_of side h.receiver.complete (turned limit side n line s (length b)).reception.first h.note) o);
          ends = t.ends;
          at = t.at ∙ ap (λ (h : Reading). h.receiver.at) o ∙ ap (λ (r : Receiver). r.at) (kept-is (receiver_of n) asks);
          first = t.first ∙ ap (λ (h : Reading). first_after n line h.note) o ∙ first-kept n.at.expected;
          buffer = turned-buffer ∙ ap (λ (h : Reading). h.buffer) o;
        }

  aside-kind : (t : Telegram) → Aside t → (p : List ℕ)
      → (event_of (on_telegram limit side n line t p (length b)).fate ≡ Nothing) × ((on_telegram limit side n line t p (length b)).ends ≡ false)
      × ((on_telegram limit side n line t p (length b)).reception ≡ n) × (buffered (receiver_of n) (received limit (receiver_of n) t p (length b)).note p b ≡ b)
  unfolding on_telegram received buffered
  aside-kind (Ack ready number) a p = (refl, refl, refl, refl)
  aside-kind Test a p = (refl, refl, refl, refl)
  aside-kind (Setup q) a p = (refl, refl, refl, refl)
  aside-kind (Accept q) a p = (refl, refl, refl, refl)
  aside-kind Malformed a p = (refl, refl, refl, refl)
  aside-kind (Data asks last number) a p = absurd a
  aside-kind Break a p = absurd a
  aside-kind Disconnect a p = absurd a

  pub aside-quiet : (s : List ℕ) → Aside (sorted s).kind → Quiet limit n s b (turned limit side n line s (length b))
  unfolding buffer_after
  aside-quiet s a =
      let q = aside-kind (sorted s).kind a (drop 1 s) in
      record { silent = q.0; ends = q.1; at = ap (λ (r : Reception). r.at) q.2; first = ap (λ (r : Reception). r.first) q.2; buffer = q.3 }

-- ---- the message at hand

module _ (limit : ℕ) (small : limit ≤ 4095) (m : List ℕ) (block number : ℕ) (b : List ℕ) (some : 0 < length m) (within : length m ≤ limit) (roomy : length m ≤ length b) where
  -- its next frame is read by a reader that stands behind the frames before
  pub next-read : (k : ℕ) (h : Reading) (s : List ℕ) → k < frames_of (length m) → s ≡ bytes_of (frame_at m block number k) → Behind m 0 number b k h
      → Reads m 0 number b k (arrives limit h (sorted s).kind (drop 1 s))
  next-read k h s more e behind =
      let kind = ap (λ (t : Sorted). t.kind) (frame-sorted m block number k more) in
      let bytes = frame-carries m block number k ∙ ap (λ (x : List ℕ). take 7 (drop (7 * k) x)) (unflagged m) in
      subst (Reads m 0 number b k)
      (ap₂ (λ (t : Telegram) (p : List ℕ). arrives limit h t p) (sym kind) (sym bytes) ∙ ap (λ (x : List ℕ). arrives limit h (sorted x).kind (drop 1 x)) (sym e))
      (reads-frame limit m 0 number b some within small (omega arith) roomy k h (asks_at block (length m) k) more behind)
