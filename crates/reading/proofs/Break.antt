-- A break between frames: those since an Ack last became due or a message last ended are read again, and all is as it was.
--     inner_back       frames with neither AR nor EOM leave the place that a break returns to
--     read_again       read, broken off and read again, they leave what reading them once leaves
--     break-returns    a break returns to where the receiver stood behind the last frame that made an Ack due or ended a message
use Rattle.std.specs.Prelude.{if◌then◌else◌}
use Prim.Native.Nat.{ℕ, ◌+◌, ◌-◌, ◌%◌, ◌≤◌}
use native.Mathlib.Omega.{arith}
use mathlib.Core.Bool.{Bool, true, false, ◌&&◌, ◌||◌}
use mathlib.Core.Path.{◌≡◌, refl, sym, ◌∙◌, ap}
use mathlib.Core.List.{List, ◌∷◌}
use lib.ListN.{length, drop, get_or}
use lib.Seq.{ext_get_or}
use lib.Dec.{ltb, eqb}
use borrow.Author.Tests.{ltb-true, ltb-false, eqb-true, eqb-false}
use Rattle.laws.proofs.Cases.{either}
use Rattle.telegram.specs.Kinds.{sorted}
use Rattle.telegram.specs.declared.kinds.Telegram.TheVariants.{Data}
use Rattle.receiver.specs.declared.Receiver.{Receiver}
use Rattle.receiver.specs.declared.Receipt.{Receipt}
use Rattle.receiver.specs.declared.Receipt.TheVariants.{Used, Complete, ThrownAway, OutOfPlace, Untaken, ShortFirst, ShortLater, Broken, NoData}
use Rattle.receiver.specs.declared.Received.{Received}
use Rattle.receiver.specs.Receiving.{fresh, on_data, buffered}
use Rattle.receiver.proofs.Laws.{received-data, buffered-length}
use Rattle.receiver.proofs.Rules.{is_numbered, is_answered, data-back, Inside, inside-leaves}
use Rattle.receiver.proofs.Bytes.{Written, Writes, data-writes}
use Rattle.reading.specs.Reading.{Reading, arrives, reads}
use Rattle.reading.specs.Lists.{Frame, Inner, Every, no_more, and-more, breaks}
use Rattle.reading.proofs.Lists.{inner-frame, frame-arrives}

-- ---- bytes of the buffer

-- what becomes of a byte, in every buffer of n bytes: it gets a value, whatever it was, or it stays
data Byte (n : ℕ) (after : List ℕ → Receipt → List ℕ) (i : ℕ) : Type 0 where
  gets : (v : ℕ) → ((b : List ℕ) (k : Receipt) → length b ≡ n → get_or (after b k) i 0 ≡ v) → Byte n after i
  stays : ((b : List ℕ) (k : Receipt) → length b ≡ n → get_or (after b k) i 0 ≡ get_or b i 0) → Byte n after i

module _ (n : ℕ) (r : Receiver) (p : List ℕ) (after : List ℕ → Receipt → List ℕ) (i : ℕ) where
  -- the byte under a used frame is the frame's, and the others stay
  used-byte : ((b : List ℕ) (k : Receipt) → length b ≡ n → Written r p b (after b k)) → Byte n after i
  used-byte w =
      either (eqb r.at.begun.length 0)
      (λ z.
      let none = eqb-true r.at.begun.length 0 z in
      either (ltb (i + 2) (length p)) (λ h. gets (get_or p (i + 2) 0) (λ b k e. (w b k e).first-in none i (ltb-true (i + 2) (length p) h)))
      (λ h. stays (λ b k e. (w b k e).first-behind none i (ltb-false (i + 2) (length p) h))))
      (λ z.
      let not_None = eqb-false r.at.begun.length 0 z in
      let some : 1 ≤ r.at.begun.length = omega (arith, not_None) in
      either (ltb i r.at.fill) (λ h. stays (λ b k e. (w b k e).later-before some i (ltb-true i r.at.fill h))) (λ h.
      either (ltb i (r.at.fill + length p))
      (λ l. gets (get_or p (i - r.at.fill) 0) (λ b k e. (w b k e).later-in some i (ltb-false i r.at.fill h) (ltb-true i (r.at.fill + length p) l)))
      (λ l. stays (λ b k e. (w b k e).later-behind some i (ltb-false i (r.at.fill + length p) l)))))

  unused-byte : ((b : List ℕ) (k : Receipt) → length b ≡ n → after b k ≡ b) → Byte n after i
  unused-byte w = stays (λ b k e. ap (λ (s : List ℕ). get_or s i 0) (w b k e))

  writes_byte : (note : Receipt) → ((b : List ℕ) (k : Receipt) → length b ≡ n → Writes r p b note (after b k)) → Byte n after i
  writes_byte Used w = used-byte w
  writes_byte Complete w = used-byte w
  writes_byte ThrownAway w = unused-byte w
  writes_byte (OutOfPlace e) w = unused-byte w
  writes_byte Untaken w = unused-byte w
  writes_byte ShortFirst w = unused-byte w
  writes_byte ShortLater w = unused-byte w
  writes_byte (Broken c) w = unused-byte w
  writes_byte NoData w = unused-byte w

-- ---- one frame with neither AR nor EOM

abbrev reading : Receiver → List ℕ → Receipt → Reading
reading r b k = record { receiver = r; buffer = b; note = k }

module _ (limit : ℕ) (r : Receiver) (n : ℕ) {s : List ℕ} (f : Inner s) where
  -- what becomes of it hangs on the buffer's length alone
  abbrev answer : Received
  answer = on_data limit r false false (get_or s 0 0 % 16) (drop 1 s) n

  inner-arrives : (b : List ℕ) (k : Receipt) → length b ≡ n
      → arrives limit (reading r b k) (sorted s).kind (drop 1 s) ≡ reading answer.receiver (buffered r answer.note (drop 1 s) b) answer.note
  inner-arrives b k e = rw (← e) (frame-arrives limit (reading r b k) (inner-frame f))

  inner-length : (b : List ℕ) → length b ≡ n → length (buffered r answer.note (drop 1 s) b) ≡ n
  inner-length b e = rw (← e) (rw (received-data limit r (drop 1 s) (length b) false false (get_or s 0 0 % 16)) at (buffered-length limit r (Data false false (get_or s 0 0 % 16)) (drop 1 s) b))

  inner-byte : (i : ℕ) → Byte n (λ b k. buffered r answer.note (drop 1 s) b) i
  inner-byte i = writes_byte n r (drop 1 s) _ i answer.note (λ b k e. rw (← e) (data-writes limit r false false (get_or s 0 0 % 16) (drop 1 s) b))

-- ---- lists of them

module _ (limit : ℕ) where
  -- the list is read on from what its first frame leaves
  reads-inner : (r : Receiver) (n : ℕ) {s : List ℕ} (f : Inner s) (rest : List (List ℕ)) (b : List ℕ) (k : Receipt) → length b ≡ n
      → reads limit (reading r b k) (s ∷ rest) ≡ reads limit (reading (answer limit r n f).receiver (buffered r (answer limit r n f).note (drop 1 s) b) (answer limit r n f).note) rest
  unfolding reads
  reads-inner r n f rest b k e = ap (λ (h : Reading). reads limit h rest) (inner-arrives limit r n f b k e)

  -- the buffer keeps its length
  reads-length : {fs : List (List ℕ)} → Every Inner fs → (r : Receiver) (n : ℕ) (b : List ℕ) (k : Receipt) → length b ≡ n → length (reads limit (reading r b k) fs).buffer ≡ n
  unfolding reads
  reads-length no_more r n b k e = e
  reads-length (and-more {rest = rest} f more) r n b k e =
      ap (λ (h : Reading). length h.buffer) (reads-inner r n f rest b k e) ∙ reads-length more _ n _ _ (inner-length limit r n f b e)

  -- a byte gets what the last frame over it brings, or stays
  reads_byte : {fs : List (List ℕ)} → Every Inner fs → (r : Receiver) (n i : ℕ) → Byte n (λ b k. (reads limit (reading r b k) fs).buffer) i
  unfolding reads
  reads_byte no_more r n i = stays (λ b k e. refl)
  reads_byte (and-more {s = s} {rest = rest} f more) r n i = go (reads_byte more (answer limit r n f).receiver n i) (inner-byte limit r n f i)
    where
      first : (b : List ℕ) (k : Receipt) → length b ≡ n → {v : ℕ}
          → get_or (reads limit (reading (answer limit r n f).receiver (buffered r (answer limit r n f).note (drop 1 s) b) (answer limit r n f).note) rest).buffer i 0 ≡ v
          → get_or (reads limit (reading r b k) (s ∷ rest)).buffer i 0 ≡ v
      first b k e g = ap (λ (h : Reading). get_or h.buffer i 0) (reads-inner r n f rest b k e) ∙ g

      go : Byte n (λ b k. (reads limit (reading (answer limit r n f).receiver b k) rest).buffer) i → Byte n (λ b k. buffered r (answer limit r n f).note (drop 1 s) b) i
          → Byte n (λ b k. (reads limit (reading r b k) (s ∷ rest)).buffer) i
      go (gets v g) w = gets v (λ b k e. first b k e (g _ _ (inner-length limit r n f b e)))
      go (stays g) (gets v w) = gets v (λ b k e. first b k e (g _ _ (inner-length limit r n f b e) ∙ w b k e))
      go (stays g) (stays w) = stays (λ b k e. first b k e (g _ _ (inner-length limit r n f b e) ∙ w b k e))

  -- the receiver and the answer hang on the buffer's length alone
  record Alike (g h : Reading) : Type 0 where
    receiver : g.receiver ≡ h.receiver
    note : g.note ≡ h.note

  reads-alike : {fs : List (List ℕ)} → Every Inner fs → (r : Receiver) (n : ℕ) (b c : List ℕ) (k : Receipt) → length b ≡ n → length c ≡ n
      → Alike (reads limit (reading r b k) fs) (reads limit (reading r c k) fs)
  unfolding reads
  reads-alike no_more r n b c k e d = record { receiver = refl; note = refl }
  reads-alike (and-more {rest = rest} f more) r n b c k e d =
      rw (reads-inner r n f rest b k e, reads-inner r n f rest c k d) (reads-alike more _ n _ _ _ (inner-length limit r n f b e) (inner-length limit r n f c d))

  -- "where it stood when an Ack last became due or a message last ended": frames with neither AR nor EOM leave that place, the complete message and the Ack
  pub inner_back : {fs : List (List ℕ)} → Every Inner fs → (h : Reading) → Inside h.receiver (reads limit h fs).receiver
  unfolding reads
  inner_back no_more h = record { back = refl; complete = refl; ack = refl }
  inner_back (and-more {s = s} {rest = rest} f more) h =
      let n = length h.buffer in
      let a = inside-leaves limit h.receiver (get_or s 0 0 % 16) (drop 1 s) n in
      let t = inner_back more (reading (answer limit h.receiver n f).receiver (buffered h.receiver (answer limit h.receiver n f).note (drop 1 s) h.buffer) (answer limit h.receiver n f).note) in
      rw (reads-inner h.receiver n f rest h.buffer h.note refl)
      (record { back = t.back ∙ a.back; complete = t.complete ∙ a.complete; ack = t.ack ∙ a.ack })

  -- ---- a break

  -- from where the break returns to, it returns there
  broken-off : {fs : List (List ℕ)} → Every Inner fs → (h : Reading) → h.receiver.at ≡ h.receiver.back
      → breaks (reads limit h fs) ≡ reading h.receiver (reads limit h fs).buffer (reads limit h fs).note
  broken-off {fs} every h stands =
      let t = inner_back every h in
      λ i. reading (record { at = (t.back ∙ sym stands) i; back = t.back i; complete = t.complete i; ack = t.ack i }) (reads limit h fs).buffer (reads limit h fs).note

  -- frames read into a buffer that they were read into before write what stands there
  again-buffer : {fs : List (List ℕ)} → Every Inner fs → (h : Reading) (k : Receipt)
      → (reads limit (reading h.receiver (reads limit h fs).buffer k) fs).buffer ≡ (reads limit h fs).buffer
  again-buffer {fs} every h k = ext_get_or 0 _ _ (again ∙ sym once) (λ i l. go i (reads_byte every h.receiver (length h.buffer) i))
    where
      once : length (reads limit h fs).buffer ≡ length h.buffer
      once = reads-length every h.receiver (length h.buffer) h.buffer h.note refl

      again : length (reads limit (reading h.receiver (reads limit h fs).buffer k) fs).buffer ≡ length h.buffer
      again = reads-length every h.receiver (length h.buffer) _ k once

      go : (i : ℕ) → Byte (length h.buffer) (λ b k. (reads limit (reading h.receiver b k) fs).buffer) i
          → get_or (reads limit (reading h.receiver (reads limit h fs).buffer k) fs).buffer i 0 ≡ get_or (reads limit h fs).buffer i 0
      go i (gets v g) = g _ k once ∙ sym (g h.buffer h.note refl)
      go i (stays g) = g _ k once

  again-alike : {s : List ℕ} {rest : List (List ℕ)} → Inner s → Every Inner rest → (r : Receiver) (n : ℕ) (b c : List ℕ) (j k : Receipt) → length b ≡ n → length c ≡ n
      → Alike (reads limit (reading r b j) (s ∷ rest)) (reads limit (reading r c k) (s ∷ rest))
  again-alike {rest = rest} f more r n b c j k e d =
      rw (reads-inner r n f rest b j e, reads-inner r n f rest c k d) (reads-alike more _ n _ _ _ (inner-length limit r n f b e) (inner-length limit r n f c d))

  -- "Break (004): the receiver returns to where it stood when an Ack last became due or a message last ended": from a receiver that stands there, frames with neither AR nor EOM, in order or not,
  -- read, broken off and read again leave the receiver, the buffer and the last answer that reading them once leaves
  pub read_again : {fs : List (List ℕ)} → Every Inner fs → (h : Reading) → h.receiver.at ≡ h.receiver.back → reads limit (breaks (reads limit h fs)) fs ≡ reads limit h fs
  unfolding reads
  read_again no_more h stands = broken-off no_more h stands
  read_again (and-more {s = s} {rest = rest} f more) h stands =
      let every = and-more f more in
      let a = again-alike f more h.receiver (length h.buffer) (reads limit h (s ∷ rest)).buffer h.buffer (reads limit h (s ∷ rest)).note h.note
      (reads-length every h.receiver (length h.buffer) h.buffer h.note refl) refl in
      ap (λ (g : Reading). reads limit g (s ∷ rest)) (broken-off every h stands)
      ∙ (λ i. reading (a.receiver i) (again-buffer every h (reads limit h (s ∷ rest)).note i) (a.note i))

  -- it returns to where the receiver stood behind the last frame that made an Ack due or ended a message
  pub break-returns : {asks last : Bool} {number : ℕ} {s : List ℕ} {fs : List (List ℕ)} → Frame asks last number s → Every Inner fs → (h : Reading)
      → ((is_answered (arrives limit h (sorted s).kind (drop 1 s)).note && asks) || (is_numbered (arrives limit h (sorted s).kind (drop 1 s)).note && last)) ≡ true
      → (breaks (reads limit h (s ∷ fs))).receiver.at ≡ (arrives limit h (sorted s).kind (drop 1 s)).receiver.at
  unfolding reads
  break-returns {asks} {last} {number} {s} f every h marks = (inner_back every (arrives limit h (sorted s).kind (drop 1 s))).back ∙ rw marks at (place h)
    where
      place : (h : Reading) → (arrives limit h (sorted s).kind (drop 1 s)).receiver.back
          ≡ (if (is_answered (arrives limit h (sorted s).kind (drop 1 s)).note && asks) || (is_numbered (arrives limit h (sorted s).kind (drop 1 s)).note && last)
          then (arrives limit h (sorted s).kind (drop 1 s)).receiver.at else h.receiver.back)
      place h = rw (frame-arrives limit h f) (data-back limit h.receiver asks last number (drop 1 s) (length h.buffer))

  -- "else to the start"
  pub break-restarts : {fs : List (List ℕ)} → Every Inner fs → (b : List ℕ) (k : Receipt)
      → (breaks (reads limit (reading fresh b k) fs)).receiver.at ≡ record { expected = 0; discarding = false; begun = record { length = 0; flags = 0 }; fill = 0 }
  break-restarts every b k = (inner_back every (reading fresh b k)).back
