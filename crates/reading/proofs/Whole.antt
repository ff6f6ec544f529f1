-- Reading back the cutting of a message gives the message.
use Prim.Native.Nat.{ℕ, zero, suc, ◌+◌, ◌-◌, ◌*◌, ◌%◌, ◌<◌, ◌≤◌, min}
use native.Mathlib.Numerals.{add-one}
use native.Mathlib.Omega.{arith}
use mathlib.Core.Path.{◌≡◌, refl, sym, ap, ◌∙◌, subst, subst⁻¹}
use mathlib.Core.List.{List, [], ◌∷◌}
use lib.ListN.{length, take, drop, get_or, length-append, length-take, length-drop, drop_of_length-le}
use lib.Seq.{drop-cons, take-append_seam}
use Rattle.telegram.specs.Outgoing.{bytes_of}
use Rattle.telegram.specs.Cutting.{stream_of, cutting, frames_of, header_of, frame_at, asks_at, last_at}
use Rattle.telegram.specs.Kinds.{sorted}
use Rattle.telegram.specs.declared.cutting.Message.{Message}
use Rattle.telegram.specs.declared.kinds.Sorted.{Sorted}
use Rattle.telegram.specs.declared.kinds.Telegram.TheVariants.{Data}
use Rattle.telegram.proofs.RoundTrip.{header-sorted, frame_back}
use Rattle.telegram.proofs.Cut.{cutting-at, cutting-length}
use Rattle.receiver.specs.Receiving.{took, shown, Shown}
use Rattle.receiver.specs.declared.Took.{Took}
use Rattle.receiver.proofs.Rules.{take-shown}
use Rattle.reading.specs.Reading.{Reading, Idle, Read, arrives, reads}
use Rattle.reading.specs.Demand2.{flagged_frame, flagged}
use Rattle.reading.proofs.Frame.{no-flags, unflagged, piece, Behind, Reads, within, whole, reads-frame, later-piece}

-- ---- frames with flags

flagged-length : (flags : ℕ) (fs : List (List ℕ)) → length (flagged flags fs) ≡ length fs
flagged-length flags [] = refl
flagged-length flags (s ∷ rest) = refl

module _ (m : List ℕ) (flags block number : ℕ) where
  abbrev frames : List (List ℕ)
  frames = flagged flags (cutting m block number)

  -- the frame behind k others: its first byte, and its seven of the length bytes with the flags and the message
  abbrev frame_of : ℕ → List ℕ
  frame_of k = header_of (asks_at block (length m) k) (last_at (length m) k) (number + k) ∷ piece flags m k

  first-flagged : (fs : List (List ℕ)) → 0 < length fs → get_or fs 0 [] ≡ bytes_of (frame_at m block number 0) → get_or (flagged flags fs) 0 [] ≡ frame_of 0
  unfolding stream_of
  first-flagged [] h e = absurd (omega arith)
  first-flagged (s ∷ rest) h e = ap (flagged_frame flags) (e ∙ frame_back m block number 0)

  later-flagged : (fs : List (List ℕ)) (k : ℕ) → get_or (flagged flags fs) (suc k) [] ≡ get_or fs (suc k) []
  later-flagged [] k = refl
  later-flagged (s ∷ rest) k = refl

  flagged-at : (k : ℕ) → k < frames_of (length m) → get_or frames k [] ≡ frame_of k
  flagged-at zero h = let l = cutting-length m block number in first-flagged (cutting m block number) (omega arith) (cutting-at m block number 0 h)
  flagged-at (suc k) h =
      later-flagged (cutting m block number) k ∙ cutting-at m block number (suc k) h ∙ frame_back m block number (suc k)
      ∙ ap (λ (p : List ℕ). header_of (asks_at block (length m) (suc k)) (last_at (length m) (suc k)) (number + suc k) ∷ p)
      (ap (λ (s : List ℕ). take 7 (drop (7 * suc k) s)) (unflagged m) ∙ later-piece 0 m (suc k) (omega arith) ∙ sym (later-piece flags m (suc k) (omega arith)))

-- ---- a message read whole

module _ (limit : ℕ) (m : List ℕ) (flags number : ℕ) (b : List ℕ) (some : 0 < length m) (most : length m ≤ limit) (twelve : limit ≤ 4095) (four : flags < 16) (roomy : length m ≤ length b) (block : ℕ) where
  abbrev fs : List (List ℕ)
  fs = frames m flags block number

  -- the frame behind k others arrives as the data of its place
  frame-arrives : (k : ℕ) (h : Reading) → k < frames_of (length m)
      → arrives limit h (sorted (get_or fs k [])).kind (drop 1 (get_or fs k [])) ≡ arrives limit h (Data (asks_at block (length m) k) (last_at (length m) k) ((number + k) % 16)) (piece flags m k)
  unfolding frames_of
  frame-arrives k h more =
      let e : length (piece flags m k) ≡ min 7 (length m + 2 - 7 * k) = simp (length-take, length-drop) (omega arith) in
      ap (λ (s : List ℕ). arrives limit h (sorted s).kind (drop 1 s)) (flagged-at m flags block number k more)
      ∙ ap (λ (t : Sorted). arrives limit h t.kind (piece flags m k)) (header-sorted _ _ (number + k) (piece flags m k) (omega arith) (omega arith))

  -- the frames from one on are read, if those behind it are
  reads-next : (k : ℕ) (h : Reading) → k < frames_of (length m) → Behind m flags number b k h
      → ((h : Reading) → k + 1 < frames_of (length m) → Behind m flags number b (k + 1) h → Read m flags number b (reads limit h (drop (k + 1) fs)))
      → Read m flags number b (reads limit h (drop k fs))
  unfolding reads
  reads-next k h more s on =
      let l = counted in
      rw (drop-cons fs k [] (omega arith), ← add-one k)
      (subst⁻¹ (λ (x : Reading). Read m flags number b (reads limit x (drop (k + 1) fs))) (frame-arrives k h more)
      (go _ (reads-frame limit m flags number b some most twelve four roomy k h (asks_at block (length m) k) more s)))
    where
      counted : length fs ≡ frames_of (length m)
      counted = flagged-length flags (cutting m block number) ∙ cutting-length m block number

      go : (h : Reading) → Reads m flags number b k h → Read m flags number b (reads limit h (drop (k + 1) fs))
      go h (within u n s) = on h u s
      go h (whole e r) = let l = counted in let past : length fs ≤ k + 1 = omega arith in rw (drop_of_length-le fs past) r

  reads-rest : (n k : ℕ) (h : Reading) → k + suc n ≡ frames_of (length m) → Behind m flags number b k h → Read m flags number b (reads limit h (drop k fs))
  reads-rest zero k h e s = reads-next k h (omega arith) s (λ h u t. absurd (omega arith))
  reads-rest (suc n) k h e s = reads-next k h (omega arith) s (λ h u t. reads-rest n (k + 1) h (omega arith) t)

  -- to every receiver with nothing begun and none waiting, the cutting of a message numbered from what it expects, with flags in its first frame, gives the message with these flags
  pub reads-flagged : number < 16 → (h : Reading) → Idle number h.receiver → h.buffer ≡ b → Read m flags number b (reads limit h fs)
  unfolding frames_of
  reads-flagged small h s e =
      let n : number ≡ (number + 0) % 16 = omega arith in
      reads-rest (frames_of (length m) - 1) 0 h (omega arith)
      (record {
        expected = s.expected ∙ n;
        discarding = s.discarding;
        complete = s.complete;
        starts = λ z. s.begun;
        begun = λ z. absurd (omega arith);
        fill = λ z. absurd (omega arith);
        buffer = e;
      })

flagged-none : (fs : List (List ℕ)) → flagged 0 fs ≡ fs
flagged-none [] = refl
flagged-none ([] ∷ rest) = refl
flagged-none ((a ∷ []) ∷ rest) = refl
flagged-none ((a ∷ b ∷ s) ∷ rest) = rw no-flags

-- so the cutting as it is gives the message, with flags 0
pub reads-cutting : (limit : ℕ) (m : List ℕ) (number : ℕ) (b : List ℕ) → 0 < length m → length m ≤ limit → limit ≤ 4095 → length m ≤ length b → (block : ℕ)
    → number < 16 → (h : Reading) → Idle number h.receiver → h.buffer ≡ b → Read m 0 number b (reads limit h (cutting m block number))
reads-cutting limit m number b some most twelve roomy block small h s e =
    subst (λ (fs : List (List ℕ)). Read m 0 number b (reads limit h fs)) (flagged-none (cutting m block number))
    (reads-flagged limit m 0 number b some most twelve (omega arith) roomy block small h s e)

-- and a take shows it, with its flags
pub read-shown : (m : List ℕ) (flags number : ℕ) (b : List ℕ) (h : Reading) → Read m flags number b h → shown h.receiver h.buffer ≡ m
read-shown m flags number b h s = ap (λ (x : Message). take x.length h.buffer) s.complete ∙ ap (take (length m)) s.buffer ∙ take-append_seam m (drop (length m) b)

pub read_taken : (m : List ℕ) (flags number : ℕ) (b : List ℕ) (h : Reading) → 0 < length m → Read m flags number b h
    → (took h.receiver (length h.buffer)).message ≡ Shown (record { length = length m; flags = flags })
read_taken m flags number b h some s =
    let n = ap (λ (x : Message). x.length) s.complete in
    let l = simp length-append at (ap length s.buffer) in
    ap (λ (t : Took). t.message) (take-shown h.receiver (length h.buffer) (omega arith) (omega arith)) ∙ ap Shown s.complete
