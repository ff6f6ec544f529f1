-- A control telegram at its own length, and filled up to 8 bytes (02, 4), at an open end of either side.
--     no_seven            what it is not
--     Passes              a number that is neither 1 nor 3
--     unsorted-alters     padding alters nothing where an arrival is not sorted,
--     sorted-alters       where it is answered by its kind,
--     open-alters         and where an open end answers it
use Prim.Native.Nat.{ℕ}
use native.Mathlib.Omega.{arith}
use mathlib.Core.Bool.{Bool, true, false, ◌||◌, false≢true}
use mathlib.Core.List.{List, ◌++◌}
use mathlib.Core.Logic.{◌↔◌, ◌≢◌}
use mathlib.Core.Path.{◌≡◌, refl, ap, ◌∙◌}
use lib.Dec.{eqb}
use lib.ListN.{length, drop}
use Rattle.laws.proofs.Cases.{neither}
use Rattle.telegram.specs.Forms.{Fillable, ack, test, break, disconnect, accept}
use Rattle.telegram.specs.Kinds.{sorted}
use Rattle.telegram.specs.declared.kinds.Sorted.{Sorted}
use Rattle.telegram.specs.declared.kinds.Telegram.{Telegram}
use Rattle.telegram.proofs.Forms.{own-sorted, filled-sorted}
use Rattle.sender.specs.declared.Heard.{Heard}
use Rattle.sender.specs.declared.Hearing.{Hearing}
use Rattle.sender.specs.declared.Hearing.TheVariants.{Part, Done as LastAcknowledged, Held, Nothing, UsedUp as NotReadyTooOften, NoAck}
use Rattle.receiver.specs.declared.Received.{Received}
use Rattle.receiver.proofs.Laws.{NotData}
use Rattle.channel.specs.declared.Channel.{Channel}
use Rattle.channel.specs.declared.Answered.{Answered as ChannelAnswered}
use Rattle.channel.specs.Numbers.{said}
use Rattle.arrival.specs.Arrived.{ack_answer, arrived}
use Rattle.arrival.proofs.Arriving.{ArrivalOutcome, data-came, ack-came, test-came, break-came, disconnect-came, setup-came, accept-undue, accept-bad, accept-came, malformed-came, arrival-outcome, unwritten}
use Rattle.open_end.specs.declared.answers.Answer.TheVariants.{Channel as ByChannel}
use Rattle.open_end.specs.declared.answers.Told.{Told}
use Rattle.open_end.specs.declared.Answered.{Answered}
use Rattle.open_end.specs.declared.OpenEnd.{OpenEnd}
use Rattle.open_end.specs.Answers.{told}
use Rattle.open_end.specs.OpenEnd.{arrived_at, buffered_at}
use Rattle.open_end.specs.Padding.{Outcome, CarriesOn, AltersNothing}

-- ---- what a control telegram is not

-- it has not the seven bytes of a C0 or of its reply
pub no_seven : {own : List ℕ} {t : Telegram} → Fillable own t → length own ≢ 7
no_seven (ack ready n h) e = absurd (omega arith)
no_seven test e = absurd (omega arith)
no_seven break e = absurd (omega arith)
no_seven disconnect e = absurd (omega arith)
no_seven (accept p t2 t4) e = absurd (omega arith)

-- it is no data
no-data : {own : List ℕ} {t : Telegram} → Fillable own t → NotData t
no-data (ack ready n h) = tt
no-data test = tt
no-data break = tt
no-data disconnect = tt
no-data (accept p t2 t4) = tt

-- ---- what stands behind its first byte is not looked at

same-channel : {own : List ℕ} {t : Telegram} → Fillable own t → (limit : ℕ) (ch : Channel) (p q : List ℕ) (room : ℕ) → arrived limit ch t p room ≡ arrived limit ch t q room
unfolding arrived
same-channel (ack ready n h) limit ch p q room = refl
same-channel test limit ch p q room = refl
same-channel break limit ch p q room = refl
same-channel disconnect limit ch p q room = refl
same-channel (accept f t2 t4) limit ch p q room = refl

-- the number of the answer is neither 1 nor 3
abbrev pub Passes : ℕ → Type 0
Passes n = (eqb n 1 || eqb n 3) ≡ false

ack-passes : (note : Hearing) → Passes (said (ack_answer note)).number
ack-passes Part = refl
ack-passes LastAcknowledged = refl
ack-passes Held = refl
ack-passes Nothing = refl
ack-passes NotReadyTooOften = refl
ack-passes NoAck = refl

module _ {own : List ℕ} {t : Telegram} (k : Fillable own t) (limit : ℕ) (e : OpenEnd) where
  -- the end answers and is left the same
  same-arrival : (s r : List ℕ) (room : ℕ) → arrived_at limit e t s room ≡ arrived_at limit e t r room
  unfolding arrived_at
  same-arrival s r room = rw (same-channel k limit e.channel (drop 1 s) (drop 1 r) room)

  -- the lent buffer stays
  unwritten_at : (s b : List ℕ) → buffered_at limit e t s b ≡ b
  unfolding buffered_at
  unwritten_at s b = unwritten limit e.channel t (drop 1 s) b (no-data k)

  -- an open end's answer carries the mark on
  arrival-passes : (s : List ℕ) (room : ℕ) → Passes (said (arrived_at limit e t s room).answer).number
  unfolding arrived_at
  arrival-passes s room = go (no-data k) k (arrival-outcome limit e.channel (drop 1 s) room _)
    where
      go : {own : List ℕ} {t : Telegram} {r : Received} {h : Heard} {x : ChannelAnswered} → NotData t → Fillable own t → ArrivalOutcome e.channel r h t x → Passes (said x.answer).number
      go d k data-came = absurd d
      go {h = h} d k ack-came = ack-passes h.note
      go d k test-came = refl
      go d k break-came = refl
      go d k disconnect-came = refl
      go d k setup-came = refl
      go d k (accept-undue o) = refl
      go d k (accept-bad o b) = refl
      go d k (accept-came o b) = refl
      go d k malformed-came = elim k [ ]

-- ---- a record of either side

module _ {A : Type 0} where
  -- sorted as x, it is answered by its kind, and no buffer is written
  abbrev pub by_kind : (Telegram → Told) → (Telegram → A) → List ℕ → Sorted → Outcome A
  by_kind a r b x = record { told = a x.kind; padded = x.padded; left = r x.kind; buffer = b }

  -- sorted as x, the open end answers it
  abbrev pub by_end : (limit : ℕ) → OpenEnd → (Answered → A) → (b s : List ℕ) → Sorted → Outcome A
  by_end limit e r b s x =
      (let n = arrived_at limit e x.kind s (length b) in
      record { told = told (ByChannel n.answer); padded = x.padded; left = r n; buffer = buffered_at limit e x.kind s b })

module _ {A : Type 0} {standing : Type 0} {x y : Outcome A} where
  -- both come to the same, and the mark is p where it is filled up
  alters : (a : Told) (r : A) (b : List ℕ) (p : Bool)
      → x ≡ record { told = a; padded = false; left = r; buffer = b }
      → y ≡ record { told = a; padded = p; left = r; buffer = b }
      → (p ≡ true) ↔ CarriesOn standing a.said.number
      → AltersNothing standing x y
  alters a r b p e f m = record { told = rw (e, f); left = rw (e, f); buffer = rw (e, f); unmarked = rw e; marked = rw f m }

  -- it is not sorted, and its answer carries no mark
  pub unsorted-alters : (a : Told) (r : A) (b : List ℕ)
      → x ≡ record { told = a; padded = false; left = r; buffer = b }
      → y ≡ record { told = a; padded = false; left = r; buffer = b }
      → (CarriesOn standing a.said.number → ⊥)
      → AltersNothing standing x y
  unsorted-alters a r b e f none = alters a r b false e f (λ z. absurd (false≢true z), λ m. absurd (none m))

-- where it is sorted its number carries the mark on
carries : {standing : Type 0} (n : ℕ) → standing → Passes n → (true ≡ true) ↔ CarriesOn standing n
carries n stands p = let d = neither n 1 3 p in (λ _. record { formed = d.0; heard = d.1; stands = stands }, λ _. refl)

module _ {A : Type 0} {standing : Type 0} {x y : Outcome A} {own : List ℕ} {t : Telegram} (k : Fillable own t) (content : List ℕ) (l : length (own ++ content) ≡ 8) (stands : standing) where
  -- it is answered by its kind
  pub sorted-alters : (a : Telegram → Told) (r : Telegram → A) (b : List ℕ)
      → x ≡ by_kind a r b (sorted own)
      → y ≡ by_kind a r b (sorted (own ++ content))
      → Passes (a t).said.number
      → AltersNothing standing x y
  sorted-alters a r b e f p =
      alters (a t) (r t) b true (e ∙ ap (by_kind a r b) (own-sorted k)) (f ∙ ap (by_kind a r b) (filled-sorted k content l)) (carries (a t).said.number stands p)

  -- the open end answers it
  pub open-alters : (limit : ℕ) (n : OpenEnd) (r : Answered → A) (b : List ℕ)
      → x ≡ by_end limit n r b own (sorted own)
      → y ≡ by_end limit n r b (own ++ content) (sorted (own ++ content))
      → AltersNothing standing x y
  open-alters limit n r b e f =
      let z = arrived_at limit n t own (length b) in
      alters (told (ByChannel z.answer)) (r z) b true
      (e ∙ ap (by_end limit n r b own) (own-sorted k) ∙ rw (unwritten_at k limit n own b))
      (f ∙ ap (by_end limit n r b (own ++ content)) (filled-sorted k content l) ∙ rw (unwritten_at k limit n (own ++ content) b, same-arrival k limit n (own ++ content) own (length b)))
      (carries (said z.answer).number stands (arrival-passes k limit n own (length b)))
