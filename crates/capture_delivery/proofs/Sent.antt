-- A channel that opens and then carries the frames of messages of a side shows these messages.
--     sent-told
use Prim.Native.Nat.{ℕ, ◌+◌, ◌≤◌}
use native.Mathlib.Omega.{arith}
use mathlib.Core.List.{List, [], ◌∷◌}
use mathlib.Core.Logic.{◌≢◌}
use mathlib.Core.Path.{◌≡◌, refl, sym, ap, ◌∙◌}
use lib.ListN.{length}
use Rattle.follow.specs.declared.Side.{Side}
use Rattle.follow.specs.declared.Side.TheVariants.{Tester, Unit as CarUnit}
use Rattle.follow.specs.declared.Follow.{Follow}
use Rattle.follow.specs.Following.{unbegun, opened, opening}
use Rattle.capture_delivery.specs.Sent.{Sent, cuttings, AllFit}
use Rattle.capture_delivery.specs.Lines.{Content, frame}
use Rattle.capture_delivery.specs.Channel.{Carries, Awaits, C0, D0, A0, A1, own_id, opposite, Sends, asks, grants, sets-up, accepts, passes, none-held}
use Rattle.capture_delivery.specs.Claim.{as_sent, shown_of, lent_for}
use Rattle.capture_delivery.proofs.Cuttings.{whole_in}
use Rattle.capture_delivery.proofs.Standing.{View}
use Rattle.capture_delivery.proofs.Told.{told_of, told-by}
use Rattle.capture_delivery.proofs.Stands.{Stands, stands-first}
use Rattle.capture_delivery.proofs.Carried.{Place, Seen, carried}
use Rattle.capture_delivery.proofs.Opening.{follow_of, restarts, awaits, grants-follow, sets-up-follow, accepts-follow, passes-awaited, before, before-heard}

-- the D0 has named two different IDs
abbrev pub Named : Awaits → Type 0
Named C0 = Unit {0}
Named (D0 unit receive) = Unit {0}
Named (A0 unit receive transmit) = transmit ≢ receive
Named (A1 unit receive transmit) = transmit ≢ receive

module _ (limit : ℕ) (small : limit ≤ 4095) (tester unit : List ℕ) (ms : List Sent) where
  -- a frame before the A1, and the A1 itself
  heard-told : (side : Side) (w : Awaits) (id : ℕ) (s : List ℕ) (f : Follow) (cs : List Content) (lines : ℕ) → opening (follow_of w) id s ≡ f
      → told_of limit side (before w lines tester unit) (frame id s ∷ cs) ≡ told_of limit side (record { lines = lines + 1; kept = []; follow = f; tester = tester; unit = unit }) cs
  unfolding shown_of
  heard-told side w id s f cs lines e =
      told-by limit side (before w lines tester unit) id s cs (before-heard limit w lines tester unit id s)
      ∙ ap (λ (x : Follow). told_of limit side (record { lines = lines + 1; kept = []; follow = x; tester = tester; unit = unit }) cs) e

  first-place : {come room : ℕ} → AllFit limit room ms → Place limit room ms 0 come 0 0 come ms
  first-place fit = record { at = refl; few = omega arith; ends = omega arith; frames = refl; fit = fit }

  first-stands : (b : List ℕ) → Stands (length b) 0 ms 0 unbegun b
  first-stands b = stands-first (length b) 0 0 ms unbegun b refl refl refl refl refl

  -- behind the A1
  abbrev first-view : (lines : ℕ) → (own other : List ℕ) → View
  first-view lines own other = record { lines = lines; here = unbegun; buffer = own; there = unbegun; across = other }

  first-seen : (lines : ℕ) (own other : List ℕ) → Seen lines 0 (first-view lines own other) []
  first-seen lines own other = record { lines = refl; counted = refl; first = λ z. absurd (omega arith) }

  open_told : (side : Side) (u r t : ℕ) (cs : List Content) (at : List ℕ) (lines : ℕ) → t ≢ r → AllFit limit (length (lent_for side tester unit)) ms
      → Carries (own_id side r t) (own_id (opposite side) r t) (cuttings 0 ms) lines 0 cs at
      → told_of limit side (record { lines = lines; kept = []; follow = opened (follow_of (A1 u r t)); tester = tester; unit = unit }) cs ≡ as_sent (whole_in (length at) ms) at
  open_told Tester u r t cs at lines d fit c =
      carried limit small (length tester) Tester u t r d ms c 0 0 (length at) ms (first-place fit) (first-view lines tester unit) (first-stands tester) [] (first-seen lines tester unit)
  open_told CarUnit u r t cs at lines d fit c =
      carried limit small (length unit) CarUnit u r t (λ e. d (sym e)) ms c 0 0 (length at) ms (first-place fit) (first-view lines unit tester) (first-stands unit) [] (first-seen lines unit tester)

  module _ (side : Side) (fit : AllFit limit (length (lent_for side tester unit)) ms) where
    pub sent-told : {lines : ℕ} {w : Awaits} {cs : List Content} {at : List ℕ} → Sends side (cuttings 0 ms) lines w cs at → Named w
        → told_of limit side (before w lines tester unit) cs ≡ as_sent (whole_in (length at) ms) at
    unfolding told_of
    sent-told {lines} {w} (asks {id = id} {unit = u} {receive = r} {s = s} {lines = cs} i e more) d =
        heard-told side w id s (follow_of (D0 u r)) cs lines (restarts (follow_of w) id s u r i e) ∙ sent-told more tt
    sent-told {lines} (grants {id = id} {unit = u} {receive = r} {transmit = t} {s = s} {lines = cs} i e differ more) d =
        heard-told side (D0 u r) id s (follow_of (A0 u r t)) cs lines (grants-follow id s u r t i e differ) ∙ sent-told more differ
    sent-told {lines} (sets-up {id = id} {unit = u} {receive = r} {transmit = t} {p = p} {s = s} {lines = cs} i e more) d =
        heard-told side (A0 u r t) id s (follow_of (A1 u r t)) cs lines (sets-up-follow id s u r t p i e) ∙ sent-told more d
    sent-told {lines} {at = at} (accepts {id = id} {unit = u} {receive = r} {transmit = t} {p = p} {s = s} {lines = cs} i e good c) d =
        heard-told side (A1 u r t) id s (opened (follow_of (A1 u r t))) cs lines (accepts-follow id s u r t p i e good) ∙ open_told side u r t cs at (lines + 1) d fit c
    sent-told {lines} {w} (passes {id = id} {s = s} {lines = cs} n u more) d =
        heard-told side w id s (follow_of w) cs lines (awaits (follow_of w) id s n ∙ passes-awaited w id s u) ∙ sent-told more d
    sent-told (none-held more) d = sent-told more d
