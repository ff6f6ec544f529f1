-- When a message is accepted, case by case.
use Prim.Native.Nat.{ℕ, ◌≤◌, ◌<◌}
use native.Mathlib.Omega.{arith}
use mathlib.Core.Logic.{◌↔◌}
use mathlib.Core.Path.{◌≡◌, subst, ap}
use borrow.Author.Tests.{le-ltb, ne_eqb, eqb-true, eqb-false}
use Rattle.laws.proofs.Cases.{by-not, by-lt, by-eq}
use Rattle.sender.specs.declared.Sender.{Sender}
use Rattle.sender.specs.declared.Offered.{Offered}
use Rattle.sender.specs.Sending.{idle, offered, accepted, Accepted, Busy, BadLength}

-- no message is in sending, and this one has 1 to limit bytes
pub record Takes (limit : ℕ) (s : Sender) (n : ℕ) : Type 0 where
  pub free : s.length ≡ 0
  pub some : 0 < n
  pub within : n ≤ limit

-- what an offer leaves, and what led to it
pub data OfferCase (limit : ℕ) (s : Sender) (n : ℕ) : Offered → Type 0 where
  unfinished : 0 < s.length → OfferCase limit s n (record { note = Busy; sender = s })
  no_bytes : s.length ≡ 0 → n ≡ 0 → OfferCase limit s n (record { note = BadLength; sender = s })
  too_long : s.length ≡ 0 → limit < n → OfferCase limit s n (record { note = BadLength; sender = s })
  accepts : Takes limit s n → OfferCase limit s n (record { note = Accepted; sender = accepted s n })

module _ (limit : ℕ) (s : Sender) (n : ℕ) where
  -- every offer is one of these cases
  pub offer_case : OfferCase limit s n (offered limit s n)
  unfolding offered
  offer_case =
      by-not (OfferCase limit s n) (idle s) (λ e. let some = eqb-false s.length 0 e in unfinished (omega arith)) λ e.
      let free = eqb-true s.length 0 e in
      by-eq (OfferCase limit s n) n 0 (no_bytes free) λ some.
      by-lt (OfferCase limit s n) limit n (too_long free) λ within. accepts (omega arith)

  -- a message of 1 to limit bytes is accepted
  pub offered-takes : Takes limit s n → offered limit s n ≡ record { note = Accepted; sender = accepted s n }
  unfolding offered
  offered-takes w = rw (w.free, ne_eqb n 0 (omega arith), le-ltb limit n w.within)

  -- and no other
  pub offered-exactly : (offered limit s n).note ≡ Accepted ↔ Takes limit s n
  offered-exactly =
      (λ e. go (subst (λ k. OfferCase limit s n (record { note = k; sender = (offered limit s n).sender })) e offer_case), λ w. ap (λ (x : Offered). x.note) (offered-takes w))
    where
      go : {y : Sender} → OfferCase limit s n (record { note = Accepted; sender = y }) → Takes limit s n
      go (accepts w) = w
