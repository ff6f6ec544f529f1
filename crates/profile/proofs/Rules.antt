-- The rules of 02, 10, in numbers: the profiles from the tables of 001, their ranges, and the telegrams that each has.
use Prim.Native.Nat.{ℕ, suc, ◌+◌}
use mathlib.Core.Bool.{Bool, true, false, ◌&&◌, not, and-false, true≢false, false≢true}
use mathlib.Core.List.{List, [], ◌∷◌}
use mathlib.Core.Logic.{◌↔◌, ◌≢◌, ◌⊎◌, inl, inr}
use mathlib.Core.Path.{◌≡◌, refl, sym, ap, ◌∙◌}
use lib.ListN.{length}
use borrow.Author.Tests.{leb-true, le-leb}
use Rattle.laws.proofs.Cases.{by, either, and_first, and_second}
use Rattle.telegram.specs.Kinds.{sorted}
use Rattle.telegram.specs.Forms.{Taken, formed, formless, Fillable, test, break, as-fillable, Formed, malformed}
use Rattle.telegram.specs.declared.kinds.Sorted.{Sorted}
use Rattle.telegram.specs.declared.kinds.Telegram.{Telegram}
use Rattle.telegram.specs.declared.kinds.Telegram.TheVariants.{Data, Ack, Test, Break, Disconnect, Setup, Accept, Malformed}
use Rattle.telegram.proofs.Forms.{taken, own-sorted, filled-sorted, sorts}
use Rattle.profile.specs.Profile.{within, tp20, drive, comfort, high, low, test_or_break, sorted_by}
use Rattle.profile.specs.Forms.{Within, FormedWithout}
use Rattle.profile.specs.declared.Range.{Range}
use Rattle.profile.specs.declared.Profile.{Profile}

-- ---- the profiles

-- TP 2.0 (01): "From CAN ID 0x200", "from 0x200 + unit", "unit address 0x00..0xEF", "own receive ID 0..0x7FF"; tests, and nothing asked of T3 and T_WAIT
pub tp20-numbers : tp20
    ≡ record {
      request = 0x200;
      reply = 0x200;
      offset = 0x000;
      units = record { least = 0x00; most = 0xEF };
      receives = record { least = 0x000; most = 0x7FF };
      transmits = record { least = 0x000; most = 0x7FF };
      short = false;
      tests = true;
      least_t3 = 0;
      bounded = false;
    }
tp20-numbers = refl

-- a row of 001's tables: "Default Tester Source" (table 1), "ECU Setup offset" (2), "ChId offset" (5), "Destination range" (3), "ChId range Channel Setup (ChS)" and "Channel Acknowledge (ChA)" (5);
-- and what the rows have in common: "a fixed length of 3 data bytes" (5.1), "no test .. and no break", "a T3 setting below 10 ms", "a T_WAIT not strictly between our own T3 and T1 settings" (02, 10)
abbrev pub row : (source setup offset : ℕ) → (first last : ℕ) → (chs-first chs-last cha-first cha-last : ℕ) → Profile
row source setup offset first last s₁ s₂ a₁ a₂ =
    record {
      request = source;
      reply = setup;
      offset = offset;
      units = record { least = first; most = last };
      receives = record { least = offset + s₁; most = offset + s₂ };
      transmits = record { least = offset + a₁; most = offset + a₂ };
      short = true;
      tests = false;
      least_t3 = 100;
      bounded = true;
    }

pub drive-numbers : drive ≡ row 0x200 0x200 0x700 0x00 0x1F 0x40 0xBF 0x40 0xBF
drive-numbers = refl

pub comfort-numbers : comfort ≡ row 0x2D0 0x2E0 0x300 0x00 0x1F 0x00 0x1F 0x20 0x3F
comfort-numbers = refl

pub high-numbers : high ≡ row 0x2D0 0x4A0 0x400 0x30 0x3F 0xE0 0xEF 0xF0 0xFF
high-numbers = refl

pub low-numbers : low ≡ row 0x2D0 0x4A0 0x600 0x30 0x3F 0x90 0x9F 0xB0 0xBF
low-numbers = refl

-- drive, comfort, infotainment of high and of low priority
abbrev pub rows : List Profile
rows = drive ∷ comfort ∷ high ∷ low ∷ []

-- ---- ranges

-- both ends belong to a range, and nothing beyond them
pub within-exactly : (r : Range) (n : ℕ) → within r n ≡ true ↔ Within r n
unfolding within
within-exactly r n =
    (λ e. (leb-true r.least n (search and_first), leb-true n r.most (search and_second)), λ h. rw (le-leb r.least n h.0, le-leb n r.most h.1))

-- ---- the telegrams of a profile

-- "no test .. and no break": the two kinds that a profile may lack
pub lacking : (k : Telegram) → test_or_break k ≡ true ↔ (k ≡ Test) ⊎ (k ≡ Break)
lacking k = (one k, elim [ inl e ↦ rw e | inr e ↦ rw e ])
  where
    one : (k : Telegram) → test_or_break k ≡ true → (k ≡ Test) ⊎ (k ≡ Break)
    one Test e = inl refl
    one Break e = inr refl
    one (Data asks last n) e = absurd (false≢true e)
    one (Ack ready n) e = absurd (false≢true e)
    one Disconnect e = absurd (false≢true e)
    one (Setup f) e = absurd (false≢true e)
    one (Accept f) e = absurd (false≢true e)
    one Malformed e = absurd (false≢true e)

no_other : (k : Telegram) → k ≢ Test → k ≢ Break → test_or_break k ≡ false
no_other k a b = either (test_or_break k) (λ h. absurd (elim ((lacking k).0 h) [ inl e ↦ a e | inr e ↦ b e ])) (λ h. h)

module _ (p : Profile) (s : List ℕ) where
  -- with tests, sorting is that of 01
  pub sorted_by-tests : p.tests ≡ true → sorted_by p s ≡ sorted s
  unfolding sorted_by
  sorted_by-tests t = rw (t, and-false)

  -- and so it is of all but tests and breaks
  pub sorted_by-other : test_or_break (sorted s).kind ≡ false → sorted_by p s ≡ sorted s
  unfolding sorted_by
  sorted_by-other h = rw h

  -- without tests, either is badly formed, padded or not
  pub sorted_by-none : p.tests ≡ false → test_or_break (sorted s).kind ≡ true → sorted_by p s ≡ malformed
  unfolding sorted_by
  sorted_by-none t h = rw (h, t)

  -- so it is sorted as in 01, or badly formed
  pub sorted_by-either : (sorted_by p s ≡ sorted s) ⊎ (sorted_by p s ≡ malformed)
  unfolding sorted_by
  sorted_by-either = by (λ x. (x ≡ sorted s) ⊎ (x ≡ malformed)) (test_or_break (sorted s).kind && not p.tests) (λ _. inr refl) (λ _. inl refl)

  -- the view of sorting without tests
  module _ (t : p.tests ≡ false) where
    own-form : FormedWithout s (sorted_by p s) ⊎ (sorted_by p s ≡ malformed)
    own-form = either (test_or_break (sorted s).kind) (λ h. inr (sorted_by-none t h)) (λ h. rw (sorted_by-other h) (go h ((sorts s (sorted s)).0 refl)))
      where
        go : {x : Sorted} → test_or_break x.kind ≡ false → Taken (Formed s) malformed x → FormedWithout s x ⊎ (x ≡ malformed)
        go h (formed f) = inl (f, λ e. true≢false (sym (ap test_or_break e) ∙ h), λ e. true≢false (sym (ap test_or_break e) ∙ h))
        go h (formless none) = inr refl

    form-sorted : (x : Sorted) → FormedWithout s x → sorted_by p s ≡ x
    form-sorted x f = let e = (sorts s x).1 (formed f.0) in sorted_by-other (ap (λ (y : Sorted). test_or_break y.kind) e ∙ no_other x.kind f.1 f.2) ∙ e

    no-form : FormedWithout s malformed → ⊥
    no-form (as-fillable own k b c f, _, _) = elim c [ ]

    -- "A3 and A4 are answer 1 there": without tests, a telegram is of a kind, padded or not, exactly if it has the bytes of that kind and that is neither; else it is malformed
    pub sorts-without : (x : Sorted) → sorted_by p s ≡ x ↔ Taken (FormedWithout s) malformed x
    sorts-without = taken (sorted_by p s) own-form form-sorted no-form

-- the same in bytes: the byte alone, and filled up to eight with any content
module _ (p : Profile) (t : p.tests ≡ false) where
  abbrev Gone : ℕ → Type 0
  Gone b = (sorted_by p (b ∷ []) ≡ malformed) × ((content : List ℕ) → length content ≡ 7 → sorted_by p (b ∷ content) ≡ malformed)

  gone : {b : ℕ} {k : Telegram} → Fillable (b ∷ []) k → test_or_break k ≡ true → Gone b
  gone f h = (sorted_by-none p _ t (ap has (own-sorted f) ∙ h), λ content l. sorted_by-none p _ t (ap has (filled-sorted f content (ap suc l)) ∙ h))
    where
      has : Sorted → Bool
      has x = test_or_break x.kind

  pub no_test : Gone 0xA3
  no_test = gone test refl

  pub no-break : Gone 0xA4
  no-break = gone break refl

-- TP 2.0 sorts as it did
pub tp20-sorts : (s : List ℕ) → sorted_by tp20 s ≡ sorted s
tp20-sorts s = sorted_by-tests tp20 s refl
