-- Demand 3 speaks of something: one list of calls meets all that it assumes, in either half. Each assumption is a test that the list passes by computation.
use Prim.Native.Nat.{ℕ, ◌≤◌, zero-le}
use native.Mathlib.Omega.{arith}
use mathlib.Core.Bool.{Bool, true, false, not, ◌&&◌, ◌||◌, false≢true}
use mathlib.Core.Logic.{◌⊎◌, inl, inr}
use mathlib.Core.Path.{◌≡◌, refl}
use mathlib.Core.List.{List, [], ◌∷◌}
use lib.Dec.{leb, ltb, eqb}
use borrow.Author.Tests.{leb-true, le-ltb, ne_eqb, eqb-true, not-true}
use Rattle.laws.proofs.Cases.{both}
use Rattle.telegram.specs.Kinds.{sorted}
use Rattle.receiver.specs.Receiving.{waiting}
use Rattle.channel.specs.Opened.{test_due}
use Rattle.delivery.specs.End.{End}
use Rattle.delivery.specs.System.{System, Party, Flying, plain, Try, Act, Call, turned, is_data, step, run}
use Rattle.delivery.specs.System.Side.{near, far}
use Rattle.delivery.specs.System.Fate.{goes, stays, lost}
use Rattle.delivery.specs.System.Act.{send, take, time, due, arrive}
use Rattle.delivery.specs.System.Call.{at}
use Rattle.delivery.specs.Claim.{channel_of, Always, Along, Fresh, SendsNear, NoTest, Roomy, RunsOut, NearInTime, InTime, NoneWaits, NearTakenFirst, TakenFirst, AtRest, turns_of, different, FewLosses, frames_for, repeats_of}
use Rattle.delivery.proofs.Example.{computed, parameters, ends_fresh, start, calls, long_message, short_message}

-- ---- tests of what is assumed

empty : List Flying → Bool
empty [] = true
empty (f ∷ l) = false

empty-shows : (l : List Flying) → empty l ≡ true → l ≡ []
unfolding empty
empty-shows [] h = refl
empty-shows (f ∷ l) h = absurd (false≢true h)

none_waits : {E : End} → Party E → List Flying → Bool
none_waits p [] = true
none_waits p (f ∷ rest) = not (is_data (sorted f.bytes).kind) || not (waiting (channel_of p).receiver)

none_waits-shows : {E : End} (p : Party E) (l : List Flying) → none_waits p l ≡ true → NoneWaits p l
unfolding none_waits
none_waits-shows p [] h = tt
none_waits-shows p (f ∷ rest) h = λ is_data. not-true (waiting (channel_of p).receiver) (rw is_data at h)

module _ {N F : End} where
  always : (System N F → Bool) → System N F → List Call → Bool
  always test s [] = test s
  always test s (c ∷ cs) = test s && always test (step s c) cs

  -- a test passed by every system on the way
  always-shows : (P : System N F → Type 0) (test : System N F → Bool) → ((s : System N F) → test s ≡ true → P s)
      → (s : System N F) (cs : List Call) → always test s cs ≡ true → Always P s cs
  unfolding always
  always-shows P test shows s [] h = shows s h
  always-shows P test shows s (c ∷ cs) h =
      let a = both (test s) (always test (step s c) cs) h in
      (shows s a.0, always-shows P test shows (step s c) cs a.1)

  along : (System N F → Call → Bool) → System N F → List Call → Bool
  along test s [] = true
  along test s (c ∷ cs) = test s c && along test (step s c) cs

  -- a test passed by every call, in the system that it meets
  along-shows : (P : System N F → Call → Type 0) (test : System N F → Call → Bool) → ((s : System N F) (c : Call) → test s c ≡ true → P s c)
      → (s : System N F) (cs : List Call) → along test s cs ≡ true → Along P s cs
  unfolding along
  along-shows P test shows s [] h = tt
  along-shows P test shows s (c ∷ cs) h =
      let a = both (test s c) (along test (step s c) cs) h in
      (shows s c a.0, along-shows P test shows (step s c) cs a.1)

  no_test : System N F → Bool
  no_test s = not (test_due (channel_of s.near)) && not (test_due (channel_of s.far))

  no_test-shows : (s : System N F) → no_test s ≡ true → NoTest s
  unfolding no_test
  no_test-shows s h =
      let a = both (not (test_due (channel_of s.near))) (not (test_due (channel_of s.far))) h in
      (not-true (test_due (channel_of s.near)) a.0, not-true (test_due (channel_of s.far)) a.1)

  -- no wait runs out, or nothing is on its way
  near_in_time : System N F → Act → Bool
  near_in_time s (time n) =
      let wait = (channel_of s.near).sender.wait in
      eqb wait 0 || ltb n wait || (empty s.forward && (empty s.backward && not (channel_of s.far).receiver.ack.due))
  near_in_time s (send m) = true
  near_in_time s take = true
  near_in_time s due = true
  near_in_time s (arrive fate) = true

  near_in_time-shows : (s : System N F) (a : Act) → near_in_time s a ≡ true → NearInTime s a
  unfolding near_in_time
  near_in_time-shows s (time n) h = λ (out : RunsOut s.near n).
      let wait = (channel_of s.near).sender.wait in
      let h' = rw (ne_eqb wait 0 (omega (arith, out.1)), le-ltb n wait out.2) at h in
      let a = both (empty s.forward) (empty s.backward && not (channel_of s.far).receiver.ack.due) h' in
      let b = both (empty s.backward) (not (channel_of s.far).receiver.ack.due) a.1 in
      (empty-shows s.forward a.0, empty-shows s.backward b.0, not-true (channel_of s.far).receiver.ack.due b.1)
  near_in_time-shows s (send m) h = tt
  near_in_time-shows s take h = tt
  near_in_time-shows s due h = tt
  near_in_time-shows s (arrive fate) h = tt

  near_taken_first : System N F → Act → Bool
  near_taken_first s (arrive goes) = none_waits s.near s.backward
  near_taken_first s (arrive stays) = none_waits s.near s.backward
  near_taken_first s (arrive lost) = true
  near_taken_first s (send m) = true
  near_taken_first s take = true
  near_taken_first s due = true
  near_taken_first s (time n) = true

  near_taken_first-shows : (s : System N F) (a : Act) → near_taken_first s a ≡ true → NearTakenFirst s a
  unfolding near_taken_first
  near_taken_first-shows s (arrive goes) h = none_waits-shows s.near s.backward h
  near_taken_first-shows s (arrive stays) h = none_waits-shows s.near s.backward h
  near_taken_first-shows s (arrive lost) h = tt
  near_taken_first-shows s (send m) h = tt
  near_taken_first-shows s take h = tt
  near_taken_first-shows s due h = tt
  near_taken_first-shows s (time n) h = tt

module _ {N F : End} where
  in_time : System N F → Call → Bool
  in_time s (at near a) = near_in_time s a
  in_time s (at far a) = near_in_time (turned s) a

  in_time-shows : (s : System N F) (c : Call) → in_time s c ≡ true → InTime s c
  unfolding in_time
  in_time-shows s (at near a) h = near_in_time-shows s a h
  in_time-shows s (at far a) h = near_in_time-shows (turned s) a h

  taken_first : System N F → Call → Bool
  taken_first s (at near a) = near_taken_first s a
  taken_first s (at far a) = near_taken_first (turned s) a

  taken_first-shows : (s : System N F) (c : Call) → taken_first s c ≡ true → TakenFirst s c
  unfolding taken_first
  taken_first-shows s (at near a) h = near_taken_first-shows s a h
  taken_first-shows s (at far a) h = near_taken_first-shows (turned s) a h

-- the blocks of the listed losses have few
few : ℕ → List Try → List Try → Bool
few repeats all [] = true
few repeats all (t ∷ ts) = leb (different (turns_of t.message t.block all)) repeats && few repeats all ts

module _ (repeats : ℕ) (losses : List Try) (i b : ℕ) where
  abbrev Few : Type 0
  Few = different (turns_of i b losses) ≤ repeats

  -- a try of the block, or of another
  sorted-in : (t : Try) (ts : List Try) (p q : Bool) → eqb t.message i ≡ p → eqb t.block b ≡ q
      → different (turns_of t.message t.block losses) ≤ repeats → (turns_of i b ts ≡ []) ⊎ Few → (turns_of i b (t ∷ ts) ≡ []) ⊎ Few
  sorted-in t ts true true e f h rest = inr (rw (eqb-true t.message i e, eqb-true t.block b f) at h)
  sorted-in t ts true false e f h rest = rw (e, f) rest
  sorted-in t ts false q e f h rest = rw e rest

  listed : (ts : List Try) → few repeats losses ts ≡ true → (turns_of i b ts ≡ []) ⊎ Few
  unfolding few
  listed [] h = inl refl
  listed (t ∷ ts) h =
      let d = different (turns_of t.message t.block losses) in
      let a = both (leb d repeats) (few repeats losses ts) h in
      sorted-in t ts (eqb t.message i) (eqb t.block b) refl refl (leb-true d repeats a.0) (listed ts a.1)

few-shows : (repeats : ℕ) (losses : List Try) → few repeats losses losses ≡ true → FewLosses repeats losses
few-shows repeats losses h i b = ends (listed repeats losses i b losses h)
  where
    ends : (turns_of i b losses ≡ []) ⊎ Few repeats losses i b → Few repeats losses i b
    ends (inl e) = rw e zero-le
    ends (inr h) = h

-- ---- the list

-- the list meets all that demand 3 assumes
pub example :
    Fresh start × SendsNear calls × Always NoTest start calls × Roomy start (run start calls)
    × Along InTime start calls × Along TakenFirst start calls × AtRest (run start calls)
    × FewLosses (repeats_of start) (run start calls).forth.losses
unfolding computed always along no_test empty near_in_time in_time none_waits near_taken_first taken_first few
example = (
  ends_fresh parameters (omega arith) (omega arith) (omega arith) (omega arith),
  tt,
  always-shows NoTest no_test no_test-shows start calls refl,
  (omega arith, (omega arith, tt)),
  along-shows InTime in_time in_time-shows start calls refl,
  along-shows TakenFirst taken_first taken_first-shows start calls refl,
  record {
    forward = refl;
    backward = refl;
    near = record { nothing = refl; wait = refl; hold = refl; gap = refl };
    far = record { nothing = refl; wait = refl; hold = refl; gap = refl };
  },
  few-shows 1 (run start calls).forth.losses refl,
)

-- then both messages are complete, handed out and done. The first took 27 frames, of 18 in its cutting: three, four and two were sent again
pub example-done :
    ((run start calls).forth.complete ≡ plain long_message ∷ plain short_message ∷ [])
    × ((run start calls).forth.handed_out ≡ plain long_message ∷ plain short_message ∷ [])
    × ((run start calls).forth.done ≡ 2)
    × (frames_for 0 (run start calls).forth.frames ≡ 27)
    × (frames_for 1 (run start calls).forth.frames ≡ 1)
    × ((run start calls).forth.losses
    ≡ record { message = 0; block = 4; turn = 6 } ∷ record { message = 0; block = 3; turn = 5 } ∷ record { message = 0; block = 2; turn = 3 }
    ∷ record { message = 0; block = 1; turn = 1 } ∷ record { message = 0; block = 1; turn = 1 } ∷ [])
unfolding computed
example-done = (refl, refl, refl, refl, refl, refl)
