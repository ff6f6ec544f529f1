-- 02, 7: isolation. Side by side, the two runs keep every record and every buffer the same but the one connection's.
use Prim.Native.Nat.{ℕ, ◌≤◌, ◌<◌}
use native.Mathlib.Omega.{arith}
use mathlib.Core.Path.{◌≡◌, refl, sym, ◌∙◌, ap, ap₂}
use mathlib.Core.Logic.{◌≢◌, inl, inr}
use mathlib.Core.List.{List, [], ◌∷◌}
use lib.Dec.{leb, eqb}
use lib.ListN.{length, set, length-set, get_or-eq_default}
use lib.Seq.{get_or-set_same, get_or-set_other, set-get_or}
use borrow.Author.Tests.{lt-leb, leb-true, leb-false, eqb-true, eqb-false}
use Rattle.laws.proofs.Cases.{by-eq, either}
use Rattle.settings.specs.declared.Settings.{Settings}
use Rattle.connection.specs.declared.Connection.{Connection}
use Rattle.connection.specs.Record.{closed_record, hears}
use Rattle.connection.specs.Calls.{buffered, elapsed, due_of, closed_due, sent_by, taken_by, closed}
use Rattle.connection.proofs.Rules.{hears-closed}
use Rattle.table.proofs.Found.{owner-hears}
use mathlib.Core.Bool.{true≢false}
use Rattle.table.specs.Table.{places, at, no_record, owner_of}
use Rattle.table.specs.Calls.{arrives, buffers, elapses, hands, sends, takes, closes}
use Rattle.table_runs.specs.Runs.{Call, step, run, number_of, goes_to, Proper}
use Rattle.table_runs.specs.Runs.Call.{open', frame, time, due, send, take, close}
use Rattle.table_runs.specs.Isolation.{Desk, start, buffer_at, Event, Two, begin, NoOpening, SameInUse, ToOthers, OfItsOwn, reply, lent_after, after, opened, apart_after, happens, runs, Fair, AllFair, replies, first_calls, second_calls, LendsItsOwn, AreRuns, IsolationHolds}
use Rattle.table_runs.specs.Isolation.Event.{opening, begins, both, first, second}
use Rattle.table_runs.proofs.Steps.{leaves, steps-put, with-here}
use Rattle.table_runs.proofs.Runs.{others-stay, proper-empty, proper-step}
use Rattle.table_runs.proofs.Openings.{lowest-same, opens-same}

-- ---- two runs side by side

-- the record at a place and its buffer
abbrev cell : Desk → ℕ → Connection × List ℕ
cell d p = (at d.table p, buffer_at d p)

-- eight places in use as they may be, and eight buffers
record Sound (d : Desk) : Type 0 where
  proper : Proper d.table
  lent : length d.lent ≡ places

-- two of them, alike at each place but x
record Alike (x : ℕ) (d e : Desk) : Type 0 where
  one : Sound d
  two : Sound e
  same : (p : ℕ) → p < places → p ≢ x → cell d p ≡ cell e p

-- the two runs: alike but at the one connection's place
abbrev Kept : Two → Type 0
Kept r = Alike r.apart r.one r.two

-- the same, the other way round
turned : {x : ℕ} {d e : Desk} → Alike x d e → Alike x e d
turned a = record { one = a.two; two = a.one; same = λ p l n. sym (a.same p l n) }

-- past the last place there is no record, and no buffer
past : (d : Desk) → Sound d → (p : ℕ) → places ≤ p → cell d p ≡ (no_record, [])
past d s p l =
    rw (get_or-eq_default d.table.places no_record {n = p} (rw s.proper.eight l), get_or-eq_default d.lent [] {n = p} (rw s.lent l))

-- so they are alike there too
same_at : {x : ℕ} {d e : Desk} → Alike x d e → (p : ℕ) → (p ≡ x → places ≤ x) → cell d p ≡ cell e p
same_at {d = d} {e = e} a p h =
    either (leb places p)
    (λ y. let l = leb-true places p y in past d a.one p l ∙ sym (past e a.two p l))
    (λ f. let l = leb-false places p f in a.same p l (λ e. omega (arith, h e)))

module _ (limit : ℕ) where
  -- ---- a call, and the buffer that it leaves at its place

  -- a desk after a call
  abbrev moved : Desk → Call → List ℕ → Desk
  moved d c b = record { table = step limit d.table c; lent = set d.lent (goes_to d.table c) b }

  module _ (d : Desk) (c : Call) (b : List ℕ) where
    -- every other place stays as it was
    moved_other : (p : ℕ) → p ≢ goes_to d.table c → cell (moved d c b) p ≡ cell d p
    moved_other p n = rw (others-stay limit d.table c p n, get_or-set_other d.lent (goes_to d.table c) p b [] n)

    -- the place has that buffer, and the record that the call leaves
    moved_here : Sound d → goes_to d.table c < places → cell (moved d c b) (goes_to d.table c) ≡ (leaves limit d.table c, b)
    moved_here s l =
        rw (steps-put limit d.table c, lt-leb places (goes_to d.table c) l, with-here d.table (goes_to d.table c) (leaves limit d.table c) s.proper.eight l, get_or-set_same d.lent (goes_to d.table c) b [] (rw s.lent l))

    -- and there are still eight
    moved-sound : Sound d → Sound (moved d c b)
    moved-sound s = record { proper = proper-step limit d.table c s.proper; lent = length-set d.lent (goes_to d.table c) b ∙ s.lent }

  -- the same call in both, to one place, with the same left there: alike but at y, if no other place is x
  module _ {x : ℕ} {d e : Desk} (a : Alike x d e) (c : Call) (g : goes_to d.table c ≡ goes_to e.table c) (r : leaves limit d.table c ≡ leaves limit e.table c) where
    moved-alike : (b b' : List ℕ) (y : ℕ) → (goes_to d.table c ≢ y → b ≡ b') → ((p : ℕ) → p < places → p ≢ y → p ≢ goes_to d.table c → p ≢ x) → Alike y (moved d c b) (moved e c b')
    moved-alike b b' y one away = record { one = moved-sound d c b a.one; two = moved-sound e c b' a.two; same = same }
      where
        same : (p : ℕ) → p < places → p ≢ y → cell (moved d c b) p ≡ cell (moved e c b') p
        same p l n =
            either (eqb p (goes_to d.table c))
            (λ h. let i = eqb-true p (goes_to d.table c) h in
            ap (cell (moved d c b)) i ∙ moved_here d c b a.one (rw (← i) l) ∙ ap₂ (λ v w. (v, w)) r (one (λ k. n (i ∙ k))) ∙ sym (moved_here e c b' a.two (rw (← g, ← i) l)) ∙ ap (cell (moved e c b')) (sym (i ∙ g)))
            (λ f. let m = eqb-false p (goes_to d.table c) f in moved_other d c b p m ∙ a.same p l (away p l n m) ∙ sym (moved_other e c b' p (rw (← g) m)))

  -- ---- the events

  -- an opening
  module _ (d e : Desk) (u : SameInUse d e) (s : Settings) where
    -- is answered the same
    opening-reply : reply limit d (open' s) ≡ reply limit e (open' s)
    opening-reply = rw ((opens-same d e u s).0, (opens-same d e u s).1)

    -- and leaves the same at its place
    opening-alike : {x : ℕ} → Alike x d e → (b b' : List ℕ) (y : ℕ) → (goes_to d.table (open' s) ≢ y → b ≡ b')
        → ((p : ℕ) → p < places → p ≢ y → p ≢ goes_to d.table (open' s) → p ≢ x) → Alike y (opened limit d s b) (opened limit e s b')
    opening-alike a = moved-alike a (open' s) (ap number_of (opens-same d e u s).1) refl

  -- only a frame may write to the buffer
  data Writes : Call → Type 0 where
    frames : (id : ℕ) (bytes : List ℕ) (room : ℕ) → Writes (frame id bytes room)
    nothing : {c : Call} → ((d : Desk) → lent_after limit d c ≡ d.lent) → Writes c

  writes : (c : Call) → Writes c
  writes (frame id bytes room) = frames id bytes room
  writes (open' s) = nothing (λ d. refl)
  writes (time p n) = nothing (λ d. refl)
  writes (due p m) = nothing (λ d. refl)
  writes (send p n) = nothing (λ d. refl)
  writes (take p room) = nothing (λ d. refl)
  writes (close p) = nothing (λ d. refl)

  -- the buffer that a call leaves at its place
  fills : (d : Desk) {c : Call} → Writes c → List ℕ
  fills d (frames id bytes room) = buffers limit d.table id bytes (buffer_at d (owner_of d.table id))
  fills d {c} (nothing h) = buffer_at d (goes_to d.table c)

  -- which is all that it does to the buffers
  lent-fills : (d : Desk) {c : Call} (w : Writes c) → lent_after limit d c ≡ set d.lent (goes_to d.table c) (fills d w)
  unfolding fills
  lent-fills d (frames id bytes room) = refl
  lent-fills d {c} (nothing h) = h d ∙ sym (set-get_or d.lent (goes_to d.table c) [])

  -- so a call moves a desk as above
  after-moved : (d : Desk) (c : Call) → after limit d c ≡ moved d c (fills d (writes c))
  after-moved d c = rw (lent-fills d (writes c))

  -- a closed record with nothing due stays, and its buffer
  rest-stays : (d : Desk) (c : Call) → NoOpening c → goes_to d.table c < places → at d.table (goes_to d.table c) ≡ closed_record
      → (leaves limit d.table c, fills d (writes c)) ≡ cell d (goes_to d.table c)
  unfolding fills writes elapsed due_of closed_due sent_by taken_by closed
  rest-stays d (open' s) ok l r = absurd ok
  rest-stays d (frame id bytes room) ok l r =
      absurd (true≢false (sym (owner-hears d.table id l) ∙ rw r (hears-closed closed_record refl id)))
  rest-stays d (time p n) ok l r = ap (λ v. ((elapsed v n).left, buffer_at d p)) r ∙ ap (λ v. (v, buffer_at d p)) (sym r)
  rest-stays d (due p m) ok l r = ap (λ v. ((due_of v m).left, buffer_at d p)) r ∙ ap (λ v. (v, buffer_at d p)) (sym r)
  rest-stays d (send p n) ok l r = ap (λ v. ((sent_by limit v n).left, buffer_at d p)) r ∙ ap (λ v. (v, buffer_at d p)) (sym r)
  rest-stays d (take p room) ok l r = ap (λ v. ((taken_by v room).left, buffer_at d p)) r ∙ ap (λ v. (v, buffer_at d p)) (sym r)
  rest-stays d (close p) ok l r = ap (λ v. ((closed v).left, buffer_at d p)) r ∙ ap (λ v. (v, buffer_at d p)) (sym r)

  -- a call of the one connection's own, in one run
  own : {x : ℕ} {d e : Desk} (c : Call) → NoOpening c → OfItsOwn d x c → Alike x d e → Alike x (after limit d c) e
  own {x} {d} {e} c ok o a =
      rw (after-moved d c)
      (record { one = moved-sound d c _ a.one; two = a.two; same = λ p l n. stays p l n o ∙ a.same p l n })
    where
      stays : (p : ℕ) → p < places → p ≢ x → OfItsOwn d x c → cell (moved d c (fills d (writes c))) p ≡ cell d p
      stays p l n (inl g) = moved_other d c _ p (λ e. n (e ∙ g))
      stays p l n (inr (inl m)) = moved_other d c _ p (λ e. omega arith)
      stays p l n (inr (inr r)) =
          either (eqb p (goes_to d.table c))
          (λ h. let i = eqb-true p (goes_to d.table c) h in
          ap (cell (moved d c (fills d (writes c)))) i ∙ moved_here d c _ a.one (rw (← i) l) ∙ rest-stays d c ok (rw (← i) l) r ∙ ap (cell d) (sym i))
          (λ f. moved_other d c _ p (eqb-false p (goes_to d.table c) f))

  -- a call to another, in both runs: it goes to one place
  goes_same : {x : ℕ} {d e : Desk} (c : Call) → NoOpening c → ToOthers d x c → ToOthers e x c → Alike x d e → goes_to d.table c ≡ goes_to e.table c
  unfolding owner_of
  goes_same {x} {d} {e} (frame id bytes room) ok h k a =
      lowest-same (λ c. hears c id) d.table e.table x (λ p l n. ap (λ c. hears c.0 id) (a.same p l n)) 0 places (omega arith) h k
  goes_same (open' s) ok h k a = absurd ok
  goes_same (time p n) ok h k a = refl
  goes_same (due p m) ok h k a = refl
  goes_same (send p n) ok h k a = refl
  goes_same (take p room) ok h k a = refl
  goes_same (close p) ok h k a = refl

  -- and finds the same record there, and the same buffer
  module _ (d e : Desk) where
    record Finds (c : Call) : Type 0 where
      to : goes_to d.table c ≡ goes_to e.table c
      record' : at d.table (goes_to e.table c) ≡ at e.table (goes_to e.table c)
      buffer : buffer_at d (goes_to e.table c) ≡ buffer_at e (goes_to e.table c)

    -- so the answer is the same
    reply-same : (c : Call) → NoOpening c → Finds c → reply limit d c ≡ reply limit e c
    unfolding elapses hands sends takes closes arrives
    reply-same (open' s) ok f = absurd ok
    reply-same (frame id bytes room) ok f = rw f.to (either (leb places (owner_of e.table id)) (λ y. rw y) (λ n. rw (n, f.record')))
    reply-same (time p t) ok f = either (leb places p) (λ y. rw y) (λ n. rw (n, f.record'))
    reply-same (due p m) ok f = either (leb places p) (λ y. rw y) (λ n. rw (n, f.record'))
    reply-same (send p t) ok f = either (leb places p) (λ y. rw y) (λ n. rw (n, f.record'))
    reply-same (take p room) ok f = either (leb places p) (λ y. rw y) (λ n. rw (n, f.record', f.buffer))
    reply-same (close p) ok f = either (leb places p) (λ y. rw y) (λ n. rw (n, f.record'))

    -- the record left
    leaves-same : (c : Call) → NoOpening c → Finds c → leaves limit d.table c ≡ leaves limit e.table c
    leaves-same (open' s) ok f = refl
    leaves-same (frame id bytes room) ok f = cc
    leaves-same (time p t) ok f = cc
    leaves-same (due p m) ok f = cc
    leaves-same (send p t) ok f = cc
    leaves-same (take p room) ok f = cc
    leaves-same (close p) ok f = cc

    -- and the buffer left
    fills_same : {c : Call} (w : Writes c) → Finds c → fills d w ≡ fills e w
    unfolding fills buffers
    fills_same (frames id bytes room) f = rw (f.to, f.record', f.buffer)
    fills_same (nothing h) f = rw (f.to, f.buffer)

  -- a call to another, in both runs
  module _ {x : ℕ} {d e : Desk} (a : Alike x d e) (c : Call) (ok : NoOpening c) (h : ToOthers d x c) (k : ToOthers e x c) where
    -- what it finds, is answered, and leaves
    finds : Finds d e c
    finds = let m = same_at a (goes_to e.table c) k in record { to = goes_same c ok h k a; record' = ap (λ v. v.0) m; buffer = ap (λ v. v.1) m }

    both_reply : reply limit d c ≡ reply limit e c
    both_reply = reply-same d e c ok finds

    both-alike : Alike x (after limit d c) (after limit e c)
    both-alike =
        rw (after-moved d c, after-moved e c, fills_same d e (writes c) finds)
        (moved-alike a c finds.to (leaves-same d e c ok finds) _ _ x (λ _. refl) (λ p l n m. n))

  -- ---- lists of events

  -- an event keeps all alike but the one connection's
  kept : (r : Two) (v : Event) → Kept r → Fair limit r v → Kept (happens limit r v)
  kept r (opening s b) a f =
      opening-alike r.one r.two f s a b b (apart_after limit r s) (λ _. refl)
      (by-eq (λ y. (p : ℕ) → p < places → p ≢ y → p ≢ goes_to r.one.table (open' s) → p ≢ r.apart) (goes_to r.one.table (open' s)) r.apart
      (λ e p l n m i. m (i ∙ sym e))
      (λ e p l n m. n))
  kept r (begins s b b') a f = opening-alike r.one r.two f.0 s a b b' (goes_to r.one.table (open' s)) (λ n. absurd (n refl)) (λ p l n m i. omega (arith, f.1))
  kept r (both c) a f = both-alike a c f.0 f.1.0 f.1.1
  kept r (first c) a f = own c f.0 f.1 a
  kept r (second c) a f = turned (own c f.0 f.1 (turned a))

  -- so does a list of them
  runs-kept : (r : Two) (es : List Event) → Kept r → AllFair limit r es → Kept (runs limit r es)
  runs-kept r [] a f = a
  runs-kept r (v ∷ es) a f = runs-kept (happens limit r v) es (kept r v a f.0) f.1

  -- and the answers are the same
  replies-same : (r : Two) (es : List Event) → Kept r → AllFair limit r es → replies limit (λ r. r.one) r es ≡ replies limit (λ r. r.two) r es
  replies-same r [] a f = refl
  replies-same r (opening s b ∷ es) a f = ap₂ ◌∷◌ (opening-reply r.one r.two f.0 s) (replies-same (happens limit r (opening s b)) es (kept r (opening s b) a f.0) f.1)
  replies-same r (begins s b b' ∷ es) a f = ap₂ ◌∷◌ (opening-reply r.one r.two f.0.0 s) (replies-same (happens limit r (begins s b b')) es (kept r (begins s b b') a f.0) f.1)
  replies-same r (both c ∷ es) a f = ap₂ ◌∷◌ (both_reply a c f.0.0 f.0.1.0 f.0.1.1) (replies-same (happens limit r (both c)) es (kept r (both c) a f.0) f.1)
  replies-same r (first c ∷ es) a f = replies-same (happens limit r (first c)) es (kept r (first c) a f.0) f.1
  replies-same r (second c ∷ es) a f = replies-same (happens limit r (second c)) es (kept r (second c) a f.0) f.1

-- both runs begin alike
begins-kept : Kept begin
begins-kept = let s : Sound start = record { proper = proper-empty; lent = refl } in record { one = s; two = s; same = λ p l n. refl }

-- for every list of events
pub isolation-holds : IsolationHolds
isolation-holds limit es f =
    record { answers = replies-same limit begin es begins-kept f; buffers = λ p n. ap (λ v. v.1) (alike p n); records = λ p n. ap (λ v. v.0) (alike p n) }
  where
    alike : (p : ℕ) → p ≢ (runs limit begin es).apart → cell (runs limit begin es).one p ≡ cell (runs limit begin es).two p
    alike p n = same_at (runs-kept limit begin es begins-kept f) p (λ e. absurd (n e))

-- ---- the two are runs

module _ (limit : ℕ) where
  one-runs : (r : Two) (es : List Event) → (runs limit r es).one.table ≡ run limit r.one.table (first_calls limit es)
  one-runs r [] = refl
  one-runs r (opening s b ∷ es) = one-runs (happens limit r (opening s b)) es
  one-runs r (begins s b b' ∷ es) = one-runs (happens limit r (begins s b b')) es
  one-runs r (both c ∷ es) = one-runs (happens limit r (both c)) es
  one-runs r (first c ∷ es) = one-runs (happens limit r (first c)) es
  one-runs r (second c ∷ es) = one-runs (happens limit r (second c)) es

  two_runs : (r : Two) (es : List Event) → (runs limit r es).two.table ≡ run limit r.two.table (second_calls limit es)
  two_runs r [] = refl
  two_runs r (opening s b ∷ es) = two_runs (happens limit r (opening s b)) es
  two_runs r (begins s b b' ∷ es) = two_runs (happens limit r (begins s b b')) es
  two_runs r (both c ∷ es) = two_runs (happens limit r (both c)) es
  two_runs r (first c ∷ es) = two_runs (happens limit r (first c)) es
  two_runs r (second c ∷ es) = two_runs (happens limit r (second c)) es

  pub are-runs : (es : List Event) → AreRuns limit es
  are-runs es = record { one = one-runs begin es; two = two_runs begin es }

  pub lends-its-own : (d : Desk) (id : ℕ) (bytes : List ℕ) (room : ℕ) → LendsItsOwn limit d id bytes room
  unfolding buffers
  lends-its-own d id bytes room =
      record {
        owner = λ p e l m. rw (e, lt-leb places p m, get_or-set_same d.lent p (buffered limit (at d.table p) id bytes (buffer_at d p)) [] l);
        others = λ p n. get_or-set_other d.lent (owner_of d.table id) p _ [] n;
      }
