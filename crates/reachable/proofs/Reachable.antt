-- `reachable`: what holds of every record that calls can lead to, read off the stage that it stands at.
use Prim.Native.Nat.{ℕ, ◌+◌, ◌%◌, ◌<◌, ◌≤◌, zero-le}
use native.Mathlib.Omega.{arith}
use mathlib.Core.Bool.{Bool, true, false, true≢false, false≢true}
use mathlib.Core.List.{List, [], ◌∷◌}
use mathlib.Core.Logic.{◌≢◌, ◌⊎◌, inl, inr}
use mathlib.Core.Path.{◌≡◌, refl, subst, sym, ap, ◌∙◌}
use lib.ListN.{length, get_or}
use borrow.Author.Tests.{le-ltb}
use Rattle.laws.proofs.Cases.{by, either}
use Rattle.std.specs.Option.{is_some}
use Rattle.channel.specs.Opened.{given_payload}
use Rattle.open_end.proofs.Rules.{frame_on-some, frame_on-id, frame_on-payload}
use Rattle.telegram.specs.Outgoing.{bytes_of}
use Rattle.telegram.specs.Kinds.{ack_of}
use Rattle.telegram.specs.Cutting.{header_of, asks_at, last_at, frame_at}
use Rattle.telegram.specs.declared.payload.Payload.{Payload}
use Rattle.profile.specs.Profile.{tp20}
use Rattle.profile.specs.Opening.{request_for}
use Rattle.profile.specs.declared.Profile.{Profile}
use Rattle.settings.specs.Settings.{defaults, used}
use Rattle.settings.specs.declared.Settings.{Settings}
use Rattle.sender.specs.declared.Sender.{Sender}
use Rattle.sender.specs.declared.Handed.{Handed}
use Rattle.sender.specs.declared.Handing.TheVariants.{Frame}
use Rattle.sender.specs.Sending.{frame_due}
use Rattle.sender.proofs.Frames.{Due, FrameCase, frame-out, frame_case, handed-frame}
use Rattle.sender.proofs.FrameRules.{frame_due-exactly}
use Rattle.channel.specs.declared.Channel.{Channel}
use Rattle.channel.specs.declared.Tests.{Tests}
use Rattle.channel.specs.declared.Due.{Due as ChannelDue}
use Rattle.channel.specs.Opened.{test_due, due}
use Rattle.channel.proofs.Handing.{DataTurn, DueOutcome, accept-goes, test-goes, ack-goes, frame-goes, none-goes, other_length, due-outcome, due-sized}
use Rattle.open_end.specs.OpenEnd.{no_channel, due_at, taken_at}
use Rattle.connection.specs.declared.Connection.{Connection}
use Rattle.connection.specs.Calls.{closed_due, request_due, open_due, due_of, open_taken, taken_by}
use Rattle.reachable.specs.Reachable.{ElevenBits, Tally, start, Bounded, Agreed, Ours, Sends, Receives, Tested, Framed, Untested, Holds, ReachableHolds, ProfilesFit}
use Rattle.reachable.proofs.Windows.{kept-sends, kept-due}
use Rattle.reachable.proofs.Channels.{none-declared, nothing-stands, took-reports, Testing, none_out, one-waits, one_again, testing-tested, none-tested, untested-due}
use Rattle.reachable.proofs.Stages.{due-now, awaited, Fits, eleven-id, Stage, at_rest, leaving, requesting, agreeing, talking, stage-few, run-stage}

-- ---- the parts that no call of a closed or opening record touches

empty-sends : {limit : ℕ} → Sends limit no_channel.parameters.terms no_channel.sender
empty-sends =
    record {
      message = zero-le;
      acked-next = zero-le;
      next-high = zero-le;
      within = omega arith;
      window = zero-le;
      block-end = zero-le;
      count = zero-le;
      number = omega arith;
      idle = λ _. (refl, refl);
      inside = λ h. absurd (omega arith);
      asked = λ h. absurd (omega arith);
    }

empty-receives : {limit : ℕ} → Receives limit no_channel.receiver
empty-receives =
    record { at = nothing-stands 0 false (omega arith); back = nothing-stands 0 false (omega arith); ack = omega arith; complete = none-declared }

empty-tested : Tested 0 no_channel.tests
empty-tested = record { unanswered = zero-le; again = λ e. absurd (false≢true e); waits = λ e. absurd (false≢true e) }

-- ---- bounds

-- our receive ID has eleven bits
own-id : {p : Profile} {s : Settings} → Fits p s → s.receive < 0x800
own-id f = let most = f.eleven.receives in let inside = f.ranges.receive.1 in omega arith

stage-bounded : {limit : ℕ} {t : Tally} {c : Connection} → Stage limit t c → Bounded c
stage-bounded (at_rest f) = record { phase = zero-le; transmit = omega arith; receive = omega arith; repeats = zero-le; own = λ h. absurd (omega arith); ranges = λ h. absurd (omega arith) }
stage-bounded (leaving f x) = record { phase = zero-le; transmit = x; receive = omega arith; repeats = zero-le; own = λ h. absurd (omega arith); ranges = λ h. absurd (omega arith) }
stage-bounded (requesting s (due-now l)) = record { phase = omega arith; transmit = omega arith; receive = omega arith; repeats = l; own = λ h. absurd (omega arith); ranges = λ h. absurd (omega arith) }
stage-bounded (requesting s (awaited l w)) = record { phase = omega arith; transmit = omega arith; receive = omega arith; repeats = l; own = λ h. absurd (omega arith); ranges = λ h. absurd (omega arith) }
stage-bounded (agreeing s k (due-now l) x) = record { phase = omega arith; transmit = eleven-id s x; receive = own-id s; repeats = l; own = λ _. refl; ranges = λ _. (s.ranges.receive, x) }
stage-bounded (agreeing s k (awaited l w) x) = record { phase = omega arith; transmit = eleven-id s x; receive = own-id s; repeats = l; own = λ _. refl; ranges = λ _. (s.ranges.receive, x) }
stage-bounded (talking s k l x o) = record { phase = omega arith; transmit = eleven-id s x; receive = own-id s; repeats = zero-le; own = λ _. refl; ranges = λ _. (s.ranges.receive, x) }

stage-agreed : {limit : ℕ} {t : Tally} {c : Connection} → Stage limit t c → c.phase ≡ 3 → Agreed c.end.channel.parameters.terms
stage-agreed (at_rest f) e = absurd (omega arith)
stage-agreed (leaving f x) e = absurd (omega arith)
stage-agreed (requesting s a) e = absurd (omega arith)
stage-agreed (agreeing s k a x) e = absurd (omega arith)
stage-agreed (talking s k l x o) e = o.agreed

stage-ours : {limit : ℕ} {t : Tally} {c : Connection} → Stage limit t c → c.phase ≡ 3 → Ours (used c.profile c.settings) c.end.channel.parameters
stage-ours (at_rest f) e = absurd (omega arith)
stage-ours (leaving f x) e = absurd (omega arith)
stage-ours (requesting s a) e = absurd (omega arith)
stage-ours (agreeing s k a x) e = absurd (omega arith)
stage-ours (talking s k l x o) e = o.ours

stage-sends : {limit : ℕ} {t : Tally} {c : Connection} → Stage limit t c → Sends limit c.end.channel.parameters.terms c.end.channel.sender
stage-sends (at_rest f) = empty-sends
stage-sends (leaving f x) = empty-sends
stage-sends (requesting s a) = empty-sends
stage-sends (agreeing s k a x) = empty-sends
stage-sends (talking s k l x o) = kept-sends o.sender

stage-receives : {limit : ℕ} {t : Tally} {c : Connection} → Stage limit t c → Receives limit c.end.channel.receiver
stage-receives (at_rest f) = empty-receives
stage-receives (leaving f x) = empty-receives
stage-receives (requesting s a) = empty-receives
stage-receives (agreeing s k a x) = empty-receives
stage-receives (talking s k l x o) = o.receiver

stage-reports : {limit : ℕ} {t : Tally} {c : Connection} → Stage limit t c → (room : ℕ) → (taken_by c room).flags < 16
unfolding taken_by open_taken taken_at
stage-reports (at_rest f) room = omega arith
stage-reports (leaving f x) room = omega arith
stage-reports (requesting s a) room = omega arith
stage-reports (agreeing s k a x) room = omega arith
stage-reports (talking s k l x o) room = took-reports o.receiver room

stage-tested : {limit : ℕ} {t : Tally} {c : Connection} → Stage limit t c → Tested c.end.channel.parameters.allowed c.end.channel.tests
stage-tested (at_rest f) = empty-tested
stage-tested (leaving f x) = empty-tested
stage-tested (requesting s a) = empty-tested
stage-tested (agreeing s k a x) = empty-tested
stage-tested (talking s k l x o) = testing-tested o.testing

stage-own : {limit : ℕ} {t : Tally} {c : Connection} → Stage limit t c → 1 ≤ c.phase → t.most ≡ c.settings.mntc
stage-own (at_rest f) e = absurd (omega arith)
stage-own (leaving f x) e = absurd (omega arith)
stage-own (requesting s a) e = refl
stage-own (agreeing s k a x) e = refl
stage-own (talking s k l x o) e = refl

-- ---- never stuck

module _ (c : Channel) (m : List ℕ) where
  -- a frame of the sending half that is due goes out, or something before it does
  due-frame : Due c.sender → length m ≡ c.sender.length → is_some (due c m).payload ≡ true
  due-frame d e = go (rw (handed-frame c.parameters.terms c.sender m d e) at (due-outcome c m))
    where
      go : {s : Sender} {p : Payload} {x : ChannelDue} → DueOutcome c (record { note = Frame p; sender = s }) x → is_some x.payload ≡ true
      go (accept-goes a) = refl
      go (test-goes a t) = refl
      go (ack-goes a t k) = refl
      go (frame-goes t) = refl

  -- so does a test
  due-test : test_due c ≡ true → is_some (due c m).payload ≡ true
  due-test d = go (due-outcome c m)
    where
      go : {h : Handed} {x : ChannelDue} → DueOutcome c h x → is_some x.payload ≡ true
      go (accept-goes a) = refl
      go (test-goes a t) = refl
      go (ack-goes a t k) = refl
      go (frame-goes t) = refl
      go (none-goes t) = absurd (true≢false (sym d ∙ t.test))
      go (other_length t) = absurd (true≢false (sym d ∙ t.test))

  -- and an answer
  due-answer : (c.accept ≡ true) ⊎ (c.receiver.ack.due ≡ true) → is_some (due c m).payload ≡ true
  due-answer d = go d (due-outcome c m)
    where
      no-turn : DataTurn c → (c.accept ≡ true) ⊎ (c.receiver.ack.due ≡ true) → ⊥
      no-turn t (inl a) = true≢false (sym a ∙ t.accept)
      no-turn t (inr k) = true≢false (sym k ∙ t.ack)

      go : {h : Handed} {x : ChannelDue} → (c.accept ≡ true) ⊎ (c.receiver.ack.due ≡ true) → DueOutcome c h x → is_some x.payload ≡ true
      go d (accept-goes a) = refl
      go d (test-goes a t) = refl
      go d (ack-goes a t k) = refl
      go d (frame-goes t) = refl
      go d (none-goes t) = absurd (no-turn t d)
      go d (other_length t) = absurd (no-turn t d)

-- a test whose wait ran out is due once no data is unacknowledged
again-due : (c : Channel) {k a : ℕ} → Testing k a c.tests → c.tests.out ≡ true → c.tests.wait ≡ 0 → c.sender.acked ≡ c.sender.high → test_due c ≡ true
unfolding test_due
again-due c t o w e = rw (le-ltb c.sender.acked c.sender.high (omega arith), kept t o w)
  where
    kept : {k a : ℕ} {x : Tests} → Testing k a x → x.out ≡ true → x.wait ≡ 0 → x.again ≡ true
    kept (none_out z) o w = absurd (false≢true o)
    kept (one-waits p r u) o w = absurd (omega arith)
    kept (one_again p z u) o w = refl

-- a phase is one number
no-phase : {p : ℕ} → p ≢ 1 → p ≢ 2 → (p ≡ 1) ⊎ (p ≡ 2) → ⊥
no-phase a b (inl e) = a e
no-phase a b (inr e) = b e

stage-opening : {limit : ℕ} {t : Tally} {c : Connection} → Stage limit t c → (m : List ℕ) → (c.phase ≡ 1) ⊎ (c.phase ≡ 2) → c.attempt.wait ≡ 0 → is_some (due_of c m).frame ≡ true
unfolding due_of request_due
stage-opening (at_rest f) m p w = absurd (no-phase (λ e. omega arith) (λ e. omega arith) p)
stage-opening (leaving f x) m p w = absurd (no-phase (λ e. omega arith) (λ e. omega arith) p)
stage-opening (requesting s (due-now l)) m p w = refl
stage-opening (requesting s (awaited l r)) m p w = absurd (omega arith)
stage-opening (agreeing s k (due-now l) x) m p w = refl
stage-opening (agreeing s k (awaited l r) x) m p w = absurd (omega arith)
stage-opening (talking s k l x o) m p w = absurd (no-phase (λ e. omega arith) (λ e. omega arith) p)

stage-sending : {limit : ℕ} {t : Tally} {c : Connection} → Stage limit t c → (m : List ℕ) → (let s = c.end.channel.sender in
    0 < s.length → length m ≡ s.length → s.gap ≡ 0 → s.wait ≡ 0 → s.hold ≡ 0 → is_some (due_of c m).frame ≡ true)
unfolding due_of open_due due_at
stage-sending (at_rest f) m some = absurd (omega arith)
stage-sending (leaving f x) m some = absurd (omega arith)
stage-sending (requesting s a) m some = absurd (omega arith)
stage-sending (agreeing s k a x) m some = absurd (omega arith)
stage-sending (talking {transmit = id} {ch = ch} s k l x o) m some = λ e gap wait hold. frame_on-some id (due ch m).payload ∙ due-frame ch m (kept-due o.sender some gap wait hold) e

stage-frame : {limit : ℕ} {t : Tally} {c : Connection} → Stage limit t c → (let s = c.end.channel.sender in
    0 < s.length → s.gap ≡ 0 → s.wait ≡ 0 → s.hold ≡ 0 → frame_due s ≡ true)
stage-frame {c = c} k some gap wait hold =
    (frame_due-exactly c.end.channel.sender).1 (record { sending = some; waited = wait; free = hold; apart = gap; more = ((stage-sends k).inside some wait).0 })

stage-testing : {limit : ℕ} {t : Tally} {c : Connection} → Stage limit t c → (m : List ℕ) → (let s = c.end.channel.sender in
    c.end.channel.tests.out ≡ true → c.end.channel.tests.wait ≡ 0 → s.acked ≡ s.high → is_some (due_of c m).frame ≡ true)
unfolding due_of open_due due_at
stage-testing (at_rest f) m out = absurd (false≢true out)
stage-testing (leaving f x) m out = absurd (false≢true out)
stage-testing (requesting s a) m out = absurd (false≢true out)
stage-testing (agreeing s k a x) m out = absurd (false≢true out)
stage-testing (talking {transmit = id} {ch = ch} s k l x o) m out = λ wait e. frame_on-some id (due ch m).payload ∙ due-test ch m (again-due ch o.testing out wait e)

no_answer : (false ≡ true) ⊎ (false ≡ true) → ⊥
no_answer (inl e) = false≢true e
no_answer (inr e) = false≢true e

stage-answering : {limit : ℕ} {t : Tally} {c : Connection} → Stage limit t c → (m : List ℕ)
    → (c.end.channel.accept ≡ true) ⊎ (c.end.channel.receiver.ack.due ≡ true) → is_some (due_of c m).frame ≡ true
unfolding due_of open_due due_at
stage-answering (at_rest f) m e = absurd (no_answer e)
stage-answering (leaving f x) m e = absurd (no_answer e)
stage-answering (requesting s a) m e = absurd (no_answer e)
stage-answering (agreeing s k a x) m e = absurd (no_answer e)
stage-answering (talking {transmit = id} {ch = ch} s k l x o) m e = frame_on-some id (due ch m).payload ∙ due-answer ch m e

stage-leaving : {limit : ℕ} {t : Tally} {c : Connection} → Stage limit t c → (m : List ℕ) → c.leaving ≡ true → is_some (due_of c m).frame ≡ true
unfolding due_of closed_due
stage-leaving (at_rest f) m e = absurd (false≢true e)
stage-leaving (leaving f x) m e = refl
stage-leaving (requesting s a) m e = absurd (false≢true e)
stage-leaving (agreeing s k a x) m e = absurd (false≢true e)
stage-leaving (talking s k l x o) m e = absurd (false≢true e)

-- ---- what is handed over

-- the C0 has three bytes, or seven
request-some : (p : Profile) (unit receive : ℕ) → 1 ≤ (request_for p unit receive).len
unfolding request_for
request-some p unit receive = by (λ (x : Payload). 1 ≤ x.len) p.short (λ _. omega arith) (λ _. omega arith)

request-most : (p : Profile) (unit receive : ℕ) → (request_for p unit receive).len ≤ 8
unfolding request_for
request-most p unit receive = by (λ (x : Payload). x.len ≤ 8) p.short (λ _. omega arith) (λ _. omega arith)

stage-framed : {limit : ℕ} {t : Tally} {c : Connection} → Stage limit t c → (m : List ℕ) → is_some (due_of c m).frame ≡ true → Framed c (due_of c m)
unfolding due_of closed_due request_due open_due due_at
stage-framed (at_rest f) m g = absurd (false≢true g)
stage-framed (leaving f x) m g = record { on = inr refl; id = x; some = omega arith; most = omega arith }
stage-framed (requesting {p = p} {s = s} f (due-now l)) m g =
    record { on = inl refl; id = f.eleven.request; some = request-some p s.unit s.receive; most = request-most p s.unit s.receive }
stage-framed (requesting s (awaited l w)) m g = absurd (false≢true g)
stage-framed (agreeing s k (due-now l) x) m g = record { on = inr refl; id = eleven-id s x; some = omega arith; most = omega arith }
stage-framed (agreeing s k (awaited l w) x) m g = absurd (false≢true g)
stage-framed (talking {transmit = id} {ch = ch} s k l x o) m g =
    let p = (due ch m).payload in
    let z = due-sized ch m (sym (frame_on-some id p) ∙ g) in
    let on = frame_on-id id p g in
    let same = sym (frame_on-payload id p) in
    record {
      on = inr on;
      id = subst (λ (n : ℕ). n < 0x800) (sym on) (eleven-id s x);
      some = subst (λ (q : Payload). 1 ≤ q.len) same z.some;
      most = subst (λ (q : Payload). q.len ≤ 8) same z.most;
    }

-- ---- with the interval 0

-- the first byte of data is no A3
header-small : (ar last : Bool) (n : ℕ) → header_of ar last n < 0x40
unfolding header_of
header-small true true n = omega arith
header-small true false n = omega arith
header-small false true n = omega arith
header-small false false n = omega arith

frame-no-test : (m : List ℕ) (block first k : ℕ) → bytes_of (frame_at m block first k) ≢ 0xA3 ∷ []
unfolding frame_at
frame-no-test m block first k e =
    let small = header-small (asks_at block (length m) k) (last_at (length m) k) (first + k) in
    let same : header_of (asks_at block (length m) k) (last_at (length m) k) (first + k) ≡ 0xA3 = ap (λ (s : List ℕ). get_or s 0 0) e in
    omega arith

-- nor is an Ack's
ack-no-test : (ready : Bool) (n : ℕ) → bytes_of (ack_of ready n) ≢ 0xA3 ∷ []
ack-no-test true n e = let same : 0xB0 + n % 16 ≡ 0xA3 = ap (λ (s : List ℕ). get_or s 0 0) e in omega arith
ack-no-test false n e = let same : 0x90 + n % 16 ≡ 0xA3 = ap (λ (s : List ℕ). get_or s 0 0) e in omega arith

other-size : (s : List ℕ) → length s ≢ 1 → s ≢ 0xA3 ∷ []
other-size s h e = h (ap length e)

due-no-test : (c : Channel) (m : List ℕ) → test_due c ≡ false → bytes_of (given_payload (due c m).payload) ≢ 0xA3 ∷ []
due-no-test c m none = go (frame_case c.parameters.terms c.sender m) (due-outcome c m)
  where
    go : {h : Handed} {x : ChannelDue} → FrameCase c.parameters.terms c.sender m h → DueOutcome c h x → bytes_of (given_payload x.payload) ≢ 0xA3 ∷ []
    go f (accept-goes a) = other-size _ (λ e. omega arith)
    go f (test-goes a t) = absurd (true≢false (sym t ∙ none))
    go f (ack-goes a t k) = ack-no-test c.receiver.ack.ready c.receiver.ack.number
    go (frame-out d e) (frame-goes t) = frame-no-test m _ _ _
    go f (none-goes t) = other-size _ (λ e. omega arith)
    go f (other_length t) = other-size _ (λ e. omega arith)

-- nor is a C0
request-no-test : (p : Profile) (unit receive : ℕ) → bytes_of (request_for p unit receive) ≢ 0xA3 ∷ []
unfolding request_for
request-no-test p unit receive = by (λ (x : Payload). bytes_of x ≢ 0xA3 ∷ []) p.short (λ _. other-size _ (λ e. omega arith)) (λ _. other-size _ (λ e. omega arith))

-- an interval that is not made use of is 0
unused : (p : Profile) (s : Settings) → (p.tests ≡ false) ⊎ (s.t_ct ≡ 0) → (used p s).t_ct ≡ 0
unused p s (inl e) = rw e
unused p s (inr e) = either p.tests (λ t. rw t e) (λ t. rw t)

-- a closed record has TP 2.0's tests, and their default interval
tests-there : (tp20.tests ≡ false) ⊎ (defaults.t_ct ≡ 0) → ⊥
tests-there (inl e) = true≢false e
tests-there (inr e) = omega arith

stage-untested : {limit : ℕ} {t : Tally} {c : Connection} → Stage limit t c → (c.profile.tests ≡ false) ⊎ (c.settings.t_ct ≡ 0) → Untested c
unfolding due_of closed_due request_due open_due due_at test_due
stage-untested (at_rest f) z = absurd (tests-there z)
stage-untested (leaving f x) z = absurd (tests-there z)
stage-untested (requesting {p = p} {s = s} f (due-now l)) z = record { out = refl; again = refl; due = refl; none = λ m. request-no-test p s.unit s.receive }
stage-untested (requesting s (awaited l w)) z = record { out = refl; again = refl; due = refl; none = λ m. other-size _ (λ e. omega arith) }
stage-untested (agreeing s k (due-now l) x) z = record { out = refl; again = refl; due = refl; none = λ m. other-size _ (λ e. omega arith) }
stage-untested (agreeing s k (awaited l w) x) z = record { out = refl; again = refl; due = refl; none = λ m. other-size _ (λ e. omega arith) }
stage-untested (talking {p = p} {s = s} {transmit = id} {ch = ch} f k l x o) either' =
    let z = unused p s either' in
    record {
      out = (none-tested z o.testing).0;
      again = (none-tested z o.testing).1;
      due = untested-due o z;
      none =
          λ m. subst (λ (q : Payload). bytes_of q ≢ 0xA3 ∷ []) (sym (frame_on-payload id (due ch m).payload))
          (due-no-test ch m (untested-due o z));
    }

-- ---- all of it

stage-holds : {limit : ℕ} {t : Tally} {c : Connection} → Stage limit t c → Holds limit (record { connection = c; tally = t })
stage-holds k =
    record {
      bounded = stage-bounded k;
      agreed = stage-agreed k;
      ours = stage-ours k;
      sends = stage-sends k;
      receives = stage-receives k;
      reports = stage-reports k;
      tested = stage-tested k;
      awake = record { opening = stage-opening k; sending = stage-sending k; frame = stage-frame k; testing = stage-testing k; answering = stage-answering k; leaving = stage-leaving k };
      framed = stage-framed k;
      untested = stage-untested k;
      few = stage-few k;
      own = stage-own k;
    }

pub reachable : ReachableHolds
reachable limit calls h = stage-holds (run-stage limit calls start h (at_rest (record { requests = zero-le; setups = zero-le })))

-- and the five profiles can be opened
eleven : {p : Profile} → p.request < 0x800 → p.receives.most < 0x800 → p.transmits.most < 0x800 → ElevenBits p
eleven r x t = record { request = r; receives = x; transmits = t }

pub profiles-fit : ProfilesFit
profiles-fit =
    record {
      tp20-fits = eleven (omega arith) (omega arith) (omega arith);
      drive-fits = eleven (omega arith) (omega arith) (omega arith);
      comfort-fits = eleven (omega arith) (omega arith) (omega arith);
      high_fits = eleven (omega arith) (omega arith) (omega arith);
      low_fits = eleven (omega arith) (omega arith) (omega arith);
    }
