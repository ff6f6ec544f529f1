-- The opening of a channel: each line takes what is awaited, starts over or leaves it; the A1 opens it.
--     sent-told      a channel that opens and then carries frames of a side shows their messages
use Rattle.std.specs.Prelude.{if◌then◌else◌}
use Prim.Native.Nat.{ℕ, ◌+◌}
use native.Mathlib.Omega.{arith}
use mathlib.Core.Bool.{Bool}
use mathlib.Core.List.{List, [], ◌∷◌}
use mathlib.Core.Logic.{◌≢◌, ◌⊎◌, inl, inr}
use mathlib.Core.Path.{◌≡◌, refl, ap, ◌∙◌, subst}
use lib.ListN.{length, get_or}
use lib.Dec.{eqb}
use borrow.Author.Tests.{eq-eqb, ne_eqb, eqb-true}
use Rattle.laws.proofs.Cases.{by, by-eq, either}
use Rattle.telegram.specs.Kinds.{sorted, bad_block}
use Rattle.telegram.specs.Forms.{Taken, formed, formless, ack, test, break, disconnect, accept, bare, filled, Form, as-data, as-fillable, as-setup, Formed, malformed}
use Rattle.telegram.specs.declared.kinds.Parameters.{Parameters}
use Rattle.telegram.specs.declared.kinds.Sorted.{Sorted}
use Rattle.telegram.specs.declared.kinds.Telegram.{Telegram}
use Rattle.telegram.specs.declared.kinds.Telegram.TheVariants.{Data, Ack, Test, Break, Disconnect, Setup, Accept, Malformed}
use Rattle.telegram.proofs.Forms.{sorts}
use Rattle.telegram.proofs.Rules.{block-passes}
use Rattle.opening.specs.Opening.{request_id, request_read, reply_read, Reply, Open, NoRequest, Positive, Refused, NoReply}
use Rattle.follow.specs.declared.Follow.{Follow}
use Rattle.follow.specs.Following.{unopened, asking, granted, set_up, opened, on_reply, on_setup, on_accept, awaited, restarted, opening, heard, tester_buffer, unit_buffer}
use Rattle.summary.specs.declared.Class.TheVariants.{OtherIds as Other}
use Rattle.capture.specs.declared.Event.TheVariants.{Nothing}
use Rattle.capture.specs.Reading.{State, on_frame}
use Rattle.capture_delivery.specs.Channel.{Awaits, C0, D0, A0, A1, GoodBlock, NoC0, Unawaited}

-- ---- a D0, an A0 or an A1 is no C0

-- a C0 has seven bytes, and C0 behind the first
not-seven : (s : List ℕ) → (length s ≡ 7 → ⊥) → request_read s ≡ NoRequest
unfolding request_read
not-seven s d = rw (ne_eqb (length s) 7 d)

-- an A0 or A1 has six or eight
abbrev OtherSize : (s : List ℕ) → Telegram → Type 0
OtherSize s (Setup p) = length s ≡ 7 → ⊥
OtherSize s (Accept p) = length s ≡ 7 → ⊥
OtherSize s (Data asks last number) = Unit {0}
OtherSize s (Ack ready number) = Unit {0}
OtherSize s Test = Unit {0}
OtherSize s Break = Unit {0}
OtherSize s Disconnect = Unit {0}
OtherSize s Malformed = Unit {0}

form-size : (s : List ℕ) {t : Telegram} {padded : Bool} → Form s t padded → OtherSize s t
form-size s (as-data asks last n p small some few e) = tt
form-size s (as-fillable own t b (ack ready n l) f) = tt
form-size s (as-fillable own t b test f) = tt
form-size s (as-fillable own t b break f) = tt
form-size s (as-fillable own t b disconnect f) = tt
form-size s (as-fillable own t b (accept p t2 t4) (bare e)) = λ l. let n = ap length e in omega arith
form-size s (as-fillable own t b (accept p t2 t4) (filled content e eight)) = λ l. omega arith
form-size s (as-setup p t2 t4 e) = λ l. let n = ap length e in omega arith

kind-size : (s : List ℕ) {t : Sorted} → Taken (Formed s) malformed t → OtherSize s t.kind
kind-size s (formed f) = form-size s f
kind-size s (formless n) = tt

other-size : (s : List ℕ) {t : Telegram} → (sorted s).kind ≡ t → OtherSize s t
other-size s e = subst (OtherSize s) e (kind-size s ((sorts s (sorted s)).0 refl))

-- a D0 has D0 behind the first
no-reply : (s : List ℕ) (receive : ℕ) → get_or s 1 0 ≡ 0xC0 → reply_read s receive ≡ NoReply
unfolding reply_read
no-reply s receive e = rw e (either (eqb (length s) 7) (λ x. rw x (either (eqb (get_or s 0 0) 0) (λ y. rw y) (λ y. rw y))) (λ x. rw x))

no-reply-not : (q : Reply) {t : ℕ} → q ≡ NoReply → q ≡ Positive t → ⊥
no-reply-not q e f = let z : ◌≡◌ {A = ℕ} 0 1 = cc in omega arith

positive-no-request : (s : List ℕ) (receive t : ℕ) → reply_read s receive ≡ Positive t → request_read s ≡ NoRequest
unfolding request_read
positive-no-request s receive t e =
    either (eqb (get_or s 1 0) 0xC0) (λ c. absurd (no-reply-not (reply_read s receive) (no-reply s receive (eqb-true (get_or s 1 0) 0xC0 c)) e))
    (λ c. rw c (either (eqb (length s) 7) (λ x. rw x) (λ x. rw x)))

-- ---- what is awaited

abbrev pub follow_of : Awaits → Follow
follow_of C0 = unopened
follow_of (D0 unit receive) = asking unit receive
follow_of (A0 unit receive transmit) = granted (asking unit receive) transmit
follow_of (A1 unit receive transmit) = set_up (granted (asking unit receive) transmit)

-- a C0 starts over
pub restarts : (f : Follow) (id : ℕ) (s : List ℕ) (unit receive : ℕ) → id ≡ request_id → request_read s ≡ Open unit receive → opening f id s ≡ asking unit receive
unfolding opening restarted
restarts f id s unit receive i e = rw (eq-eqb id request_id i, e)

-- all else goes to what is awaited
pub awaits : (f : Follow) (id : ℕ) (s : List ℕ) → NoC0 id s → opening f id s ≡ awaited f id s
unfolding opening restarted
awaits f id s (inl d) = rw (ne_eqb id request_id d)
awaits f id s (inr e) = rw e (either (eqb id request_id) (λ t. rw t) (λ t. rw t))

pub grants-follow : (id : ℕ) (s : List ℕ) (unit receive transmit : ℕ) → id ≡ request_id + unit → reply_read s receive ≡ Positive transmit → transmit ≢ receive
    → opening (asking unit receive) id s ≡ granted (asking unit receive) transmit
unfolding awaited on_reply
grants-follow id s unit receive transmit i e d =
    awaits (asking unit receive) id s (inr (positive-no-request s receive transmit e)) ∙ rw (eq-eqb id (request_id + unit) i, e, ne_eqb transmit receive d)

pub sets-up-follow : (id : ℕ) (s : List ℕ) (unit receive transmit : ℕ) (p : Parameters) → id ≡ transmit → (sorted s).kind ≡ Setup p
    → opening (follow_of (A0 unit receive transmit)) id s ≡ follow_of (A1 unit receive transmit)
unfolding awaited on_setup
sets-up-follow id s unit receive transmit p i e =
    awaits (follow_of (A0 unit receive transmit)) id s (inr (not-seven s (other-size s e))) ∙ rw (eq-eqb id transmit i, e)

pub accepts-follow : (id : ℕ) (s : List ℕ) (unit receive transmit : ℕ) (p : Parameters) → id ≡ receive → (sorted s).kind ≡ Accept p → GoodBlock p.block
    → opening (follow_of (A1 unit receive transmit)) id s ≡ opened (follow_of (A1 unit receive transmit))
unfolding awaited on_accept
accepts-follow id s unit receive transmit p i e good =
    awaits (follow_of (A1 unit receive transmit)) id s (inr (not-seven s (other-size s e))) ∙ rw (eq-eqb id receive i, e, (block-passes p.block).1 good)

-- what is not awaited leaves it
reply-passes : (f : Follow) (q : Reply) → ((t : ℕ) → t ≢ f.receive → q ≢ Positive t) → on_reply f q ≡ f
unfolding on_reply
reply-passes f (Positive t) h = by-eq (λ (x : Follow). x ≡ f) t f.receive (λ e. refl) (λ d. absurd (h t d refl))
reply-passes f (Refused opcode) h = refl
reply-passes f NoReply h = refl

setup-passes : (f : Follow) (t : Telegram) → ((p : Parameters) → t ≢ Setup p) → on_setup f t ≡ f
unfolding on_setup
setup-passes f (Setup p) h = absurd (h p refl)
setup-passes f (Data asks last number) h = refl
setup-passes f (Ack ready number) h = refl
setup-passes f Test h = refl
setup-passes f Break h = refl
setup-passes f Disconnect h = refl
setup-passes f (Accept p) h = refl
setup-passes f Malformed h = refl

accept-passes : (f : Follow) (t : Telegram) → ((p : Parameters) → GoodBlock p.block → t ≢ Accept p) → on_accept f t ≡ f
unfolding on_accept
accept-passes f (Accept p) h =
    by (λ (x : Follow). x ≡ f) (bad_block p.block) (λ e. refl) (λ e. absurd (h p ((block-passes p.block).0 e) refl))
accept-passes f (Data asks last number) h = refl
accept-passes f (Ack ready number) h = refl
accept-passes f Test h = refl
accept-passes f Break h = refl
accept-passes f Disconnect h = refl
accept-passes f (Setup p) h = refl
accept-passes f Malformed h = refl

-- on its ID or not
on-id : (id own : ℕ) (x f : Follow) → (id ≢ own) ⊎ (x ≡ f) → (if eqb id own then x else f) ≡ f
on-id id own x f (inl d) = rw (ne_eqb id own d)
on-id id own x f (inr e) = by (λ (y : Follow). y ≡ f) (eqb id own) (λ _. e) (λ _. refl)

told-else : {A B C : Type 0} → (B → C) → A ⊎ B → A ⊎ C
told-else f (inl a) = inl a
told-else f (inr b) = inr (f b)

pub passes-awaited : (w : Awaits) (id : ℕ) (s : List ℕ) → Unawaited w id s → awaited (follow_of w) id s ≡ follow_of w
unfolding awaited
passes-awaited C0 id s u = refl
passes-awaited (D0 unit receive) id s u = on-id id (request_id + unit) _ _ (told-else (reply-passes (asking unit receive) (reply_read s receive)) u)
passes-awaited (A0 unit receive transmit) id s u = on-id id transmit _ _ (told-else (setup-passes (follow_of (A0 unit receive transmit)) (sorted s).kind) u)
passes-awaited (A1 unit receive transmit) id s u = on-id id receive _ _ (told-else (accept-passes (follow_of (A1 unit receive transmit)) (sorted s).kind) u)

-- ---- the reading of a log before the A1

abbrev pub before : Awaits → (lines : ℕ) → (tester unit : List ℕ) → State
before w lines tester unit = record { lines = lines; kept = []; follow = follow_of w; tester = tester; unit = unit }

pub before-heard : (limit : ℕ) (w : Awaits) (lines : ℕ) (tester unit : List ℕ) (id : ℕ) (s : List ℕ)
    → on_frame limit (before w lines tester unit) id s
    ≡ record { event = Nothing; classes = Other ∷ []; state = record { lines = lines + 1; kept = []; follow = opening (follow_of w) id s; tester = tester; unit = unit } }
unfolding on_frame heard tester_buffer unit_buffer
before-heard limit C0 lines tester unit id s = refl
before-heard limit (D0 u r) lines tester unit id s = refl
before-heard limit (A0 u r t) lines tester unit id s = refl
before-heard limit (A1 u r t) lines tester unit id s = refl
