-- What a call leaves of a record: a closed one, or one that goes on, with its settings, settled if it was; in TP 2.0 either is TP 2.0's.
--     GoesOnAs, Left                                                               what goes on; what is closed or goes on
--     arrived-left, elapsed-left, due-left, sent-left, taken-left, closed-left     each call leaves that
use Prim.Native.Nat.{ℕ}
use mathlib.Core.Bool.{true, false, true≢false}
use mathlib.Core.List.{List}
use mathlib.Core.Path.{◌≡◌, refl, sym, ◌∙◌}
use Rattle.laws.proofs.Cases.{by, by-not, by-eq, by-lt, by_le}
use Rattle.telegram.specs.Kinds.{bad_block}
use Rattle.telegram.specs.declared.kinds.Telegram.{Telegram}
use Rattle.telegram.specs.declared.kinds.Telegram.TheVariants.{Data, Ack, Test, Break, Disconnect, Setup, Accept, Malformed as NoTelegram}
use Rattle.opening.specs.Opening.{Reply, Positive, Refused, NoReply}
use Rattle.profile.specs.Profile.{tp20, sorted_by}
use Rattle.profile.specs.Opening.{reply_for}
use Rattle.open_end.specs.declared.Frame.{Frame}
use Rattle.open_end.specs.declared.OpenEnd.{OpenEnd}
use Rattle.open_end.specs.declared.Course.{Course}
use Rattle.open_end.specs.declared.Course.TheVariants.{GoesOn, GivenUp, Leaves}
use Rattle.open_end.specs.OpenEnd.{course_of, arrived_at, elapsed_at, due_at, sent_at, taken_at}
use Rattle.connection.specs.declared.attempt.Attempt.{Attempt}
use Rattle.connection.specs.declared.Connection.{Connection}
use Rattle.open_end.specs.declared.answers.Answered.{Answered}
use Rattle.open_end.specs.declared.answers.Arrived.{Arrived}
use Rattle.open_end.specs.declared.answers.Due.{Due}
use Rattle.open_end.specs.declared.answers.TakeStep.{TakeStep}
use Rattle.connection.specs.Record.{is_closed, is_requesting, is_agreeing, is_open, with_attempt, with_open_end, hears}
use Rattle.connection.specs.Calls.{on_reply, on_accept, on_agreeing, settled, on_open, arrived, attempt_elapsed, open_elapsed, elapsed, closed_due, request_due, open_due, due_of, open_sent, sent_by, open_taken, taken_by, closed}
use Rattle.table_runs.specs.Runs.{Settled}

-- a record that is in use goes on as another
pub record GoesOnAs (c d : Connection) : Type 0 where
  pub used : is_closed c ≡ false
  pub settings : d.settings ≡ c.settings
  pub settled : Settled c → Settled d

module _ (c : Connection) where
  -- what a call leaves is closed, or goes on; a profile of TP 2.0 stays
  pub record Left (d : Connection) : Type 0 where
    pub profile : c.profile ≡ tp20 → d.profile ≡ tp20
    pub goes_on : is_closed d ≡ false → GoesOnAs c d

  -- in what the calls give
  abbrev Answers : Answered Connection → Type 0
  Answers x = Left x.left

  abbrev Hands : Due Connection → Type 0
  Hands x = Left x.left

  -- ---- the records that calls leave

  -- the same
  unchanged : Left c
  unchanged = record { profile = λ k. k; goes_on = λ u. record { used = u; settings = refl; settled = λ k. k } }

  -- a closed one
  gone : {d : Connection} → is_closed d ≡ true → d.profile ≡ tp20 → Left d
  gone z t = record { profile = λ _. t; goes_on = λ u. absurd (true≢false (sym z ∙ u)) }

  -- one with the same profile and settings
  going : {d : Connection} → d.profile ≡ c.profile → d.settings ≡ c.settings → (is_closed d ≡ false → is_closed c ≡ false)
      → (Settled c → is_requesting d ≡ false → d.end.receive ≡ d.settings.receive) → Left d
  going p s used listens =
      record {
        profile = λ k. p ∙ k;
        goes_on = λ u. record { used = used u; settings = s; settled = λ k. record { unit = rw s k.unit; receive = rw s k.receive; listens = listens k } };
      }

  -- another request of the opening
  with-attempt : (a : Attempt) → Left (with_attempt c a)
  with-attempt a = going refl refl (λ u. u) (λ k. k.listens)

  -- another end that listens where it did
  with-end : (e : OpenEnd) → e.receive ≡ c.end.receive → Left (with_open_end c e)
  with-end e same = going refl refl (λ u. u) (λ k r. same ∙ k.listens r)

  -- what an answer of the open end leaves
  settled-left : (course : Course) (e : OpenEnd) → e.receive ≡ c.end.receive → Left (settled c course e)
  unfolding settled
  settled-left GoesOn e same = with-end e same
  settled-left GivenUp e same = gone refl refl
  settled-left Leaves e same = gone refl refl

  -- ---- a frame arrives

  -- the D0 leads on to the A0, and from then on the record listens on its receive ID
  reply-left : is_closed c ≡ false → (r : Reply) → Left (on_reply c r).left
  unfolding on_reply
  reply-left u NoReply = unchanged
  reply-left u (Refused opcode) = by-not Answers c.attempt.asked (λ _. unchanged) (λ _. gone refl refl)
  reply-left u (Positive transmit) =
      by-not Answers c.attempt.asked (λ _. unchanged) (λ _. going refl refl (λ _. u) (λ k _. refl))

  -- the A1 opens it on the same ID
  agreeing-left : is_closed c ≡ false → is_requesting c ≡ false → (kind : Telegram) → Left (on_agreeing c kind).left
  unfolding on_agreeing on_accept
  agreeing-left u r (Accept p) =
      by-not Answers c.attempt.asked (λ _. unchanged) λ _.
      by Answers (bad_block p.block) (λ _. unchanged) (λ _. going refl refl (λ _. u) (λ k _. k.listens r))
  agreeing-left u r Disconnect = gone refl refl
  agreeing-left u r NoTelegram = unchanged
  agreeing-left u r (Data asks last number) = unchanged
  agreeing-left u r (Ack ready number) = unchanged
  agreeing-left u r Test = unchanged
  agreeing-left u r Break = unchanged
  agreeing-left u r (Setup p) = unchanged

  -- the open end answers
  open-left : (limit : ℕ) (t : Telegram) (s : List ℕ) (room : ℕ) → Left (on_open limit c t s room).left
  unfolding on_open arrived_at
  open-left limit t s room = settled-left (course_of (arrived_at limit c.end t s room).answer) _ refl

  pub arrived-left : (limit id : ℕ) (s : List ℕ) (room : ℕ) → Left (arrived limit c id s room).left
  unfolding arrived
  arrived-left limit id s room =
      by Arrives (is_closed c) (λ _. unchanged) λ u.
      by-not Arrives (hears c id) (λ _. unchanged) λ _.
      by Arrives (is_requesting c) (λ _. reply-left u (reply_for c.profile s c.settings.receive)) λ r.
      by Arrives (is_agreeing c) (λ _. agreeing-left u r (sorted_by c.profile s).kind) (λ _. open-left limit (sorted_by c.profile s).kind s room)
    where
      Arrives : Arrived Connection → Type 0
      Arrives x = Left x.left

  -- ---- time passes

  -- while a reply is awaited
  attempt-left : (n : ℕ) → Left (attempt_elapsed c n).left
  unfolding attempt_elapsed
  attempt-left n =
      by-eq Answers c.attempt.wait 0 (λ _. unchanged) λ _.
      by-lt Answers n c.attempt.wait (λ _. with-attempt _) λ _.
      by_le Answers c.settings.mntc c.attempt.repeats (λ _. gone refl refl) (λ _. with-attempt _)

  pub elapsed-left : (n : ℕ) → Left (elapsed c n).left
  unfolding elapsed open_elapsed elapsed_at
  elapsed-left n =
      by Answers (is_closed c) (λ _. unchanged) λ _.
      by-not Answers (is_open c) (λ _. attempt-left n) (λ _. settled-left (course_of (elapsed_at c.end n).answer) _ refl)

  -- ---- what is due

  -- a request of the opening
  request-left : (f : Frame) → Left (request_due c f).left
  unfolding request_due
  request-left f = by-not Hands c.attempt.due (λ _. unchanged) (λ _. with-attempt _)

  pub due-left : (m : List ℕ) → Left (due_of c m).left
  unfolding due_of closed_due open_due due_at
  due-left m =
      by Hands (is_closed c) (λ _. by-not Hands c.leaving (λ _. unchanged) (λ _. gone refl refl)) λ _.
      by Hands (is_requesting c) (λ _. request-left _) λ _.
      by Hands (is_agreeing c) (λ _. request-left _) (λ _. with-end _ refl)

  -- ---- send, take and close

  pub sent-left : (limit n : ℕ) → Left (sent_by limit c n).left
  unfolding sent_by open_sent sent_at
  sent-left limit n = by-not Answers (is_open c) (λ _. unchanged) (λ _. with-end _ refl)

  pub taken-left : (room : ℕ) → Left (taken_by c room).left
  unfolding taken_by open_taken taken_at
  taken-left room = by-not (λ (x : TakeStep Connection). Left x.left) (is_open c) (λ _. unchanged) (λ _. with-end _ refl)

  pub closed-left : Left (closed c).left
  unfolding closed
  closed-left = by Answers (is_closed c) (λ _. unchanged) λ _. by Answers (is_requesting c) (λ _. gone refl refl) (λ _. gone refl refl)
