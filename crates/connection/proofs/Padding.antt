-- "Padding alters nothing else": phase by phase.
use Prim.Native.Nat.{ℕ}
use native.Mathlib.Omega.{arith}
use mathlib.Core.Bool.{true, false}
use mathlib.Core.List.{List, ◌++◌}
use mathlib.Core.Logic.{◌≢◌}
use mathlib.Core.Path.{◌≡◌, refl, ap}
use lib.ListN.{length, drop}
use borrow.Author.Tests.{eqb-true, eqb-false, ne_eqb}
use Rattle.laws.proofs.Cases.{by, by-not, either}
use Rattle.telegram.specs.Kinds.{bad_block, sorted}
use Rattle.telegram.specs.Forms.{malformed, Fillable, ack, test, break, disconnect, accept}
use Rattle.telegram.specs.declared.kinds.Telegram.{Telegram}
use Rattle.telegram.specs.declared.kinds.Telegram.TheVariants.{Malformed as NoTelegram}
use Rattle.telegram.proofs.Forms.{own-sorted, filled-sorted}
use Rattle.opening.specs.Opening.{reply_read, NoReply}
use Rattle.opening.specs.Short.{short_reply_read}
use Rattle.profile.specs.Profile.{test_or_break, sorted_by}
use Rattle.profile.specs.Opening.{named, reply_for}
use Rattle.profile.specs.declared.Profile.{Profile}
use Rattle.profile.proofs.Rules.{sorted_by-tests, sorted_by-other, sorted_by-none}
use Rattle.channel.specs.declared.Answer.TheVariants.{Malformed, NotDue}
use Rattle.arrival.specs.Arrived.{answered, buffered_by, arrived as channel_arrived}
use Rattle.arrival.proofs.Arriving.{unwritten}
use Rattle.open_end.specs.declared.answers.Answer.TheVariants.{Channel, OtherId}
use Rattle.open_end.specs.Answers.{told}
use Rattle.open_end.specs.OpenEnd.{course_of, arrived_at, buffered_at}
use Rattle.open_end.specs.Padding.{AltersNothing}
use Rattle.open_end.proofs.Padding.{Passes, no_seven, unsorted-alters, sorted-alters, open-alters}
use Rattle.connection.specs.declared.Connection.{Connection}
use Rattle.open_end.specs.declared.answers.Answered.{Answered}
use Rattle.connection.specs.Record.{is_closed, is_requesting, is_agreeing, hears}
use Rattle.connection.specs.Calls.{on_reply, on_accept, on_agreeing, settled, on_open, arrived, buffered}
use Rattle.connection.specs.Padding.{comes_to, PaddingAltersNothing}

-- a reply has seven bytes, or three
no-reply : (p : Profile) (s : List ℕ) (receive : ℕ) → length s ≢ 7 → length s ≢ 3 → reply_for p s receive ≡ NoReply
unfolding reply_for named reply_read short_reply_read
no-reply p s receive not-seven not_three = either p.short (λ h. rw (h, ne_eqb (length s) 3 not_three)) (λ h. rw (h, ne_eqb (length s) 7 not-seven))

-- a control telegram has neither
no-three : {own : List ℕ} {t : Telegram} → Fillable own t → length own ≢ 3
no-three (ack ready n h) e = absurd (omega arith)
no-three test e = absurd (omega arith)
no-three break e = absurd (omega arith)
no-three disconnect e = absurd (omega arith)
no-three (accept p t2 t4) e = absurd (omega arith)

-- while the A1 is awaited the number of its answer is neither 1 nor 3
agreeing-passes : {own : List ℕ} {t : Telegram} (c : Connection) → Fillable own t → Passes (on_agreeing c t).told.said.number
unfolding on_agreeing on_accept
agreeing-passes c (ack ready n h) = refl
agreeing-passes c test = refl
agreeing-passes c break = refl
agreeing-passes c disconnect = refl
agreeing-passes c (accept p t2 t4) =
    by-not (λ (r : Answered Connection). Passes r.told.said.number) c.attempt.asked (λ _. refl) λ _.
    by (λ (r : Answered Connection). Passes r.told.said.number) (bad_block p.block) (λ _. refl) λ _. refl

module _ (limit : ℕ) (c : Connection) (id : ℕ) (buffer own content : List ℕ) (t : Telegram) (k : Fillable own t) (l : length (own ++ content) ≡ 8) where
  abbrev Alters : Type 0
  Alters = AltersNothing (c.phase ≢ 0) (comes_to limit c id buffer own) (comes_to limit c id buffer (own ++ content))

  closed-alters : is_closed c ≡ true → Alters
  unfolding arrived buffered
  closed-alters closed = unsorted-alters (told (Channel NotDue)) c buffer (rw closed) (rw closed) (λ m. m.stands (eqb-true c.phase 0 closed))

  module _ (closed : is_closed c ≡ false) where
    other-alters : hears c id ≡ false → Alters
    unfolding arrived buffered
    other-alters other = unsorted-alters (told OtherId) c buffer (rw (closed, other)) (rw (closed, other)) (λ m. m.heard refl)

    module _ (heard : hears c id ≡ true) where
      requesting-alters : is_requesting c ≡ true → Alters
      unfolding arrived buffered on_reply
      requesting-alters req =
          let none = no-reply c.profile own c.settings.receive (no_seven k) (no-three k) in
          let none' = no-reply c.profile (own ++ content) c.settings.receive (λ e. omega arith) (λ e. omega arith) in
          unsorted-alters (told (Channel Malformed)) c buffer (rw (closed, heard, req, none)) (rw (closed, heard, req, none')) (λ m. m.formed refl)

      module _ (req : is_requesting c ≡ false) where
        -- sorted as in 01: all but the tests and breaks that the profile does not have
        module _ (same : sorted_by c.profile own ≡ sorted own) (same' : sorted_by c.profile (own ++ content) ≡ sorted (own ++ content)) where
          agreeing-alters : is_agreeing c ≡ true → Alters
          unfolding arrived buffered
          agreeing-alters agr =
              sorted-alters k content l (eqb-false c.phase 0 closed) (λ u. (on_agreeing c u).told) (λ u. (on_agreeing c u).left) buffer
              (rw (closed, heard, req, agr, same)) (rw (closed, heard, req, agr, same')) (agreeing-passes c k)

          end-alters : is_agreeing c ≡ false → Alters
          unfolding arrived buffered on_open
          end-alters agr =
              open-alters k content l (eqb-false c.phase 0 closed) limit c.end (λ r. settled c (course_of r.answer) r.end) buffer
              (rw (closed, heard, req, agr, same)) (rw (closed, heard, req, agr, same'))

        -- those are badly formed at either length
        no-telegram-alters : sorted_by c.profile own ≡ malformed → sorted_by c.profile (own ++ content) ≡ malformed → Alters
        unfolding arrived buffered on_agreeing on_open arrived_at buffered_at channel_arrived answered course_of settled
        no-telegram-alters none none' =
            either (is_agreeing c)
            (λ agr. unsorted-alters (told (Channel Malformed)) c buffer (rw (closed, heard, req, agr, none)) (rw (closed, heard, req, agr, none')) (λ m. m.formed refl))
            (λ agr.
            let kept : (s : List ℕ) → buffered_by limit c.end.channel NoTelegram (drop 1 s) buffer ≡ buffer = λ s. unwritten limit c.end.channel NoTelegram (drop 1 s) buffer tt in
            unsorted-alters (told (Channel Malformed)) c buffer (rw (closed, heard, req, agr, none, kept own)) (rw (closed, heard, req, agr, none', kept (own ++ content))) (λ m. m.formed refl))

        telegram-alters : Alters
        telegram-alters =
            let own-kind : (sorted own).kind ≡ t = ap (λ x. x.kind) (own-sorted k) in
            let filled-kind : (sorted (own ++ content)).kind ≡ t = ap (λ x. x.kind) (filled-sorted k content l) in
            either (test_or_break t)
            (λ h. either c.profile.tests
            (λ w. alike (sorted_by-tests c.profile own w) (sorted_by-tests c.profile (own ++ content) w))
            (λ w. no-telegram-alters (sorted_by-none c.profile own w (rw own-kind h)) (sorted_by-none c.profile (own ++ content) w (rw filled-kind h))))
            (λ h. alike (sorted_by-other c.profile own (rw own-kind h)) (sorted_by-other c.profile (own ++ content) (rw filled-kind h)))
          where
            alike : sorted_by c.profile own ≡ sorted own → sorted_by c.profile (own ++ content) ≡ sorted (own ++ content) → Alters
            alike same same' = either (is_agreeing c) (agreeing-alters same same') (end-alters same same')

pub padding-alters-nothing : PaddingAltersNothing
padding-alters-nothing limit c id buffer own content t k l =
    either (is_closed c) (closed-alters limit c id buffer own content t k l) λ closed.
    either (hears c id)
    (λ heard. either (is_requesting c) (requesting-alters limit c id buffer own content t k l closed heard) λ req.
    telegram-alters limit c id buffer own content t k l closed heard req)
    (other-alters limit c id buffer own content t k l closed)
