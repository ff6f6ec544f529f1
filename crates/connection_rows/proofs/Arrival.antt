-- A frame that arrives: the call says and leaves what `arrival_table` tells.
use Prim.Native.Nat.{ℕ}
use mathlib.Core.Bool.{Bool, true, false, not, ◌&&◌}
use mathlib.Core.List.{List}
use mathlib.Core.Path.{◌≡◌, refl, sym, ◌∙◌}
use lib.ListN.{length, drop}
use lib.Dec.{eqb}
use Rattle.laws.proofs.Cases.{by, by-not, Makes}
use Rattle.telegram.specs.Kinds.{bad_block, fields, fillable}
use Rattle.telegram.specs.declared.kinds.Sorted.{Sorted}
use Rattle.telegram.specs.declared.kinds.Telegram.{Telegram}
use Rattle.telegram.specs.declared.kinds.Telegram.TheVariants.{Malformed}
use Rattle.opening.specs.Opening.{Reply}
use Rattle.profile.specs.Profile.{sorted_by}
use Rattle.profile.specs.Opening.{reply_for}
use Rattle.arrival.proofs.Arriving.{unwritten}
use Rattle.arrival.proofs.Rules.{malformed-fields}
use Rattle.open_end.specs.declared.answers.Said.{Said}
use Rattle.open_end.specs.OpenEnd.{course_of, arrived_at, buffered_at}
use Rattle.connection.specs.declared.Connection.{Connection}
use Rattle.open_end.specs.declared.answers.Answered.{Answered}
use Rattle.open_end.specs.declared.answers.Arrived.{Arrived}
use Rattle.connection.specs.Record.{hears as listened}
use Rattle.connection.specs.Calls.{arrived, buffered, on_reply, on_accept, on_agreeing, on_open}
use Rattle.open_end.specs.Answers.{marked}
use Rattle.open_rows.specs.Tables.{told_by}
use Rattle.open_rows.proofs.Same.{opened-same, block_same}
use Rattle.open_rows.proofs.Bytes.{telegram, by_kind, data-unpadded, padded-eight, setup-unpadded}
use Rattle.open_rows.proofs.Tests.{other-phase}
use Rattle.open_rows.proofs.Arrival.{open-arrive}
use Rattle.connection_rows.specs.Records.{is_closed, is_requesting, is_agreeing}
use Rattle.connection_rows.specs.Rows.{other_id, arrival_table, arrive_says}
use Rattle.connection_rows.proofs.Ways.{ways_of, settled-by}
use Rattle.connection_rows.proofs.Bytes.{by-reply, by-profile, other-same}

module _ (limit : ℕ) (c : Connection) (id : ℕ) (s b : List ℕ) where
  -- what the table tells
  abbrev tabled : Said × (Bool × Connection × List ℕ)
  tabled = told_by (arrival_table limit c id s b)

  -- what is said and left by an arrival with the buffer w then, and by an answer with its mark
  abbrev tells : List ℕ → Arrived Connection → Said × (Bool × Connection × List ℕ)
  tells w r = (r.told.said, (r.padded, r.left, w))

  abbrev answers-told : List ℕ → Bool → Answered Connection → Said × (Bool × Connection × List ℕ)
  answers-told w p r = tells w (marked p r)

  -- by a reply, and by a telegram while the A1 is awaited
  abbrev replies : List ℕ → Reply → Said × (Bool × Connection × List ℕ)
  replies w t = answers-told w false (on_reply c t)

  abbrev agrees : List ℕ → Sorted → Said × (Bool × Connection × List ℕ)
  agrees w t = answers-told w t.padded (on_agreeing c t.kind)

  abbrev agrees-by : List ℕ → Telegram → Said × (Bool × Connection × List ℕ)
  agrees-by w t = agrees w (record { kind = t; padded = fillable t && eqb (length s) 8 })

  -- by a telegram on the open connection
  abbrev opens : Sorted → Said × (Bool × Connection × List ℕ)
  opens t = tells (buffered_at limit c.end t.kind s b) (marked t.padded (on_open limit c t.kind s (length b)))

  module _ (closed : is_closed c ≡ false) (same : other_id c id ≡ false) where
    ours : not (listened c id) ≡ false
    ours = sym (other-same c id closed) ∙ same

    -- while the D0 is awaited
    reply-told : is_requesting c ≡ true → is_agreeing c ≡ false → replies (buffered limit c id s b) (reply_for c.profile s c.settings.receive) ≡ tabled
    unfolding buffered on_reply
    reply-told req agr =
        rw (closed, same, ours, req, agr)
        (by-reply c.profile s c.settings.receive (Makes (replies _) _)
        (λ r u p m. rw (r, u, p, m) (by-not (Makes (answers-told _ false) _) c.attempt.asked (λ e. rw e) (λ e. rw e)))
        (λ r q u p m. rw (r, q, u, p, m) (by-not (Makes (answers-told _ false) _) c.attempt.asked (λ e. rw e) (λ e. rw e)))
        (λ r q. rw (r, q)))

    -- while the A1 is awaited
    agreeing-told : is_requesting c ≡ false → is_agreeing c ≡ true → agrees (buffered limit c id s b) (sorted_by c.profile s) ≡ tabled
    unfolding buffered on_agreeing on_accept
    agreeing-told req agr =
        rw (closed, same, ours, req, agr)
        (by-profile c.profile s (Makes (agrees _) _) (λ m. rw m) λ m. rw m
        (by_kind s (Makes (agrees-by _) _)
        (λ k. rw (telegram k, k.accept, k.disconnect, data-unpadded s k.data'))
        (λ k. rw (telegram k, k.accept, k.disconnect, padded-eight s k.data'))
        (λ k. rw (telegram k, k.accept, k.disconnect, padded-eight s k.data'))
        (λ k. rw (telegram k, k.accept, k.disconnect, padded-eight s k.data'))
        (λ k. rw (telegram k, k.accept, k.disconnect, k.setup, padded-eight s k.data'))
        (λ k. rw (telegram k, k.accept, k.disconnect, setup-unpadded s k.setup))
        (λ k. rw (telegram k, k.accept, k.disconnect, k.setup, padded-eight s k.data')
        (by-not (Makes (answers-told _ _) _) c.attempt.asked (λ e. rw e) (λ e. rw e
        (by (Makes (answers-told _ _) _) (bad_block (fields s).block) (λ z. rw (block_same s z)) (λ z. rw (block_same s z, opened-same c.profile c.settings s))))))
        (λ k. rw (telegram k))))

    -- open
    open_told : is_requesting c ≡ false → is_agreeing c ≡ false
        → tells (buffered limit c id s b) (marked (sorted_by c.profile s).padded (on_open limit c (sorted_by c.profile s).kind s (length b))) ≡ tabled
    unfolding buffered on_open arrived_at buffered_at course_of
    open_told req agr =
        rw (closed, same, ours, req, agr)
        (by-profile c.profile s (Makes opens _)
        (λ m. rw (m, malformed-fields limit c.end.channel (drop 1 s) (length b), unwritten limit c.end.channel Malformed (drop 1 s) b tt, settled-by c))
        (λ m. rw (m, settled-by c) (open-arrive (ways_of c) limit c.end s b)))

  pub arrive-told : arrive_says limit c id s b ≡ told_by (arrival_table limit c id s b)
  unfolding arrived buffered
  arrive-told =
      by (Makes (tells _) _) (is_closed c) (λ closed. rw closed) (λ closed.
      by (Makes (tells _) _) (not (listened c id)) (λ other. rw (closed, other-same c id closed, other)) (λ ours.
      let same = other-same c id closed ∙ ours in
      by (Makes (tells _) _) (is_requesting c) (λ req. reply-told closed same req (other-phase c.phase 1 2 req refl)) (λ req.
      by (Makes (tells _) _) (is_agreeing c) (agreeing-told closed same req) (open_told closed same req))))
