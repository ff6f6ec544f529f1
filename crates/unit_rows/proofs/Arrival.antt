-- A frame that arrives: the call says and leaves what `arrival_table` tells.
use Prim.Native.Nat.{ℕ}
use native.Mathlib.Omega.{arith}
use mathlib.Core.Bool.{Bool, true, false, ◌&&◌, true≢false}
use mathlib.Core.List.{List}
use mathlib.Core.Path.{◌≡◌, refl, sym, ◌∙◌}
use lib.ListN.{length, drop, get_or}
use lib.Dec.{eqb}
use borrow.Author.Tests.{ltb-true, ne_eqb}
use Rattle.laws.proofs.Cases.{by, by-not, either, Makes}
use Rattle.telegram.specs.Kinds.{bad_block, fields, fillable, kind_of, sorted}
use Rattle.telegram.specs.declared.kinds.Telegram.{Telegram}
use Rattle.telegram.specs.declared.kinds.Telegram.TheVariants.{Setup}
use Rattle.arrival.proofs.Arriving.{unwritten}
use Rattle.opening.specs.Opening.{request_read, Request}
use Rattle.open_end.specs.declared.answers.Said.{Said}
use Rattle.open_end.specs.OpenEnd.{arrived_at, buffered_at}
use Rattle.unit.specs.declared.ControlUnit.{ControlUnit}
use Rattle.open_end.specs.declared.answers.Answered.{Answered}
use Rattle.open_end.specs.declared.answers.Arrived.{Arrived}
use Rattle.unit.specs.Calls.{ends, on_request, on_setup, on_opening, at_end, on_open, arrived, buffered}
use Rattle.open_end.specs.Answers.{marked}
use Rattle.open_rows.specs.Tables.{told_by}
use Rattle.open_rows.specs.Records.{tp20_numbers}
use Rattle.open_rows.specs.Rows.{is_setup, no_message}
use Rattle.open_rows.proofs.Same.{opened-same, block_same}
use Rattle.open_rows.proofs.Bytes.{Only, telegram, by_kind, data-unpadded, padded-eight, setup-unpadded}
use Rattle.open_rows.proofs.Arrival.{open-arrive}
use Rattle.unit_rows.specs.Records.{is_closed, is_replying, is_open}
use Rattle.unit_rows.specs.Rows.{on_request_id, is_request, in_sending, other_id, arrival_table, arrive_says}
use Rattle.unit_rows.proofs.Ways.{ways_of, settled-by}

module _ (limit : ℕ) (c : ControlUnit) (id : ℕ) (s b : List ℕ) where
  -- what the table tells
  abbrev tabled : Said × (Bool × ControlUnit × List ℕ)
  tabled = told_by (arrival_table limit c id s b)

  -- what is said and left by an arrival with the buffer w then, and by an answer with its mark
  abbrev tells : List ℕ → Arrived ControlUnit → Said × (Bool × ControlUnit × List ℕ)
  tells w r = (r.told.said, (r.padded, r.left, w))

  abbrev answers-told : List ℕ → Bool → Answered ControlUnit → Said × (Bool × ControlUnit × List ℕ)
  answers-told w p r = tells w (marked p r)

  -- by a request, and by a telegram before the A1's hand-over
  abbrev requests : List ℕ → Request → Said × (Bool × ControlUnit × List ℕ)
  requests w q = answers-told w false (on_request c q)

  abbrev opens : List ℕ → Telegram → Said × (Bool × ControlUnit × List ℕ)
  opens w t = answers-told w (fillable t && eqb (length s) 8) (on_opening c t)

  -- on 0x200
  request-told : on_request_id id ≡ true → requests (buffered limit c id s b) (request_read s) ≡ tabled
  unfolding buffered request_read is_request on_request ends
  request-told r =
      rw r
      (by (Makes (requests _) _) (is_request s)
      (λ q. rw q
      (by-not (Makes (answers-told _ false) _) (eqb (get_or s 0 0) c.settings.unit) (λ u. rw u) (λ u. rw u
      (by (Makes (answers-told _ false) _) (in_sending c) (λ i. rw i) (λ i. rw i)))))
      (λ q. rw q))

  module _ (req : on_request_id id ≡ false) (closed : is_closed c ≡ false) (same : other_id c id ≡ false) where
    -- before the A1's hand-over
    opening-told : is_open c ≡ false → opens (buffered limit c id s b) (sorted s).kind ≡ tabled
    unfolding buffered on_opening on_setup ends
    opening-told shut =
        rw (req, closed, same, shut)
        (by_kind s (Makes (opens _) _)
        (λ k. rw (telegram k, k.disconnect, k.setup, data-unpadded s k.data'))
        (λ k. rw (telegram k, k.disconnect, k.setup, padded-eight s k.data'))
        (λ k. rw (telegram k, k.disconnect, k.setup, padded-eight s k.data'))
        (λ k. rw (telegram k, k.disconnect, k.setup, padded-eight s k.data'))
        (λ k. rw (telegram k, k.disconnect, k.setup, k.accept, padded-eight s k.data'))
        (λ k. rw (telegram k, k.disconnect, k.setup, setup-unpadded s k.setup)
        (by (Makes (answers-told _ false) _) (is_replying c) (λ e. rw e) (λ e. rw e
        (by (Makes (answers-told _ false) _) (bad_block (fields s).block) (λ z. rw (block_same s z))
        (λ z. rw (shut, block_same s z, opened-same tp20_numbers c.settings s))))))
        (λ k. rw (telegram k, k.disconnect, k.setup, padded-eight s k.data'))
        (λ k. rw (telegram k)))

    module _ (open' : is_open c ≡ true) where
      -- an A0
      setup-told : Only s 5 → answers-told b false (on_setup c (fields s)) ≡ tabled
      unfolding on_setup ends
      setup-told k =
          let phase = ltb-true 5 c.phase open' in
          let out = ne_eqb c.phase 3 (λ e. omega arith) in
          rw (req, closed, same, open', out, telegram k, k.data', k.ack, k.test, k.break, k.disconnect, k.setup, k.accept, setup-unpadded s k.setup)
          (by (Makes (answers-told _ false) _) (bad_block (fields s).block) (λ z. rw (block_same s z)) (λ z. rw (block_same s z)
          (by-not (Makes (answers-told _ false) _) (no_message c.end.channel)
          (λ i. rw (i, opened-same tp20_numbers c.settings s))
          (λ i. rw (i, opened-same tp20_numbers c.settings s)))))

      -- another telegram
      other-told : is_setup s ≡ false → tells (buffered limit c id s b) (marked (sorted s).padded (at_end limit c (sorted s).kind s (length b))) ≡ tabled
      unfolding buffered at_end arrived_at
      other-told u = rw (req, closed, same, open', u, settled-by c) (rw u at (open-arrive (ways_of c) limit c.end s b))

      -- which of them
      as-setup : is_setup s ≡ true → (kind_of s (get_or s 0 0) ≡ Setup (fields s)) × Only s 5
      as-setup u =
          by_kind s (λ t. (t ≡ Setup (fields s)) × Only s 5)
          (λ k. no-setup k.setup) (λ k. no-setup k.setup) (λ k. no-setup k.setup) (λ k. no-setup k.setup) (λ k. no-setup k.setup)
          (λ k. (refl, k))
          (λ k. no-setup k.setup) (λ k. no-setup k.setup)
        where
          no-setup : {P : Type 0} → is_setup s ≡ false → P
          no-setup n = absurd (true≢false (sym u ∙ n))

      as-other : is_setup s ≡ false → on_open limit c (kind_of s (get_or s 0 0)) s (length b) ≡ at_end limit c (kind_of s (get_or s 0 0)) s (length b)
      unfolding on_open
      as-other u =
          by_kind s (λ t. on_open limit c t s (length b) ≡ at_end limit c t s (length b))
          (λ k. refl) (λ k. refl) (λ k. refl) (λ k. refl) (λ k. refl)
          (λ k. absurd (true≢false (sym k.setup ∙ u)))
          (λ k. refl) (λ k. refl)

      -- an A0 writes nothing
      untouched : kind_of s (get_or s 0 0) ≡ Setup (fields s) → buffered limit c id s b ≡ b
      unfolding buffered buffered_at
      untouched e = rw (req, closed, same, open', e) (unwritten limit c.end.channel (Setup (fields s)) (drop 1 s) b tt)

      -- each of them
      open_told : tells (buffered limit c id s b) (marked (sorted s).padded (on_open limit c (sorted s).kind s (length b))) ≡ tabled
      unfolding on_open
      open_told = either (is_setup s) (λ u. let k = as-setup u in rw (untouched k.0, k.0) (setup-told k.1)) (λ u. rw (as-other u) (other-told u))

  pub arrive-told : arrive_says limit c id s b ≡ told_by (arrival_table limit c id s b)
  unfolding arrived buffered
  arrive-told =
      by (Makes (tells _) _) (on_request_id id) request-told (λ req.
      by (Makes (tells _) _) (is_closed c) (λ closed. rw (req, closed)) (λ closed.
      by (Makes (tells _) _) (other_id c id) (λ other. rw (req, closed, other)) (λ same.
      by-not (Makes (tells _) _) (is_open c) (opening-told req closed same) (open_told req closed same))))
