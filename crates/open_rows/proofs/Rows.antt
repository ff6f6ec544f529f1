-- What holds of the rows of an open channel, for the tables that they are part of.
--     open_rows           the rows behind row 2, where they are those of a record that may be open, and the rows behind them
--     bare, with-mark    an answer without a mark, or with one
--     carries            what they say of a padded telegram has its mark
--     finishing          an Ack that finishes the message is refused by no row
--     asked-not-ready    row 5's Ack
use Prim.Native.Nat.{ℕ, ◌+◌}
use mathlib.Core.Bool.{Bool, true, false, ◌&&◌, ◌||◌, false≢true}
use mathlib.Core.List.{List}
use mathlib.Core.Logic.{◌≢◌}
use mathlib.Core.Path.{◌≡◌, sym, ◌∙◌}
use lib.ListN.{length}
use lib.Dec.{eqb}
use borrow.Author.Tests.{not-true}
use Rattle.laws.proofs.Cases.{and_first, and_second, neither}
use Rattle.channel.specs.declared.Channel.{Channel}
use Rattle.open_end.specs.declared.answers.Said.{Said}
use Rattle.open_rows.specs.Tables.{row, Table, ◌or_else◌, told_by}
use Rattle.open_rows.specs.Rows.{is_data, asks_ack, is_padded, out_of_place, changes_nothing, not_ready_too_often, no_message, is_holding, ahead, is_beyond, is_waiting, waits_untaken, short_later, broken, short_first, asked_for_ack, thrown_away, carried_by, finishes}
use Rattle.open_rows.proofs.Open.{Ways, arrival_rows}
use Rattle.open_rows.proofs.Tables.{Held}
use Rattle.open_rows.proofs.Bytes.{telegram, ack-kind, data-unpadded}

-- an answer with the mark m is neither 1 nor 3; others have none
pub bare : {m : Bool} {n : ℕ} → false ≡ true → (m ≡ true) × (n ≢ 1) × (n ≢ 3)
bare e = absurd (false≢true e)

pub with-mark : {m : Bool} (n : ℕ) → (eqb n 1 || eqb n 3) ≡ false → m ≡ true → (m ≡ true) × (n ≢ 1) × (n ≢ 3)
with-mark n h e = let k = neither n 1 3 h in (e, k.0, k.1)

module _ {A : Type 0} (w : Ways A) (limit : ℕ) (ch : Channel) (s b : List ℕ) where
  -- those of a record that is open as `g` says, and what stands behind them
  abbrev pub open_rows : (g : Bool) → Table (Bool × A × List ℕ) → Table (Bool × A × List ℕ)
  open_rows g rest =
      row (g && (out_of_place ch s || changes_nothing ch s)) 12 (is_padded s, w.goes_on (asked_for_ack ch s), b)
      or_else row (g && not_ready_too_often ch s) 8 (is_padded s, w.given_up, b)
      or_else row (g && waits_untaken ch s) 5 (false, w.goes_on (asked_for_ack ch s), b)
      or_else row (g && short_later ch s (length b)) 7 (false, w.goes_on ch, b)
      or_else row (g && broken limit ch s) 9 (false, w.goes_on (thrown_away ch s), b)
      or_else row (g && short_first ch s (length b)) 7 (false, w.goes_on (thrown_away ch s), b)
      or_else rest

  -- an answer other than 1 and 3 has the mark
  abbrev pub HasMark : Said → Bool × A × List ℕ → Type 0
  HasMark a x = a.number ≢ 1 → a.number ≢ 3 → x.0 ≡ true

  -- of a padded telegram: those without it are to data
  pub carries : (g : Bool) (rest : Table (Bool × A × List ℕ)) → is_padded s ≡ true → Held HasMark rest → Held HasMark (open_rows g rest)
  carries g rest padded h = (
    λ _ one three. padded,
    (
      λ _ one three. padded,
      (
        λ e. no-data (search (and_first, and_second)),
        (λ e. no-data (search (and_first, and_second)), (λ e. no-data (search (and_first, and_second)), (λ e. no-data (search (and_first, and_second)), h))),
      ),
    ),
  )
    where
      no-data : {P : Type 0} → is_data s ≡ true → P
      no-data d = absurd (false≢true (sym (data-unpadded s d) ∙ padded))

  -- an Ack that finishes the message is refused by no row
  pub finishing : finishes ch s ≡ true → (told_by (arrival_rows w limit ch s b)).0.done ≡ true
  finishing f =
      let k = ack-kind s (search (and_first, and_second)) in
      let some : no_message ch ≡ false = not-true (no_message ch) (search (and_first, and_second)) in
      let free : is_holding ch ≡ false = not-true (is_holding ch) (search (and_first, and_second)) in
      let far : eqb (ahead ch s) 0 ≡ false = not-true (eqb (ahead ch s) 0) (search (and_first, and_second)) in
      let near : is_beyond ch s ≡ false = not-true (is_beyond ch s) (search (and_first, and_second)) in
      let end : carried_by ch.sender.length (ch.sender.acked + ahead ch s) ≡ true = search (and_first, and_second) in
      rw (telegram k, k.data', k.ack, k.accept, k.setup, some, free, far, near, end)

-- row 5's Ack is "not ready"
pub asked-not-ready : (ch : Channel) (s : List ℕ) → waits_untaken ch s ≡ true → asks_ack s ≡ true
    → (asked_for_ack ch s).receiver.ack ≡ record { due = true; ready = false; number = ch.receiver.at.expected }
asked-not-ready ch s u a =
    let d : is_data s ≡ true = search (and_first, and_second) in
    let x : is_waiting ch ≡ true = search (and_first, and_second) in
    rw (d, a, x)
