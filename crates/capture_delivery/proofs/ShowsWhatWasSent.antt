-- A capture shows what was sent.
--     shows-whole               the messages whose frames all are seen
--     calls-show, calls-read    a log read by calls
use Prim.Native.Nat.{ℕ, ◌≤◌}
use native.Mathlib.Omega.{arith}
use mathlib.Core.List.{List, [], ◌∷◌, ◌++◌, append-nil, flatten}
use mathlib.Core.Path.{◌≡◌, refl, sym, ap, subst, ◌∙◌}
use lib.ListN.{length}
use Rattle.follow.specs.declared.Side.{Side}
use Rattle.capture.specs.Reading.{State, state_of, fresh}
use Rattle.capture.specs.Log.{Entry, telling, Desk, Calls}
use Rattle.capture.specs.Cutting.{Cutting, last_chunk}
use Rattle.capture.proofs.Characters.{telling-bounded}
use Rattle.capture.proofs.Cut.{cut_holds}
use Rattle.capture_delivery.specs.Sent.{Sent}
use Rattle.capture_delivery.specs.Claim.{Shown, as_sent, shown_of, LogOf, shown_in, ByCalls, read, stopped, Shows, ShowsWhatWasSentHolds}
use Rattle.capture_delivery.proofs.Cuttings.{whole_in, whole-all, whole-inside}
use Rattle.capture_delivery.proofs.Sent.{sent-told}
use Rattle.capture_delivery.proofs.Log.{log-told}

-- the messages whose frames all are seen
pub shows-whole : (limit : ℕ) → limit ≤ 4095 → (most : ℕ) (side : Side) (tester unit : List ℕ) (ms : List Sent) (log at : List ℕ)
    → LogOf limit most side tester unit ms log at → shown_in limit most side tester unit log ≡ as_sent (whole_in (length at) ms) at
shows-whole limit small most side tester unit ms log at l =
    log-told limit most side (state_of fresh tester unit) log refl refl ∙ sent-told limit small tester unit ms side l.fit l.sends tt

module _ (limit most : ℕ) (tester unit : List ℕ) where
  abbrev start : State
  start = state_of fresh tester unit

  cut : Cutting limit most start
  cut = cut_holds limit most start (omega arith)

  -- calls show what the log shows
  pub calls-show : (side : Side) {log : List ℕ} {es : List Entry} → ByCalls limit most tester unit log es → shown_of side es ≡ shown_in limit most side tester unit log
  calls-show side (read c f l g) = ap (shown_of side) (cut.whole_log _ _ _ _ _ _ _ _ f l g).entries ∙ ap (shown_in limit most side tester unit) c
  calls-show side (stopped c f) = ap (shown_of side) (cut.no_further _ _ _ f).entries ∙ ap (shown_in limit most side tester unit) c

  -- and read every cutting
  pub calls-read : (cs : List (List ℕ)) → (es : List Entry) × ByCalls limit most tester unit (flatten cs) es
  unfolding flatten
  calls-read cs =
      let w = cut.reads cs in
      let last = last_chunk w.2 ∷ [] in
      let v = (cut_holds limit most (telling limit most start (flatten cs)).state (telling-bounded limit most start (flatten cs) (omega arith))).reads last in (
        w.0 ++ v.0,
        read refl w.3 (append-nil (last_chunk w.2))
            (subst (λ (d : Desk). Calls limit most d last v.0 v.1 v.2) (sym (cut.told cs w.0 w.1 w.2 w.3).desk) v.3),
      )

  pub shows : (side : Side) {log : List ℕ} {shown : List Shown} → shown_in limit most side tester unit log ≡ shown → Shows limit most side tester unit log shown
  shows side e = record { whole = e; by_calls = λ es c. calls-show side c ∙ e }

pub shows_what_was_sent : ShowsWhatWasSentHolds
shows_what_was_sent limit small =
    record {
      all = λ most side tester unit ms log at l e.
          shows limit most tester unit side
          (shows-whole limit small most side tester unit ms log at l ∙ ap (λ (x : List Sent). as_sent x at) (ap (λ (n : ℕ). whole_in n ms) e ∙ whole-all 0 ms));
      inside = λ most side tester unit ms m log at l from below.
          shows limit most tester unit side
          (shows-whole limit small most side tester unit (ms ++ (m ∷ [])) log at l ∙ ap (λ (x : List Sent). as_sent x at) (whole-inside 0 ms m (length at) from below));
      reads = calls-read limit;
    }
