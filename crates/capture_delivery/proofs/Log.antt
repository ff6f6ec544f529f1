-- The messages that a log shows of a side are what its lines show of it.
--     log-told      from the first line on
use Prim.Native.Nat.{ℕ, suc, ◌+◌, ◌-◌}
use native.Mathlib.Omega.{arith}
use mathlib.Core.List.{List, [], ◌∷◌, ◌++◌, map}
use mathlib.Core.Path.{◌≡◌, refl, sym, ap, ◌∙◌}
use lib.ListN.{take}
use lib.Seq.{take-nil}
use Rattle.laws.proofs.Cases.{by_le, each}
use Rattle.candump.specs.Line.{line_of}
use Rattle.candump.specs.declared.Line.{Line}
use Rattle.candump.specs.declared.Line.TheVariants.{Holds, PassedOver, BreaksForm as Breaks}
use Rattle.follow.specs.declared.Side.{Side}
use Rattle.capture.specs.Reading.{State, on_line}
use Rattle.capture.specs.Log.{Entry, message, breaks, Telling, entry_of, log_told}
use Rattle.capture.specs.Lines.{line_ends, lines_of, lines_told}
use Rattle.capture.proofs.Characters.{line-counted}
use Rattle.capture.proofs.Lines.{log-lines}
use Rattle.capture_delivery.specs.Lines.{Content, content_in, content_of, read_from}
use Rattle.capture_delivery.specs.Claim.{Shown, is_from, shown_of}
use Rattle.capture_delivery.proofs.Told.{told_of}

shown-append : (side : Side) (x y : List Entry) → shown_of side (x ++ y) ≡ shown_of side x ++ shown_of side y
unfolding shown_of
shown-append side [] y = refl
shown-append side (message first last from flags bytes ∷ x) y =
    rw (shown-append side x y) (sym (each (λ (z : List Shown). z ++ shown_of side y) (is_from side from) refl refl))
shown-append side (breaks line ∷ x) y = shown-append side x y

line-shown : (limit : ℕ) (side : Side) (r : State) (l : List ℕ) (x : Line) (cs : List Content)
    → (let t = on_line limit r l x in shown_of side (entry_of t.event t.state) ++ told_of limit side t.state cs) ≡ told_of limit side r (content_in l x ∷ cs)
unfolding on_line told_of shown_of
line-shown limit side r l (Holds f) cs = refl
line-shown limit side r l PassedOver cs = refl
line-shown limit side r l Breaks cs = refl

-- the lines that are read
lines-shown : (limit most : ℕ) (side : Side) (r : State) (ls : List (List ℕ))
    → shown_of side (lines_told limit most r ls).entries ≡ told_of limit side r (map content_of (take (most - r.lines) ls))
unfolding lines_told told_of shown_of
lines-shown limit most side r [] = rw take-nil
lines-shown limit most side r (l ∷ ls) =
    let x = line_ends limit r l in
    let shows : Telling → Type 0 = λ t. shown_of side t.entries ≡ told_of limit side r (map content_of (take (most - r.lines) (l ∷ ls))) in
    by_le shows most r.lines (λ h. let n : most - r.lines ≡ 0 = omega arith in rw n)
    (λ h.
    let n : most - r.lines ≡ suc (most - (r.lines + 1)) = omega arith in
    shown-append side (entry_of x.event x.state) (lines_told limit most x.state ls).entries
    ∙ ap (λ (y : List Shown). shown_of side (entry_of x.event x.state) ++ y) (lines-shown limit most side x.state ls)
    ∙ rw ((line-counted limit r l (line_of l)).0, n) (line-shown limit side r l (line_of l) (map content_of (take (most - (r.lines + 1)) ls))))

pub log-told : (limit most : ℕ) (side : Side) (r : State) (log : List ℕ) → r.kept ≡ [] → r.lines ≡ 0
    → shown_of side (log_told limit most r log).entries ≡ told_of limit side r (read_from most log)
log-told limit most side r log e l =
    let n : most - r.lines ≡ most = omega arith in
    ap (λ (t : Telling). shown_of side t.entries) (log-lines limit most log r e) ∙ lines-shown limit most side r (lines_of log) ∙ rw n
