-- An open channel shows of a side the messages whose frames it carries.
--     carried      from any place among the frames on
use Prim.Native.Nat.{ℕ, suc, ◌+◌, ◌-◌, ◌%◌, ◌<◌, ◌≤◌}
use native.Mathlib.Nat.{mod-add-mod}
use native.Mathlib.Omega.{arith}
use mathlib.Core.List.{List, [], ◌∷◌, ◌++◌}
use mathlib.Core.Logic.{◌≢◌, ◌⊎◌, inl, inr}
use mathlib.Core.Path.{◌≡◌, refl, sym, ap, ap₂, ◌∙◌, subst}
use lib.ListN.{length, take, drop, get_or, length-append, length-drop}
use lib.Seq.{drop-drop, drop_at, append_snoc, get_or-drop, get_or_at}
use Rattle.telegram.specs.Outgoing.{bytes_of}
use Rattle.telegram.specs.Kinds.{sorted}
use Rattle.telegram.specs.Cutting.{frames_of, frame_at}
use Rattle.telegram.specs.declared.kinds.Telegram.TheVariants.{Disconnect}
use Rattle.follow.specs.declared.Side.{Side}
use Rattle.follow.specs.declared.Side.TheVariants.{Tester, Unit}
use Rattle.follow.specs.declared.Fate.{Fate}
use Rattle.follow.specs.declared.Reception.{Reception}
use Rattle.capture.specs.declared.Event.{Event}
use Rattle.capture.specs.declared.Event.TheVariants.{Nothing, Message}
use Rattle.capture.specs.Reading.{State, event_of}
use Rattle.capture.specs.Log.{entry_of}
use Rattle.capture_delivery.specs.Sent.{Sent, count, cuttings, Fits, AllFit, more}
use Rattle.capture_delivery.specs.Lines.{Content, frame}
use Rattle.capture_delivery.specs.Channel.{most_between, opposite, Carries, log-ends, channel-ends, new, again, aside, across, elsewhere, none-held}
use Rattle.capture_delivery.specs.Claim.{Shown, plain, as_sent, shown_of}
use Rattle.capture_delivery.proofs.Cuttings.{cuttings-first, cuttings-rest, cuttings-numbered, whole_in, one-whole, none-whole}
use Rattle.capture_delivery.proofs.Standing.{View, round, onward, standing, turn, left}
use Rattle.capture_delivery.proofs.Turns.{Quiet, aside-quiet, again-quiet}
use Rattle.capture_delivery.proofs.Told.{told_of, shows, blank-told, own-told, own-over, other-told, other-over, none_told}
use Rattle.capture_delivery.proofs.Stands.{at_hand, Stands, stands-still, Stepped, goes_on, is_whole, turn-first, next-frame}

-- inside a message it is not yet whole
inside-whole : (ms : List Sent) (d : ℕ) → d < frames_of (length (at_hand ms)) → whole_in d ms ≡ []
unfolding whole_in
inside-whole [] d h = refl
inside-whole (m ∷ ms) d h = none-whole m ms d h

-- the place of a frame: the message at hand begins behind base frames, k of its own are seen, and d from base on are seen in the end, with those to come
pub record Place (limit room : ℕ) (all : List Sent) (seen come base k d : ℕ) (ms : List Sent) : Type 0 where
  pub at : seen ≡ base + k
  pub few : seen ≤ length (cuttings 0 all)
  pub ends : base + d ≡ seen + come
  pub frames : drop base (cuttings 0 all) ≡ cuttings (base % 16) ms
  pub fit : AllFit limit room ms

first_fits : {limit room : ℕ} {m : Sent} {ms : List Sent} → AllFit limit room (m ∷ ms) → Fits limit room m
first_fits (more f fs) = f

others-fit : {limit room : ℕ} {m : Sent} {ms : List Sent} → AllFit limit room (m ∷ ms) → AllFit limit room ms
others-fit (more f fs) = fs

-- behind one more frame of the message at hand
place-on : {limit room : ℕ} {all : List Sent} {seen come base k d : ℕ} {ms : List Sent} → seen < length (cuttings 0 all)
    → Place limit room all seen (suc come) base k d ms → Place limit room all (suc seen) come base (k + 1) d ms
place-on l p = let a = p.at in let e = p.ends in record { at = omega arith; few = omega arith; ends = omega arith; frames = p.frames; fit = p.fit }

-- behind its last
place-next : {limit room : ℕ} {all : List Sent} {seen come base k d : ℕ} {m : Sent} {ms : List Sent} → seen < length (cuttings 0 all) → k + 1 ≡ count m → count m ≤ d
    → Place limit room all seen (suc come) base k d (m ∷ ms) → Place limit room all (suc seen) come (base + count m) 0 (d - count m) ms
place-next {all = all} {base = base} {m = m} {ms = ms} l e h p =
    let a = p.at in
    let b = p.ends in
    record {
      at = omega arith;
      few = omega arith;
      ends = omega arith;
      frames =
          sym (drop-drop (count m) base (cuttings 0 all)) ∙ ap (drop (count m)) p.frames ∙ cuttings-rest (base % 16) m ms
          ∙ ap (λ (n : ℕ). cuttings n ms) (mod-add-mod base 16 (count m));
      fit = others-fit p.fit;
    }

-- a frame of a place
place-frame : {limit room : ℕ} {all : List Sent} {seen come base k d : ℕ} {m : Sent} {ms : List Sent} → k < count m → Place limit room all seen come base k d (m ∷ ms)
    → get_or (cuttings 0 all) seen [] ≡ bytes_of (frame_at m.message m.block (base % 16) k)
place-frame {all = all} {base = base} {k = k} {m = m} {ms = ms} h p =
    ap (λ (i : ℕ). get_or (cuttings 0 all) i []) p.at ∙ sym (get_or-drop base (cuttings 0 all) k []) ∙ ap (λ (fs : List (List ℕ)). get_or fs k []) p.frames
    ∙ cuttings-first (base % 16) m ms k h

-- behind the last message no frame is left
place_none : {limit room : ℕ} {all : List Sent} {seen come base k d : ℕ} → seen < length (cuttings 0 all) → Place limit room all seen come base k d [] → ⊥
unfolding cuttings
place_none {all = all} {base = base} l p = let a = p.at in let e = sym (length-drop base (cuttings 0 all)) ∙ ap length p.frames in omega arith

-- a message of the side, shown from its buffer
shown-own : (side : Side) (size flags first asked own other : ℕ) (v : View)
    → shown_of side (entry_of (Message (record { side = side; message = record { length = size; flags = flags }; first = first })) (standing side 4 asked own other v))
    ≡ record { first = first; last = v.lines; flags = flags; bytes = take size v.buffer } ∷ []
unfolding shown_of
shown-own Tester size flags first asked own other v = refl
shown-own Unit size flags first asked own other v = refl

as_plain : (m : Sent) {first last f l : ℕ} {bytes : List ℕ} → f ≡ first → l ≡ last → bytes ≡ m.message
    → ◌≡◌ {A = List Shown} (record { first = f; last = l; flags = 0; bytes = bytes } ∷ []) (plain m first last ∷ [])
as_plain m e f g = rw (e, f, g)

-- the lines of the k frames of the message at hand that are seen, the first of them kept; so many lines stand before
pub record Seen (before k : ℕ) (v : View) (at : List ℕ) : Type 0 where
  pub lines : v.lines ≡ before
  pub counted : length at ≡ k
  pub first : 0 < k → v.here.first ≡ get_or at 0 0

-- a line further
seen-on : {before k : ℕ} {v : View} {at : List ℕ} (w : View) → w.lines ≡ v.lines + 1 → w.here.first ≡ v.here.first → Seen before k v at → Seen (before + 1) k w at
seen-on w l f n = record { lines = l ∙ ap (λ (x : ℕ). x + 1) n.lines; counted = n.counted; first = λ z. f ∙ n.first z }

-- the line of a message's last frame, and those behind it
line_at : (seen : List ℕ) (line : ℕ) (at : List ℕ) (n : ℕ) → length seen + 1 ≡ n → (get_or (seen ++ line ∷ at) (n - 1) 0 ≡ line) × (drop n (seen ++ line ∷ at) ≡ at)
line_at seen line at n e =
    (get_or_at seen line at 0 (n - 1) (omega arith), ap (drop n) (sym (append_snoc seen line at)) ∙ drop_at (seen ++ (line ∷ [])) at n (simp length-append (omega arith)))

module _ (limit : ℕ) (small : limit ≤ 4095) (room : ℕ) (side : Side) (asked own other : ℕ) (differ : own ≢ other) (all : List Sent) where
  abbrev open' : View → State
  open' v = standing side 4 asked own other v

  -- what lines show, behind so many others, that carry the frames from one on
  abbrev Shows : (before seen : ℕ) → (at : List ℕ) → List Content → Type 0
  Shows before seen at cs = (base k d : ℕ) (ms : List Sent) → Place limit room all seen (length at) base k d ms
      → (v : View) → Stands room (base % 16) ms k v.here v.buffer → (at₀ : List ℕ) → Seen before k v at₀
      → told_of limit side (open' v) cs ≡ as_sent (whole_in d ms) (at₀ ++ at)

  -- where they end
  ended : {seen base k d : ℕ} {ms : List Sent} {n : Reception} {b : List ℕ} → Place limit room all seen 0 base k d ms → Stands room (base % 16) ms k n b
      → (at : List ℕ) → [] ≡ as_sent (whole_in d ms) at
  unfolding as_sent
  ended {ms = ms} p s at = ap (λ (x : List Sent). as_sent x at) (sym (inside-whole ms _ (let i = s.inside in let a = p.at in let e = p.ends in omega arith)))

  -- where nothing is told, nothing is shown
  silent-shows : (e : Event) (r : State) (rest : List Content) → e ≡ Nothing → shows limit side asked own other e r rest ≡ told_of limit side r rest
  unfolding shown_of
  silent-shows e r rest f = rw f

  module _ (before seen : ℕ) (at : List ℕ) (s : List ℕ) (cs : List Content) where
    -- a frame that changes nothing of the side
    quiet-shows : ((v : View) → seen ≤ length (cuttings 0 all) → v.here.at.expected ≡ seen % 16 → Quiet limit v.here s v.buffer (turn limit side v s))
        → Shows (before + 1) seen at cs → Shows before seen at (frame own s ∷ cs)
    quiet-shows quiet on base k d ms p v stands at₀ n =
        let a = p.at in
        let e : (base % 16 + k) % 16 ≡ seen % 16 = omega arith in
        let q = quiet v p.few (stands.behind.expected ∙ e) in
        let w = left limit side v s in
        own-told limit side asked own other differ v s cs q.ends ∙ silent-shows (event_of (turn limit side v s).fate) (open' w) cs q.silent
        ∙ on base k d ms p w (stands-still w.here w.buffer q.at q.buffer stands) at₀ (seen-on w refl q.first n)

    -- the next frame of the message at hand: another of its frames is read, or it is shown
    module _ (on : Shows (before + 1) (suc seen) at cs) (l : seen < length (cuttings 0 all)) (base k d : ℕ) (m : Sent) (ms : List Sent)
        (p : Place limit room all seen (suc (length at)) base k d (m ∷ ms)) (v : View) (at₀ : List ℕ) (n : Seen before k v at₀) where
      abbrev w : View
      w = left limit side v s

      abbrev line : ℕ
      line = v.lines + 1

      step-shows : ((rest : List ℕ) → w.here.first ≡ get_or (at₀ ++ line ∷ rest) 0 0) → Stepped side room (base % 16) m ms k (turn limit side v s) w.buffer
          → shows limit side asked own other (event_of (turn limit side v s).fate) (open' w) cs ≡ as_sent (whole_in d (m ∷ ms)) (at₀ ++ line ∷ at)
      unfolding as_sent
      step-shows first (goes_on e stands) =
          let c = n.counted in
          silent-shows (event_of (turn limit side v s).fate) (open' w) cs e
          ∙ on base (k + 1) d (m ∷ ms) (place-on l p) w stands (at₀ ++ (line ∷ []))
          (record { lines = ap (λ (x : ℕ). x + 1) n.lines; counted = simp length-append (omega arith); first = λ z. first [] })
          ∙ ap (as_sent (whole_in d (m ∷ ms))) (append_snoc at₀ line at)
      step-shows first (is_whole e f bytes stands) =
          let a = p.at in
          let z = p.ends in
          let c = n.counted in
          let enough : count m ≤ d = omega arith in
          let i = line_at at₀ line at (count m) (omega arith) in
          ap₂ (λ (x y : List Shown). x ++ y)
          (ap (λ (x : Fate). shown_of side (entry_of (event_of x) (open' w))) f
          ∙ shown-own side (length m.message) 0 w.here.first asked own other w
          ∙ as_plain m (first at) (sym i.0) bytes)
          (on (base + count m) 0 (d - count m) ms (place-next l e enough p) w (subst (λ (x : ℕ). Stands room x ms 0 w.here w.buffer) (mod-add-mod base 16 (count m)) stands)
          [] (record { lines = ap (λ (x : ℕ). x + 1) n.lines; counted = refl; first = λ y. absurd (omega arith) })
          ∙ ap (as_sent (whole_in (d - count m) ms)) (sym i.1))
          ∙ sym (ap (λ (x : List Sent). as_sent x (at₀ ++ line ∷ at)) (one-whole m ms d enough))

    new-shows : seen < length (cuttings 0 all) → s ≡ get_or (cuttings 0 all) seen [] → Shows (before + 1) (suc seen) at cs → Shows before seen ((before + 1) ∷ at) (frame own s ∷ cs)
    new-shows l e on base k d [] p v stands at₀ n = absurd (place_none l p)
    new-shows l e on base k d (m ∷ ms) p v stands at₀ n =
        let same = e ∙ place-frame stands.inside p in
        let f = next-frame limit small side room (base % 16) m ms k v.here (v.lines + 1) s v.buffer (first_fits p.fit) stands same in
        own-told limit side asked own other differ v s cs f.0
        ∙ step-shows on l base k d m ms p v at₀ n
        (λ rest. turn-first limit small side room (base % 16) m ms k v.here (v.lines + 1) s v.buffer (first_fits p.fit) stands same at₀ rest n.counted n.first) f.1
        ∙ ap (λ (x : ℕ). as_sent (whole_in d (m ∷ ms)) (at₀ ++ (x + 1) ∷ at)) n.lines

    -- a frame of the other side
    across-shows : (sorted s).kind ≢ Disconnect → Shows (before + 1) seen at cs → Shows before seen at (frame other s ∷ cs)
    across-shows e on base k d ms p v stands at₀ n =
        let w = round (left limit (opposite side) (round v) s) in
        other-told limit side asked own other differ v s cs e ∙ on base k d ms p w stands at₀ (seen-on w refl refl n)

    -- one on another ID
    elsewhere-shows : (id : ℕ) → id ≢ own → id ≢ other → Shows (before + 1) seen at cs → Shows before seen at (frame id s ∷ cs)
    elsewhere-shows id i j on base k d ms p v stands at₀ n =
        none_told limit side asked own other differ v s cs id i j ∙ on base k d ms p (onward v) stands at₀ (seen-on (onward v) refl refl n)

  -- a copy has another number than the expected one
  again-quiet-here : (seen : ℕ) (s : List ℕ) (j : ℕ) → j < seen → seen ≤ j + 1 + most_between → s ≡ get_or (cuttings 0 all) j []
      → (v : View) → seen ≤ length (cuttings 0 all) → v.here.at.expected ≡ seen % 16 → Quiet limit v.here s v.buffer (turn limit side v s)
  again-quiet-here seen s j l h e v few x =
      let d = cuttings-numbered 0 all j (omega arith) in
      again-quiet limit side v.here (v.lines + 1) v.buffer s (ap (λ (y : List ℕ). (sorted y).kind) e ∙ d.kind) (λ y. omega arith)

  -- the A8
  ends-shows : (before seen id : ℕ) (s : List ℕ) (cs : List Content) → (id ≡ own) ⊎ (id ≡ other) → (sorted s).kind ≡ Disconnect → Shows before seen [] (frame id s ∷ cs)
  ends-shows before seen id s cs (inl i) e base k d ms p v stands at₀ n = rw i (own-over limit side asked own other differ v s cs e ∙ ended p stands (at₀ ++ []))
  ends-shows before seen id s cs (inr i) e base k d ms p v stands at₀ n = rw i (other-over limit side asked own other differ v s cs e ∙ ended p stands (at₀ ++ []))

  none-shows : (before seen : ℕ) → Shows before seen [] []
  unfolding told_of
  none-shows before seen base k d ms p v stands at₀ n = ended p stands (at₀ ++ [])

  -- on the ID of one of the sides
  on-id : (before seen : ℕ) (at : List ℕ) (id : ℕ) (s : List ℕ) (cs : List Content) {x : ℕ} → id ≡ x → Shows before seen at (frame x s ∷ cs) → Shows before seen at (frame id s ∷ cs)
  on-id before seen at id s cs i = subst (λ (x : ℕ). Shows before seen at (frame x s ∷ cs)) (sym i)

  pub carried : {before seen : ℕ} {at : List ℕ} {cs : List Content} → Carries own other (cuttings 0 all) before seen cs at → Shows before seen at cs
  carried {before} {seen} log-ends = none-shows before seen
  carried {before} {seen} (channel-ends {id = id} {s = s} {lines = cs} i e) = ends-shows before seen id s cs i e
  carried {before} {seen} (new {id = id} {s = s} {at = at} {lines = cs} i l e c) = on-id before seen ((before + 1) ∷ at) id s cs i (new-shows before seen at s cs l e (carried c))
  carried {before} {seen} {at} (again {id = id} {s = s} {lines = cs} j i l h e c) =
      on-id before seen at id s cs i (quiet-shows before seen at s cs (again-quiet-here seen s j l h e) (carried c))
  carried {before} {seen} {at} (aside {id = id} {s = s} {lines = cs} i a c) =
      on-id before seen at id s cs i (quiet-shows before seen at s cs (λ v few x. aside-quiet limit side v.here (v.lines + 1) v.buffer s a) (carried c))
  carried {before} {seen} {at} (across {id = id} {s = s} {lines = cs} i e c) = on-id before seen at id s cs i (across-shows before seen at s cs e (carried c))
  carried {before} {seen} {at} (elsewhere {id = id} {s = s} {lines = cs} i j c) = elsewhere-shows before seen at s cs id i j (carried c)
  carried {before} {seen} {at} (none-held {lines = cs} c) =
      λ base k d ms p v stands at₀ n. blank-told limit side asked own other 4 v cs ∙ carried c base k d ms p (onward v) stands at₀ (seen-on (onward v) refl refl n)
