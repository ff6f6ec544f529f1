-- What lines show of one side of an open channel, line by line.
--     own-told, other-told, none_told, over-told     a frame on the side's ID, on the other one, on none of the two, and behind an A8
use Rattle.std.specs.Prelude.{if◌then◌else◌}
use Prim.Native.Nat.{ℕ, ◌+◌}
use mathlib.Core.Bool.{Bool, true, false}
use mathlib.Core.List.{List, [], ◌∷◌, ◌++◌}
use mathlib.Core.Logic.{◌≢◌}
use mathlib.Core.Path.{◌≡◌, refl, ap, ◌∙◌}
use lib.ListN.{length, drop}
use Rattle.telegram.specs.Kinds.{sorted}
use Rattle.telegram.specs.declared.cutting.Message.{Message}
use Rattle.telegram.specs.declared.kinds.Telegram.{Telegram}
use Rattle.telegram.specs.declared.kinds.Telegram.TheVariants.{Data, Ack, Test, Break, Disconnect, Setup, Accept, Malformed}
use Rattle.receiver.specs.declared.Receipt.{Receipt}
use Rattle.receiver.specs.declared.Receipt.TheVariants.{Used, Complete, ThrownAway, OutOfPlace, Untaken, ShortFirst, ShortLater, Broken, NoData}
use Rattle.receiver.specs.Receiving.{received}
use Rattle.follow.specs.declared.Side.{Side}
use Rattle.follow.specs.declared.Side.TheVariants.{Tester, Unit}
use Rattle.follow.specs.declared.Reception.{Reception}
use Rattle.follow.specs.declared.Turn.{Turn}
use Rattle.follow.specs.Following.{receiver_of, first_after, fate_of, on_data, on_telegram, turned}
use Rattle.capture.specs.declared.Event.{Event}
use Rattle.capture.specs.declared.Event.TheVariants.{Nothing}
use Rattle.capture.specs.Reading.{State, Told, event_of, next_line, on_frame}
use Rattle.capture.specs.Log.{entry_of}
use Rattle.capture_delivery.specs.Lines.{Content, frame, no-frame}
use Rattle.capture_delivery.specs.Channel.{opposite}
use Rattle.capture_delivery.specs.Claim.{Shown, shown_of}
use Rattle.capture_delivery.proofs.Standing.{View, round, onward, standing, turn, left, own-heard, other-heard, none-heard, over-heard}

-- what an event shows of a side
abbrev pub shown_by : Side → Told → List Shown
shown_by side t = shown_of side (entry_of t.event t.state)

-- what lines show of a side
unfoldable pub told_of : (limit : ℕ) → Side → State → List Content → List Shown
told_of limit side r [] = []
told_of limit side r (frame id s ∷ lines) = shown_by side (on_frame limit r id s) ++ told_of limit side (on_frame limit r id s).state lines
told_of limit side r (no-frame ∷ lines) = told_of limit side (next_line r r.follow r.tester r.unit) lines

pub told-by : (limit : ℕ) (side : Side) (r : State) (id : ℕ) (s : List ℕ) (lines : List Content) {t : Told} → on_frame limit r id s ≡ t
    → told_of limit side r (frame id s ∷ lines) ≡ shown_by side t ++ told_of limit side t.state lines
unfolding told_of
told-by limit side r id s lines e = ap (λ (t : Told). shown_by side t ++ told_of limit side t.state lines) e

-- a frame of the other side shows nothing of this one
opposite-note : (side : Side) (m : Message) (line : ℕ) (note : Receipt) (r : State) → shown_of side (entry_of (event_of (fate_of (opposite side) m line note)) r) ≡ []
unfolding shown_of
opposite-note side m line Used r = refl
opposite-note Tester m line Complete r = refl
opposite-note Unit m line Complete r = refl
opposite-note side m line ThrownAway r = refl
opposite-note side m line (OutOfPlace e) r = refl
opposite-note side m line Untaken r = refl
opposite-note side m line ShortFirst r = refl
opposite-note side m line ShortLater r = refl
opposite-note side m line (Broken c) r = refl
opposite-note side m line NoData r = refl

opposite-kind : (limit : ℕ) (side : Side) (n : Reception) (line : ℕ) (t : Telegram) (p : List ℕ) (room : ℕ) (r : State)
    → shown_of side (entry_of (event_of (on_telegram limit (opposite side) n line t p room).fate) r) ≡ []
unfolding on_telegram on_data shown_of
opposite-kind limit side n line (Data asks last number) p room r =
    let x = received limit (receiver_of n) (Data asks last number) p room in
    opposite-note side x.receiver.complete (first_after n line x.note) x.note r
opposite-kind limit side n line (Ack ready number) p room r = refl
opposite-kind limit side n line Test p room r = refl
opposite-kind limit side n line Break p room r = refl
opposite-kind limit side n line Disconnect p room r = refl
opposite-kind limit side n line (Setup q) p room r = refl
opposite-kind limit side n line (Accept q) p room r = refl
opposite-kind limit side n line Malformed p room r = refl

-- only an A8 ends the channel, and it shows nothing
ends-not : (limit : ℕ) (side : Side) (n : Reception) (line : ℕ) (t : Telegram) (p : List ℕ) (room : ℕ) → t ≢ Disconnect → (on_telegram limit side n line t p room).ends ≡ false
unfolding on_telegram on_data
ends-not limit side n line (Data asks last number) p room d = refl
ends-not limit side n line (Ack ready number) p room d = refl
ends-not limit side n line Test p room d = refl
ends-not limit side n line Break p room d = refl
ends-not limit side n line Disconnect p room d = absurd (d refl)
ends-not limit side n line (Setup q) p room d = refl
ends-not limit side n line (Accept q) p room d = refl
ends-not limit side n line Malformed p room d = refl

record Over (t : Turn) : Type 0 where
  ends : t.ends ≡ true
  silent : event_of t.fate ≡ Nothing

ends-kind : (limit : ℕ) (side : Side) (n : Reception) (line : ℕ) (p : List ℕ) (room : ℕ) → Over (on_telegram limit side n line Disconnect p room)
unfolding on_telegram
ends-kind limit side n line p room = record { ends = refl; silent = refl }

ends_turned : (limit : ℕ) (side : Side) (n : Reception) (line : ℕ) (s : List ℕ) (room : ℕ) → (sorted s).kind ≡ Disconnect → Over (turned limit side n line s room)
ends_turned limit side n line s room e = rw e (ends-kind limit side n line (drop 1 s) room)

-- a line that holds no frame
blank-left : (side : Side) (stage asked own other : ℕ) (v : View)
    → (let r = standing side stage asked own other v in next_line r r.follow r.tester r.unit) ≡ standing side stage asked own other (onward v)
blank-left Tester stage asked own other v = refl
blank-left Unit stage asked own other v = refl

module _ (limit : ℕ) (side : Side) (asked own other : ℕ) where
  abbrev pub at : (stage : ℕ) → View → State
  at stage v = standing side stage asked own other v

  pub blank-told : (stage : ℕ) (v : View) (rest : List Content) → told_of limit side (at stage v) (no-frame ∷ rest) ≡ told_of limit side (at stage (onward v)) rest
  unfolding told_of
  blank-told stage v rest = ap (λ (r : State). told_of limit side r rest) (blank-left side stage asked own other v)

  -- behind the A8 nothing is shown
  over-told : (v : View) (rest : List Content) → told_of limit side (at 5 v) rest ≡ []
  unfolding told_of shown_of
  over-told v [] = refl
  over-told v (frame id s ∷ rest) = told-by limit side (at 5 v) id s rest (over-heard limit asked own other v s side id) ∙ over-told (onward v) rest
  over-told v (no-frame ∷ rest) = blank-told 5 v rest ∙ over-told (onward v) rest

  -- what an event shows, and the lines behind it
  abbrev pub shows : Event → State → List Content → List Shown
  shows e r rest = shown_of side (entry_of e r) ++ told_of limit side r rest

  over-shows : (t : Turn) → Over t → (v : View) (rest : List Content) → shows (event_of t.fate) (at (if t.ends then 5 else 4) v) rest ≡ []
  unfolding shown_of
  over-shows t o v rest = rw (o.ends, o.silent) (over-told v rest)

  module _ (differ : own ≢ other) (v : View) (s : List ℕ) (rest : List Content) where
    pub own-told : (turn limit side v s).ends ≡ false
        → told_of limit side (at 4 v) (frame own s ∷ rest) ≡ shows (event_of (turn limit side v s).fate) (at 4 (left limit side v s)) rest
    own-told e =
        told-by limit side (at 4 v) own s rest (own-heard limit asked own other v s side differ)
        ∙ ap (λ (x : Bool). shows (event_of (turn limit side v s).fate) (at (if x then 5 else 4) (left limit side v s)) rest) e

    pub own-over : (sorted s).kind ≡ Disconnect → told_of limit side (at 4 v) (frame own s ∷ rest) ≡ []
    own-over e =
        told-by limit side (at 4 v) own s rest (own-heard limit asked own other v s side differ)
        ∙ over-shows (turn limit side v s) (ends_turned limit side v.here (v.lines + 1) s (length v.buffer) e) (left limit side v s) rest

    -- a frame of the other side
    abbrev turn' : Turn
    turn' = turn limit (opposite side) (round v) s

    abbrev left' : View
    left' = round (left limit (opposite side) (round v) s)

    pub other-told : (sorted s).kind ≢ Disconnect → told_of limit side (at 4 v) (frame other s ∷ rest) ≡ told_of limit side (at 4 left') rest
    unfolding shown_of
    other-told d =
        told-by limit side (at 4 v) other s rest (other-heard limit asked own other v s side differ)
        ∙ ap (λ (x : Bool). shows (event_of turn'.fate) (at (if x then 5 else 4) left') rest)
        (ends-not limit (opposite side) v.there (v.lines + 1) (sorted s).kind (drop 1 s) (length v.across) d)
        ∙ ap (λ (l : List Shown). l ++ told_of limit side (at 4 left') rest)
        (opposite-kind limit side v.there (v.lines + 1) (sorted s).kind (drop 1 s) (length v.across) _)

    pub other-over : (sorted s).kind ≡ Disconnect → told_of limit side (at 4 v) (frame other s ∷ rest) ≡ []
    other-over e =
        told-by limit side (at 4 v) other s rest (other-heard limit asked own other v s side differ)
        ∙ over-shows turn' (ends_turned limit (opposite side) v.there (v.lines + 1) s (length v.across) e) left' rest

    pub none_told : (id : ℕ) → id ≢ own → id ≢ other → told_of limit side (at 4 v) (frame id s ∷ rest) ≡ told_of limit side (at 4 (onward v)) rest
    unfolding shown_of
    none_told id d e = told-by limit side (at 4 v) id s rest (none-heard limit asked own other v s side id d e)
