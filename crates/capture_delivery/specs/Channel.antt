-- A channel that opens, and what one side sends on it: what the lines of a log hold.
use Rattle.std.specs.Prelude.{ℕ, suc, ◌+◌, ◌<◌, ◌≤◌, List, [], ◌∷◌, ◌≢◌, ◌⊎◌, ◌≡◌, length, get_or}
use Rattle.telegram.specs.Kinds.{sorted}
use Rattle.telegram.specs.declared.kinds.Parameters.{Parameters}
use Rattle.telegram.specs.declared.kinds.Telegram.{Telegram}
use Rattle.telegram.specs.declared.kinds.Telegram.TheVariants.{Data, Ack, Test, Break, Disconnect, Setup, Accept, Malformed}
use Rattle.opening.specs.Opening.{request_id, request_read, reply_read, Open, NoRequest, Positive}
use Rattle.follow.specs.declared.Side.{Side}
use Rattle.follow.specs.declared.Side.TheVariants.{Tester, Unit as CarUnit}
use Rattle.capture_delivery.specs.Lines.{Content, frame, no-frame}

-- ---- an open channel

-- no data, and neither break nor A8; what is badly formed is among it
abbrev pub Aside : Telegram → Type 0
Aside (Data asks last number) = ⊥
Aside Break = ⊥
Aside Disconnect = ⊥
Aside (Ack ready number) = Unit {0}
Aside Test = Unit {0}
Aside (Setup p) = Unit {0}
Aside (Accept p) = Unit {0}
Aside Malformed = Unit {0}

-- so many frames not seen before may stand between a frame and its copy
abbrev pub most_between : ℕ
most_between = 14

-- lines, behind so many others, that have frames as the data of their own ID, once so many of them are seen, up to the first A8 on this ID or the other one, or to the last line; at has the lines of the frames that were not seen before
pub data Carries (own other : ℕ) (frames : List (List ℕ)) : (before seen : ℕ) → List Content → (at : List ℕ) → Type 0 where
  log-ends : {before seen : ℕ} → Carries own other frames before seen [] []
  -- whatever stands behind an A8
  channel-ends :
      {before seen id : ℕ} {s : List ℕ} {lines : List Content} →
      (id ≡ own) ⊎ (id ≡ other) → (sorted s).kind ≡ Disconnect → Carries own other frames before seen (frame id s ∷ lines) []
  -- each frame once
  new :
      {before seen id : ℕ} {s at : List ℕ} {lines : List Content} →
      id ≡ own → seen < length frames → s ≡ get_or frames seen [] →
      Carries own other frames (before + 1) (suc seen) lines at → Carries own other frames before seen (frame id s ∷ lines) ((before + 1) ∷ at)
  -- and again only where few frames not seen before stand between it and its copy: those from j + 1 on
  again :
      {before seen id : ℕ} {s at : List ℕ} {lines : List Content} (j : ℕ) →
      id ≡ own → j < seen → seen ≤ j + 1 + most_between → s ≡ get_or frames j [] →
      Carries own other frames (before + 1) seen lines at → Carries own other frames before seen (frame id s ∷ lines) at
  -- whatever else is no data on it, and no break
  aside :
      {before seen id : ℕ} {s at : List ℕ} {lines : List Content} →
      id ≡ own → Aside (sorted s).kind →
      Carries own other frames (before + 1) seen lines at → Carries own other frames before seen (frame id s ∷ lines) at
  -- whatever but an A8 on the other ID
  across :
      {before seen id : ℕ} {s at : List ℕ} {lines : List Content} →
      id ≡ other → (sorted s).kind ≢ Disconnect →
      Carries own other frames (before + 1) seen lines at → Carries own other frames before seen (frame id s ∷ lines) at
  -- other IDs
  elsewhere :
      {before seen id : ℕ} {s at : List ℕ} {lines : List Content} →
      id ≢ own → id ≢ other →
      Carries own other frames (before + 1) seen lines at → Carries own other frames before seen (frame id s ∷ lines) at
  -- lines passed over and reported
  none-held :
      {before seen : ℕ} {at : List ℕ} {lines : List Content} →
      Carries own other frames (before + 1) seen lines at → Carries own other frames before seen (no-frame ∷ lines) at

-- ---- its opening

-- what is awaited, and what is known by then: the unit asked and the ID on which the tester receives, from the D0 on also the ID on which it transmits
pub data Awaits : Type 0 where
  C0 : Awaits
  D0 : (unit receive : ℕ) → Awaits
  A0 : (unit receive transmit : ℕ) → Awaits
  A1 : (unit receive transmit : ℕ) → Awaits

-- the block size of an A1 that opens
abbrev pub GoodBlock : ℕ → Type 0
GoodBlock b = (1 ≤ b) × (b ≤ 15)

-- a frame is no C0
abbrev pub NoC0 : (id : ℕ) → (s : List ℕ) → Type 0
NoC0 id s = (id ≢ request_id) ⊎ (request_read s ≡ NoRequest)

-- nor what is awaited
abbrev pub Unawaited : Awaits → (id : ℕ) → (s : List ℕ) → Type 0
Unawaited C0 id s = Unit {0}
Unawaited (D0 unit receive) id s = (id ≢ request_id + unit) ⊎ ((t : ℕ) → t ≢ receive → reply_read s receive ≢ Positive t)
Unawaited (A0 unit receive transmit) id s = (id ≢ transmit) ⊎ ((p : Parameters) → (sorted s).kind ≢ Setup p)
Unawaited (A1 unit receive transmit) id s = (id ≢ receive) ⊎ ((p : Parameters) → GoodBlock p.block → (sorted s).kind ≢ Accept p)

-- the ID on which a side sends
abbrev pub own_id : Side → (receive transmit : ℕ) → ℕ
own_id Tester receive transmit = transmit
own_id CarUnit receive transmit = receive

-- the other side
abbrev pub opposite : Side → Side
opposite Tester = CarUnit
opposite CarUnit = Tester

-- lines that open a channel, "C0, its D0 naming two different IDs, A0 and A1 seen in this order, a new C0 before the A1 starting over", and then carry frames of a side; so many lines stand before
pub data Sends (side : Side) (frames : List (List ℕ)) : (before : ℕ) → Awaits → List Content → (at : List ℕ) → Type 0 where
  -- a C0, whatever is awaited
  asks :
      {w : Awaits} {before id unit receive : ℕ} {s at : List ℕ} {lines : List Content} →
      id ≡ request_id → request_read s ≡ Open unit receive →
      Sends side frames (before + 1) (D0 unit receive) lines at → Sends side frames before w (frame id s ∷ lines) at
  -- its D0
  grants :
      {before id unit receive transmit : ℕ} {s at : List ℕ} {lines : List Content} →
      id ≡ request_id + unit → reply_read s receive ≡ Positive transmit → transmit ≢ receive →
      Sends side frames (before + 1) (A0 unit receive transmit) lines at → Sends side frames before (D0 unit receive) (frame id s ∷ lines) at
  -- the A0
  sets-up :
      {before id unit receive transmit : ℕ} {p : Parameters} {s at : List ℕ} {lines : List Content} →
      id ≡ transmit → (sorted s).kind ≡ Setup p →
      Sends side frames (before + 1) (A1 unit receive transmit) lines at → Sends side frames before (A0 unit receive transmit) (frame id s ∷ lines) at
  -- the A1: behind it each side's numbers count from 0
  accepts :
      {before id unit receive transmit : ℕ} {p : Parameters} {s at : List ℕ} {lines : List Content} →
      id ≡ receive → (sorted s).kind ≡ Accept p → GoodBlock p.block →
      Carries (own_id side receive transmit) (own_id (opposite side) receive transmit) frames (before + 1) 0 lines at →
      Sends side frames before (A1 unit receive transmit) (frame id s ∷ lines) at
  -- whatever else comes before
  passes :
      {w : Awaits} {before id : ℕ} {s at : List ℕ} {lines : List Content} →
      NoC0 id s → Unawaited w id s →
      Sends side frames (before + 1) w lines at → Sends side frames before w (frame id s ∷ lines) at
  -- lines passed over and reported
  none-held :
      {w : Awaits} {before : ℕ} {at : List ℕ} {lines : List Content} →
      Sends side frames (before + 1) w lines at → Sends side frames before w (no-frame ∷ lines) at
