-- A list of calls on two lawful ends is a list of moves of the direction from the near end to the far one; and so, turned round, of the other.
use Prim.Native.Nat.{ℕ}
use mathlib.Core.Bool.{Bool, true, false}
use mathlib.Core.List.{List, [], ◌∷◌, ◌++◌}
use mathlib.Core.Path.{◌≡◌, refl, sym, ap, subst, ◌∙◌}
use Rattle.channel.specs.Opened.{test_due}
use Rattle.delivery.specs.End.{End}
use Rattle.delivery.specs.Line.{Line}
use Rattle.delivery.specs.System.{Party, Flying, ShownMessage, System, Act, Call, turned, act, step, run}
use Rattle.delivery.specs.System.Side.{near, far}
use Rattle.delivery.specs.System.Call.{at}
use Rattle.delivery.specs.Claim.{Within}
use Rattle.delivery.specs.Laws.{TwoEnds}
use Rattle.delivery.proofs.Core.{Direction, Move, move, moved}
use Rattle.delivery.proofs.Invariant.{Kept}
use Rattle.delivery.proofs.Moves.{move-keeps}
use Rattle.delivery.proofs.Delivers.{moved-within, delivers}
use Rattle.delivery.proofs.Directions.{between, Fits, held_in, Room, Counts, Moves, Acted}
use Rattle.delivery.proofs.Acts.{act-moves}

-- which call led to the move of the direction from the near end to the far one: its sending part, or at the far end its receiving part
pub data Caused (n f : Line) (forward backward : List Flying) : Call → Move → (near_live far_live : Bool) → Type 0 where
  here : {a : Act} {out incoming : Move} {live : Bool} → Moves n backward a out incoming live → Caused n f forward backward (at near a) out live f.live
  there : {a : Act} {out incoming : Move} {live : Bool} → Moves f forward a out incoming live → Caused n f forward backward (at far a) incoming n.live live

module _ {N F : End} where
  -- the direction from the near end to the far one, by their channels
  abbrev pub forth_of : Line → Line → System N F → Direction
  forth_of n f s = between n f s.far.buffer s.forward s.backward s.forth

-- systems of these two ends
abbrev pub SystemOf : TwoEnds → Type 0
SystemOf two = System two.near two.far

module _ (two : TwoEnds) (r t : ℕ) where
  -- a system whose ends are tied to two channels; r is the near end's receive ID, and t the far one's
  pub record Seen (n f : Line) (s : SystemOf two) : Type 0 where
    pub near' : two.NearTied r t s.near.state n
    pub far' : two.FarTied t r s.far.state f
    pub forward : Fits two.carried t s.forward
    pub backward : Fits two.carried r s.backward

  -- what a call leaves
  pub record Stepped (n f : Line) (c : Call) (s u : SystemOf two) : Type 0 where
    pub near' : Line
    pub far' : Line
    pub seen : Seen near' far' u
    pub moves : Move
    pub forth : forth_of near' far' u ≡ move two.limit (forth_of n f s) moves
    pub caused : Caused n f s.forward s.backward c moves near'.live far'.live
    pub counts :
        Room f.channel.receiver s.far.buffer → Room far'.channel.receiver u.far.buffer
        → Counts s.forth f.channel.receiver s.far.buffer → Counts u.forth far'.channel.receiver u.far.buffer
    pub untested-near : (n.live ≡ true → test_due n.channel ≡ false) → n.channel.tests.wait ≡ 0 → near'.channel.tests.wait ≡ 0
    pub untested-far : (f.live ≡ true → test_due f.channel ≡ false) → f.channel.tests.wait ≡ 0 → far'.channel.tests.wait ≡ 0

  -- at the near end
  unfoldable pub near-steps : (n f : Line) (a : Act) (s u : SystemOf two) → Seen n f s → Acted two.limit two.carried (two.NearTied r t) r t n f a s u → Stepped n f (at near a) s u
  near-steps n f a s u v w =
      record {
        near' = w.line;
        far' = f;
        seen =
            record {
              near' = w.tied;
              far' = subst (λ (p : Party two.far). two.FarTied t r p.state f) (sym w.far') v.far';
              forward = w.forward;
              backward = w.backward;
            };
        moves = w.out;
        forth = ap (λ (p : Party two.far). between w.line f p.buffer u.forward u.backward u.forth) w.far' ∙ w.forth;
        caused = here w.moves;
        counts = λ _ _ c.
            subst (λ (p : Party two.far). Counts u.forth f.channel.receiver p.buffer) (sym w.far')
            (w.complete ∙ c ∙ sym (ap (λ (l : List ShownMessage). l ++ held_in f.channel.receiver s.far.buffer) w.handed_out));
        untested-near = w.untested;
        untested-far = λ _ z. z;
      }

  -- at the far end, which is the near one of the system turned round
  unfoldable pub far-steps : (n f : Line) (a : Act) (s : SystemOf two) (u : System two.far two.near) → Seen n f s → Acted two.limit two.carried (two.FarTied t r) t r f n a (turned s) u → Stepped n f (at far a) s (turned u)
  far-steps n f a s u v w =
      record {
        near' = n;
        far' = w.line;
        seen =
            record {
              near' = subst (λ (p : Party two.near). two.NearTied r t p.state n) (sym w.far') v.near';
              far' = w.tied;
              forward = w.backward;
              backward = w.forward;
            };
        moves = w.incoming;
        forth = w.back;
        caused = there w.moves;
        counts = w.counts;
        untested-near = λ _ z. z;
        untested-far = w.untested;
      }

  -- what a list of calls leaves
  pub record Ran (n f : Line) (s u : SystemOf two) : Type 0 where
    pub near' : Line
    pub far' : Line
    pub seen : Seen near' far' u
    pub moves : List Move
    pub forth : forth_of near' far' u ≡ moved two.limit (forth_of n f s) moves

  -- tied to two channels, with the invariant of the direction, and those complete counted
  pub record Good (room : ℕ) (n f : Line) (s : SystemOf two) : Type 0 where
    pub seen : Seen n f s
    pub kept : Kept two.limit room (forth_of n f s)
    pub counts : Counts s.forth f.channel.receiver s.far.buffer

  unfoldable pub step-moves : (n f : Line) (c : Call) (s : SystemOf two) → Seen n f s → Stepped n f c s (step s c)
  step-moves n f (at near a) s v = near-steps n f a s (act s a) v (act-moves two.limit two.carried two.near two.far two.NearTied two.near_laws r t s n f a v.near' v.forward v.backward)
  step-moves n f (at far a) s v = far-steps n f a s (act (turned s) a) v (act-moves two.limit two.carried two.far two.near two.FarTied two.far_laws t r (turned s) f n a v.far' v.backward v.forward)

  unfoldable pub run-moves : (cs : List Call) (n f : Line) (s : SystemOf two) → Seen n f s → Ran n f s (run s cs)
  run-moves [] n f s v = record { near' = n; far' = f; seen = v; moves = []; forth = refl }
  run-moves (c ∷ cs) n f s v =
      let a = step-moves n f c s v in
      let b = run-moves cs a.near' a.far' (step s c) a.seen in
      record {
        near' = b.near';
        far' = b.far';
        seen = b.seen;
        moves = a.moves ∷ b.moves;
        forth = b.forth ∙ ap (λ (d : Direction). moved two.limit d b.moves) a.forth;
      }

  -- ---- the invariant, and those complete

  -- a message that waits has room
  pub waits-fit : (room : ℕ) (n f : Line) (s : SystemOf two) → Kept two.limit room (forth_of n f s) → Within room s.forth.accepted
      → Room f.channel.receiver s.far.buffer
  waits-fit room n f s k w some = ((delivers two.limit room two.small (forth_of n f s) k w).waits some).0.fits

  -- the messages accepted so far are within the room, if those accepted in the end are
  pub within-before : (room : ℕ) (cs : List Call) (n f : Line) (s : SystemOf two) → Seen n f s → Within room (run s cs).forth.accepted → Within room s.forth.accepted
  within-before room cs n f s v w =
      let a = run-moves cs n f s v in
      moved-within two.limit room a.moves (forth_of n f s) (subst (λ (d : Direction). Within room d.history.accepted) a.forth w)

  pub step-good : (room : ℕ) (n f : Line) (c : Call) (s : SystemOf two) (g : Good room n f s) → Within room s.forth.accepted
      → Within room (step s c).forth.accepted → (let a = step-moves n f c s g.seen in Good room a.near' a.far' (step s c))
  step-good room n f c s g w w' =
      let a = step-moves n f c s g.seen in
      let k = subst (Kept two.limit room) (sym a.forth) (move-keeps two.small w g.kept a.moves) in
      record {
        seen = a.seen;
        kept = k;
        counts =
            a.counts (waits-fit room n f s g.kept w) (waits-fit room a.near' a.far' (step s c) k w') g.counts;
      }

  pub run-good : (room : ℕ) (cs : List Call) (n f : Line) (s : SystemOf two) (g : Good room n f s) → Within room (run s cs).forth.accepted
      → (let a = run-moves cs n f s g.seen in Good room a.near' a.far' (run s cs))
  unfolding run-moves step-good
  run-good room [] n f s g w = g
  run-good room (c ∷ cs) n f s g w =
      let a = step-moves n f c s g.seen in
      let w' = within-before room cs a.near' a.far' (step s c) a.seen w in
      run-good room cs a.near' a.far' (step s c) (step-good room n f c s g (within-before room (c ∷ cs) n f s g.seen w) w') w
