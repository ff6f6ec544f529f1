-- A bare channel is a lawful end: demand 3 and 02, 14 for two channels.
use Prim.Native.Nat.{ℕ, ◌≤◌}
use mathlib.Core.Bool.{Bool, true, false, false≢true}
use mathlib.Core.List.{List}
use mathlib.Core.Path.{◌≡◌, refl, subst}
use Rattle.channel.specs.declared.Channel.{Channel}
use Rattle.delivery.specs.Line.{Line, channel_end, line_send, line_take, line_time, line_due, line_arrive}
use Rattle.delivery.specs.Claim.{Demand3Holds}
use Rattle.delivery.specs.BothWays.{BothWaysHolds}
use Rattle.delivery.specs.Laws.{Tells, Shows, Hands, Carried, Lawful, TwoEnds}
use Rattle.delivery.proofs.DueKinds.{due-carried}
use Rattle.delivery.proofs.BothWays.{both_ways}
use Rattle.delivery.proofs.Demand3.{demand3}

-- tied to itself, with no IDs
pub data Itself : (receive transmit : ℕ) → Line → Line → Type 0 where
  itself : {l : Line} → Itself 0 0 l l

due-hands : {r t : ℕ} {x l : Line} → Itself r t x l → (m : List ℕ) → Hands Carried t (Itself r t) (line_due x m) (line_due l m)
due-hands {l = l} itself m = go l.channel l.live
  where
    go : (c : Channel) (live : Bool) → Hands Carried 0 (Itself 0 0) (line_due (record { channel = c; live = live }) m) (line_due (record { channel = c; live = live }) m)
    go c true = record { given = refl; id = λ _. refl; bytes = λ _. refl; kind = due-carried c m; tied = itself }
    go c false = record { given = refl; id = λ _. refl; bytes = λ _. refl; kind = λ e. absurd (false≢true e); tied = itself }

module _ (limit : ℕ) where
  send-tells : {r t : ℕ} {x l : Line} → Itself r t x l → (n : ℕ) → Tells (Itself r t) (line_send limit x n) (line_send limit l n)
  send-tells itself n = record { number = refl; done = refl; tied = itself }

  arrive-tells : {r t : ℕ} {x l : Line} → Itself r t x l → (bytes : List ℕ) (room : ℕ) → Tells (Itself r t) (line_arrive limit x bytes room) (line_arrive limit l bytes room)
  arrive-tells itself bytes room = record { number = refl; done = refl; tied = itself }

take-shows : {r t : ℕ} {x l : Line} → Itself r t x l → (room : ℕ) → Shows (Itself r t) (line_take x room) (line_take l room)
take-shows itself room = record { number = refl; message = refl; tied = itself }

time-tells : {r t : ℕ} {x l : Line} → Itself r t x l → (n : ℕ) → Tells (Itself r t) (line_time x n) (line_time l n)
time-tells itself n = record { number = refl; done = refl; tied = itself }

same : {r t : ℕ} {x l : Line} → Itself r t x l → x ≡ l
same itself = refl

pub channel-lawful : (limit : ℕ) → Lawful limit Carried (channel_end limit) Itself
channel-lawful limit =
    record {
      kinds = λ k. k;
      begins = λ p f. subst (λ (v : Bool). Itself 0 0 p.state (record { channel = p.state.channel; live = v })) f.open' itself;
      opens = λ e. rw (same e);
      views = λ e _. rw (same e);
      sends = send-tells limit;
      takes = take-shows;
      times = time-tells;
      hands = due-hands;
      arrives = λ e bytes k. arrive-tells limit e bytes;
      buffers = λ e bytes k buffer. rw (same e);
    }

-- two channels
abbrev pub two_channels : (limit : ℕ) → limit ≤ 4095 → TwoEnds
two_channels limit small =
    record {
      limit = limit;
      small = small;
      carried = Carried;
      near = channel_end limit;
      far = channel_end limit;
      NearTied = Itself;
      FarTied = Itself;
      near_laws = channel-lawful limit;
      far_laws = channel-lawful limit;
    }

pub channels-demand3 : (limit : ℕ) → limit ≤ 4095 → Demand3Holds (channel_end limit) (channel_end limit)
channels-demand3 limit small = demand3 (two_channels limit small)

pub channels-both-ways : (limit : ℕ) → limit ≤ 4095 → BothWaysHolds (channel_end limit) (channel_end limit)
channels-both-ways limit small = both_ways (two_channels limit small)
