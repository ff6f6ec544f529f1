-- A record around an open end is a lawful end: open, its calls are those of that end, and keep what is asked of its channel; closed by 8, it refuses them.
use Rattle.std.specs.Prelude.{if◌then◌else◌}
use Prim.Native.Nat.{ℕ, ◌≤◌}
use mathlib.Core.Bool.{Bool, true, false, not, ◌||◌, false≢true}
use mathlib.Core.List.{List, []}
use mathlib.Core.Path.{◌≡◌, refl, subst, sym, ap, ◌∙◌}
use lib.Dec.{eqb}
use lib.ListN.{drop}
use Rattle.std.specs.Option.{is_some}
use Rattle.open_end.specs.OpenEnd.{given_frame}
use Rattle.open_end.proofs.Rules.{frame_on-some, frame_on-id, frame_on-payload}
use Rattle.telegram.specs.Outgoing.{bytes_of}
use Rattle.telegram.specs.Cutting.{none}
use Rattle.telegram.specs.Kinds.{sorted}
use Rattle.telegram.specs.declared.kinds.Telegram.{Telegram}
use Rattle.receiver.specs.Receiving.{took, Taking, Shown, NoneComplete, ShortBuffer}
use Rattle.channel.specs.declared.Channel.{Channel}
use Rattle.channel.specs.declared.Answer.{Answer}
use Rattle.channel.specs.declared.Answer.TheVariants.{Good, NotDue}
use Rattle.channel.specs.Numbers.{said}
use Rattle.channel.proofs.Closing.{Settles}
use Rattle.channel.proofs.Passing.{elapsed-settles, sent-goes-on}
use Rattle.telegram.specs.declared.payload.Payload.{Payload}
use Rattle.channel.specs.Opened.{due}
use Rattle.channel.proofs.Handing.{due-goes-on}
use Rattle.arrival.proofs.Arriving.{arrived-settles}
use Rattle.open_end.specs.declared.OpenEnd.{OpenEnd}
use Rattle.open_end.specs.declared.Course.{Course}
use Rattle.open_end.specs.declared.Course.TheVariants.{GoesOn, GivenUp}
use Rattle.open_end.specs.OpenEnd.{with_channel, course_of, sent_at, take_answer, taken_at, elapsed_at, due_at, arrived_at, buffered_at}
use Rattle.delivery.specs.End.{Told, End}
use Rattle.delivery.specs.Line.{Line, line_after, line_send, take_number, line_take, line_time, line_due, line_arrive, line_buffered}
use Rattle.delivery.specs.System.{Party}
use Rattle.delivery.specs.Claim.{channel_of, FreshEnd}
use Rattle.delivery.specs.Laws.{Tells, Shows, Hands, Carried, Lawful, TwoEnds}
use Rattle.connection_delivery.proofs.Keeps.{Keeps}

-- what an answer of an open channel tells, and the state that is left
abbrev pub tells : {State : Type 0} → Answer → State → Told State
tells a x = record { number = (said a).number; done = (said a).done; state = x }

-- a closed state that refuses each call and stays as it is, a frame on this ID too; time is good, and nothing is due
pub record Refuses (E : End) (receive : ℕ) (x : E.State) : Type 0 where
  pub shut : E.open' x ≡ false
  pub sends : (n : ℕ) → E.send x n ≡ tells NotDue x
  pub takes : (room : ℕ) → E.take x room ≡ record { number = 4; message = none; state = x }
  pub times : (n : ℕ) → E.time x n ≡ tells Good x
  pub hands : (m : List ℕ) → E.due x m ≡ record { given = false; id = 0; bytes = []; state = x }
  pub arrives : (bytes : List ℕ) (room : ℕ) → E.arrive x receive bytes room ≡ tells NotDue x
  pub buffers : (bytes buffer : List ℕ) → E.buffered x receive bytes buffer ≡ buffer

-- an open state and its channel, with what is kept of it; or a state that refuses, whose channel is forgotten
pub data Tied (Kept : Channel → Type 0) (E : End) : (receive transmit : ℕ) → E.State → Line → Type 0 where
  open' : (x : E.State) → E.open' x ≡ true → Kept (E.channel x) → Tied Kept E (E.receives x) (E.transmits x) x (record { channel = E.channel x; live = true })
  closed : {r t : ℕ} {x : E.State} {ch : Channel} → Refuses E r x → Tied Kept E r t x (record { channel = ch; live = false })

-- what an open state around an open end owes: the end's calls, and what the end's answers leave
pub record Around (limit : ℕ) (carried : Telegram → Type 0) (Kept : Channel → Type 0) (E : End) (x : E.State) : Type 0 where
  pub end : OpenEnd
  -- the state that an answer of the end leaves, by its course
  pub left : Course → OpenEnd → E.State
  pub channel : E.channel x ≡ end.channel
  pub transmits : E.transmits x ≡ end.transmit
  -- it goes on with another channel, or refuses from then on
  pub goes_on : (ch : Channel) → Kept ch → Tied Kept E (E.receives x) (E.transmits x) (left GoesOn (with_channel end ch)) (record { channel = ch; live = true })
  pub gives_up : (e : OpenEnd) → Refuses E (E.receives x) (left GivenUp e)
  -- call by call
  pub sends : (n : ℕ) → E.send x n ≡ (let r = sent_at limit end n in tells r.answer (left GoesOn r.end))
  pub takes : (room : ℕ) → E.take x room ≡ (let t = taken_at end room in record { number = (said t.answer).number; message = t.message; state = left GoesOn t.end })
  pub times : (n : ℕ) → E.time x n ≡ (let r = elapsed_at end n in tells r.answer (left (course_of r.answer) r.end))
  pub hands : (m : List ℕ)
      → E.due x m ≡ (let d = due_at end m in record { given = is_some d.frame; id = (given_frame d.frame).id; bytes = bytes_of (given_frame d.frame).payload; state = left GoesOn d.end })
  pub arrives : (bytes : List ℕ) → carried (sorted bytes).kind → (room : ℕ)
      → E.arrive x (E.receives x) bytes room
      ≡ (let r = arrived_at limit end (sorted bytes).kind bytes room in tells r.answer (left (course_of r.answer) r.end))
  pub buffers : (bytes : List ℕ) → carried (sorted bytes).kind → (buffer : List ℕ) → E.buffered x (E.receives x) bytes buffer ≡ buffered_at limit end (sorted bytes).kind bytes buffer

-- a take's number
take-number : (n : Taking) → (said (take_answer n)).number ≡ take_number n
take-number (Shown m) = refl
take-number NoneComplete = refl
take-number ShortBuffer = refl

module _ (limit : ℕ) {carried : Telegram → Type 0} {Kept : Channel → Type 0} (keeps : Keeps limit carried Kept)
    (E : End) (around : (x : E.State) → E.open' x ≡ true → Around limit carried Kept E x) where
  -- a state with its IDs, and a line
  abbrev Ties : (receive transmit : ℕ) → E.State → Line → Type 0
  Ties = Tied Kept E

  -- tied, it is open exactly while that line is live
  tied-open : {r t : ℕ} {x : E.State} {l : Line} → Ties r t x l → E.open' x ≡ l.live
  tied-open (open' x o k) = o
  tied-open (closed f) = f.shut

  -- and while it is open, its channel is that one
  tied-channel : {r t : ℕ} {x : E.State} {l : Line} → Ties r t x l → l.live ≡ true → E.channel x ≡ l.channel
  tied-channel (open' x o k) e = refl
  tied-channel (closed f) e = absurd (false≢true e)

  -- what an answer other than to a disconnect leaves: 8 closes, and every other goes on
  settles : (x : E.State) (a : Around limit carried Kept E x) (ch : Channel) {old : Channel} {y : Answer} → Settles old y ch → Kept ch
      → Ties (E.receives x) (E.transmits x) (a.left (course_of y) (with_channel a.end ch)) (line_after ch y)
  unfolding course_of
  settles x a ch {y = y} s k = rw s.stays (go (eqb (said y).number 8))
    where
      go : (eight : Bool)
          → Ties (E.receives x) (E.transmits x) (a.left (if eight then GivenUp else GoesOn) (with_channel a.end ch)) (record { channel = ch; live = not (eight || false) })
      go true = closed (a.gives_up _)
      go false = a.goes_on ch k

  -- ---- call by call

  -- a message is offered
  send-tells : {r t : ℕ} {x : E.State} {l : Line} → Ties r t x l → (n : ℕ) → Tells (Ties r t) (E.send x n) (line_send limit l n)
  unfolding sent_at
  send-tells (open' x o k) n =
      let a = around x o in
      let kept = keeps.sends a.end.channel (subst Kept a.channel k) n in
      rw (a.sends n, a.channel, sent-goes-on limit a.end.channel n) (record { number = refl; done = refl; tied = a.goes_on _ kept })
  send-tells (closed f) n = rw (f.sends n) (record { number = refl; done = refl; tied = closed f })

  -- a message is taken
  take-shows : {r t : ℕ} {x : E.State} {l : Line} → Ties r t x l → (room : ℕ) → Shows (Ties r t) (E.take x room) (line_take l room)
  unfolding taken_at
  take-shows (open' x o k) room =
      let a = around x o in
      let kept = keeps.takes a.end.channel (subst Kept a.channel k) room in
      rw (a.takes room, a.channel) (record { number = take-number (took a.end.channel.receiver room).message; message = refl; tied = a.goes_on _ kept })
  take-shows (closed f) room = rw (f.takes room) (record { number = refl; message = refl; tied = closed f })

  -- time passes
  time-tells : {r t : ℕ} {x : E.State} {l : Line} → Ties r t x l → (n : ℕ) → Tells (Ties r t) (E.time x n) (line_time l n)
  unfolding elapsed_at
  time-tells (open' x o k) n =
      let a = around x o in
      let kept = keeps.times a.end.channel (subst Kept a.channel k) n in
      rw (a.times n, a.channel) (record { number = refl; done = refl; tied = settles x a _ (elapsed-settles a.end.channel n) kept })
  time-tells (closed f) n = rw (f.times n) (record { number = refl; done = refl; tied = closed f })

  -- what is due
  due-hands : {r t : ℕ} {x : E.State} {l : Line} → Ties r t x l → (m : List ℕ) → Hands carried t (Ties r t) (E.due x m) (line_due l m)
  unfolding due_at
  due-hands (open' x o k) m =
      let a = around x o in
      let kept = subst Kept a.channel k in
      rw (a.hands m, a.channel, due-goes-on a.end.channel m)
      (record {
        given = frame_on-some a.end.transmit (due a.end.channel m).payload;
        id = λ e. frame_on-id a.end.transmit (due a.end.channel m).payload e ∙ sym a.transmits;
        bytes = λ e. ap bytes_of (frame_on-payload a.end.transmit (due a.end.channel m).payload);
        kind =
            λ e. subst (λ (p : Payload). carried (sorted (bytes_of p)).kind) (sym (frame_on-payload a.end.transmit (due a.end.channel m).payload))
            (keeps.given a.end.channel kept m (sym (frame_on-some a.end.transmit (due a.end.channel m).payload) ∙ e));
        tied = a.goes_on _ (keeps.hands a.end.channel kept m);
      })
  due-hands (closed f) m =
      rw (f.hands m)
      (record { given = refl; id = λ e. absurd (false≢true e); bytes = λ e. absurd (false≢true e); kind = λ e. absurd (false≢true e); tied = closed f })

  -- a frame arrives on the receive ID
  arrive-tells : {r t : ℕ} {x : E.State} {l : Line} → Ties r t x l → (bytes : List ℕ) → carried (sorted bytes).kind → (room : ℕ)
      → Tells (Ties r t) (E.arrive x r bytes room) (line_arrive limit l bytes room)
  unfolding arrived_at
  arrive-tells (open' x o k) bytes c room =
      let a = around x o in
      let s = arrived-settles limit a.end.channel (drop 1 bytes) room (sorted bytes).kind (λ e. subst Carried e (keeps.kinds c)) in
      let kept = keeps.arrives a.end.channel (subst Kept a.channel k) (sorted bytes).kind c (drop 1 bytes) room in
      rw (a.arrives bytes c room, a.channel) (record { number = refl; done = refl; tied = settles x a _ s kept })
  arrive-tells (closed f) bytes c room = rw (f.arrives bytes room) (record { number = refl; done = refl; tied = closed f })

  -- the lent buffer after it
  arrive-buffers : {r t : ℕ} {x : E.State} {l : Line} → Ties r t x l → (bytes : List ℕ) → carried (sorted bytes).kind → (buffer : List ℕ)
      → E.buffered x r bytes buffer ≡ line_buffered limit l bytes buffer
  unfolding buffered_at
  arrive-buffers (open' x o k) bytes c buffer = let a = around x o in rw (a.buffers bytes c buffer, a.channel)
  arrive-buffers (closed f) bytes c buffer = f.buffers bytes buffer

  -- all of them, if a fresh state has what is kept
  pub around-lawful : ((p : Party E) → FreshEnd p → Kept (channel_of p)) → Lawful limit carried E (Tied Kept E)
  around-lawful fresh =
      record {
        kinds = keeps.kinds;
        begins = λ p f. open' p.state f.open' (fresh p f);
        opens = tied-open;
        views = tied-channel;
        sends = send-tells;
        takes = take-shows;
        times = time-tells;
        hands = due-hands;
        arrives = arrive-tells;
        buffers = arrive-buffers;
      }

-- two lawful ends whose links carry the same kinds
abbrev pub two_ends : (limit : ℕ) → limit ≤ 4095 → {carried : Telegram → Type 0} {N F : End}
    {T : (receive transmit : ℕ) → N.State → Line → Type 0} {S : (receive transmit : ℕ) → F.State → Line → Type 0}
    → Lawful limit carried N T → Lawful limit carried F S → TwoEnds
two_ends limit small {carried} {N} {F} {T} {S} near far =
    record { limit = limit; small = small; carried = carried; near = N; far = F; NearTied = T; FarTied = S; near_laws = near; far_laws = far }
