-- Each call at the near end of a system does to each direction exactly one move of the core, or nothing; and so, with the system turned round, at the far end.
use Rattle.std.specs.Prelude.{if◌then◌else◌}
use Rattle.std.specs.Result.{result_unwrap_or}
use Prim.Native.Nat.{ℕ}
use native.Mathlib.Omega.{arith}
use mathlib.Core.Bool.{Bool, true, false, true≢false, or-false}
use mathlib.Core.List.{List, [], ◌∷◌, ◌++◌, append-nil}
use mathlib.Core.Path.{◌≡◌, refl, ap, ◌∙◌, sym}
use lib.Dec.{eqb}
use lib.ListN.{length, drop}
use Rattle.laws.proofs.Branches.{on}
use Rattle.std.specs.Option.{is_some}
use Rattle.channel.specs.Opened.{given_payload}
use Rattle.sender.specs.Sending.{is_frame, handed_payload}
use Rattle.telegram.specs.Outgoing.{bytes_of}
use Rattle.telegram.specs.Kinds.{sorted, ack_of, test_of, accept_of}
use Rattle.telegram.specs.declared.kinds.Sorted.{Sorted}
use Rattle.telegram.specs.declared.kinds.Telegram.{Telegram}
use Rattle.telegram.specs.declared.kinds.Telegram.TheVariants.{Data, Test, Accept}
use Rattle.telegram.proofs.RoundTrip.{frame-sorted, frame-carries, test-sorted, accept-sorted}
use Rattle.telegram.specs.Cutting.{none as no_message, frame_at}
use Rattle.telegram.specs.declared.payload.Payload.{Payload}
use Rattle.sender.specs.Sending.{offered, passed, handed, first_number}
use Rattle.sender.proofs.Frames.{handed-exactly, handed-frame}
use Rattle.sender.specs.declared.Offered.{Offered}
use Rattle.sender.specs.declared.Handed.{Handed}
use Rattle.sender.specs.declared.Handing.TheVariants.{Frame}
use Rattle.sender.specs.declared.Sender.{Sender}
use Rattle.sender.specs.declared.Passing.{Passing}
use Rattle.sender.specs.declared.Passing.TheVariants.{Quiet, Again, UsedUp as RanOut}
use Rattle.sender.specs.declared.Passed.{Passed}
use Rattle.sender.proofs.Time.{passed-used_up, passed-gives-up}
use Rattle.receiver.specs.Receiving.{took, ack_handed}
use Rattle.receiver.specs.declared.Took.{Took}
use Rattle.receiver.proofs.Outcomes.{TakeOutcome, none-complete, short-buffer, shows, take-outcome}
use Rattle.channel.specs.declared.Channel.{Channel}
use Rattle.channel.specs.declared.Answer.TheVariants.{Good}
use Rattle.channel.specs.declared.Answered.{Answered}
use Rattle.channel.specs.declared.Due.{Due}
use Rattle.channel.specs.Opened.{repeats_used_up, test_due, with_sender, with_receiver, with_tests, with_accept, hand_over, hand_nothing}
use Rattle.channel.proofs.Passing.{TimeOutcome, time-outcome, SendOutcome, send-outcome}
use Rattle.channel.proofs.Passing.TimeOutcome.{repeats-used-up, runs_on, tests-used-up, test-again}
use Rattle.channel.proofs.Passing.SendOutcome.{message-accepted, in-sending, bad-length}
use Rattle.channel.proofs.Handing.{test_out, DueOutcome, due-outcome}
use Rattle.channel.proofs.Handing.DueOutcome.{accept-goes, test-goes, ack-goes, frame-goes, none-goes, other_length}
use Rattle.delivery.specs.End.{End, Told, Taken, Given}
use Rattle.delivery.specs.Line.{Line, line_after, answers, line_send, line_time, line_take, line_due, take_number}
use Rattle.delivery.specs.System.{Party, Flying, shown_of, History, System, Act, offering, handing, noted, lent, try_of, counted}
use Rattle.delivery.specs.System.Act.{send, take as takes, time, due}
use Rattle.delivery.specs.Laws.{Tells, Shows, Hands}
use Rattle.delivery.proofs.Core.{DataFrame, AckFrame, Direction, Move, with_frames, with_acks, frame_now, pass_answer, offered_to, handed_to, took_to, move}
use Rattle.delivery.proofs.Core.Move.{offer, pass, hand, taken, acknowledge, close_sending, close_receiving, rest}
use Rattle.delivery.proofs.DueKinds.{ack-any}
use Rattle.delivery.proofs.Directions.{data_by, data_of, ack_by, acks_of, cleared, between, Fits, Counts, Moves, Acted, acts, data-more, acks-more, fits_more}
use Rattle.delivery.proofs.Directions.Moves.{nothing, offers, takes_one, passes, repeats-out, tests-out, hands, acks}

-- a channel of an end that is open, or closed
abbrev pub line : Channel → Bool → Line
line c live = record { channel = c; live = live }

-- unless the repeats are used up, time is answered 0
pass-good : (n : Passing) → repeats_used_up n ≡ false → pass_answer n ≡ Good
pass-good Quiet e = refl
pass-good Again e = refl
pass-good RanOut e = absurd (true≢false e)

module _ (limit : ℕ) (carried : Telegram → Type 0) (N F : End) (R : N.State → Line → Type 0) (receive transmit : ℕ)
    (x : N.State) (b : List ℕ) (far : Party F) (nc : Channel) (f : Line) (fw bw : List Flying) (h k : History)
    (forward : Fits carried transmit fw) (backward : Fits carried receive bw) where
  abbrev pub sys : System N F
  sys = record { near = record { state = x; buffer = b }; far = far; forward = fw; backward = bw; forth = h; back = k }

  -- the system with another state at the near end and other histories
  abbrev with-near : N.State → (forth back : History) → System N F
  with-near y h' k' = record { near = record { state = y; buffer = b }; far = far; forward = fw; backward = bw; forth = h'; back = k' }

  -- the directions from it and to it
  abbrev going : Line → History → Direction
  going n h' = between n f far.buffer fw bw h'

  abbrev coming : Line → History → Direction
  coming n k' = between f n b bw fw k'

  -- a call that leaves the links, and what is complete, as they were
  acted-of : {n l : Line} {a : Act} {y : N.State} {h' k' : History} (out incoming : Move) → R y l
      → going l h' ≡ move limit (going n h) out → coming l k' ≡ move limit (coming n k) incoming → Moves n bw a out incoming l.live
      → (Counts k n.channel.receiver b → Counts k' l.channel.receiver b)
      → h'.complete ≡ h.complete → h'.handed_out ≡ h.handed_out
      → ((n.live ≡ true → test_due n.channel ≡ false) → n.channel.tests.wait ≡ 0 → l.channel.tests.wait ≡ 0)
      → Acted limit carried R receive transmit n f a sys (with-near y h' k')
  acted-of {l = l} out incoming tied forth back moves counts =
      acts l out incoming tied refl forward backward forth back moves (λ _ _. counts)

  -- nothing happens
  pub idles : {n : Line} {a : Act} {y : N.State} → R y n → Acted limit carried R receive transmit n f a sys (with-near y h k)
  idles tied = acted-of rest rest tied refl refl nothing (λ c. c) refl refl (λ _ w. w)

  -- ---- send

  pub send-told : (m : List ℕ) (live : Bool) (r : Told N.State) → Tells R r (line_send limit (line nc live) (length m))
      → Acted limit carried R receive transmit (line nc live) f (send m) sys (with-near r.state (offering h m r.number) k)
  send-told m false r e = rw e.number (idles e.tied)
  send-told m true r e = rw e.number (go (send-outcome limit nc (length m)) refl e.tied)
    where
      go : {o : Offered} {y : Answered} → SendOutcome nc o y → offered limit nc.sender (length m) ≡ o → R r.state (line_after y.channel y.answer)
          → Acted limit carried R receive transmit (line nc true) f (send m) sys (with-near r.state (offering h m (answers y.channel y.answer).number) k)
      go message-accepted e t = acted-of (offer m) rest t (sym (ap (offered_to (going (line nc true) h) m) e)) refl offers (λ c. c) refl refl (λ _ w. w)
      go in-sending e t = acted-of (offer m) rest t (sym (ap (offered_to (going (line nc true) h) m) e)) refl offers (λ c. c) refl refl (λ _ w. w)
      go bad-length e t = acted-of (offer m) rest t (sym (ap (offered_to (going (line nc true) h) m) e)) refl offers (λ c. c) refl refl (λ _ w. w)

  -- ---- time

  pub time-told : (n : ℕ) (live : Bool) (r : Told N.State) → Tells R r (line_time (line nc live) n)
      → Acted limit carried R receive transmit (line nc live) f (time n) sys (with-near r.state (noted h r.done r.number) k)
  time-told n false r e = rw (e.number, e.done, or-false h.eight) (idles e.tied)
  time-told n true r e = rw (e.number, e.done) (go used-up-kept (time-outcome nc n) refl e.tied)
    where
      used-up-kept : (passed nc.parameters.terms nc.sender n).note ≡ RanOut → (passed nc.parameters.terms nc.sender n).sender ≡ nc.sender
      used-up-kept e =
          let u = (passed-used_up nc.parameters.terms nc.sender n).0 e in
          ap (λ (g : Passed). g.sender) (passed-gives-up nc.parameters.terms nc.sender n u.0 u.1)

      go : {g : Passed} {y : Answered} → (g.note ≡ RanOut → g.sender ≡ nc.sender) → TimeOutcome nc n g y → passed nc.parameters.terms nc.sender n ≡ g
          → R r.state (line_after y.channel y.answer)
          → Acted limit carried R receive transmit (line nc true) f (time n) sys
          (with-near r.state (noted h (answers y.channel y.answer).done (answers y.channel y.answer).number) k)
      go kept repeats-used-up e t =
          acted-of (pass n) close_receiving t (rw (e, kept refl)) refl (repeats-out (ap (λ (g : Passed). g.note) e)) (λ c. c) refl refl (λ _ w. w)
      go {g} kept (runs_on q w) e t = acted-of (pass n) rest t (rw (e, pass-good g.note q)) refl passes (λ c. c) refl refl (λ _ z. omega (arith, z))
      go kept (tests-used-up q w u) e t = acted-of close_sending close_receiving t refl refl (tests-out w.runs) (λ c. c) refl refl (λ _ z. z)
      go {g} kept (test-again q w u) e t = acted-of (pass n) rest t (rw (e, pass-good g.note q)) refl passes (λ c. c) refl refl (λ _ _. refl)

  -- ---- take

  pub take-told : (live : Bool) (r : Taken N.State) → Shows R r (line_take (line nc live) (length b))
      → Acted limit carried R receive transmit (line nc live) f takes sys
      (with-near r.state h (handing k (if eqb r.number 0 then shown_of r.message b ∷ [] else [])))
  take-told false r e = rw (e.number, append-nil k.handed_out) (idles e.tied)
  take-told true r e = rw (e.number, e.message) (go (take-outcome nc.receiver (length b)) refl e.tied)
    where
      go : {o : Took} → TakeOutcome nc.receiver (length b) o → took nc.receiver (length b) ≡ o
          → R r.state (record { channel = with_receiver nc o.receiver; live = true })
          → Acted limit carried R receive transmit (line nc true) f takes sys
          (with-near r.state h (handing k (if eqb (take_number o.message) 0 then shown_of (result_unwrap_or o.message no_message) b ∷ [] else [])))
      go (none-complete w) e t = acted-of rest taken t refl (sym (ap (took_to (coming (line nc true) k)) e)) takes_one (λ c. rw (append-nil k.handed_out) c) refl refl (λ _ z. z)
      go (short-buffer w s) e t = acted-of rest taken t refl (sym (ap (took_to (coming (line nc true) k)) e)) takes_one (λ c. rw (append-nil k.handed_out) c) refl refl (λ _ z. z)
      go (shows w s) e t = acted-of rest taken t refl (sym (ap (took_to (coming (line nc true) k)) e)) takes_one (λ c. (rw w at c) ∙ sym (append-nil _)) refl refl (λ _ z. z)

  -- ---- what is due

  -- the system with another frame on its way to the far end, or none
  abbrev pub with-given : Channel → Given N.State → System N F
  with-given c r =
      (let kind = (sorted r.bytes).kind in
      record {
        near = record { state = r.state; buffer = b };
        far = far;
        forward = if r.given then fw ++ (record { id = r.id; bytes = r.bytes; try = try_of h k c kind } ∷ []) else fw;
        backward = bw;
        forth = counted h r.given kind (try_of h k c kind);
        back = k;
      })

  -- a frame goes: what it adds to the data frames there, and to the Acks
  given-of : {n l : Line} {y : N.State} {h' : History} (g : Flying) (out incoming : Move) → R y l → g.id ≡ transmit → carried (sorted g.bytes).kind
      → with_frames (going l h') (data_of fw ++ data_by (sorted g.bytes).kind g) (cleared h') ≡ move limit (going n h) out
      → with_acks (coming l k) (acks_of fw ++ ack_by (sorted g.bytes).kind g) (cleared k) ≡ move limit (coming n k) incoming
      → Moves n bw due out incoming l.live
      → (Counts k n.channel.receiver b → Counts k l.channel.receiver b)
      → h'.complete ≡ h.complete → h'.handed_out ≡ h.handed_out
      → ((n.live ≡ true → test_due n.channel ≡ false) → n.channel.tests.wait ≡ 0 → l.channel.tests.wait ≡ 0)
      → Acted limit carried R receive transmit n f due sys
      (record { near = record { state = y; buffer = b }; far = far; forward = fw ++ (g ∷ []); backward = bw; forth = h'; back = k })
  given-of {l = l} {h' = h'} g out incoming tied id kind forth back moves counts =
      acts l out incoming tied refl (fits_more carried transmit fw g forward id kind) backward
      (ap (λ (x : List DataFrame). with_frames (going l h') x (cleared h')) (data-more fw g) ∙ forth)
      (ap (λ (x : List AckFrame). with_acks (coming l k) x (cleared k)) (acks-more fw g) ∙ back)
      moves (λ _ _. counts)

  pub due-none : (c : Channel) (r : Given N.State) → Hands carried transmit R r (line_due (line nc false) (lent h))
      → Acted limit carried R receive transmit (line nc false) f due sys (with-given c r)
  due-none c r e = rw e.given (idles e.tied)

  -- what a channel's due tells
  abbrev due-line : Due → Given Line
  due-line d = record { given = is_some d.payload; id = 0; bytes = bytes_of (given_payload d.payload); state = line_after d.channel d.answer }

  abbrev Gives : Due → Type 0
  Gives d = (r : Given N.State) → Hands carried transmit R r (due-line d) → Acted limit carried R receive transmit (line nc true) f due sys (with-given nc r)

  -- nothing is added to the data frames, or to the Acks
  no-data : with_frames (going (line nc true) h) (data_of fw ++ []) (cleared h) ≡ going (line nc true) h
  no-data = ap (λ (x : List DataFrame). with_frames (going (line nc true) h) x (cleared h)) (append-nil (data_of fw))

  no-acks : with_acks (coming (line nc true) k) (acks_of fw ++ []) (cleared k) ≡ coming (line nc true) k
  no-acks = ap (λ (x : List AckFrame). with_acks (coming (line nc true) k) x (cleared k)) (append-nil (acks_of fw))

  accept-given : Gives (hand_over (with_accept nc false) (accept_of nc.parameters.own))
  accept-given r e =
      let kind : (sorted (bytes_of (accept_of nc.parameters.own))).kind ≡ Accept nc.parameters.own = ap (λ (x : Sorted). x.kind) (accept-sorted nc.parameters.own) in
      rw (e.given, e.bytes e.given)
      (given-of _ rest rest e.tied (e.id e.given) (rw (e.bytes e.given) at (e.kind e.given))
      (rw kind no-data) (rw kind no-acks) nothing (λ c. c) refl refl (λ _ z. z))

  test-given : test_due nc ≡ true → Gives (hand_over (with_tests nc (test_out nc)) test_of)
  test-given t r e =
      let kind : (sorted (bytes_of test_of)).kind ≡ Test = ap (λ (x : Sorted). x.kind) test-sorted in
      rw (e.given, e.bytes e.given)
      (given-of _ rest rest e.tied (e.id e.given) (rw (e.bytes e.given) at (e.kind e.given))
      (rw kind no-data) (rw kind no-acks) nothing (λ c. c) refl refl (λ none _. absurd (true≢false (sym t ∙ none refl))))

  ack-given : nc.receiver.ack.due ≡ true
      → Gives (hand_over (with_receiver nc (ack_handed nc.receiver)) (ack_of nc.receiver.ack.ready nc.receiver.ack.number))
  ack-given q r e =
      let kind = ap (λ (x : Sorted). x.kind) (ack-any nc.receiver.ack.ready nc.receiver.ack.number) in
      rw (e.given, e.bytes e.given)
      (given-of _ rest acknowledge e.tied (e.id e.given) (rw (e.bytes e.given) at (e.kind e.given))
      (rw kind no-data) (rw kind (on _ _ _ _ q refl)) acks (λ c. c) refl refl (λ _ z. z))

  frame-given : {s : Sender} {p : Payload} → handed nc.parameters.terms nc.sender (lent h) ≡ record { note = Frame p; sender = s }
      → Gives (hand_over (with_sender nc s) p)
  frame-given {s} {p} w r e =
      let terms = nc.parameters.terms in
      let first = first_number nc.sender in
      let d = going (line nc true) h in
      let out = (handed-exactly terms nc.sender (lent h)).0 (ap (λ (g : Handed). is_frame g.note) w) in
      let same : p ≡ frame_at (lent h) terms.block first nc.sender.next =
      ap (λ (g : Handed). handed_payload g.note) (sym w ∙ handed-frame terms nc.sender (lent h) out.0 out.1) in
      let kind : (sorted (bytes_of p)).kind ≡ Data (frame_now d).asks (frame_now d).last (frame_now d).number =
      ap (λ (q : Payload). (sorted (bytes_of q)).kind) same
      ∙ ap (λ (x : Sorted). x.kind) (frame-sorted (lent h) terms.block first nc.sender.next (rw out.1 out.0.more)) in
      let bytes : drop 1 (bytes_of p) ≡ (frame_now d).bytes =
      ap (λ (q : Payload). drop 1 (bytes_of q)) same ∙ frame-carries (lent h) terms.block first nc.sender.next in
      rw (e.given, e.bytes e.given)
      (given-of _ hand rest e.tied (e.id e.given) (rw (e.bytes e.given) at (e.kind e.given))
      (rw (kind, bytes) (sym (ap (handed_to d) w))) (rw kind no-acks) hands (λ c. c) refl refl (λ _ z. z))

  -- nothing goes
  none-given : {g : Handed} → handed nc.parameters.terms nc.sender (lent h) ≡ g → handed_to (going (line nc true) h) g ≡ going (line nc true) h → Gives (hand_nothing nc Good)
  none-given w same r e = rw e.given (acted-of hand rest e.tied (sym (ap (handed_to (going (line nc true) h)) w ∙ same)) refl hands (λ c. c) refl refl (λ _ z. z))

  pub due-told : (r : Given N.State) → Hands carried transmit R r (line_due (line nc true) (lent h))
      → Acted limit carried R receive transmit (line nc true) f due sys (with-given nc r)
  due-told r = go (due-outcome nc (lent h)) refl
    where
      go : {g : Handed} {d : Due} → DueOutcome nc g d → handed nc.parameters.terms nc.sender (lent h) ≡ g → Hands carried transmit R r (due-line d)
          → Acted limit carried R receive transmit (line nc true) f due sys (with-given nc r)
      go (accept-goes a) w = accept-given r
      go (test-goes a t) w = test-given t r
      go (ack-goes a t q) w = ack-given q r
      go (frame-goes t) w = frame-given w r
      go (none-goes t) w = none-given w refl r
      go (other_length t) w = none-given w refl r
