-- 01, "Telegrams on an open connection": what a channel does as time passes, when a frame is asked for, and when a message is offered.
use Rattle.std.specs.Prelude.{ℕ, ◌+◌, ◌-◌, Bool, true, false, not, ◌&&◌, ◌||◌, List, [], ltb, leb, eqb, if◌then◌else◌}
use Rattle.std.specs.Option.{unwrap_or}
use Rattle.std.specs.declared.option.Option.{Option}
use Rattle.std.specs.declared.option.Option.TheVariants.{None, Some}
use Rattle.telegram.specs.Outgoing.{payload_of}
use Rattle.telegram.specs.Kinds.{ack_of, test_of, accept_of}
use Rattle.telegram.specs.declared.payload.Payload.{Payload}
use Rattle.sender.specs.Sending.{offered, passed, handed, unacknowledged, fresh as fresh_sender, Offer, Accepted, Busy as InSending, BadLength as NotSent}
use Rattle.sender.specs.declared.Sender.{Sender}
use Rattle.sender.specs.declared.Passing.{Passing}
use Rattle.sender.specs.declared.Passing.TheVariants.{Quiet, Again, UsedUp as RanOut}
use Rattle.sender.specs.declared.Handing.{Handing}
use Rattle.sender.specs.declared.Handing.TheVariants.{Frame, Nothing as NoFrame, OtherLength as NotAccepted}
use Rattle.sender.specs.declared.Handed.{Handed}
use Rattle.receiver.specs.Receiving.{ack_handed, fresh as fresh_receiver}
use Rattle.receiver.specs.declared.Receiver.{Receiver}
use Rattle.channel.specs.declared.Parameters.{Parameters}
use Rattle.channel.specs.declared.Tests.{Tests}
use Rattle.channel.specs.declared.Channel.{Channel}
use Rattle.channel.specs.declared.Answer.{Answer}
use Rattle.channel.specs.declared.Answer.TheVariants.{Good, Busy, BadLength, OtherLength, UsedUp}
use Rattle.channel.specs.declared.Answered.{Answered}
use Rattle.channel.specs.declared.Due.{Due}

-- ---- parts of a channel

-- a channel with another sending half
abbrev pub with_sender : Channel → Sender → Channel
with_sender c s = record { parameters = c.parameters; sender = s; receiver = c.receiver; tests = c.tests; accept = c.accept }

-- a channel with another receiving half
abbrev pub with_receiver : Channel → Receiver → Channel
with_receiver c r = record { parameters = c.parameters; sender = c.sender; receiver = r; tests = c.tests; accept = c.accept }

-- a channel with other tests
abbrev pub with_tests : Channel → Tests → Channel
with_tests c t = record { parameters = c.parameters; sender = c.sender; receiver = c.receiver; tests = t; accept = c.accept }

-- a channel whose A1 is due, or not
abbrev pub with_accept : Channel → Bool → Channel
with_accept c a = record { parameters = c.parameters; sender = c.sender; receiver = c.receiver; tests = c.tests; accept = a }

-- no test out or due and none unanswered, with what is left of the interval
abbrev pub none_out : (interval : ℕ) → Tests
none_out interval = record { out = false; again = false; wait = 0; unanswered = 0; interval = interval }

-- what the A1 that opens a channel leaves: nothing received, in sending or due, and the interval from its start
abbrev pub fresh : Parameters → Channel
fresh p = record { parameters = p; sender = fresh_sender; receiver = fresh_receiver; tests = none_out p.interval; accept = false }

-- the interval starts again, by a frame handed over or answered 0
abbrev pub restarted : Channel → Channel
restarted c =
    (let t = c.tests in
    with_tests c (record { out = t.out; again = t.again; wait = t.wait; unanswered = t.unanswered; interval = c.parameters.interval }))

-- ---- time passes

-- a test's wait runs out within n tenths
unfoldable pub wait_ends : Tests → ℕ → Bool
wait_ends t n = not (eqb t.wait 0) && leb t.wait n

-- the tests' timers with n tenths less, each stopping at zero
abbrev pub later : Tests → ℕ → Tests
later t n = record { out = t.out; again = t.again; wait = t.wait - n; unanswered = t.unanswered; interval = t.interval - n }

-- a wait that ran out adds one and makes another test due
abbrev pub tests_ran_out : Tests → ℕ → Tests
tests_ran_out t n = record { out = t.out; again = true; wait = 0; unanswered = t.unanswered + 1; interval = t.interval - n }

-- row 8; the channel is as it was, for the record above to close
abbrev pub used_up : Channel → Answered
used_up c = record { answer = UsedUp; channel = c }

-- the timers ran on
abbrev pub went : Channel → Sender → Tests → Answered
went c s t = record { answer = Good; channel = with_tests (with_sender c s) t }

-- the repeats of the block in sending are used up
abbrev pub repeats_used_up : Passing → Bool
repeats_used_up Quiet = false
repeats_used_up Again = false
repeats_used_up RanOut = true

-- every timer that ends takes effect; 8 where the repeats are used up, or a test's wait runs out once more than is allowed
unfoldable pub elapsed : Channel → ℕ → Answered
elapsed c n =
    (let s = passed c.parameters.terms c.sender n in
    if repeats_used_up s.note then used_up c
    else if not (wait_ends c.tests n) then went c s.sender (later c.tests n)
    else if leb c.parameters.allowed c.tests.unanswered then used_up c
    else went c s.sender (tests_ran_out c.tests n))

-- ---- a frame is asked for

-- the bytes that are given, and none where no telegram is
abbrev pub given_payload : Option Payload → Payload
given_payload o = unwrap_or o (payload_of [])

-- a test goes out with none out after the interval, or again after a wait that ran out; never while data is unacknowledged
unfoldable pub test_due : Channel → Bool
test_due c =
    not (unacknowledged c.sender)
    && (c.tests.again || (not c.tests.out && ltb 0 c.parameters.interval && eqb c.tests.interval 0))

-- a telegram handed over, which starts the interval again
abbrev pub hand_over : Channel → Payload → Due
hand_over c p = record { answer = Good; payload = Some p; channel = restarted c }

-- nothing handed over: nothing is due, or row 7
abbrev pub hand_nothing : Channel → Answer → Due
hand_nothing c a = record { answer = a; payload = None; channel = c }

-- our A1, with the fields of our A0
unfoldable pub hand_accept : Channel → Due
hand_accept c = hand_over (with_accept c false) (accept_of c.parameters.own)

-- a test: it is out, and waits T1
unfoldable pub hand_test : Channel → Due
hand_test c =
    (let t = c.tests in
    let out : Tests = record { out = true; again = false; wait = c.parameters.terms.t1; unanswered = t.unanswered; interval = t.interval } in
    hand_over (with_tests c out) test_of)

-- the due Ack
unfoldable pub hand_ack : Channel → Due
hand_ack c = hand_over (with_receiver c (ack_handed c.receiver)) (ack_of c.receiver.ack.ready c.receiver.ack.number)

-- what the sending half found: data, none due, or row 7, a lent message not of the accepted length
abbrev pub hand_by : Channel → Handed → Handing → Due
hand_by c h (Frame p) = hand_over (with_sender c h.sender) p
hand_by c h NoFrame = hand_nothing c Good
hand_by c h NotAccepted = hand_nothing c OtherLength

-- the data that is due, of the lent message
unfoldable pub hand_data : Channel → List ℕ → Due
hand_data c m = (let h = handed c.parameters.terms c.sender m in hand_by c h h.note)

-- at most one telegram, in the order CA, test, Ack, data
unfoldable pub due : Channel → List ℕ → Due
due c m =
    if c.accept then hand_accept c
    else if test_due c then hand_test c
    else if c.receiver.ack.due then hand_ack c
    else hand_data c m

-- ---- a message is offered

-- the answer to a message offered: 0, or row 5 or 6
abbrev pub offer_answer : Offer → Answer
offer_answer Accepted = Good
offer_answer InSending = Busy
offer_answer NotSent = BadLength

-- a message of n bytes to send
unfoldable pub sent : (limit : ℕ) → Channel → ℕ → Answered
sent limit c n = (let o = offered limit c.sender n in record { answer = offer_answer o.note; channel = with_sender c o.sender })
