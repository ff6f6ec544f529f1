-- 01, "Telegrams on an open connection": what a telegram that arrives does to a channel.
use Rattle.std.specs.Prelude.{ℕ, true, not, List, length, eqb, if◌then◌else◌}
use Rattle.telegram.specs.Kinds.{bad_block}
use Rattle.telegram.specs.declared.kinds.Parameters.{Parameters as Fields}
use Rattle.telegram.specs.declared.kinds.Telegram.{Telegram}
use Rattle.telegram.specs.declared.kinds.Telegram.TheVariants.{Data, Ack, Test, Break, Disconnect, Setup, Accept, Malformed}
use Rattle.sender.specs.Sending.{heard}
use Rattle.sender.specs.declared.Hearing.{Hearing}
use Rattle.sender.specs.declared.Hearing.TheVariants.{Part, Done as LastAcknowledged, Held, Nothing, UsedUp as NotReadyTooOften, NoAck}
use Rattle.receiver.specs.Receiving.{received, buffered, returned}
use Rattle.receiver.specs.declared.Receipt.{Receipt}
use Rattle.receiver.specs.declared.Receipt.TheVariants.{Used, Complete, ThrownAway, OutOfPlace, Untaken, ShortFirst, ShortLater, Broken as BrokenBy, NoData}
use Rattle.channel.specs.declared.Channel.{Channel}
use Rattle.channel.specs.declared.Answer.{Answer}
use Rattle.channel.specs.declared.Answer.TheVariants.{Good, Done, Disconnected, Malformed as BadForm, BlockSize, NotDue, Busy, ShortBuffer, UsedUp, Broken, NoChange}
use Rattle.channel.specs.declared.Answered.{Answered}
use Rattle.channel.specs.Numbers.{said}
use Rattle.channel.specs.Opened.{with_sender, with_receiver, with_tests, with_accept, none_out, restarted}

-- the answer to data: 0, or row 12, 5, 7 or 9
abbrev pub data_answer : Receipt → Answer
data_answer Used = Good
data_answer Complete = Good
data_answer ThrownAway = Good
data_answer (OutOfPlace e) = NoChange
data_answer Untaken = Busy
data_answer ShortFirst = ShortBuffer
data_answer ShortLater = ShortBuffer
data_answer (BrokenBy c) = Broken c
data_answer NoData = NotDue

-- the answer to an Ack: 0, row 12 where it changes nothing, or row 8
abbrev pub ack_answer : Hearing → Answer
ack_answer Part = Good
ack_answer LastAcknowledged = Done
ack_answer Held = Good
ack_answer Nothing = NoChange
ack_answer NotReadyTooOften = UsedUp
ack_answer NoAck = NotDue

-- an arrival: a frame answered 0 starts the interval again
unfoldable pub answered : Answer → Channel → Answered
answered a c = if eqb (said a).number 0 then record { answer = a; channel = restarted c } else record { answer = a; channel = c }

-- data: what the receiving half makes of it
unfoldable pub on_data : (limit : ℕ) → Channel → Telegram → (p : List ℕ) → (room : ℕ) → Answered
on_data limit c t p room =
    (let r = received limit c.receiver t p room in answered (data_answer r.note) (with_receiver c r.receiver))

-- an Ack: what the sending half makes of it
unfoldable pub on_ack : Channel → Telegram → Answered
on_ack c t = (let h = heard c.parameters.terms c.sender t in answered (ack_answer h.note) (with_sender c h.sender))

-- a test makes our A1 due
abbrev pub on_test : Channel → Answered
on_test c = answered Good (with_accept c true)

-- a break takes the receiving half back
abbrev pub on_break : Channel → Answered
on_break c = answered Good (with_receiver c (returned c.receiver))

-- an A1 answers a test that is out: 4 with none out, then 2 for its block size byte; else no test is out or due, and the unanswered count is 0
unfoldable pub on_accept : Channel → Fields → Answered
on_accept c p =
    if not c.tests.out then answered NotDue c
    else if bad_block p.block then answered BlockSize c
    else answered Good (with_tests c (none_out c.tests.interval))

-- a sorted telegram with the bytes p behind its first, lent a buffer of room bytes; every A0 gives 4, and what is badly formed 1
unfoldable pub arrived : (limit : ℕ) → Channel → Telegram → (p : List ℕ) → (room : ℕ) → Answered
arrived limit c (Data asks last number) p room = on_data limit c (Data asks last number) p room
arrived limit c (Ack ready number) p room = on_ack c (Ack ready number)
arrived limit c Test p room = on_test c
arrived limit c Break p room = on_break c
arrived limit c Disconnect p room = answered Disconnected c
arrived limit c (Setup s) p room = answered NotDue c
arrived limit c (Accept s) p room = on_accept c s
arrived limit c Malformed p room = answered BadForm c

-- the lent buffer after it: what the receiving half does to it
abbrev pub buffered_by : (limit : ℕ) → Channel → Telegram → (p b : List ℕ) → List ℕ
buffered_by limit c t p b = buffered c.receiver (received limit c.receiver t p (length b)).note p b
