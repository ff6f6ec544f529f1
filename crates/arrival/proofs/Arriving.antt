-- What an arrival leaves: each kind of telegram with its outcomes, and what led to each. The laws go by these cases.
use Rattle.std.specs.Prelude.{if◌then◌else◌}
use Prim.Native.Nat.{ℕ}
use mathlib.Core.Bool.{Bool, true, false}
use mathlib.Core.List.{List}
use mathlib.Core.Logic.{◌≢◌}
use mathlib.Core.Path.{◌≡◌, refl, ap}
use lib.Dec.{eqb}
use lib.ListN.{length}
use borrow.Author.Tests.{ne_eqb}
use Rattle.laws.proofs.Cases.{by, by-not}
use Rattle.telegram.specs.Kinds.{bad_block}
use Rattle.telegram.specs.declared.kinds.Parameters.{Parameters as Fields}
use Rattle.telegram.specs.declared.kinds.Telegram.{Telegram}
use Rattle.telegram.specs.declared.kinds.Telegram.TheVariants.{Data, Ack, Test, Break, Disconnect, Setup, Accept, Malformed}
use Rattle.sender.specs.Sending.{heard}
use Rattle.sender.specs.declared.Sender.{Sender}
use Rattle.sender.specs.declared.Heard.{Heard}
use Rattle.sender.specs.declared.Hearing.{Hearing}
use Rattle.sender.specs.declared.Hearing.TheVariants.{Part, Done as LastAcknowledged, Held, Nothing, UsedUp as NotReadyTooOften, NoAck}
use Rattle.sender.proofs.Acks.{heard-ack, on_ack-used_up, on_ack-gives-up}
use Rattle.receiver.specs.Receiving.{received, returned}
use Rattle.receiver.specs.declared.Receipt.{Receipt}
use Rattle.receiver.specs.declared.Receipt.TheVariants.{Used, Complete, ThrownAway, OutOfPlace, Untaken, ShortFirst, ShortLater, Broken as BrokenBy, NoData}
use Rattle.receiver.specs.declared.Received.{Received}
use Rattle.receiver.proofs.Laws.{NotData, received-other, buffered-unused}
use Rattle.channel.specs.declared.Answer.{Answer}
use Rattle.channel.specs.declared.Answer.TheVariants.{Good, Disconnected, Malformed as BadForm, BlockSize, NotDue}
use Rattle.channel.specs.declared.Channel.{Channel}
use Rattle.channel.specs.declared.Answered.{Answered}
use Rattle.channel.specs.Numbers.{said, closes}
use Rattle.channel.specs.Opened.{with_sender, with_receiver, with_tests, with_accept, none_out}
use Rattle.channel.proofs.Closing.{Settles, gives_up, goes_on}
use Rattle.arrival.specs.Arrived.{data_answer, ack_answer, answered, on_data, on_ack, on_accept, arrived, buffered_by}

-- ---- the interval

-- the interval that an answer leaves: whole where its number is 0, else what was left of it
abbrev pub interval_after : Answer → Channel → ℕ
interval_after a c = if eqb (said a).number 0 then c.parameters.interval else c.tests.interval

-- an answer, and a channel with that interval
abbrev pub answers : Answer → Channel → Answered
answers a c =
    (let t = c.tests in
    record {
      answer = a;
      channel = with_tests c (record { out = t.out; again = t.again; wait = t.wait; unanswered = t.unanswered; interval = interval_after a c });
    })

answered-is : (a : Answer) (c : Channel) → answered a c ≡ answers a c
unfolding answered
answered-is a c = by (λ x. x ≡ answers a c) (eqb (said a).number 0) (λ e. rw e) (λ e. rw e)

-- ---- each kind of telegram

-- what a telegram leaves: data by what the receiving half makes of it, an Ack by what the sending half does
pub data ArrivalOutcome (c : Channel) (r : Received) (h : Heard) : Telegram → Answered → Type 0 where
  data-came : {asks last : Bool} {number : ℕ} → ArrivalOutcome c r h (Data asks last number) (answers (data_answer r.note) (with_receiver c r.receiver))
  ack-came : {ready : Bool} {number : ℕ} → ArrivalOutcome c r h (Ack ready number) (answers (ack_answer h.note) (with_sender c h.sender))
  test-came : ArrivalOutcome c r h Test (answers Good (with_accept c true))
  break-came : ArrivalOutcome c r h Break (answers Good (with_receiver c (returned c.receiver)))
  disconnect-came : ArrivalOutcome c r h Disconnect (answers Disconnected c)
  setup-came : {s : Fields} → ArrivalOutcome c r h (Setup s) (answers NotDue c)
  accept-undue : {s : Fields} → c.tests.out ≡ false → ArrivalOutcome c r h (Accept s) (answers NotDue c)
  accept-bad : {s : Fields} → c.tests.out ≡ true → bad_block s.block ≡ true → ArrivalOutcome c r h (Accept s) (answers BlockSize c)
  accept-came : {s : Fields} → c.tests.out ≡ true → bad_block s.block ≡ false
      → ArrivalOutcome c r h (Accept s) (answers Good (with_tests c (none_out c.tests.interval)))
  malformed-came : ArrivalOutcome c r h Malformed (answers BadForm c)

module _ (limit : ℕ) (c : Channel) (p : List ℕ) (room : ℕ) where
  pub arrival-outcome : (t : Telegram)
      → ArrivalOutcome c (received limit c.receiver t p room) (heard c.parameters.terms c.sender t) t (arrived limit c t p room)
  unfolding arrived on_data on_ack on_accept
  arrival-outcome (Data asks last number) = rw answered-is data-came
  arrival-outcome (Ack ready number) = rw answered-is ack-came
  arrival-outcome Test = rw answered-is test-came
  arrival-outcome Break = rw answered-is break-came
  arrival-outcome Disconnect = rw answered-is disconnect-came
  arrival-outcome (Setup s) = rw answered-is setup-came
  arrival-outcome (Accept s) =
      by-not P c.tests.out (λ o. rw answered-is (accept-undue o)) λ o.
      by P (bad_block s.block) (λ b. rw answered-is (accept-bad o b)) λ b. rw answered-is (accept-came o b)
    where
      P : Answered → Type 0
      P = ArrivalOutcome c (received limit c.receiver (Accept s) p room) (heard c.parameters.terms c.sender (Accept s)) (Accept s)
  arrival-outcome Malformed = rw answered-is malformed-came

  pub arrived-data : (asks last : Bool) (number : ℕ) → (let r = received limit c.receiver (Data asks last number) p room in
      arrived limit c (Data asks last number) p room ≡ answers (data_answer r.note) (with_receiver c r.receiver))
  arrived-data asks last number = go (arrival-outcome (Data asks last number))
    where
      go : {r : Received} {h : Heard} {x : Answered} → ArrivalOutcome c r h (Data asks last number) x → x ≡ answers (data_answer r.note) (with_receiver c r.receiver)
      go data-came = refl

  pub arrived-ack : (ready : Bool) (number : ℕ) → (let h = heard c.parameters.terms c.sender (Ack ready number) in
      arrived limit c (Ack ready number) p room ≡ answers (ack_answer h.note) (with_sender c h.sender))
  arrived-ack ready number = go (arrival-outcome (Ack ready number))
    where
      go : {r : Received} {h : Heard} {x : Answered} → ArrivalOutcome c r h (Ack ready number) x → x ≡ answers (ack_answer h.note) (with_sender c h.sender)
      go ack-came = refl

-- none but data is written
pub unwritten : (limit : ℕ) (c : Channel) (t : Telegram) (p b : List ℕ) → NotData t → buffered_by limit c t p b ≡ b
unwritten limit c t p b n = rw (received-other limit c.receiver p (length b) t n) (buffered-unused c.receiver NoData p b refl)

-- ---- one half's part is that half's alone

-- an arrival is answered so, and leaves that channel but for the interval
pub record Leaves (a : Answer) (c : Channel) (x : Answered) : Type 0 where
  pub answer : x.answer ≡ a
  pub parameters : x.channel.parameters ≡ c.parameters
  pub sender : x.channel.sender ≡ c.sender
  pub receiver : x.channel.receiver ≡ c.receiver
  pub accept : x.channel.accept ≡ c.accept
  pub out : x.channel.tests.out ≡ c.tests.out
  pub again : x.channel.tests.again ≡ c.tests.again
  pub wait : x.channel.tests.wait ≡ c.tests.wait
  pub unanswered : x.channel.tests.unanswered ≡ c.tests.unanswered

answers-leaves : (a : Answer) (c : Channel) → Leaves a c (answers a c)
answers-leaves a c =
    record { answer = refl; parameters = refl; sender = refl; receiver = refl; accept = refl; out = refl; again = refl; wait = refl; unanswered = refl }

module _ (limit : ℕ) (c : Channel) (p : List ℕ) (room : ℕ) where
  -- data: answer and receiving half are those that the receiving half gives by itself, and the rest stays
  pub data-leaves : (asks last : Bool) (number : ℕ) → (let r = received limit c.receiver (Data asks last number) p room in
      Leaves (data_answer r.note) (with_receiver c r.receiver) (arrived limit c (Data asks last number) p room))
  data-leaves asks last number = rw (arrived-data limit c p room asks last number) (answers-leaves _ _)

  -- an Ack: the same of the sending half
  pub ack-leaves : (ready : Bool) (number : ℕ) → (let h = heard c.parameters.terms c.sender (Ack ready number) in
      Leaves (ack_answer h.note) (with_sender c h.sender) (arrived limit c (Ack ready number) p room))
  ack-leaves ready number = rw (arrived-ack limit c p room ready number) (answers-leaves _ _)

  -- so data changes no sender
  pub data-sender : (asks last : Bool) (number : ℕ) → (arrived limit c (Data asks last number) p room).channel.sender ≡ c.sender
  data-sender asks last number = (data-leaves asks last number).sender

  -- nor an Ack a receiver
  pub ack-receiver : (ready : Bool) (number : ℕ) → (arrived limit c (Ack ready number) p room).channel.receiver ≡ c.receiver
  ack-receiver ready number = (ack-leaves ready number).receiver

-- ---- the interval restarts exactly where the answer's number is 0

-- the interval after an arrival: whole where the answer's number is 0, else what was left of it
pub record Interval (x : Answered) (whole before : ℕ) : Type 0 where
  pub good : (said x.answer).number ≡ 0 → x.channel.tests.interval ≡ whole
  pub refused : (said x.answer).number ≢ 0 → x.channel.tests.interval ≡ before

abbrev pub Restarts : Channel → Answered → Type 0
Restarts c x = Interval x c.parameters.interval c.tests.interval

answers-restarts : (a : Answer) (c : Channel) → Restarts c (answers a c)
answers-restarts a c = record { good = λ e. rw e; refused = λ n. rw (ne_eqb (said a).number 0 n) }

-- the interval restarts at an arrival answered 0, and at no other
pub arrived-restarts : (limit : ℕ) (c : Channel) (p : List ℕ) (room : ℕ) (t : Telegram) → Restarts c (arrived limit c t p room)
arrived-restarts limit c p room t = go (arrival-outcome limit c p room t)
  where
    go : {r : Received} {h : Heard} {t : Telegram} {x : Answered} → ArrivalOutcome c r h t x → Restarts c x
    go data-came = answers-restarts _ _
    go ack-came = answers-restarts _ _
    go test-came = answers-restarts _ _
    go break-came = answers-restarts _ _
    go disconnect-came = answers-restarts _ _
    go setup-came = answers-restarts _ _
    go (accept-undue o) = answers-restarts _ _
    go (accept-bad o b) = answers-restarts _ _
    go (accept-came o b) = answers-restarts _ _
    go malformed-came = answers-restarts _ _

-- ---- what an arrival closes

-- data closes nothing
pub data-goes-on : (n : Receipt) → closes (data_answer n) ≡ false
data-goes-on Used = refl
data-goes-on Complete = refl
data-goes-on ThrownAway = refl
data-goes-on (OutOfPlace e) = refl
data-goes-on Untaken = refl
data-goes-on ShortFirst = refl
data-goes-on ShortLater = refl
data-goes-on (BrokenBy c) = refl
data-goes-on NoData = refl

-- an Ack closes with 8 alone, which leaves the sending half as it was
ack_answer-settles : (c : Channel) (n : Hearing) (s : Sender) → (n ≡ NotReadyTooOften → s ≡ c.sender)
    → Settles c (ack_answer n) (answers (ack_answer n) (with_sender c s)).channel
ack_answer-settles c Part s kept = goes_on c _ _ refl
ack_answer-settles c LastAcknowledged s kept = goes_on c _ _ refl
ack_answer-settles c Held s kept = goes_on c _ _ refl
ack_answer-settles c Nothing s kept = goes_on c _ _ refl
ack_answer-settles c NotReadyTooOften s kept = rw (kept refl) (gives_up c)
ack_answer-settles c NoAck s kept = goes_on c _ _ refl

module _ (limit : ℕ) (c : Channel) (p : List ℕ) (room : ℕ) where
  abbrev pub ArrivalSettles : Telegram → Type 0
  ArrivalSettles t = Settles c (arrived limit c t p room).answer (arrived limit c t p room).channel

  pub arrived-data-settles : (asks last : Bool) (number : ℕ) → ArrivalSettles (Data asks last number)
  arrived-data-settles asks last number = rw (arrived-data limit c p room asks last number) (goes_on c _ _ (data-goes-on (received limit c.receiver (Data asks last number) p room).note))

  pub arrived-ack-settles : (ready : Bool) (number : ℕ) → ArrivalSettles (Ack ready number)
  arrived-ack-settles ready number =
      rw (arrived-ack limit c p room ready number, heard-ack c.parameters.terms c.sender ready number)
      (ack_answer-settles c _ _ λ e.
      let u = (on_ack-used_up c.parameters.terms c.sender ready number).0 e in
      ap (λ (h : Heard). h.sender) (on_ack-gives-up c.parameters.terms c.sender ready number u.0 u.1))

  -- every arrival but a disconnect closes with 8 alone
  pub arrived-settles : (t : Telegram) → t ≢ Disconnect → ArrivalSettles t
  unfolding arrived on_accept
  arrived-settles (Data asks last number) other = arrived-data-settles asks last number
  arrived-settles (Ack ready number) other = arrived-ack-settles ready number
  arrived-settles Test other = rw answered-is (goes_on c _ _ refl)
  arrived-settles Break other = rw answered-is (goes_on c _ _ refl)
  arrived-settles Disconnect other = absurd (other refl)
  arrived-settles (Setup s) other = rw answered-is (goes_on c _ _ refl)
  arrived-settles (Accept s) other =
      by-not P c.tests.out (λ _. rw answered-is (goes_on c _ _ refl)) λ _.
      by P (bad_block s.block) (λ _. rw answered-is (goes_on c _ _ refl)) λ _. rw answered-is (goes_on c _ _ refl)
    where
      P : Answered → Type 0
      P x = Settles c x.answer x.channel
  arrived-settles Malformed other = rw answered-is (goes_on c _ _ refl)
