-- Every record that calls can lead to, from a closed one on, and what holds of it. `reachable` of proofs/Reachable.antt proves it.
use Rattle.std.specs.Prelude.{ℕ, ◌+◌, ◌*◌, ◌/◌, ◌%◌, ◌^◌, ◌<◌, ◌≤◌, true, false, List, [], ◌∷◌, ◌≢◌, ◌⊎◌, ◌≡◌, eqb, length, if◌then◌else◌}
use Rattle.std.specs.Option.{is_some}
use Rattle.open_end.specs.OpenEnd.{given_frame}
use Rattle.telegram.specs.Outgoing.{bytes_of}
use Rattle.telegram.specs.Forms.{Bytes}
use Rattle.telegram.specs.declared.cutting.Message.{Message}
use Rattle.profile.specs.Profile.{tp20, drive, comfort, high, low}
use Rattle.profile.specs.Forms.{Within}
use Rattle.profile.specs.declared.Profile.{Profile}
use Rattle.settings.specs.Settings.{used}
use Rattle.settings.specs.declared.Settings.{Settings}
use Rattle.sender.specs.declared.Terms.{Terms}
use Rattle.sender.specs.declared.Sender.{Sender}
use Rattle.sender.specs.Sending.{frame_due}
use Rattle.receiver.specs.declared.Standing.{Standing}
use Rattle.receiver.specs.declared.Receiver.{Receiver}
use Rattle.channel.specs.declared.Parameters.{Parameters}
use Rattle.channel.specs.declared.Tests.{Tests}
use Rattle.channel.specs.Opened.{test_due}
use Rattle.connection.specs.declared.Connection.{Connection}
use Rattle.open_end.specs.declared.answers.Due.{Due}
use Rattle.connection.specs.Record.{closed_record}
use Rattle.connection.specs.Calls.{opening_as, arrived, elapsed, due_of, sent_by, taken_by, closed}

-- ---- lists of calls

-- open in a profile, with settings (open alone is in TP 2.0); a frame arrives, lent a buffer of so many bytes; time has passed; what is due, lent a message; a message of so many bytes to send; take, lent a buffer; close
pub data Call : Type 0 where
  opens : Profile → Settings → Call
  comes : (id : ℕ) → (bytes : List ℕ) → (room : ℕ) → Call
  passes : (tenths : ℕ) → Call
  asks : (message : List ℕ) → Call
  sends : (size : ℕ) → Call
  takes : (room : ℕ) → Call
  closes : Call

-- the IDs that a profile names have eleven bits; those of the five profiles do
pub record ElevenBits (p : Profile) : Type 0 where
  pub request : p.request < 0x800
  pub receives : p.receives.most < 0x800
  pub transmits : p.transmits.most < 0x800

-- a frame that arrives is of bytes, and an opening's IDs have eleven bits
abbrev pub OfBytes : Call → Type 0
OfBytes (opens p s) = ElevenBits p
OfBytes (comes id s room) = Bytes s
OfBytes (passes n) = Unit {0}
OfBytes (asks m) = Unit {0}
OfBytes (sends n) = Unit {0}
OfBytes (takes room) = Unit {0}
OfBytes closes = Unit {0}

abbrev pub AllOfBytes : List Call → Type 0
AllOfBytes [] = Unit {0}
AllOfBytes (x ∷ xs) = OfBytes x × AllOfBytes xs

-- the record that a call leaves
abbrev pub step : (limit : ℕ) → Connection → Call → Connection
step limit c (opens p s) = (opening_as c p s).left
step limit c (comes id s room) = (arrived limit c id s room).left
step limit c (passes n) = (elapsed c n).left
step limit c (asks m) = (due_of c m).left
step limit c (sends n) = (sent_by limit c n).left
step limit c (takes room) = (taken_by c room).left
step limit c closes = (closed c).left

-- what an opening handed over since the last open answered 0: how many C0s and A0s, and the repeats that its settings allow
pub record Tally : Type 0 where
  pub most : ℕ
  pub requests : ℕ
  pub setups : ℕ

-- a frame handed over is a C0 while the D0 is awaited, and an A0 while the A1 is
abbrev pub counted : (phase : ℕ) → Tally → Tally
counted phase t =
    if eqb phase 1 then record { most = t.most; requests = t.requests + 1; setups = t.setups }
    else if eqb phase 2 then record { most = t.most; requests = t.requests; setups = t.setups + 1 }
    else t

-- the tally that a call leaves
abbrev pub tallied : Connection → Tally → Call → Tally
tallied c t (opens p s) = if eqb (opening_as c p s).told.said.number 0 then record { most = s.mntc; requests = 0; setups = 0 } else t
tallied c t (comes id s room) = t
tallied c t (passes n) = t
tallied c t (asks m) = if is_some (due_of c m).frame then counted c.phase t else t
tallied c t (sends n) = t
tallied c t (takes room) = t
tallied c t closes = t

-- a record, and its tally
pub record Reached : Type 0 where
  pub connection : Connection
  pub tally : Tally

abbrev pub next : (limit : ℕ) → Reached → Call → Reached
next limit r x = record { connection = step limit r.connection x; tally = tallied r.connection r.tally x }

-- a list of calls, one after the other
abbrev pub run : (limit : ℕ) → Reached → List Call → Reached
run limit r [] = r
run limit r (x ∷ xs) = run limit (next limit r x) xs

-- "A closed connection .. can be had without any input"
abbrev pub start : Reached
start = record { connection = closed_record; tally = record { most = 0; requests = 0; setups = 0 } }

-- ---- bounds

-- IDs have eleven bits, and the opening's repeats stay within MNTC
pub record Bounded (c : Connection) : Type 0 where
  pub phase : c.phase ≤ 3
  pub transmit : c.end.transmit < 0x800
  pub receive : c.end.receive < 0x800
  pub repeats : c.attempt.repeats ≤ c.settings.mntc
  -- from the D0 on, the receive ID is that of the settings
  pub own : 2 ≤ c.phase → c.end.receive ≡ c.settings.receive
  -- and both IDs lie in the profile's ranges
  pub ranges : 2 ≤ c.phase → Within c.profile.receives c.end.receive × Within c.profile.transmits c.end.transmit

-- what is agreed on an open connection: block size 1 to 15, T1 and T_WAIT not 0
pub record Agreed (t : Terms) : Type 0 where
  pub least : 1 ≤ t.block
  pub most : t.block ≤ 15
  pub t1 : 1 ≤ t.t1
  pub t_wait : 1 ≤ t.t_wait

-- and what the settings of its opening say, as far as they are made use of, to the end: the block size is at most theirs, and T3 alone is the peer's
pub record Ours (s : Settings) (p : Parameters) : Type 0 where
  pub block : p.terms.block ≤ s.block
  pub t1 : p.terms.t1 ≡ s.t1 % 64 * 10 ^ (s.t1 / 64)
  pub repeats : p.terms.repeats ≡ s.mntb
  pub t_wait : p.terms.t_wait ≡ s.t_wait
  pub interval : p.interval ≡ s.t_ct
  pub allowed : p.allowed ≡ s.mnct
  pub own : p.own ≡ record { block = s.block; t1 = s.t1; t3 = s.t3 }

-- the sending half
pub record Sends (limit : ℕ) (t : Terms) (s : Sender) : Type 0 where
  -- row 6: no message is over the limit
  pub message : s.length ≤ limit
  pub acked-next : s.acked ≤ s.next
  pub next-high : s.next ≤ s.high
  -- no frame beyond the message: its bytes and the two length bytes, in sevens
  pub within : 7 * s.high < s.length + 9
  -- at most a block is out
  pub window : s.high ≤ s.acked + t.block
  -- and none behind the end of the block that the oldest unacknowledged frame lies in
  pub block-end : s.high ≤ t.block * (s.acked / t.block + 1)
  -- "if the count would exceed the allowed repeats, the connection is lost"
  pub count : s.count ≤ t.repeats
  pub number : s.oldest < 16
  -- without a message nothing is out, and no wait runs
  pub idle : s.length ≡ 0 → (s.high ≡ 0) × (s.wait ≡ 0)
  -- while no wait runs, the next frame lies in the message and in that block
  pub inside : 0 < s.length → s.wait ≡ 0 → (7 * s.next < s.length + 2) × (s.next < t.block * (s.acked / t.block + 1))
  -- a wait runs only behind a frame with AR: the last of a block, or of the message
  pub asked : 0 < s.wait → (s.next % t.block ≡ 0) ⊎ (s.length + 2 ≤ 7 * s.next)

-- a message begun or complete is within the limit, its flags are 0 to 15, and where there is none they are 0
pub record Declared (limit : ℕ) (m : Message) : Type 0 where
  pub within : m.length ≤ limit
  pub flags : m.flags < 16
  pub none : m.length ≡ 0 → m.flags ≡ 0

-- where the receiving half stands: numbers have four bits, and a message begun has bytes still to come
pub record Stands (limit : ℕ) (x : Standing) : Type 0 where
  pub expected : x.expected < 16
  pub begun : Declared limit x.begun
  pub empty : x.begun.length ≡ 0 → x.fill ≡ 0
  pub short : 0 < x.begun.length → x.fill < x.begun.length
  -- while frames are thrown away no message is begun
  pub thrown : x.discarding ≡ true → x.begun.length ≡ 0

-- so where a break returns to, with the number of a due Ack and the message that waits
pub record Receives (limit : ℕ) (r : Receiver) : Type 0 where
  pub at : Stands limit r.at
  pub back : Stands limit r.back
  pub ack : r.ack.number < 16
  pub complete : Declared limit r.complete

-- the tests: within their allowance; a repeat is kept only for a test that is out, and one that is out waits or has its repeat kept
pub record Tested (allowed : ℕ) (t : Tests) : Type 0 where
  pub unanswered : t.unanswered ≤ allowed
  pub again : t.again ≡ true → t.out ≡ true
  pub waits : t.out ≡ true → (0 < t.wait) ⊎ (t.again ≡ true)

-- ---- never stuck: what stands open has a timer running, or a due call hands a frame over

pub record Awake (c : Connection) : Type 0 where
  -- a request of an opening: T_E runs, or it goes out
  pub opening : (m : List ℕ) → (c.phase ≡ 1) ⊎ (c.phase ≡ 2) → c.attempt.wait ≡ 0 → is_some (due_of c m).frame ≡ true
  -- a message in sending: T3, a wait or a hold runs, or a frame goes out
  pub sending : (m : List ℕ) → (let s = c.end.channel.sender in
      0 < s.length → length m ≡ s.length → s.gap ≡ 0 → s.wait ≡ 0 → s.hold ≡ 0 → is_some (due_of c m).frame ≡ true)
  -- and where nothing else goes before it, that frame is data: the message's next frame is due
  pub frame : (let s = c.end.channel.sender in 0 < s.length → s.gap ≡ 0 → s.wait ≡ 0 → s.hold ≡ 0 → frame_due s ≡ true)
  -- a test that is out: its wait runs, or, with no data unacknowledged, a frame goes out
  pub testing : (m : List ℕ) → (let s = c.end.channel.sender in
      c.end.channel.tests.out ≡ true → c.end.channel.tests.wait ≡ 0 → s.acked ≡ s.high → is_some (due_of c m).frame ≡ true)
  -- our A1 and an Ack that are due
  pub answering : (m : List ℕ) → (c.end.channel.accept ≡ true) ⊎ (c.end.channel.receiver.ack.due ≡ true) → is_some (due_of c m).frame ≡ true
  -- the A8 of a closed record
  pub leaving : (m : List ℕ) → c.leaving ≡ true → is_some (due_of c m).frame ≡ true

-- ---- what is handed over

-- a frame on the ID of the profile's C0 (0x200 in TP 2.0) or the transmit ID, of eleven bits, with 1 to 8 bytes
pub record Framed (c : Connection) (d : Due Connection) : Type 0 where
  pub on : ((given_frame d.frame).id ≡ c.profile.request) ⊎ ((given_frame d.frame).id ≡ c.end.transmit)
  pub id : (given_frame d.frame).id < 0x800
  pub some : 1 ≤ (given_frame d.frame).payload.len
  pub most : (given_frame d.frame).payload.len ≤ 8

-- "test interval .., 0 means no tests", and a profile may have none (02, 10): none is out or due, and no A3 is handed over
pub record Untested (c : Connection) : Type 0 where
  pub out : c.end.channel.tests.out ≡ false
  pub again : c.end.channel.tests.again ≡ false
  pub due : test_due c.end.channel ≡ false
  pub none : (m : List ℕ) → bytes_of (given_frame (due_of c m).frame).payload ≢ 0xA3 ∷ []

-- "at most 11 sends at the default": each request of an opening goes out at most MNTC + 1 times
pub record Few (t : Tally) : Type 0 where
  pub requests : t.requests ≤ t.most + 1
  pub setups : t.setups ≤ t.most + 1

-- ---- all of it

pub record Holds (limit : ℕ) (r : Reached) : Type 0 where
  pub bounded : Bounded r.connection
  pub agreed : r.connection.phase ≡ 3 → Agreed r.connection.end.channel.parameters.terms
  pub ours : r.connection.phase ≡ 3 → Ours (used r.connection.profile r.connection.settings) r.connection.end.channel.parameters
  pub sends : Sends limit r.connection.end.channel.parameters.terms r.connection.end.channel.sender
  pub receives : Receives limit r.connection.end.channel.receiver
  -- so a take, which "reports the four flags with the message" (02, request 1), reports 0 to 15
  pub reports : (room : ℕ) → (taken_by r.connection room).flags < 16
  pub tested : Tested r.connection.end.channel.parameters.allowed r.connection.end.channel.tests
  pub awake : Awake r.connection
  pub framed : (m : List ℕ) → is_some (due_of r.connection m).frame ≡ true → Framed r.connection (due_of r.connection m)
  pub untested : (r.connection.profile.tests ≡ false) ⊎ (r.connection.settings.t_ct ≡ 0) → Untested r.connection
  pub few : Few r.tally
  -- from the open on, the tally is that of the settings given
  pub own : 1 ≤ r.connection.phase → r.tally.most ≡ r.connection.settings.mntc

-- for every list of calls whose frames are of bytes and whose profiles name IDs of eleven bits, and every limit on lengths
abbrev pub ReachableHolds : Type 0
ReachableHolds = (limit : ℕ) (calls : List Call) → AllOfBytes calls → Holds limit (run limit start calls)

-- the five profiles do
pub record ProfilesFit : Type 0 where
  pub tp20-fits : ElevenBits tp20
  pub drive-fits : ElevenBits drive
  pub comfort-fits : ElevenBits comfort
  pub high_fits : ElevenBits high
  pub low_fits : ElevenBits low
