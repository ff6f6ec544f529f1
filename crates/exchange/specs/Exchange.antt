-- 01, "The exchange of source 004" and "Time codes": the exchange as a list of calls, what each does by the very definitions that the contracts of
-- `connection` cite, and what 01 prints. `exchange` of proofs/Exchange.antt proves that the one comes to the other.
use Rattle.std.specs.Prelude.{ℕ, length, take as first_of, replicate, eqb, if◌then◌else◌}
use mathlib.Core.List.{List, [], ◌∷◌, ◌++◌, map, flat_map}
use Rattle.std.specs.declared.option.Option.{Option}
use Rattle.std.specs.declared.option.Option.TheVariants.{None, Some}
use Rattle.telegram.specs.Time.{tenths_of}
use Rattle.telegram.specs.Outgoing.{bytes_of}
use Rattle.telegram.specs.Cutting.{longest}
use Rattle.settings.specs.Settings.{defaults}
use Rattle.settings.specs.declared.Settings.{Settings}
use Rattle.channel.specs.declared.Answer.TheVariants.{Good, Done}
use Rattle.open_end.specs.declared.answers.Answer.TheVariants.{Channel}
use Rattle.open_end.specs.declared.answers.Said.{Said}
use Rattle.open_end.specs.declared.answers.Told.{Told}
use Rattle.open_end.specs.Answers.{said}
use Rattle.open_end.specs.declared.Frame.{Frame}
use Rattle.connection.specs.declared.Connection.{Connection}
use Rattle.open_end.specs.declared.answers.Answered.{Answered}
use Rattle.open_end.specs.declared.answers.Due.{Due}
use Rattle.open_end.specs.declared.answers.TakeStep.{TakeStep}
use Rattle.connection.specs.Record.{closed_record}
use Rattle.connection.specs.Calls.{opening, arrived, buffered, elapsed, due_of, sent_by, taken_by, closed}

-- ---- a list of calls

-- "Calls": open; a CAN frame arrives; time has passed; what is due, the message in sending being lent; send; take; close
pub data Call : Type 0 where
  open_with : Settings → Call
  frame : (id : ℕ) → (bytes : List ℕ) → Call
  time : (tenths : ℕ) → Call
  due : (lent : List ℕ) → Call
  send : (message : List ℕ) → Call
  take : Call
  close : Call

-- what a call says, the line that it puts out, if any, and the record and the lent buffer that it leaves
pub record After : Type 0 where
  pub says : Said
  pub line : List (List ℕ)
  pub connection : Connection
  pub buffer : List ℕ

-- the same, from what a call tells
abbrev pub after : Told → (line : List (List ℕ)) → Connection → (b : List ℕ) → After
after t line c b = record { says = t.said; line = line; connection = c; buffer = b }

-- a call that puts out nothing
abbrev pub silent : Answered Connection → (b : List ℕ) → After
silent r b = after r.told [] r.left b

-- a frame is put out as its ID, then its bytes
abbrev pub frame_line : Option Frame → List (List ℕ)
frame_line None = []
frame_line (Some f) = (f.id ∷ bytes_of f.payload) ∷ []

-- what is due
abbrev pub handed : Due Connection → (b : List ℕ) → After
handed d b = after d.told (frame_line d.frame) d.left b

-- a message taken is put out as its bytes, the first part of the lent buffer
abbrev pub taken : TakeStep Connection → (b : List ℕ) → After
taken t b = after t.told (if eqb t.told.said.number 0 then first_of t.len b ∷ [] else []) t.left b

-- one call, on a record and with a buffer lent
unfoldable pub step : Connection → (b : List ℕ) → Call → After
step c b (open_with s) = silent (opening c s) b
step c b (frame id s) = (let r = arrived longest c id s (length b) in after r.told [] r.left (buffered longest c id s b))
step c b (time n) = silent (elapsed c n) b
step c b (due m) = handed (due_of c m) b
step c b (send m) = silent (sent_by longest c (length m)) b
step c b take = taken (taken_by c (length b)) b
step c b close = silent (closed c) b

-- a list of calls, each on what the one before it left
unfoldable pub run : Connection → (b : List ℕ) → List Call → List After
run c b [] = []
run c b (x ∷ xs) = (let a = step c b x in a ∷ run a.connection a.buffer xs)

-- ---- the exchange

-- the default settings, the block size 15 written out
abbrev pub settings : Settings
settings =
    record {
      receive = defaults.receive;
      unit = defaults.unit;
      block = 15;
      t1 = defaults.t1;
      t3 = defaults.t3;
      t_e = defaults.t_e;
      mntc = defaults.mntc;
      mntb = defaults.mntb;
      t_wait = defaults.t_wait;
      t_ct = defaults.t_ct;
      mnct = defaults.mnct;
    }

-- the first message sent: a session is started
abbrev pub start_session : List ℕ
start_session = 0x10 ∷ 0x89 ∷ []

-- the second: a block of measuring values is read
abbrev pub read_block : List ℕ
read_block = 0x21 ∷ 0x01 ∷ []

-- the calls in the order of the program `replay`, without those that find nothing. The frames are those that 01 says are fed in
abbrev pub calls : List Call
calls =
    open_with settings
    ∷ due []
    ∷ frame 0x201 (0x00 ∷ 0xD0 ∷ 0x00 ∷ 0x03 ∷ 0x40 ∷ 0x07 ∷ 0x01 ∷ [])
    ∷ due []
    ∷ frame 0x300 (0xA1 ∷ 0x0F ∷ 0x8A ∷ 0xFF ∷ 0x4A ∷ 0xFF ∷ [])
    ∷ send start_session
    ∷ due start_session
    ∷ frame 0x300 (0xB1 ∷ [])
    ∷ frame 0x300 (0x10 ∷ 0x00 ∷ 0x02 ∷ 0x50 ∷ 0x89 ∷ [])
    ∷ take
    ∷ due []
    ∷ send read_block
    -- the T3 of the A1, 0x4A, lies between two data frames
    ∷ time 100
    ∷ due read_block
    ∷ frame 0x300 (0xB2 ∷ [])
    ∷ frame 0x300 (0x21 ∷ 0x00 ∷ 0x1A ∷ 0x61 ∷ 0x01 ∷ 0x01 ∷ 0x00 ∷ 0x00 ∷ [])
    ∷ frame 0x300 (0x22 ∷ 0x27 ∷ 0x00 ∷ 0x00 ∷ 0x22 ∷ 0x00 ∷ 0x80 ∷ 0x1A ∷ [])
    ∷ frame 0x300 (0x23 ∷ 0x32 ∷ 0x4B ∷ 0x25 ∷ 0x02 ∷ 0x7A ∷ 0x25 ∷ 0x00 ∷ [])
    ∷ frame 0x300 (0x14 ∷ 0x00 ∷ 0x25 ∷ 0x00 ∷ 0x00 ∷ 0x25 ∷ 0x00 ∷ 0x00 ∷ [])
    ∷ take
    ∷ due []
    ∷ close
    ∷ due []
    ∷ []

-- the exchange run: from the closed record, with a buffer of 1,024 bytes, all zero at the start
unfoldable pub replayed : List After
replayed = run closed_record (replicate 1024 0) calls

-- ---- what comes out, and what 01 prints

-- the lines put out, then each of the time codes with its tenths
unfoldable pub put_out : List (List ℕ)
put_out =
    flat_map (λ (a : After). a.line) replayed
    ++ map (λ code. code ∷ tenths_of code ∷ []) (0x8A ∷ 0x32 ∷ 0x4A ∷ 0x43 ∷ 0x83 ∷ 0xFF ∷ 0x00 ∷ [])

-- 01's lines in its order, a frame as its ID and bytes, a message as its bytes; then "0x8A is 1,000 tenths, 0x32 is 50, .."
abbrev pub printed : List (List ℕ)
printed =
    (0x200 ∷ 0x01 ∷ 0xC0 ∷ 0x00 ∷ 0x10 ∷ 0x00 ∷ 0x03 ∷ 0x01 ∷ [])
    ∷ (0x740 ∷ 0xA0 ∷ 0x0F ∷ 0x8A ∷ 0xFF ∷ 0x32 ∷ 0xFF ∷ [])
    ∷ (0x740 ∷ 0x10 ∷ 0x00 ∷ 0x02 ∷ 0x10 ∷ 0x89 ∷ [])
    ∷ (0x50 ∷ 0x89 ∷ [])
    ∷ (0x740 ∷ 0xB1 ∷ [])
    ∷ (0x740 ∷ 0x11 ∷ 0x00 ∷ 0x02 ∷ 0x21 ∷ 0x01 ∷ [])
    ∷ (0x61 ∷ 0x01 ∷ 0x01 ∷ 0x00 ∷ 0x00 ∷ 0x27 ∷ 0x00 ∷ 0x00 ∷ 0x22 ∷ 0x00 ∷ 0x80 ∷ 0x1A ∷ 0x32
    ∷ 0x4B ∷ 0x25 ∷ 0x02 ∷ 0x7A ∷ 0x25 ∷ 0x00 ∷ 0x00 ∷ 0x25 ∷ 0x00 ∷ 0x00 ∷ 0x25 ∷ 0x00 ∷ 0x00 ∷ [])
    ∷ (0x740 ∷ 0xB5 ∷ [])
    ∷ (0x740 ∷ 0xA8 ∷ [])
    ∷ (0x8A ∷ 1000 ∷ [])
    ∷ (0x32 ∷ 50 ∷ [])
    ∷ (0x4A ∷ 100 ∷ [])
    ∷ (0x43 ∷ 30 ∷ [])
    ∷ (0x83 ∷ 300 ∷ [])
    ∷ (0xFF ∷ 63000 ∷ [])
    ∷ (0x00 ∷ 0 ∷ [])
    ∷ []

-- what each call says
unfoldable pub answers : List Said
answers = map (λ (a : After). a.says) replayed

-- 0 to every call, and done to the eighth and the fifteenth, the Acks B1 and B2
abbrev pub all_good : List Said
all_good = replicate 7 (said (Channel Good)) ++ said (Channel Done) ∷ replicate 6 (said (Channel Good)) ++ said (Channel Done) ∷ replicate 8 (said (Channel Good))
