-- The rules of a table in other words, as in Rules.antt: who owns an ID, arriving frames, and the calls that name a place.
use Prim.Native.Nat.{ℕ, ◌+◌, ◌≤◌, ◌<◌}
use native.Mathlib.Omega.{arith}
use mathlib.Core.Bool.{true, false, true≢false, false≢true}
use mathlib.Core.List.{List, []}
use lib.ListN.{length, take}
use denote.Ref.{Bor}
use mathlib.Core.Logic.{◌≢◌, ◌⊎◌, inl, inr, ◌↔◌}
use mathlib.Core.Path.{◌≡◌, refl, sym, ◌∙◌, ap}
use borrow.Author.Tests.{eq-eqb, ne_eqb, eqb-true, le-leb, lt-leb}
use Rattle.laws.proofs.Cases.{by, by-not, by_le, by-eq, either}
use Rattle.opening.specs.Opening.{Reply, Positive, Refused, NoReply}
use Rattle.telegram.specs.Kinds.{bad_block}
use Rattle.telegram.specs.declared.kinds.Telegram.{Telegram}
use Rattle.telegram.specs.declared.kinds.Telegram.TheVariants.{Data, Ack, Test, Break, Disconnect, Setup, Accept, Malformed as NoTelegram}
use Rattle.profile.specs.Profile.{sorted_by}
use Rattle.profile.specs.Opening.{reply_for}
use Rattle.channel.specs.declared.Answer.{Answer as ChannelAnswer}
use Rattle.channel.specs.declared.Answer.TheVariants.{Good, Done, Disconnected, Malformed, BlockSize, NotDue, Busy, BadLength, ShortBuffer, OtherLength, UsedUp, Broken, NoChange}
use Rattle.open_end.specs.declared.answers.Answer.TheVariants.{Channel, OtherId}
use Rattle.open_end.specs.Answers.{said}
use Rattle.open_end.specs.OpenEnd.{arrived_at}
use Rattle.open_end.proofs.Rules.{plainly}
use Rattle.connection.specs.declared.Connection.{Connection}
use Rattle.open_end.specs.declared.answers.Answered.{Answered as RecordAnswered, Answered}
use Rattle.open_end.specs.declared.answers.Arrived.{Arrived as RecordArrived}
use Rattle.connection.specs.Record.{is_closed, is_requesting, is_agreeing, listens_on, hears}
use Rattle.connection.specs.Calls.{on_reply, on_accept, on_agreeing, on_open, arrived, buffered, elapsed, due_of, sent_by, taken_by, closed}
use Rattle.table.specs.declared.Table.{Table}
use Rattle.std.specs.Prelude.{Some, None}
use Rattle.table.specs.declared.Arrived.{Arrived}
use Rattle.table.specs.Table.{named, owner_of}
use Rattle.table.specs.Calls.{arrives, buffers, elapses, hands, sends, takes, shows, closes}
use Rattle.table.proofs.Found.{lowest-is, lowest-nowhere, owner-hears, owner-first}
use Rattle.table.proofs.Rules.{record_at, Alone, alone}

-- ---- who owns an ID

-- "the ID it listens on: 0x200 + unit until its D0, then its receive ID; closed, none": 0x200 is TP 2.0's, the one profile that calls bring into a table (Tp20Only of table_runs)
abbrev pub Listens : Connection → (id : ℕ) → Type 0
Listens c id = ((c.phase ≡ 1) × (id ≡ c.profile.reply + c.settings.unit)) ⊎ ((2 ≤ c.phase) × (id ≡ c.end.receive))

-- no place listens on an ID
abbrev pub NoneListens : Table → (id : ℕ) → Type 0
NoneListens t id = (p : ℕ) → p < 8 → Listens (record_at t p) id → ⊥

module _ (c : Connection) (id : ℕ) where
  hears-listens : hears c id ≡ true → Listens c id
  unfolding hears listens_on
  hears-listens e =
      by-eq (λ (_ : ℕ). Listens c id) c.phase 0 {x = 0} {y = 0} (λ z. absurd (false≢true (rw z at e))) λ n₀.
      by-eq (λ (_ : ℕ). Listens c id) c.phase 1 {x = 0} {y = 0}
      (λ one. inl (one, eqb-true _ _ (rw one at e)))
      (λ n₁. inr (omega arith, eqb-true _ _ (rw (ne_eqb c.phase 0 n₀, ne_eqb c.phase 1 n₁) at e)))

  listens-hears : Listens c id → hears c id ≡ true
  unfolding hears listens_on
  listens-hears (inl h) = rw (h.0, eq-eqb _ _ h.1)
  listens-hears (inr h) = let two = h.0 in rw (ne_eqb c.phase 0 (λ z. omega arith), ne_eqb c.phase 1 (λ z. omega arith), eq-eqb _ _ h.1)

  -- a record listens so, and not otherwise
  pub listens-exactly : hears c id ≡ true ↔ Listens c id
  listens-exactly = (hears-listens, listens-hears)

  deaf : (Listens c id → ⊥) → hears c id ≡ false
  deaf none = either (hears c id) (λ e. absurd (none (hears-listens e))) (λ e. e)

-- the lowest place that listens on an ID is named
module _ (t : Table) (id : ℕ) where
  is-owner : (p : ℕ) → p < 8 → Listens (record_at t p) id → ((j : ℕ) → j < p → Listens (record_at t j) id → ⊥) → owner_of t id ≡ p
  unfolding owner_of
  is-owner p h hear below = lowest-is (λ c. hears c id) t p h (listens-hears (record_at t p) id hear) (λ j l. deaf (record_at t j) id (below j l))

  no-owner : NoneListens t id → owner_of t id ≡ 8
  unfolding owner_of
  no-owner none = lowest-nowhere (λ c. hears c id) t (λ j h. deaf (record_at t j) id (none j h))

  -- "each found by the ID it listens on"
  pub owner_at : (p : ℕ) → p < 8 → Listens (record_at t p) id → ((j : ℕ) → j < p → Listens (record_at t j) id → ⊥) → named (owner_of t id) ≡ Some p
  owner_at p h hear below = rw (is-owner p h hear below, lt-leb 8 p h)

  pub owner-none : NoneListens t id → named (owner_of t id) ≡ None
  owner-none none = rw (no-owner none)

-- ---- a frame arrives

-- 3, nothing changed, no mark, and no place
abbrev pub three : Table → Arrived
three t = record { told = record { answer = OtherId; said = record { number = 3; done = false; opcode = 0 } }; padded = false; place = None; left = t }

-- the answer and the mark of a place's record, that place named, and that place alone changed
pub record Goes (t : Table) (p : ℕ) (r : RecordArrived Connection) (a : Arrived) : Type 0 where
  pub told : a.told ≡ r.told
  pub padded : a.padded ≡ r.padded
  pub place : a.place ≡ Some p
  pub left : Alone t p r.left a.left

-- no answer of an open channel is 3
channel-not-3 : (a : ChannelAnswer) → (said (Channel a)).number ≢ 3
channel-not-3 Good = λ e. omega arith
channel-not-3 Done = λ e. omega arith
channel-not-3 Disconnected = λ e. omega arith
channel-not-3 Malformed = λ e. omega arith
channel-not-3 BlockSize = λ e. omega arith
channel-not-3 NotDue = λ e. omega arith
channel-not-3 Busy = λ e. omega arith
channel-not-3 BadLength = λ e. omega arith
channel-not-3 ShortBuffer = λ e. omega arith
channel-not-3 OtherLength = λ e. omega arith
channel-not-3 UsedUp = λ e. omega arith
channel-not-3 (Broken c) = λ e. omega arith
channel-not-3 NoChange = λ e. omega arith

abbrev Not3 : RecordAnswered Connection → Type 0
Not3 r = r.told.said.number ≢ 3

module _ (c : Connection) where
  reply-not-3 : (r : Reply) → Not3 (on_reply c r)
  unfolding on_reply
  reply-not-3 NoReply = λ e. omega arith
  reply-not-3 (Refused opcode) = by-not Not3 c.attempt.asked (λ _ e. omega arith) (λ _ e. omega arith)
  reply-not-3 (Positive transmit) = by-not Not3 c.attempt.asked (λ _ e. omega arith) (λ _ e. omega arith)

  agreeing-not-3 : (k : Telegram) → Not3 (on_agreeing c k)
  unfolding on_agreeing on_accept
  agreeing-not-3 (Accept p) = by-not Not3 c.attempt.asked (λ _ e. omega arith) (λ _. by Not3 (bad_block p.block) (λ _ e. omega arith) (λ _ e. omega arith))
  agreeing-not-3 Disconnect = λ e. omega arith
  agreeing-not-3 NoTelegram = λ e. omega arith
  agreeing-not-3 (Data asks last number) = λ e. omega arith
  agreeing-not-3 (Ack ready number) = λ e. omega arith
  agreeing-not-3 Test = λ e. omega arith
  agreeing-not-3 Break = λ e. omega arith
  agreeing-not-3 (Setup p) = λ e. omega arith

  -- a record that listens on an ID does not answer 3 there
  heard-not-3 : (limit id : ℕ) (s : List ℕ) (room : ℕ) → hears c id ≡ true → (arrived limit c id s room).told.said.number ≢ 3
  unfolding arrived on_open
  heard-not-3 limit id s room h =
      by 3-not (is_closed c) (λ _ e. omega arith) λ _.
      by-not 3-not (hears c id) (λ n. absurd (true≢false (sym h ∙ n))) λ _.
      by 3-not (is_requesting c) (λ _. reply-not-3 (reply_for c.profile s c.settings.receive)) λ _.
      by 3-not (is_agreeing c) (λ _. agreeing-not-3 (sorted_by c.profile s).kind) (λ _. channel-not-3 (arrived_at limit c.end (sorted_by c.profile s).kind s room).answer)
    where
      3-not : RecordArrived Connection → Type 0
      3-not r = r.told.said.number ≢ 3

module _ (limit : ℕ) (t : Table) (id : ℕ) (s : List ℕ) (room : ℕ) where
  -- "a frame for none is answer 3", also with every place closed
  pub arrive_none : NoneListens t id → arrives limit t id s room ≡ three t
  unfolding arrives
  arrive_none none = rw (no-owner t id none)

  -- "Arriving frames go to the one owner": the answer and the mark are those of its record alone
  pub arrive-owner : (p : ℕ) → p < 8 → Listens (record_at t p) id → ((j : ℕ) → j < p → Listens (record_at t j) id → ⊥)
      → Goes t p (arrived limit (record_at t p) id s room) (arrives limit t id s room)
  unfolding arrives
  arrive-owner p h hear below =
      rw (is-owner t id p h hear below, lt-leb 8 p h)
      (record { told = refl; padded = refl; place = refl; left = alone t p (arrived limit (record_at t p) id s room).left _ h refl })

  -- 3 exactly where no place listens
  pub arrive-3-exactly : (arrives limit t id s room).told.said.number ≡ 3 ↔ NoneListens t id
  unfolding arrives
  arrive-3-exactly = (none, λ n. ap (λ r. r.told.said.number) (arrive_none n))
    where
      none : (arrives limit t id s room).told.said.number ≡ 3 → NoneListens t id
      none =
          by_le (λ (r : Arrived). r.told.said.number ≡ 3 → NoneListens t id) 8 (owner_of t id)
          (λ out _ p h hear. true≢false (sym (listens-hears (record_at t p) id hear) ∙ owner-first t id p (omega arith)))
          (λ some e. absurd (heard-not-3 (record_at t (owner_of t id)) limit id s room (owner-hears t id some) e))

-- the lent buffer: the owner's record alone writes to it, and a frame for none leaves it as it was
module _ (limit : ℕ) (t : Table) (id : ℕ) (s b : List ℕ) where
  pub buffer-none : NoneListens t id → buffers limit t id s b ≡ b
  unfolding buffers
  buffer-none none = rw (no-owner t id none)

  pub buffer-owner : (p : ℕ) → p < 8 → Listens (record_at t p) id → ((j : ℕ) → j < p → Listens (record_at t j) id → ⊥)
      → buffers limit t id s b ≡ buffered limit (record_at t p) id s b
  unfolding buffers
  buffer-owner p h hear below = rw (is-owner t id p h hear below, lt-leb 8 p h)

-- ---- "Every other call names its place, 0 to 7 (else 4)"

-- the answer of a place's record, and that place alone changed
pub record Answers (t : Table) (p : ℕ) (r : RecordAnswered Connection) (a : Answered Table) : Type 0 where
  pub told : a.told ≡ r.told
  pub left : Alone t p r.left a.left

module _ (t : Table) (p : ℕ) (out : 8 ≤ p) where
  -- "(else 4)": nothing changed, nothing given
  pub elapse-nowhere : (n : ℕ) → elapses t p n ≡ record { told = plainly NotDue 4; left = t }
  unfolding elapses
  elapse-nowhere n = rw (le-leb 8 p out)

  pub due-nowhere : (m : List ℕ) → hands t p m ≡ record { told = plainly NotDue 4; frame = None; left = t }
  unfolding hands
  due-nowhere m = rw (le-leb 8 p out)

  pub send-nowhere : (limit n : ℕ) → sends limit t p n ≡ record { told = plainly NotDue 4; left = t }
  unfolding sends
  send-nowhere limit n = rw (le-leb 8 p out)

  pub take-nowhere : (room : ℕ) → takes t p room ≡ record { told = plainly NotDue 4; len = 0; flags = 0; left = t }
  unfolding takes
  take-nowhere room = rw (le-leb 8 p out)

  pub shown-nowhere : (b : Bor (List ℕ)) → shows t p b ≡ record { told = plainly NotDue 4; flags = 0; left = t; place = b.ref_ptr; message = [] }
  unfolding takes
  shown-nowhere b = rw (le-leb 8 p out)

  pub close-nowhere : closes t p ≡ record { told = plainly NotDue 4; left = t }
  unfolding closes
  close-nowhere = rw (le-leb 8 p out)

module _ (t : Table) (p : ℕ) (h : p < 8) where
  -- a call that names a place is that record's, and no other's
  pub elapse-at : (n : ℕ) → Answers t p (elapsed (record_at t p) n) (elapses t p n)
  unfolding elapses
  elapse-at n = rw (lt-leb 8 p h) (record { told = refl; left = alone t p (elapsed (record_at t p) n).left _ h refl })

  pub due-at : (m : List ℕ)
      → (((hands t p m).told ≡ (due_of (record_at t p) m).told) × ((hands t p m).frame ≡ (due_of (record_at t p) m).frame)
      × Alone t p (due_of (record_at t p) m).left (hands t p m).left)
  unfolding hands
  due-at m = rw (lt-leb 8 p h) (refl, refl, alone t p (due_of (record_at t p) m).left _ h refl)

  pub send_at : (limit n : ℕ) → Answers t p (sent_by limit (record_at t p) n) (sends limit t p n)
  unfolding sends
  send_at limit n = rw (lt-leb 8 p h) (record { told = refl; left = alone t p (sent_by limit (record_at t p) n).left _ h refl })

  pub take_at : (room : ℕ)
      → (((takes t p room).told ≡ (taken_by (record_at t p) room).told) × ((takes t p room).len ≡ (taken_by (record_at t p) room).len)
      × ((takes t p room).flags ≡ (taken_by (record_at t p) room).flags) × Alone t p (taken_by (record_at t p) room).left (takes t p room).left)
  unfolding takes
  take_at room = rw (lt-leb 8 p h) (refl, refl, refl, alone t p (taken_by (record_at t p) room).left _ h refl)

  -- the message shown is that of the record alone: the first part of the lent buffer, where it lies
  pub shown-at : (b : Bor (List ℕ))
      → (((shows t p b).told ≡ (taken_by (record_at t p) (length b.now)).told) × ((shows t p b).flags ≡ (taken_by (record_at t p) (length b.now)).flags)
      × ((shows t p b).place ≡ b.ref_ptr) × ((shows t p b).message ≡ take (taken_by (record_at t p) (length b.now)).len b.now)
      × Alone t p (taken_by (record_at t p) (length b.now)).left (shows t p b).left)
  unfolding takes
  shown-at b = rw (lt-leb 8 p h) (refl, refl, refl, refl, alone t p (taken_by (record_at t p) (length b.now)).left _ h refl)

  pub close_at : Answers t p (closed (record_at t p)) (closes t p)
  unfolding closes
  close_at = rw (lt-leb 8 p h) (record { told = refl; left = alone t p (closed (record_at t p)).left _ h refl })
