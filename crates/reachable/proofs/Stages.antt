-- Every record that calls can lead to stands at one of five stages, and each call leads from stage to stage.
use Prim.Native.Nat.{ℕ, zero, suc, ◌+◌, ◌-◌, ◌/◌, ◌%◌, ◌^◌, ◌<◌, ◌≤◌, zero-le}
use native.Mathlib.Nat.{mul-pos, pow-suc}
use native.Mathlib.Omega.{arith}
use mathlib.Core.Bool.{Bool, true, false}
use mathlib.Core.List.{List, [], ◌∷◌}
use mathlib.Core.Logic.{◌≢◌}
use mathlib.Core.Path.{◌≡◌, refl}
use lib.ListN.{drop}
use lib.Seq.{get_or-drop}
use Rattle.laws.proofs.Cases.{by, by-not, by-eq, by-lt, by_le, either}
use Rattle.std.specs.Option.{is_some}
use Rattle.telegram.specs.Kinds.{bad_block}
use Rattle.telegram.specs.Time.{tenths_of}
use Rattle.telegram.specs.Forms.{Bytes}
use Rattle.telegram.proofs.Rules.{block-passes}
use Rattle.telegram.specs.declared.kinds.Parameters.{Parameters as Fields}
use Rattle.telegram.specs.declared.kinds.Telegram.{Telegram}
use Rattle.telegram.specs.declared.kinds.Telegram.TheVariants.{Data, Ack, Test, Break, Disconnect, Setup, Accept, Malformed as NoTelegram}
use Rattle.opening.specs.Opening.{Reply, Positive, Refused as RefusedBy, NoReply}
use Rattle.profile.specs.Profile.{sorted_by}
use Rattle.profile.specs.Forms.{Within}
use Rattle.profile.specs.Opening.{reply_for}
use Rattle.profile.specs.declared.Profile.{Profile}
use Rattle.profile.proofs.Opening.{reply-within}
use Rattle.settings.specs.Settings.{allowed_by, used}
use Rattle.settings.proofs.Rules.{InRange, allowed-exactly}
use Rattle.settings.specs.declared.Settings.{Settings}
use Rattle.channel.specs.declared.Channel.{Channel}
use Rattle.channel.specs.Opened.{elapsed as channel_elapsed, due}
use Rattle.arrival.specs.Arrived.{arrived as channel_arrived}
use Rattle.open_end.specs.declared.Course.{Course}
use Rattle.open_end.specs.declared.Course.TheVariants.{GoesOn, GivenUp, Leaves}
use Rattle.open_end.specs.OpenEnd.{unopened, course_of, arrived_at, elapsed_at, frame_on, due_at, sent_at, taken_at}
use Rattle.connection.specs.declared.attempt.Attempt.{Attempt}
use Rattle.connection.specs.declared.Connection.{Connection}
use Rattle.open_end.specs.declared.answers.Answered.{Answered}
use Rattle.open_end.specs.declared.answers.Arrived.{Arrived}
use Rattle.settings.specs.Agreed.{agreed}
use Rattle.connection.specs.Record.{no_attempt, closed_record, leaving_on, hears}
use Rattle.connection.specs.Calls.{opening_as, on_reply, on_accept, on_agreeing, settled, on_open, arrived, attempt_elapsed, open_elapsed, elapsed, closed_due, request_due, open_due, due_of, open_sent, sent_by, open_taken, taken_by, closed}
use Rattle.connection.proofs.Waiting.{asking}
use Rattle.reachable.specs.Reachable.{Call, opens, comes, passes, asks, sends, takes, closes, ElevenBits, OfBytes, AllOfBytes, Tally, tallied, Reached, next, run, Agreed, Ours, Few}
use Rattle.reachable.proofs.Channels.{Open, fresh-open, arrived-open, elapsed-open, due-open, sent-open, taken-open}

-- ---- stages

-- a request of an opening that went out so often: due, for the first time or again, or awaited
pub data Asking (mntc : ℕ) : Attempt → ℕ → Type 0 where
  due-now : {asked : Bool} {n : ℕ} → n ≤ mntc → Asking mntc (record { due = true; asked = asked; wait = 0; repeats = n }) n
  awaited : {w n : ℕ} → n ≤ mntc → 0 < w → Asking mntc (record { due = false; asked = true; wait = w; repeats = n }) (n + 1)

-- settings that the profile allows, and IDs of eleven bits
pub record Fits (p : Profile) (s : Settings) : Type 0 where
  pub eleven : ElevenBits p
  pub ranges : InRange p s

pub data Stage (limit : ℕ) : Tally → Connection → Type 0 where
  at_rest : {t : Tally} → Few t → Stage limit t closed_record
  leaving : {t : Tally} {transmit : ℕ} → Few t → transmit < 0x800 → Stage limit t (leaving_on transmit)
  requesting : {p : Profile} {s : Settings} {a : Attempt} {k : ℕ} → Fits p s → Asking s.mntc a k
      → Stage limit (record { most = s.mntc; requests = k; setups = 0 })
      (record { phase = 1; profile = p; settings = s; attempt = a; leaving = false; end = unopened 0 0 })
  agreeing : {p : Profile} {s : Settings} {a : Attempt} {k l transmit : ℕ} → Fits p s → k ≤ s.mntc + 1 → Asking s.mntc a l → Within p.transmits transmit
      → Stage limit (record { most = s.mntc; requests = k; setups = l })
      (record { phase = 2; profile = p; settings = s; attempt = a; leaving = false; end = unopened transmit s.receive })
  talking : {p : Profile} {s : Settings} {k l transmit : ℕ} {ch : Channel} → Fits p s → k ≤ s.mntc + 1 → l ≤ s.mntc + 1 → Within p.transmits transmit → Open limit (used p s) ch
      → Stage limit (record { most = s.mntc; requests = k; setups = l })
      (record { phase = 3; profile = p; settings = s; attempt = no_attempt; leaving = false; end = record { transmit = transmit; receive = s.receive; channel = ch } })

-- so its transmit IDs have eleven bits
pub eleven-id : {p : Profile} {s : Settings} {id : ℕ} → Fits p s → Within p.transmits id → id < 0x800
eleven-id f x = let most = f.eleven.transmits in let inside = x.1 in omega arith

asking-few : {m k : ℕ} {a : Attempt} → Asking m a k → k ≤ m + 1
asking-few (due-now n) = omega arith
asking-few (awaited n w) = omega arith

pub stage-few : {limit : ℕ} {t : Tally} {c : Connection} → Stage limit t c → Few t
stage-few (at_rest f) = f
stage-few (leaving f x) = f
stage-few (requesting s a) = record { requests = asking-few a; setups = zero-le }
stage-few (agreeing s k a x) = record { requests = k; setups = asking-few a }
stage-few (talking s k l x o) = record { requests = k; setups = l }

-- ---- open

opens-stage : {limit : ℕ} {t : Tally} {c : Connection} (p : Profile) (s : Settings) → ElevenBits p → Stage limit t c → Stage limit (tallied c t (opens p s)) (opening_as c p s).left
unfolding opening_as
opens-stage p s b (at_rest f) = either (allowed_by p s) (λ e. rw e (requesting (record { eleven = b; ranges = (allowed-exactly p s).0 e }) (due-now zero-le))) (λ e. rw e (at_rest f))
opens-stage p s b (leaving f x) = either (allowed_by p s) (λ e. rw e (requesting (record { eleven = b; ranges = (allowed-exactly p s).0 e }) (due-now zero-le))) (λ e. rw e (leaving f x))
opens-stage p s b (requesting k a) = requesting k a
opens-stage p s b (agreeing k l a x) = agreeing k l a x
opens-stage p s b (talking k l m x o) = talking k l m x o

-- ---- what an answer of the open end leaves

settles-stage : {limit : ℕ} {p : Profile} {s : Settings} {k l transmit : ℕ} {next : Channel} (ch : Channel) → Fits p s → k ≤ s.mntc + 1 → l ≤ s.mntc + 1 → Within p.transmits transmit → (course : Course) → Open limit (used p s) next
    → Stage limit (record { most = s.mntc; requests = k; setups = l })
    (settled (record { phase = 3; profile = p; settings = s; attempt = no_attempt; leaving = false; end = record { transmit = transmit; receive = s.receive; channel = ch } })
    course (record { transmit = transmit; receive = s.receive; channel = next }))
unfolding settled
settles-stage ch s k l x GoesOn o = talking s k l x o
settles-stage ch s k l x GivenUp o = at_rest (record { requests = k; setups = l })
settles-stage ch s k l x Leaves o = leaving (record { requests = k; setups = l }) (eleven-id s x)

-- ---- close

closes-stage : {limit : ℕ} {t : Tally} {c : Connection} → Stage limit t c → Stage limit t (closed c).left
unfolding closed
closes-stage (at_rest f) = at_rest f
closes-stage (leaving f x) = leaving f x
closes-stage (requesting s a) = at_rest (record { requests = asking-few a; setups = zero-le })
closes-stage (agreeing s k a x) = leaving (record { requests = k; setups = asking-few a }) (eleven-id s x)
closes-stage (talking s k l x o) = leaving (record { requests = k; setups = l }) (eleven-id s x)

-- ---- time passes

-- a wait for a reply that does not end runs on; one that ends makes its request due again, or closes
waits-stage : {limit : ℕ} {t : Tally} (n w r : ℕ) (c : Connection) → c.attempt ≡ record { due = false; asked = true; wait = w; repeats = r } → 0 < w
    → ((v : ℕ) → 0 < v → Stage limit t (asking c (record { due = false; asked = true; wait = v; repeats = r })))
    → (r + 1 ≤ c.settings.mntc → Stage limit t (asking c (record { due = true; asked = true; wait = 0; repeats = r + 1 })))
    → Few t → Stage limit t (attempt_elapsed c n).left
unfolding attempt_elapsed
waits-stage {limit} {t} n w r c e runs on again few =
    rw e
    (by-eq P w 0 (λ z. absurd (omega arith)) λ some.
    by-lt P n w (λ less. on (w - n) (omega arith)) λ over.
    by_le P c.settings.mntc r (λ most. at_rest few) (λ less. again (omega arith)))
  where
    P : Answered Connection → Type 0
    P x = Stage limit t x.left

passes-stage : {limit : ℕ} {t : Tally} {c : Connection} (n : ℕ) → Stage limit t c → Stage limit t (elapsed c n).left
unfolding elapsed attempt_elapsed open_elapsed elapsed_at
passes-stage n (at_rest f) = at_rest f
passes-stage n (leaving f x) = leaving f x
passes-stage n (requesting s (due-now l)) = requesting s (due-now l)
passes-stage n (requesting s (awaited {w} {n = r} l runs)) =
    waits-stage n w r _ refl runs (λ v p. requesting s (awaited l p)) (λ few. requesting s (due-now few)) (record { requests = asking-few (awaited l runs); setups = zero-le })
passes-stage n (agreeing s k (due-now l) x) = agreeing s k (due-now l) x
passes-stage n (agreeing s k (awaited {w} {n = r} l runs) x) =
    waits-stage n w r _ refl runs (λ v p. agreeing s k (awaited l p) x) (λ few. agreeing s k (due-now few) x) (record { requests = k; setups = asking-few (awaited l runs) })
passes-stage n (talking {ch = ch} s k l x o) = settles-stage ch s k l x (course_of (channel_elapsed ch n).answer) (elapsed-open o n)

-- ---- a message offered, a message taken

sends-stage : {t : Tally} {c : Connection} (limit n : ℕ) → Stage limit t c → Stage limit t (sent_by limit c n).left
unfolding sent_by open_sent sent_at
sends-stage limit n (at_rest f) = at_rest f
sends-stage limit n (leaving f x) = leaving f x
sends-stage limit n (requesting s a) = requesting s a
sends-stage limit n (agreeing s k a x) = agreeing s k a x
sends-stage limit n (talking s k l x o) = talking s k l x (sent-open o n)

takes-stage : {limit : ℕ} {t : Tally} {c : Connection} (room : ℕ) → Stage limit t c → Stage limit t (taken_by c room).left
unfolding taken_by open_taken taken_at
takes-stage room (at_rest f) = at_rest f
takes-stage room (leaving f x) = leaving f x
takes-stage room (requesting s a) = requesting s a
takes-stage room (agreeing s k a x) = agreeing s k a x
takes-stage room (talking s k l x o) = talking s k l x (taken-open o room)

-- ---- what is due

asks-stage : {limit : ℕ} {t : Tally} {c : Connection} (m : List ℕ) → Stage limit t c → Stage limit (tallied c t (asks m)) (due_of c m).left
unfolding due_of closed_due request_due open_due due_at
asks-stage m (at_rest f) = at_rest f
asks-stage m (leaving f x) = at_rest f
asks-stage m (requesting s (due-now l)) = requesting s (awaited l s.ranges.t_e.0)
asks-stage m (requesting s (awaited l w)) = requesting s (awaited l w)
asks-stage m (agreeing s k (due-now l) x) = agreeing s k (awaited l s.ranges.t_e.0) x
asks-stage m (agreeing s k (awaited l w) x) = agreeing s k (awaited l w) x
asks-stage m (talking {transmit = id} {ch = ch} s k l x o) =
    either (is_some (frame_on id (due ch m).payload)) (λ e. rw e (talking s k l x (due-open o m))) (λ e. rw e (talking s k l x (due-open o m)))

-- ---- a frame arrives

-- a transmit ID that a reply names lies in the profile's range
abbrev Named : Profile → Reply → Type 0
Named p (Positive transmit) = Within p.transmits transmit
Named p (RefusedBy opcode) = Unit {0}
Named p NoReply = Unit {0}

reply-named : (p : Profile) (s : List ℕ) (receive : ℕ) → Named p (reply_for p s receive)
reply-named p s receive = go (reply_for p s receive) refl
  where
    go : (q : Reply) → reply_for p s receive ≡ q → Named p q
    go (Positive transmit) e = reply-within p s receive transmit e
    go (RefusedBy opcode) e = tt
    go NoReply e = tt

-- an answer leads to a stage, and so does an arrival
abbrev Leads : (limit : ℕ) → Tally → Answered Connection → Type 0
Leads limit t x = Stage limit t x.left

abbrev Comes : (limit : ℕ) → Tally → Arrived Connection → Type 0
Comes limit t x = Stage limit t x.left

-- the D0 leads on to the A0; a refusal closes
reply-stage : {limit : ℕ} {p : Profile} {t : Settings} {a : Attempt} {k : ℕ} → Fits p t → Asking t.mntc a k → (r : Reply) → Named p r
    → Stage limit (record { most = t.mntc; requests = k; setups = 0 })
    (on_reply (record { phase = 1; profile = p; settings = t; attempt = a; leaving = false; end = unopened 0 0 }) r).left
unfolding on_reply
reply-stage s a NoReply n = requesting s a
reply-stage {limit} {t = t} {a = b} {k} s a (RefusedBy opcode) n =
    by-not (Leads limit (record { most = t.mntc; requests = k; setups = 0 })) b.asked (λ _. requesting s a) (λ _. at_rest (record { requests = asking-few a; setups = zero-le }))
reply-stage {limit} {t = t} {a = b} {k} s a (Positive transmit) n =
    by-not (Leads limit (record { most = t.mntc; requests = k; setups = 0 })) b.asked (λ _. requesting s a) (λ _. agreeing s (asking-few a) (due-now zero-le) n)

-- a time code whose multiplier is not 0 is some time
tenths-some : (code : ℕ) → code % 64 ≢ 0 → 1 ≤ tenths_of code
unfolding tenths_of
tenths-some code h = mul-pos (omega (arith, h)) (pow-some (code / 64))
  where
    pow-some : (k : ℕ) → 0 < 10 ^ k
    pow-some zero = omega arith
    pow-some (suc k) = rw (pow-suc 10 k) (mul-pos (pow-some k) (omega arith))

-- what the A1 agrees on
agreed-terms : {q : Profile} (s : Settings) (p : Fields) → InRange q s → bad_block p.block ≡ false → Agreed (agreed (used q s) p).terms
agreed-terms s p f b =
    let x = (block-passes p.block).0 b in
    let least = f.block.0 in
    let most = f.block.1 in
    record { least = omega (arith, x.0, least); most = omega (arith, most); t1 = tenths-some s.t1 f.t1; t_wait = f.t_wait }

agreed-ours : (s : Settings) (p : Fields) → Ours s (agreed s p)
unfolding tenths_of
agreed-ours s p = record { block = omega arith; t1 = refl; repeats = refl; t_wait = refl; interval = refl; allowed = refl; own = refl }

agrees-stage : {limit : ℕ} {p : Profile} {t : Settings} {a : Attempt} {k l transmit : ℕ} → Fits p t → k ≤ t.mntc + 1 → Asking t.mntc a l → Within p.transmits transmit → (kind : Telegram)
    → Stage limit (record { most = t.mntc; requests = k; setups = l })
    (on_agreeing (record { phase = 2; profile = p; settings = t; attempt = a; leaving = false; end = unopened transmit t.receive }) kind).left
unfolding on_agreeing on_accept
agrees-stage {limit} {p = q} {t = t} {a = b} {k = i} {l = j} s k a x (Accept p) =
    by-not (Leads limit (record { most = t.mntc; requests = i; setups = j })) b.asked (λ _. agreeing s k a x) λ _.
    by (Leads limit (record { most = t.mntc; requests = i; setups = j })) (bad_block p.block) (λ _. agreeing s k a x) λ good.
    talking s k (asking-few a) x (fresh-open limit (used q t) (agreed (used q t) p) (agreed-terms t p s.ranges good) (agreed-ours (used q t) p))
agrees-stage s k a x Disconnect = leaving (record { requests = k; setups = asking-few a }) (eleven-id s x)
agrees-stage s k a x NoTelegram = agreeing s k a x
agrees-stage s k a x (Data ar last number) = agreeing s k a x
agrees-stage s k a x (Ack ready number) = agreeing s k a x
agrees-stage s k a x Test = agreeing s k a x
agrees-stage s k a x Break = agreeing s k a x
agrees-stage s k a x (Setup p) = agreeing s k a x

-- the bytes behind the first of a frame
rest-bytes : (s : List ℕ) → Bytes s → Bytes (drop 1 s)
rest-bytes s h i = rw (get_or-drop 1 s i 0) (h (1 + i))

comes-stage : {t : Tally} {c : Connection} (limit id : ℕ) (s : List ℕ) (room : ℕ) → Bytes s → Stage limit t c → Stage limit t (arrived limit c id s room).left
unfolding arrived on_open arrived_at
comes-stage limit id s room h (at_rest f) = at_rest f
comes-stage limit id s room h (leaving f x) = leaving f x
comes-stage {t} {c} limit id s room h (requesting {p = q} {s = own} f a) =
    by-not (Comes limit t) (hears c id) (λ _. requesting f a) (λ _. reply-stage f a (reply_for q s own.receive) (reply-named q s own.receive))
comes-stage {t} {c} limit id s room h (agreeing {p = q} f k a x) =
    by-not (Comes limit t) (hears c id) (λ _. agreeing f k a x) (λ _. agrees-stage f k a x (sorted_by q s).kind)
comes-stage {t} {c} limit id s room h (talking {p = q} {ch = ch} f k l x o) =
    by-not (Comes limit t) (hears c id) (λ _. talking f k l x o)
    (λ _. settles-stage ch f k l x (course_of (channel_arrived limit ch (sorted_by q s).kind (drop 1 s) room).answer) (arrived-open o (sorted_by q s).kind (drop 1 s) room (rest-bytes s h)))

-- ---- every list of calls

next-stage : {r : Reached} (limit : ℕ) (x : Call) → OfBytes x → Stage limit r.tally r.connection → Stage limit (next limit r x).tally (next limit r x).connection
next-stage limit (opens p s) h k = opens-stage p s h k
next-stage limit (comes id s room) h k = comes-stage limit id s room h k
next-stage limit (passes n) h k = passes-stage n k
next-stage limit (asks m) h k = asks-stage m k
next-stage limit (sends n) h k = sends-stage limit n k
next-stage limit (takes room) h k = takes-stage room k
next-stage limit closes h k = closes-stage k

pub run-stage : (limit : ℕ) (calls : List Call) (r : Reached) → AllOfBytes calls → Stage limit r.tally r.connection
    → Stage limit (run limit r calls).tally (run limit r calls).connection
run-stage limit [] r h k = k
run-stage limit (x ∷ xs) r h k = run-stage limit xs (next limit r x) h.1 (next-stage {r = r} limit x h.0 k)
