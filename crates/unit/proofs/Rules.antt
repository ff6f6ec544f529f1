-- The rules of a control unit in other words: phases as numbers, frames as bytes, and whole records field by field, none through the definitions that they speak of.
-- Here: settings, closed units, and what no unit does before its A1 is out.
use Prim.Native.Nat.{ℕ, ◌<◌, ◌≤◌}
use mathlib.Core.Bool.{true, false, not, ◌&&◌, ◌||◌}
use mathlib.Core.List.{List, [], ◌∷◌}
use mathlib.Core.Logic.{◌≢◌, ◌⊎◌, inl, inr, ◌↔◌}
use mathlib.Core.Path.{◌≡◌, refl}
use lib.Dec.{eqb}
use borrow.Author.Tests.{lt-ltb, le-ltb, ne_eqb, eqb-false, not-true}
use Rattle.laws.proofs.Branches.{or-on'}
use Rattle.laws.proofs.Cases.{both, by-eq, either}
use Rattle.std.specs.declared.option.Option.TheVariants.{None, Some}
use Rattle.opening.specs.Opening.{refusal, request_id}
use Rattle.opening.proofs.Rules.{refusal-exactly}
use Rattle.settings.specs.Settings.{allowed}
use Rattle.settings.specs.declared.Settings.{Settings}
use Rattle.profile.specs.Profile.{tp20}
use Rattle.settings.proofs.Rules.{InRange, allowed-exactly}
use Rattle.channel.specs.declared.Answer.TheVariants.{Good, NotDue}
use Rattle.open_end.specs.declared.answers.Answer.TheVariants.{OutOfRange}
use Rattle.open_end.proofs.Rules.{no_channel, plainly}
use Rattle.unit.specs.declared.ControlUnit.{ControlUnit}
use Rattle.unit.specs.Record.{is_closed, is_open, is_reply, settable, closed_unit}
use Rattle.unit.specs.Calls.{set_to, arrived, buffered, elapsed, due_of, sent_by, taken_by, closed}

-- ---- literals

-- closed, with these settings and this reply, and nothing due: no IDs, an empty channel
abbrev pub resting : Settings → (reply : ℕ) → ControlUnit
resting s reply = record { phase = 0; reply = reply; settings = s; end = record { transmit = 0; receive = 0; channel = no_channel } }

-- a closed unit, had without any input (B40, B41): receive ID 0x740, unit 0x01, block size 8, T1 0x8A, T3 0x32, T_E 1,000, MNTC 10, repeats 5, T_WAIT 1,000, interval 10,000, tests 5; D0 to reply
pub closed_is : closed_unit
    ≡ resting
    (record {
      receive = 0x740;
      unit = 1;
      block = 8;
      t1 = 138;
      t3 = 50;
      t_e = 1000;
      mntc = 10;
      mntb = 5;
      t_wait = 1000;
      t_ct = 10000;
      mnct = 5;
    })
    208
closed_is = refl

-- ---- set

-- "D0, D6, D7 or D8 as set"
abbrev pub AReply : ℕ → Type 0
AReply r = (r ≡ 0xD0) ⊎ ((0xD6 ≤ r) × (r ≤ 0xD8))

reply-exactly : (r : ℕ) → is_reply r ≡ true ↔ AReply r
reply-exactly r = (named, taken)
  where
    named : is_reply r ≡ true → AReply r
    named e = by-eq (λ (_ : ℕ). AReply r) r 0xD0 {x = 0} {y = 0} inl (λ n. inr ((refusal-exactly r).0 (rw (ne_eqb r 0xD0 n) at e)))

    taken : AReply r → is_reply r ≡ true
    taken (inl e) = rw e
    taken (inr h) = or-on' (eqb r 0xD0) (refusal r) ((refusal-exactly r).1 h)

-- 01's ranges, "which is never 0x200", and one of the four replies: set exactly so
pub settable-exactly : (s : Settings) (r : ℕ) → settable s r ≡ true ↔ (InRange tp20 s × (s.receive ≢ 0x200) × AReply r)
unfolding settable
settable-exactly s r = (named, taken)
  where
    named : settable s r ≡ true → InRange tp20 s × (s.receive ≢ 0x200) × AReply r
    named e =
        let first = both (allowed s && not (eqb s.receive 0x200)) (is_reply r) e in
        let second = both (allowed s) (not (eqb s.receive 0x200)) first.0 in
        ((allowed-exactly tp20 s).0 second.0, eqb-false s.receive 0x200 (not-true (eqb s.receive 0x200) second.1), (reply-exactly r).0 first.1)

    taken : InRange tp20 s × (s.receive ≢ 0x200) × AReply r → settable s r ≡ true
    taken h = rw ((allowed-exactly tp20 s).1 h.0, ne_eqb s.receive 0x200 h.1, (reply-exactly r).1 h.2)

module _ (c : ControlUnit) (s : Settings) (r : ℕ) where
  -- set: 4 if not closed (B40)
  pub set-not-closed : 3 ≤ c.phase → set_to c s r ≡ record { told = plainly NotDue 4; left = c }
  unfolding set_to
  set-not-closed h = rw (le-ltb c.phase 3 h)

  -- then 10, where one of the three fails: nothing changes
  pub set-out-of-range : c.phase < 3 → (InRange tp20 s × (s.receive ≢ 0x200) × AReply r → ⊥)
      → set_to c s r ≡ record { told = record { answer = OutOfRange; said = record { number = 10; done = false; opcode = 0 } }; left = c }
  unfolding set_to
  set-out-of-range h out =
      either (settable s r) (λ e. absurd (out ((settable-exactly s r).0 e))) (λ e. rw (lt-ltb c.phase 3 h, e))

  -- else 0: closed, nothing due; an A8 or a reply that was due is discarded
  pub set-leaves : c.phase < 3 → InRange tp20 s → s.receive ≢ 0x200 → AReply r → set_to c s r ≡ record { told = plainly Good 0; left = resting s r }
  unfolding set_to
  set-leaves h k o a = rw (lt-ltb c.phase 3 h, (settable-exactly s r).1 (k, o, a))

-- ---- closed

module _ (c : ControlUnit) (closed' : c.phase < 3) where
  -- on any ID but 0x200 a frame gives 4, without a mark
  pub arrived-closed : (limit id : ℕ) (s : List ℕ) (room : ℕ) → id ≢ 0x200 → arrived limit c id s room ≡ record { told = plainly NotDue 4; padded = false; left = c }
  unfolding arrived
  arrived-closed limit id s room other = rw (ne_eqb id 0x200 other, lt-ltb c.phase 3 closed')

  -- close: 4 when closed, and what is due stays so (B47)
  pub closed-closed : closed c ≡ record { told = plainly NotDue 4; left = c }
  unfolding closed
  closed-closed = rw (lt-ltb c.phase 3 closed')

-- with nothing due there is no frame: closed, or with the D0 out
pub due_of-closed : (c : ControlUnit) (m : List ℕ) → (c.phase ≡ 0) ⊎ (c.phase ≡ 4) → due_of c m ≡ record { told = plainly Good 0; frame = None; left = c }
unfolding due_of
due_of-closed c m (inl e) = rw e
due_of-closed c m (inr e) = rw e

-- a closed unit's one A8, on the asker's ID; behind it nothing is due, and the settings stay
pub due_of-leaving : (c : ControlUnit) (m : List ℕ) → c.phase ≡ 1
    → due_of c m
    ≡ record {
      told = plainly Good 0;
      frame = Some (record { id = c.end.transmit; payload = record { len = 1; bytes = 0xA8 ∷ 0 ∷ 0 ∷ 0 ∷ 0 ∷ 0 ∷ 0 ∷ 0 ∷ [] } });
      left = resting c.settings c.reply;
    }
unfolding due_of
due_of-leaving c m e = rw e

-- ---- till the A1's hand-over

module _ (c : ControlUnit) (before : c.phase ≤ 5) where
  -- send and take: 4 till then
  pub sent_by-before : (limit n : ℕ) → sent_by limit c n ≡ record { told = plainly NotDue 4; left = c }
  unfolding sent_by
  sent_by-before limit n = rw (le-ltb 5 c.phase before)

  pub taken_by-before : (room : ℕ) → taken_by c room ≡ record { told = plainly NotDue 4; len = 0; flags = 0; left = c }
  unfolding taken_by
  taken_by-before room = rw (le-ltb 5 c.phase before)

  -- "nothing is timed"
  pub elapsed-before : (n : ℕ) → elapsed c n ≡ record { told = plainly Good 0; left = c }
  unfolding elapsed
  elapsed-before n = rw (le-ltb 5 c.phase before)

  -- no buffer is written, whatever the ID
  pub buffered-before : (limit id : ℕ) (s b : List ℕ) → buffered limit c id s b ≡ b
  unfolding buffered
  buffered-before limit id s b =
      rw (or-on' (eqb id request_id || is_closed c || not (eqb id c.settings.receive)) (not (is_open c)) (rw (le-ltb 5 c.phase before)))

-- close: else 0 and one A8 on the asker's ID, open or not, before the D0's hand-over too (B47)
pub closed-leaves : (c : ControlUnit) → 3 ≤ c.phase
    → closed c
    ≡ record {
      told = plainly Good 0;
      left = record { phase = 1; reply = c.reply; settings = c.settings; end = record { transmit = c.end.transmit; receive = 0; channel = no_channel } };
    }
unfolding closed
closed-leaves c h = rw (le-ltb c.phase 3 h)
