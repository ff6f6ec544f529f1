-- That isolation speaks of something: a fair list of events after which the one connection's records do differ.
use Prim.Native.Nat.{ℕ, zero, suc}
use native.Mathlib.Omega.{arith}
use mathlib.Core.Path.{◌≡◌, refl, ap}
use mathlib.Core.Logic.{◌≢◌, inl}
use mathlib.Core.List.{List, [], ◌∷◌, map}
use Rattle.telegram.specs.Kinds.{bad_block}
use Rattle.telegram.specs.Time.{tenths_of}
use Rattle.opening.specs.Opening.{reply_read}
use Rattle.profile.specs.Profile.{within}
use Rattle.profile.specs.Opening.{reply_for, named}
use Rattle.settings.specs.Settings.{defaults, allowed_by}
use Rattle.settings.specs.declared.Settings.{Settings}
use Rattle.connection.specs.Record.{phase_agreeing, hears, listens_on}
use Rattle.connection.specs.Calls.{opening_as, on_reply, arrived, request_due, due_of, closed}
use Rattle.table.specs.Table.{places, at, owner_of, free_of, is_used, uses_either, reserved}
use Rattle.table.specs.Calls.{opens, arrives, hands, closes}
use Rattle.table_runs.specs.Runs.Call.{frame, due, close}
use Rattle.table_runs.specs.Isolation.{Event, Two, begin, runs, AllFair, replies, Isolated}
use Rattle.table_runs.specs.Isolation.Event.{opening, begins, both, first, second}
use Rattle.table_runs.proofs.Isolation.{isolation-holds}

-- the settings of unit 2, with a receive ID of its own
abbrev another : Settings
another =
    record { receive = 0x301; unit = 2; block = 8; t1 = 0x8A; t3 = 0x32; t_e = 1000; mntc = 10; mntb = 5; t_wait = 1000; t_ct = 10000; mnct = 5 }

-- unit 1 begins, and its C0 is handed over in the first run only. Unit 2 opens, its C0 is handed over, and its D0 comes, in both. In the second run unit 1 is closed
abbrev pub events : List Event
events =
    begins defaults (0 ∷ 0 ∷ []) []
    ∷ first (due 0 [])
    ∷ opening another (0 ∷ 0 ∷ 0 ∷ [])
    ∷ both (due 1 [])
    ∷ both (frame 0x202 (0x00 ∷ 0xD0 ∷ 0x01 ∷ 0x03 ∷ 0x40 ∷ 0x07 ∷ 0x01 ∷ []) 3)
    ∷ second (close 0)
    ∷ []

module _ (limit : ℕ) where
  -- the two runs at the end
  abbrev pub ended : Two
  ended = runs limit begin events

  -- the list is fair; unit 1's records differ at the end; unit 2's are the same, and got past the D0
  pub record Telling : Type 0 where
    pub fair : AllFair limit begin events
    pub differs : at ended.one.table 0 ≢ at ended.two.table 0
    pub one : (at ended.one.table 1).phase ≡ phase_agreeing
    pub two : (at ended.two.table 1).phase ≡ phase_agreeing
    pub answers : map (λ r. r.told.said.number) (replies limit (λ r. r.one) begin events) ≡ 0 ∷ 0 ∷ 0 ∷ 0 ∷ []

  -- by computation
  pub telling : Telling
  unfolding opens free_of is_used uses_either reserved allowed_by within bad_block tenths_of hands arrives closes owner_of hears listens_on opening_as due_of request_due arrived reply_read reply_for named on_reply closed
  telling =
      record {
        fair =
            ((λ p. refl, refl), ((tt, inl refl), (elim [ zero ↦ refl | suc p ↦ refl ], ((tt, (other, other)), ((tt, (other, other)), ((tt, inl refl), tt))))));
        differs = λ e. other (ap (λ c. c.phase) e);
        one = refl;
        two = refl;
        answers = refl;
      }
    where
      other : {A : Type 0} → ◌≡◌ {A = ℕ} 1 0 → A
      other e = absurd (omega arith)

  -- so isolation says that the answers in between were the same
  pub isolated : Isolated limit events
  isolated = isolation-holds limit events telling.fair

-- unit 1 begins and is closed, in the second run once its C0 is out; unit 2 takes its place, and gets the same call in both
abbrev pub later_events : List Event
later_events =
    begins defaults [] [] ∷ second (due 0 []) ∷ first (close 0) ∷ second (close 0) ∷ opening another (0 ∷ []) ∷ both (due 0 []) ∷ []

module _ (limit : ℕ) where
  -- it is one of the others: that is fair, and isolation speaks of its place
  pub record Later : Type 0 where
    pub fair : AllFair limit begin later_events
    pub over : (runs limit begin later_events).apart ≡ places
    pub unit : (at (runs limit begin later_events).one.table 0).settings.unit ≡ 2

  pub later : Later
  unfolding opens free_of is_used uses_either reserved allowed_by within bad_block tenths_of hands closes opening_as due_of request_due closed
  later =
      record {
        fair = ((λ p. refl, refl), ((tt, inl refl), ((tt, inl refl), ((tt, inl refl), (elim [ zero ↦ refl | suc p ↦ refl ], ((tt, (other, other)), tt))))));
        over = refl;
        unit = refl;
      }
    where
      other : {A : Type 0} → ◌≡◌ {A = ℕ} 0 8 → A
      other e = absurd (omega arith)
