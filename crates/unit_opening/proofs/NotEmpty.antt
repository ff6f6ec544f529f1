-- The claim on the opening speaks of something: a unit that is set to D0 and one that is set to D7, each opened to with the default settings, and each turn taken.
use Prim.Native.Nat.{ℕ}
use mathlib.Core.Bool.{false≢true}
use mathlib.Core.List.{List, [], ◌∷◌, ◌++◌}
use mathlib.Core.Path.{◌≡◌, refl}
use Rattle.telegram.specs.Kinds.{bad_block, kind_of}
use Rattle.opening.specs.Opening.{request_read, reply_read}
use Rattle.telegram.specs.Time.{tenths_of}
use Rattle.profile.specs.Profile.{within, sorted_by}
use Rattle.profile.specs.Opening.{request_for, named, reply_for}
use Rattle.settings.specs.Settings.{defaults, allowed_by}
use Rattle.connection.specs.Record.{closed_record, listens_on, hears}
use Rattle.connection.specs.Calls.{opening_as, opening, on_reply, on_accept, on_agreeing, arrived, request_due, due_of, buffered}
use Rattle.unit.specs.Record.{settable, unit_defaults, closed_with}
use Rattle.unit.specs.Calls.{ends, on_request, on_setup, on_opening, arrived as unit_arrived, due_of as unit_due, buffered as unit_buffered}
use Rattle.delivery.specs.System.{Call, run, asking, arriving}
use Rattle.delivery.specs.System.Side.{near, far}
use Rattle.delivery.specs.System.Fate.{goes}
use Rattle.delivery.specs.System.Act.{due, arrive}
use Rattle.delivery.specs.System.Call.{at}
use Rattle.delivery.specs.Claim.{Along, Fresh, no_history}
use Rattle.unit_opening.specs.Opening.{Outcome, opened, refused, round_trip, turns, Bench, Begins, Proper, active_ended, unit_ended, anew}
use Rattle.unit_opening.proofs.Fresh.{opening-fresh}

-- the open has been called, and nothing else; the unit has its default settings
abbrev pub start : (reply : ℕ) → Bench 1024
start reply =
    record {
      near = record { state = (opening closed_record defaults).left; buffer = [] };
      far = record { state = closed_with unit_defaults reply; buffer = [] };
      forward = [];
      backward = [];
      forth = no_history (record { message = 0; block = 0; turn = 0 });
      back = no_history (record { message = 0; block = 0; turn = 0 });
    }

-- all that is assumed holds of it, and with each turn taken both openings have ended, as is said
pub record Ends (reply : ℕ) (for_active for_unit : Outcome) : Type 0 where
  pub begins : Begins 1024 closed_record defaults (closed_with unit_defaults reply) (start reply)
  pub proper : Along (Proper 1024) (start reply) (turns reply)
  pub active : active_ended 1024 (start reply) (turns reply) ≡ for_active ∷ []
  pub unit : unit_ended 1024 (start reply) (turns reply) ≡ for_unit ∷ []

-- a proof that computes with these lists of calls opens this, and with it every definition that the calls go through
unfoldable computed : Unit {0}
unfolding opening_as allowed_by within tenths_of request_for named reply_for sorted_by settable bad_block kind_of request_read reply_read listens_on hears on_reply on_accept on_agreeing arrived request_due due_of buffered ends on_request on_setup on_opening unit_arrived unit_due unit_buffered asking arriving
computed = tt

-- eight calls: both ends are open with blocks of 8, and with each other's IDs
pub opens-d0 : Ends 0xD0 (opened 8 0x300 0x740) (opened 8 0x740 0x300)
unfolding computed
opens-d0 =
    record {
      begins = record { answered = refl; active = refl; unit = refl; closed = refl; set = refl; one = refl; forward = refl; backward = refl };
      proper = ((tt, tt), (tt, (tt, ((tt, tt), ((tt, tt), (tt, (tt, ((tt, tt), tt))))))));
      active = refl;
      unit = refl;
    }

-- four: both have the refusal
pub refuses-d7 : Ends 0xD7 (refused 0xD7) (refused 0xD7)
unfolding computed
refuses-d7 =
    record {
      begins = record { answered = refl; active = refl; unit = refl; closed = refl; set = refl; one = refl; forward = refl; backward = refl };
      proper = ((tt, tt), (tt, (tt, ((tt, tt), tt))));
      active = refl;
      unit = refl;
    }

-- the calls up to the A1's arrival
abbrev seven : List Call
seven = round_trip ++ (at near due ∷ at far (arrive goes) ∷ at far due ∷ [])

-- and the pair is fresh with it: the unit has sent nothing else
pub fresh-d0 : Fresh (anew 1024 (run (start 0xD0) (turns 0xD0)))
unfolding computed
fresh-d0 =
    opening-fresh 1024 closed_record defaults (closed_with unit_defaults 0xD0) (start 0xD0) opens-d0.begins seven
    ((tt, tt), (tt, (tt, ((tt, tt), ((tt, tt), (tt, (tt, tt)))))))
    (tt, (tt, ((λ e. absurd (false≢true e)), (tt, (tt, (tt, ((λ e. absurd (false≢true e)), tt)))))))
    8 0x300 0x740 refl
