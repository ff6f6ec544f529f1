-- The connection record is a lawful end, with tests or without: open, its calls are those of its open end; 8 leaves the closed record, which refuses them.
use Prim.Native.Nat.{ℕ}
use mathlib.Core.Bool.{Bool, true, false, not, ◌&&◌, true≢false}
use mathlib.Core.Path.{◌≡◌, refl}
use borrow.Author.Tests.{eqb-true}
use Rattle.laws.proofs.Cases.{both}
use Rattle.open_end.specs.OpenEnd.{with_channel}
use Rattle.channel.specs.declared.Channel.{Channel}
use Rattle.connection.specs.declared.Connection.{Connection}
use Rattle.connection.specs.Record.{is_open, closed_record, with_open_end}
use Rattle.connection.specs.Calls.{settled, open_sent, open_taken, open_elapsed, open_due, on_open}
use Rattle.connection.proofs.Rules.{sent_by-closed, taken_by-closed, elapsed-closed, due_of-closed, arrived-closed, buffered-closed}
use Rattle.delivery.specs.Laws.{Lawful}
use Rattle.connection_delivery.specs.Ends.{goes_by, connection_end}
use Rattle.connection_delivery.proofs.Ends.{sent-open, taken-open, elapsed-open, due-open, arrived-open, buffered-open, sorted-alike}
use Rattle.connection_delivery.proofs.Keeps.{CarriedBy, Runs, fresh-runs, keeps}
use Rattle.connection_delivery.proofs.Around.{Refuses, Tied, open', Around, around-lawful}

-- another channel that runs so goes by the same profile
runs_on : (tests : Bool) (c : Connection) (ch : Channel) → goes_by tests c ≡ true → Runs tests ch → goes_by tests (with_open_end c (with_channel c.end ch)) ≡ true
runs_on true c ch g r = g
runs_on false c ch g r = rw ((both (not c.profile.tests) _ g).0, r.tests.off)

-- without tests, none is agreed
none-agreed : (tests : Bool) (c : Connection) → goes_by tests c ≡ true → tests ≡ false → c.end.channel.parameters.interval ≡ 0
none-agreed true c g e = absurd (true≢false e)
none-agreed false c g e = eqb-true _ 0 (both (not c.profile.tests) _ g).1

module _ (limit : ℕ) (tests : Bool) where
  -- "any frame, send, take or close on a closed record" gives 4; nothing is due
  closed-refuses : (id : ℕ) → Refuses (connection_end limit tests) id closed_record
  closed-refuses id =
      record {
        shut = refl;
        sends = λ n. rw (sent_by-closed closed_record refl limit n);
        takes = λ room. rw (taken_by-closed closed_record refl room);
        times = λ n. rw (elapsed-closed closed_record refl n);
        hands = λ m. rw (due_of-closed closed_record refl m refl);
        arrives = λ bytes room. rw (arrived-closed closed_record refl limit id bytes room);
        buffers = buffered-closed closed_record refl limit id;
      }

  -- an open record is around its open end
  connection-around : (c : Connection) → (is_open c && goes_by tests c) ≡ true → Around limit (CarriedBy tests) (Runs tests) (connection_end limit tests) c
  unfolding open_sent open_taken open_elapsed open_due on_open settled
  connection-around c live =
      let o = (both (is_open c) (goes_by tests c) live).0 in
      let g = (both (is_open c) (goes_by tests c) live).1 in
      record {
        end = c.end;
        left = settled c;
        channel = refl;
        transmits = refl;
        goes_on = λ ch k. open' (with_open_end c (with_channel c.end ch)) (rw (o, runs_on tests c ch g k)) k;
        gives_up = λ e. closed-refuses c.end.receive;
        sends = λ n. rw (sent-open c o limit n);
        takes = λ room. rw (taken-open c o room);
        times = λ n. rw (elapsed-open c o n);
        hands = λ m. rw (due-open c o m);
        arrives = λ bytes k room. rw (arrived-open c o limit bytes room, sorted-alike tests c g bytes k);
        buffers = λ bytes k b. rw (buffered-open c o limit bytes b, sorted-alike tests c g bytes k);
      }

  -- so it is lawful
  pub connection-lawful : Lawful limit (CarriedBy tests) (connection_end limit tests) (Tied (Runs tests) (connection_end limit tests))
  connection-lawful =
      around-lawful limit (keeps limit tests) (connection_end limit tests) connection-around
      (λ p f. fresh-runs tests p f (none-agreed tests p.state (both (is_open p.state) _ f.open').1))
