-- Demand 1 holds.
use mathlib.Core.Path.{refl, ap}
use lib.ListN.{length, take}
use Rattle.open_rows.specs.Records.{tp20_numbers}
use Rattle.connection_rows.specs.Demand1.{Demand1Holds}
use Rattle.connection_rows.proofs.Arrival.{arrive-told}
use Rattle.connection_rows.proofs.Calls.{open_told, time-told, due-told, send-told, take-told, close-told}
use Rattle.connection_rows.proofs.Rows.{arrive-row, arrive-keeps-buffer, arrive-done, arrive-marks, arrive-opcode, open_row, time-row, due-row, send-row, take_row, close_row}

pub demand1 : Demand1Holds
demand1 =
    record {
      limit = refl;
      arrive = λ limit c id s b. record { tells = arrive-told limit c id s b; exactly = arrive-row limit c id s b };
      open_as = λ c p s. record { tells = open_told c p s; exactly = open_row c p s };
      open' = λ c s. record { tells = open_told c tp20_numbers s; exactly = open_row c tp20_numbers s };
      time = λ c n. record { tells = time-told c n; exactly = time-row c n };
      due = λ c m. record { tells = due-told c m; exactly = due-row c m };
      send = λ limit c n. record { tells = send-told limit c n; exactly = send-row limit c n };
      take' = λ c room. record { tells = take-told c room; exactly = take_row c room };
      close = λ c. record { tells = close-told c; exactly = close_row c };
      shows = λ c b. ap (λ x. take x.1.0 b.now) (take-told c (length b.now));
      lies = λ c b. refl;
      reports = λ c b. ap (λ x. x.1.1) (take-told c (length b.now));
      looks = λ c b. let e = take-told c (length b.now) in (ap (λ x. x.0) e, ap (λ x. x.1.2) e);
      keeps = arrive-keeps-buffer;
      done = arrive-done;
      marks = arrive-marks;
      opcode = arrive-opcode;
    }
