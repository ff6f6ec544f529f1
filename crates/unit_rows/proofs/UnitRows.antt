-- The claim holds.
use mathlib.Core.Path.{refl, ap}
use lib.ListN.{length, take}
use Rattle.unit_rows.specs.UnitRows.{UnitRowsHolds}
use Rattle.unit_rows.proofs.Arrival.{arrive-told}
use Rattle.unit_rows.proofs.Calls.{set_told, time-told, due-told, send-told, take-told, close-told}
use Rattle.unit_rows.proofs.Rows.{arrive-row, arrive-keeps-buffer, arrive-done, arrive-marks, arrive-no-reply, set-row, set-no-reply, time-row, time-no-reply, due-row, due-no-reply, send-row, send-no-reply, take_row, take-no-reply, close_row, close-no-reply}

pub unit-rows : UnitRowsHolds
unit-rows =
    record {
      limit = refl;
      had = refl;
      arrive = λ limit c id s b. record { tells = arrive-told limit c id s b; exactly = arrive-row limit c id s b };
      set = λ c s reply. record { tells = set_told c s reply; exactly = set-row c s reply };
      time = λ c n. record { tells = time-told c n; exactly = time-row c n };
      due = λ c m. record { tells = due-told c m; exactly = due-row c m };
      send = λ limit c n. record { tells = send-told limit c n; exactly = send-row limit c n };
      take' = λ c room. record { tells = take-told c room; exactly = take_row c room };
      close = λ c. record { tells = close-told c; exactly = close_row c };
      shows = λ c b. ap (λ x. take x.1.0 b.now) (take-told c (length b.now));
      lies = λ c b. refl;
      reports = λ c b. ap (λ x. x.1.1) (take-told c (length b.now));
      looks = λ c b. let e = take-told c (length b.now) in (ap (λ x. x.0) e, ap (λ x. x.1.2) e);
      keeps = arrive-keeps-buffer;
      done = arrive-done;
      marks = arrive-marks;
      unasked = λ limit c id s b m t n. (
        arrive-no-reply limit c id s b,
        set-no-reply c t n,
        time-no-reply c n,
        due-no-reply c m,
        send-no-reply limit c n,
        take-no-reply c n,
        close-no-reply c,
      );
    }
