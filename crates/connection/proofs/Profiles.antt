-- The rules of 02, 10, "TP 1.6 cars", of a record in other words: an opening of each row in bytes, and the telegrams that TP 1.6 does not have.
use Prim.Native.Nat.{ℕ}
use mathlib.Core.Bool.{false}
use mathlib.Core.List.{List, [], ◌∷◌, map}
use mathlib.Core.Path.{◌≡◌, refl}
use lib.ListN.{length}
use borrow.Author.Tests.{eq-eqb}
use Rattle.telegram.specs.Kinds.{bad_block, kind_of}
use Rattle.telegram.specs.Forms.{malformed}
use Rattle.telegram.specs.Outgoing.{bytes_of}
use Rattle.telegram.specs.Time.{tenths_of}
use Rattle.opening.specs.Short.{short_reply_read}
use Rattle.profile.specs.Profile.{within, drive, comfort, high, low, sorted_by}
use Rattle.profile.specs.Opening.{request_for, named, reply_for}
use Rattle.profile.specs.declared.Profile.{Profile}
use Rattle.profile.proofs.Rules.{no_test, no-break}
use Rattle.settings.specs.Settings.{defaults16, allowed_by}
use Rattle.channel.specs.declared.Answer.TheVariants.{Malformed, NotDue}
use Rattle.arrival.specs.Arrived.{answered, on_accept as channel_accept, arrived as channel_arrived}
use Rattle.open_end.specs.OpenEnd.{given_frame, course_of, arrived_at}
use Rattle.open_end.proofs.Rules.{plainly}
use Rattle.connection.specs.declared.Connection.{Connection}
use Rattle.connection.specs.Record.{closed_record, listens_on, hears}
use Rattle.connection.specs.Calls.{opening_as, on_reply, on_agreeing, settled, on_open, arrived, request_due, due_of}

-- ---- the rows

-- each row's opening with its defaults: the ID and the bytes of the C0
abbrev first_frame : Profile → ℕ × List ℕ
first_frame p = (let f = given_frame (due_of (opening_as closed_record p (defaults16 p)).left []).frame in (f.id, bytes_of f.payload))

-- drive's goes out on 0x200, the others' on 0x2D0 (001, table 1); to the lowest unit (table 3), naming the lowest receive ID without its offset (table 5)
pub rows-ask : map first_frame (drive ∷ comfort ∷ high ∷ low ∷ [])
    ≡ (0x200, 0x00 ∷ 0xC0 ∷ 0x40 ∷ []) ∷ (0x2D0, 0x00 ∷ 0xC0 ∷ 0x00 ∷ []) ∷ (0x2D0, 0x30 ∷ 0xC0 ∷ 0xE0 ∷ []) ∷ (0x2D0, 0x30 ∷ 0xC0 ∷ 0x90 ∷ []) ∷ []
unfolding opening_as allowed_by within bad_block tenths_of due_of request_due request_for
rows-ask = refl

-- what a reply on an ID is answered then
abbrev answer : Profile → (id : ℕ) → List ℕ → ℕ
answer p id s = (arrived 1024 (due_of (opening_as closed_record p (defaults16 p)).left []).left id s 0).told.said.number

-- the reply comes from 0x200, 0x2E0, 0x4D0 and 0x4D0 (table 2: 0x4A0 + 0x30); another ID is answered 3: 0x200 in comfort, 0x4A0 in infotainment (of all IDs: arrived-other-id-1)
pub rows-listen :
    answer drive 0x200 (0x00 ∷ 0xD0 ∷ 0x41 ∷ []) ∷ answer comfort 0x2E0 (0x00 ∷ 0xD0 ∷ 0x20 ∷ []) ∷ answer high 0x4D0 (0x00 ∷ 0xD0 ∷ 0xF0 ∷ []) ∷ answer low 0x4D0 (0x00 ∷ 0xD0 ∷ 0xB0 ∷ [])
    ∷ answer comfort 0x200 (0x00 ∷ 0xD0 ∷ 0x20 ∷ []) ∷ answer high 0x4A0 (0x00 ∷ 0xD0 ∷ 0xF0 ∷ []) ∷ []
    ≡ 0 ∷ 0 ∷ 0 ∷ 0 ∷ 3 ∷ 3 ∷ []
unfolding opening_as allowed_by within bad_block tenths_of due_of request_due request_for arrived hears listens_on reply_for named short_reply_read on_reply
rows-listen = refl

-- the channel IDs on both sides of each row's transmit range (table 5): 3F and C0 in drive, 1F and 40 in comfort, EF of the high and AF and C0 of the low priority give 1; the ends give 0
pub rows-transmit :
    map (λ b. answer drive 0x200 (0x00 ∷ 0xD0 ∷ b ∷ [])) (0x3F ∷ 0x40 ∷ 0xBF ∷ 0xC0 ∷ [])
    ∷ map (λ b. answer comfort 0x2E0 (0x00 ∷ 0xD0 ∷ b ∷ [])) (0x1F ∷ 0x20 ∷ 0x3F ∷ 0x40 ∷ [])
    ∷ map (λ b. answer high 0x4D0 (0x00 ∷ 0xD0 ∷ b ∷ [])) (0xEF ∷ 0xF0 ∷ 0xFF ∷ [])
    ∷ map (λ b. answer low 0x4D0 (0x00 ∷ 0xD0 ∷ b ∷ [])) (0xAF ∷ 0xB0 ∷ 0xBF ∷ 0xC0 ∷ []) ∷ []
    ≡ (1 ∷ 0 ∷ 0 ∷ 1 ∷ []) ∷ (1 ∷ 0 ∷ 0 ∷ 1 ∷ []) ∷ (1 ∷ 0 ∷ 0 ∷ []) ∷ (1 ∷ 0 ∷ 0 ∷ 1 ∷ []) ∷ []
unfolding opening_as allowed_by within bad_block tenths_of due_of request_due request_for arrived hears listens_on reply_for named short_reply_read on_reply
rows-transmit = refl

-- ---- no test and no break

-- "A3 and A4 are answer 1 there": at their own length and filled up to 8 bytes
pub data TestOrBreak : List ℕ → Type 0 where
  test : TestOrBreak (0xA3 ∷ [])
  break : TestOrBreak (0xA4 ∷ [])
  filled-test : (content : List ℕ) → length content ≡ 7 → TestOrBreak (0xA3 ∷ content)
  filled-break : (content : List ℕ) → length content ≡ 7 → TestOrBreak (0xA4 ∷ content)

module _ (c : Connection) (none : c.profile.tests ≡ false) (limit room : ℕ) where
  -- they are no telegrams
  no-telegram : {s : List ℕ} → TestOrBreak s → sorted_by c.profile s ≡ malformed
  no-telegram test = (no_test c.profile none).0
  no-telegram break = (no-break c.profile none).0
  no-telegram (filled-test content l) = (no_test c.profile none).1 content l
  no-telegram (filled-break content l) = (no-break c.profile none).1 content l

  -- while the A1 is awaited
  pub no-test-awaited : (s : List ℕ) → TestOrBreak s → c.phase ≡ 2 → arrived limit c c.end.receive s room ≡ record { told = plainly Malformed 1; padded = false; left = c }
  unfolding arrived hears listens_on on_agreeing
  no-test-awaited s t p = rw (p, eq-eqb c.end.receive _ refl, no-telegram t)

  -- and on an open connection
  pub no-test-open : (s : List ℕ) → TestOrBreak s → c.phase ≡ 3 → arrived limit c c.end.receive s room ≡ record { told = plainly Malformed 1; padded = false; left = c }
  unfolding arrived hears listens_on on_open arrived_at channel_arrived answered course_of settled
  no-test-open s t p = rw (p, eq-eqb c.end.receive _ refl, no-telegram t)

  -- no test is out (`untested` of reachable), so an A1 on an open connection gives 4
  pub no-answer-open : c.phase ≡ 3 → c.end.channel.tests.out ≡ false → (block t1 t2 t3 t4 : ℕ)
      → arrived limit c c.end.receive (0xA1 ∷ block ∷ t1 ∷ t2 ∷ t3 ∷ t4 ∷ []) room ≡ record { told = plainly NotDue 4; padded = false; left = c }
  unfolding arrived hears listens_on kind_of sorted_by on_open arrived_at channel_arrived channel_accept answered course_of settled
  no-answer-open p o block t1 t2 t3 t4 = rw (p, eq-eqb c.end.receive _ refl, none, o)
