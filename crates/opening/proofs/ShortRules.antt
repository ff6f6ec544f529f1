-- The rules of 001, 5.1, in bytes: what the writers of TP 1.6 put on the bus, and the view of both readers.
--     short-request-reads, short-reply-reads      a frame is read as what its bytes are the form of, and as malformed exactly if they are of none
use Prim.Native.Nat.{ℕ}
use mathlib.Core.Bool.{true, ◌&&◌}
use mathlib.Core.List.{List, [], ◌∷◌}
use mathlib.Core.Logic.{◌↔◌, ◌≢◌, ◌⊎◌, inl, inr}
use mathlib.Core.Path.{◌≡◌, refl, sym, ap, subst, ◌∙◌}
use lib.Dec.{eqb}
use lib.ListN.{length, get_or}
use borrow.Author.Tests.{ne_eqb}
use Rattle.laws.proofs.Cases.{by}
use Rattle.telegram.specs.Forms.{Taken}
use Rattle.telegram.proofs.Forms.{taken}
use Rattle.opening.specs.Short.{short_request_read, short_reply_read}
use Rattle.opening.specs.Forms.{ShortRequestForm, as-short-open, ShortReplyForm, as-short-positive, as-short-refused, ShortWrites}
use Rattle.opening.proofs.Elements.{counted}
use Rattle.opening.specs.Opening.{Reply, Request, Refused, NoReply, Open, NoRequest}
use Rattle.opening.proofs.Rules.{tests}

-- "unit, C0, low byte"; "00, opcode, low byte"
pub short-writes : ShortWrites
short-writes = record { request = λ u r. refl; reply = λ o t. refl }

-- three bytes, of what each was found to be
three : {s : List ℕ} {a b c : ℕ} → length s ≡ 3 → get_or s 0 0 ≡ a → get_or s 1 0 ≡ b → get_or s 2 0 ≡ c → s ≡ a ∷ b ∷ c ∷ []
three {s} l p q r = counted s l ∙ rw (p, q, r)

module _ (s : List ℕ) where
  -- what passes the test of a request has its form
  open-form : (eqb (length s) 3 && eqb (get_or s 1 0) 0xC0) ≡ true → ShortRequestForm s (Open (get_or s 0 0) (get_or s 2 0))
  open-form t = as-short-open _ _ (three (search tests) refl (search tests) refl)

  -- so a request has its form, or is malformed
  own-request : ShortRequestForm s (short_request_read s) ⊎ (short_request_read s ≡ NoRequest)
  unfolding short_request_read
  own-request = by (λ q. ShortRequestForm s q ⊎ (q ≡ NoRequest)) _ (λ t. inl (open-form t)) λ _. inr refl

  form-request : (q : Request) → ShortRequestForm s q → short_request_read s ≡ q
  unfolding short_request_read
  form-request q (as-short-open u c e) = rw e

  no-request : ShortRequestForm s NoRequest → ⊥
  no-request f = elim f [ ]

  -- a request is taken exactly with these bytes; all else is badly formed
  pub short-request-reads : (q : Request) → short_request_read s ≡ q ↔ Taken (ShortRequestForm s) NoRequest q
  short-request-reads = taken (short_request_read s) own-request form-request no-request

  -- the same of a reply, by its opcode
  reply-bytes : (o : ℕ) → (eqb (length s) 3 && eqb (get_or s 0 0) 0x00 && eqb (get_or s 1 0) o) ≡ true → s ≡ 0x00 ∷ o ∷ get_or s 2 0 ∷ []
  reply-bytes o t = three (search tests) (search tests) (search tests) refl

  own-reply : ShortReplyForm s (short_reply_read s) ⊎ (short_reply_read s ≡ NoReply)
  unfolding short_reply_read
  own-reply =
      by Ok _ (λ t. let e = reply-bytes 0xD8 t in inl (subst (λ (o : ℕ). ShortReplyForm s (Refused o)) (ap (λ (x : List ℕ). get_or x 1 0) (sym e)) (as-short-refused _ e))) λ _.
      by Ok _ (λ t. inl (as-short-positive _ (reply-bytes 0xD0 t))) λ _. inr refl
    where
      Ok : Reply → Type 0
      Ok q = ShortReplyForm s q ⊎ (q ≡ NoReply)

  form-reply : (q : Reply) → ShortReplyForm s q → short_reply_read s ≡ q
  unfolding short_reply_read
  form-reply q (as-short-positive c e) = rw e
  form-reply q (as-short-refused a e) = rw e

  no-reply : ShortReplyForm s NoReply → ⊥
  no-reply f = elim f [ ]

  -- a reply is positive exactly with 00, D0 and a third byte, a refusal exactly with 00, D8 and a third byte; all else is badly formed
  pub short-reply-reads : (q : Reply) → short_reply_read s ≡ q ↔ Taken (ShortReplyForm s) NoReply q
  short-reply-reads = taken (short_reply_read s) own-reply form-reply no-reply

-- what is of none: any opcode but these two, D6 and D7 too, whatever stands behind it, and any other length
pub short-other-read : (opcode any : ℕ) → opcode ≢ 0xD0 → opcode ≢ 0xD8 → short_reply_read (0x00 ∷ opcode ∷ any ∷ []) ≡ NoReply
unfolding short_reply_read
short-other-read o a h k = rw (ne_eqb o 0xD0 h, ne_eqb o 0xD8 k)

pub short-length-read : (s : List ℕ) → length s ≢ 3 → short_reply_read s ≡ NoReply
unfolding short_reply_read
short-length-read s h = rw (ne_eqb (length s) 3 h)
