-- The rules of 01, "Opening", in numbers and bytes: what the writers put on the bus, and the view of both readers.
--     request-reads, reply-reads      a frame is read as what its bytes are the form of, and as malformed exactly if they are of none
use Prim.Native.Nat.{ℕ, ◌/◌, ◌%◌, ◌≤◌, ◌<◌}
use native.Mathlib.Nat.{mod-eq_of_lt}
use native.Mathlib.Omega.{arith}
use mathlib.Core.Bool.{true, ◌&&◌}
use mathlib.Core.List.{List, [], ◌∷◌}
use mathlib.Core.Logic.{◌↔◌, ◌⊎◌, inl, inr}
use mathlib.Core.Path.{◌≡◌, refl, sym, ap, ◌∙◌}
use lib.Dec.{eqb}
use lib.ListN.{length, get_or}
use borrow.Author.Tests.{ltb-true, eqb-true, eq-eqb, eqb-false}
use Rattle.laws.proofs.Cases.{by, either, and_first, and_second}
use Rattle.telegram.specs.Forms.{Bytes, Taken}
use Rattle.telegram.proofs.Forms.{taken}
use Rattle.opening.specs.Opening.{request_id, high_of, id_of, clear, refusal, request_read, reply_read, Reply, Request, Positive, Refused, NoReply, Open, NoRequest}
use Rattle.opening.specs.Forms.{RequestForm, as-open, ReplyForm, as-positive, as-refused, OpeningWrites}
use Rattle.opening.proofs.Elements.{counted}
use Rattle.opening.proofs.RoundTrip.{request-read, positive-read}

-- IDs

-- "From CAN ID 0x200"
pub request-id : request_id ≡ 0x200
request-id = refl

-- "bits 2-0 belong to the ID": the high byte of an ID of eleven bits, and it is below 8
pub high_byte : (i : ℕ) → i < 0x800 → (high_of i ≡ i / 256) × (high_of i < 8)
high_byte i h = let e : i / 256 % 8 ≡ i / 256 = mod-eq_of_lt (omega arith) in omega arith

-- "low and high": an ID is that of its two bytes, and they are its own
pub id-bytes : (low high : ℕ) → low < 256 → high < 8 → (id_of low high < 0x800) × (id_of low high % 256 ≡ low) × (id_of low high / 256 ≡ high)
id-bytes low high h k = omega arith

-- writers

-- "unit, C0, 00, 10, receive ID low, receive ID high, 01"; "00, D0, our receive ID low and high, our transmit ID low and high, 01"
pub writes : OpeningWrites
writes =
    record {
      request = λ u r h. rw (high_byte r h).0;
      reply = λ o r t h k. rw ((high_byte r h).0, (high_byte t k).0);
    }

-- readers

-- "D6, D7, D8"
pub refusal-exactly : (o : ℕ) → refusal o ≡ true ↔ (0xD6 ≤ o) × (o ≤ 0xD8)
refusal-exactly o = (one, refuses)
  where
    one : refusal o ≡ true → (0xD6 ≤ o) × (o ≤ 0xD8)
    one e =
        either (eqb o 0xD6) (λ a. let x = eqb-true o 0xD6 a in omega arith) λ a.
        either (eqb o 0xD7) (λ b. let x = eqb-true o 0xD7 b in omega arith) λ b. let x = eqb-true o 0xD8 (rw (a, b) at e) in omega arith

    refuses : (0xD6 ≤ o) × (o ≤ 0xD8) → refusal o ≡ true
    refuses h =
        either (eqb o 0xD6) (λ a. rw a) λ a.
        either (eqb o 0xD7) (λ b. rw (a, b)) λ b. let x = eqb-false o 0xD6 a in let y = eqb-false o 0xD7 b in rw (a, b) (eq-eqb o 0xD8 (omega arith))

-- seven bytes, of what each was found to be
seven : {s : List ℕ} {a b c d e f g : ℕ} → length s ≡ 7 → get_or s 0 0 ≡ a → get_or s 1 0 ≡ b → get_or s 2 0 ≡ c → get_or s 3 0 ≡ d → get_or s 4 0 ≡ e → get_or s 5 0 ≡ f → get_or s 6 0 ≡ g
    → s ≡ a ∷ b ∷ c ∷ d ∷ e ∷ f ∷ g ∷ []
seven {s} l p q r t u v w = counted s l ∙ rw (p, q, r, t, u, v, w)

-- what a test joined by "and" says of its parts
pub ruleset tests = (and_first, and_second, eqb-true)

module _ (s : List ℕ) (bytes : Bytes s) where
  -- what passes the test of a request has its form
  open-form :
      (eqb (length s) 7 && eqb (get_or s 1 0) 0xC0 && eqb (get_or s 2 0) 0x00 && eqb (get_or s 3 0) 0x10 && clear (get_or s 5 0) && eqb (get_or s 6 0) 0x01) ≡ true
      → RequestForm s (Open (get_or s 0 0) (id_of (get_or s 4 0) (get_or s 5 0)))
  open-form t =
      let high = ltb-true (get_or s 5 0) 8 (search tests) in
      let i = id-bytes (get_or s 4 0) (get_or s 5 0) (bytes 4) high in
      as-open _ _ i.0
      (seven (search tests) refl (search tests) (search tests) (search tests) (sym i.1) (sym i.2) (search tests))

  -- so a request has its form, or is malformed
  own-request : RequestForm s (request_read s) ⊎ (request_read s ≡ NoRequest)
  unfolding request_read
  own-request = by (λ q. RequestForm s q ⊎ (q ≡ NoRequest)) _ (λ t. inl (open-form t)) λ _. inr refl

  -- what has the form of a request is read as that request
  form-request : (q : Request) → RequestForm s q → request_read s ≡ q
  form-request q (as-open u r h e) = rw (e, ← writes.request u r h) (request-read u r h)

  -- what is malformed has no form
  no-request : RequestForm s NoRequest → ⊥
  no-request f = elim f [ ]

  -- a request is taken exactly with these bytes; all else is badly formed
  pub request-reads : (q : Request) → request_read s ≡ q ↔ Taken (RequestForm s) NoRequest q
  request-reads = taken (request_read s) own-request form-request no-request

  -- the same of a reply, read against our own receive ID
  module _ (receive : ℕ) where
    refused-form : (eqb (length s) 7 && eqb (get_or s 0 0) 0x00 && refusal (get_or s 1 0)) ≡ true → ReplyForm receive s (Refused (get_or s 1 0))
    refused-form t =
        let o = (refusal-exactly (get_or s 1 0)).0 (search tests) in
        as-refused _ _ _ _ _ _ o.0 o.1 (seven (search tests) (search tests) refl refl refl refl refl refl)

    positive-form :
        (eqb (length s) 7 && eqb (get_or s 0 0) 0x00 && eqb (get_or s 1 0) 0xD0 && clear (get_or s 3 0) && eqb (id_of (get_or s 2 0) (get_or s 3 0)) receive && clear (get_or s 5 0) && eqb (get_or s 6 0) 0x01) ≡ true
        → ReplyForm receive s (Positive (id_of (get_or s 4 0) (get_or s 5 0)))
    positive-form t =
        let own = eqb-true (id_of (get_or s 2 0) (get_or s 3 0)) receive (search tests) in
        let i = id-bytes (get_or s 2 0) (get_or s 3 0) (bytes 2) (ltb-true (get_or s 3 0) 8 (search tests)) in
        let j = id-bytes (get_or s 4 0) (get_or s 5 0) (bytes 4) (ltb-true (get_or s 5 0) 8 (search tests)) in
        as-positive _ (rw own at i.0) j.0
        (seven (search tests) (search tests) (search tests) (rw own at (sym i.1)) (rw own at (sym i.2)) (sym j.1) (sym j.2) (search tests))

    own-reply : ReplyForm receive s (reply_read s receive) ⊎ (reply_read s receive ≡ NoReply)
    unfolding reply_read
    own-reply =
        by Ok _ (λ t. inl (refused-form t)) λ _.
        by Ok _ (λ t. inl (positive-form t)) λ _. inr refl
      where
        Ok : Reply → Type 0
        Ok q = ReplyForm receive s q ⊎ (q ≡ NoReply)

    form-reply : (q : Reply) → ReplyForm receive s q → reply_read s receive ≡ q
    unfolding reply_read
    form-reply q (as-positive t h k e) = ap (λ (x : List ℕ). reply_read x receive) (e ∙ sym (writes.reply 0xD0 receive t h k)) ∙ positive-read receive t h k
    form-reply q (as-refused o a b c d f h k e) = rw (e, (refusal-exactly o).1 (h, k))

    no-reply : ReplyForm receive s NoReply → ⊥
    no-reply f = elim f [ ]

    -- a reply is positive exactly with these bytes and our own receive ID, a refusal exactly by length, byte 0 and opcode; all else is badly formed
    pub reply-reads : (q : Reply) → reply_read s receive ≡ q ↔ Taken (ReplyForm receive s) NoReply q
    reply-reads = taken (reply_read s receive) own-reply form-reply no-reply
