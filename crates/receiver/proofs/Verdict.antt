-- A first or a later frame is received in two steps: what becomes of it, and what that leaves. Together they are the rules.
use Rattle.std.specs.Prelude.{if◌then◌else◌}
use Prim.Native.Nat.{ℕ, ◌<◌}
use native.Mathlib.Nat.{mod-eq_of_lt}
use native.Mathlib.Omega.{arith}
use mathlib.Core.Bool.{Bool, false, not, ◌&&◌, ◌||◌}
use mathlib.Core.Path.{◌≡◌, refl, sym, ◌∙◌}
use mathlib.Core.List.{List}
use lib.ListN.{length, get_or}
use lib.Dec.{ltb, eqb}
use borrow.Author.Tests.{le-ltb}
use Rattle.laws.proofs.Cases.{either}
use Rattle.telegram.specs.Cutting.{declared_of}
use Rattle.receiver.specs.Receiving.{fresh, first, filled, on_first, on_later}
use Rattle.receiver.specs.Inside.{in_order, brought_by, receiver_after}
use Rattle.telegram.specs.declared.cutting.Message.{Message}
use Rattle.receiver.specs.declared.Brought.{Brought}
use Rattle.receiver.specs.declared.Receiver.{Receiver}
use Rattle.receiver.specs.declared.Cause.TheVariants.{TooShort, BadLength, TooMany, NoEnd, EarlyEnd}
use Rattle.receiver.specs.declared.Receipt.{Receipt}
use Rattle.receiver.specs.declared.Receipt.TheVariants.{Used, Complete, ShortFirst, ShortLater, Broken}
use Rattle.receiver.specs.declared.Received.{Received}
use Rattle.receiver.proofs.Outcomes.{Brings, at_first, at-later, Judged, breaks, short-first, short-later, goes_on, ends, judged}

-- what becomes of a frame that brings a message to fill bytes
pub filled-notes : (r : Receiver) (asks last : Bool) (m : Message) (fill room : ℕ) → (filled r asks last m fill room).note
    ≡ (if ltb m.length fill then Broken TooMany
    else if not last && eqb fill m.length then Broken NoEnd
    else if last && ltb fill m.length then Broken EarlyEnd
    else if ltb room m.length then ShortFirst
    else if last then Complete
    else Used)
unfolding filled
filled-notes r asks last m fill room =
    either (ltb m.length fill) (λ a. rw a) (λ a.
    either (not last && eqb fill m.length) (λ b. rw (a, b)) (λ b.
    either (last && ltb fill m.length) (λ d. rw (a, b, d)) (λ d.
    either (ltb room m.length) (λ e. rw (a, b, d, e)) (λ e.
    either last (λ l. rw (a, b, d, e, l)) (λ l. rw (a, b, d, e, l))))))

-- it hangs on neither the receiver nor AR
filled-note : (r : Receiver) (asks last : Bool) (m : Message) (fill room : ℕ) → (filled r asks last m fill room).note ≡ (filled fresh false last m fill room).note
filled-note r asks last m fill room = filled-notes r asks last m fill room ∙ sym (filled-notes fresh false last m fill room)

module _ (limit : ℕ) (r : Receiver) (asks last : Bool) (p : List ℕ) (room : ℕ) where
  abbrev declared : ℕ
  declared = (declared_of (get_or p 0 0) (get_or p 1 0)).length

  -- what becomes of a frame that is in order
  pub order-notes : (b : Brought) → b ≡ brought_by r p → (in_order limit r asks last p room).note
      ≡ (if first r && ltb (length p) 2 then Broken TooShort
      else if first r && (eqb b.message.length 0 || ltb limit b.message.length) then Broken BadLength
      else if not (first r) && ltb room b.message.length then ShortLater
      else (filled fresh false last b.message b.fill room).note)
  unfolding on_first on_later brought_by
  order-notes b e =
      rw e
      (either (first r)
      (λ f.
      either (ltb (length p) 2) (λ two. rw (f, two)) (λ two.
      either (eqb declared 0) (λ z. rw (f, two, z)) (λ z.
      either (ltb limit declared) (λ l. rw (f, two, z, l)) (λ l. rw (f, two, z, l) (filled-note r asks last _ _ room)))))
      (λ f. either (ltb room r.at.begun.length) (λ s. rw (f, s)) (λ s. rw (f, s) (filled-note r asks last _ _ room))))

-- AR has no part in it
note-alike : (limit : ℕ) (r : Receiver) (asks last : Bool) (p : List ℕ) (room : ℕ) → (in_order limit r asks last p room).note ≡ (in_order limit r false last p room).note
note-alike limit r asks last p room = order-notes limit r asks last p room _ refl ∙ sym (order-notes limit r false last p room _ refl)

-- what is left, by what became of the frame
module _ (limit : ℕ) (r : Receiver) (asks last : Bool) (p : List ℕ) (room : ℕ) where
  brings-brought : {m : Message} {fill : ℕ} → Brings limit r p room m fill → brought_by r p ≡ record { message = m; fill = fill }
  unfolding brought_by
  brings-brought (at_first f two some most) = rw (f, le-ltb (length p) 2 two)
  brings-brought (at-later f held) = rw f

  -- the length of a message is one that two bytes tell
  brings-small : {m : Message} {fill : ℕ} → limit < 65536 → r.at.begun.length < 65536 → Brings limit r p room m fill → m.length < 65536
  brings-small most begun (at_first f two some h) = omega arith
  brings-small most begun (at-later f held) = begun

  judged-leaves : {x : Received} → limit < 65536 → r.at.begun.length < 65536 → Judged limit r asks last p room x
      → x ≡ record { note = x.note; receiver = receiver_after r x.note asks last (brought_by r p) }
  unfolding receiver_after
  judged-leaves most begun (breaks c) = refl
  judged-leaves most begun (short-first b e h) = refl
  judged-leaves most begun (short-later f h) = refl
  judged-leaves most begun (goes_on {fill = fill} b l less roomy) =
      let small = brings-small most begun b in
      let few : fill < 65536 = omega arith in
      rw (brings-brought b, mod-eq_of_lt few)
  judged-leaves most begun (ends b l all roomy) = rw (brings-brought b)

  -- both steps
  pub in-two-steps : limit < 65536 → r.at.begun.length < 65536
      → (b : Brought) (v : Receipt) (a : Receiver) → b ≡ brought_by r p → v ≡ (in_order limit r false last p room).note → a ≡ receiver_after r v asks last b
      → ◌≡◌ {A = Received} (record { note = v; receiver = a }) (in_order limit r asks last p room)
  in-two-steps most begun b v a eb ev ea = rw (ea, eb, ev, ← note-alike limit r asks last p room) (sym (judged-leaves most begun (judged limit r asks last p room)))
