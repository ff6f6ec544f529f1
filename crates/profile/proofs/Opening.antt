-- The rules of 02, 10, and of 001, 5.1, in bytes: an opening by the numbers of its profile.
--     reply-for-short, reply-for-long     what a reply says, by the forms of its bytes
--     request-bytes, positive_back        a row's frames, both ways
--     tp20-replies, tp20-requests         TP 2.0 as it was
use Rattle.std.specs.Prelude.{if◌then◌else◌}
use Prim.Native.Nat.{ℕ, ◌+◌, ◌-◌, ◌%◌, ◌≤◌, ◌<◌}
use native.Mathlib.Omega.{arith}
use mathlib.Core.Bool.{Bool, true, false}
use mathlib.Core.List.{List, [], ◌∷◌, map}
use mathlib.Core.Logic.{◌↔◌, ◌≢◌, ◌⊎◌, inl, inr}
use mathlib.Core.Path.{◌≡◌, refl, sym, ap, subst, ◌∙◌}
use lib.ListN.{length, replicate}
use borrow.Author.Tests.{eqb-true, eq-eqb}
use Rattle.laws.proofs.Cases.{by}
use Rattle.telegram.specs.Forms.{Bytes, Taken, formed}
use Rattle.telegram.specs.Outgoing.{bytes_of}
use Rattle.telegram.proofs.Forms.{taken}
use Rattle.opening.specs.Opening.{request_of, reply_of, refusal, reply_read, Reply, Positive, Refused, NoReply as Malformed, Open}
use Rattle.opening.specs.Short.{short_reply_of, short_request_read, short_reply_read}
use Rattle.opening.specs.Forms.{ReplyForm, as-positive, ShortReplyForm}
use Rattle.opening.proofs.RoundTrip.{positive-read, refused-read, short-positive-read}
use Rattle.opening.proofs.Rules.{reply-reads}
use Rattle.opening.proofs.ShortRules.{short-other-read, short-length-read, short-reply-reads}
use Rattle.profile.specs.Profile.{within, tp20, drive, comfort, high, low}
use Rattle.profile.specs.Opening.{answers_on, request_for, named, reply_for}
use Rattle.profile.specs.Forms.{Within, Says, positive, refused, Row}
use Rattle.profile.specs.declared.Profile.{Profile}
use Rattle.profile.proofs.Rules.{within-exactly}

-- ---- the ID that a reply names

module _ (p : Profile) (id : ℕ) where
  pub named-inside : Within p.transmits (p.offset + id) → named p (Positive id) ≡ Positive (p.offset + id)
  unfolding named
  named-inside h = rw ((within-exactly p.transmits (p.offset + id)).1 h)

  pub named-outside : (Within p.transmits (p.offset + id) → ⊥) → named p (Positive id) ≡ Malformed
  unfolding named
  named-outside h = by (λ q. q ≡ Malformed) _ (λ e. absurd (h ((within-exactly p.transmits (p.offset + id)).0 e))) (λ _. refl)

-- what is read of bytes by their forms, with the ID that is named
module _ (p : Profile) {F : Reply → Type 0} (x : Reply) (reads : (q : Reply) → x ≡ q ↔ Taken F Malformed q) where
  own-reply : Says p F (named p x) ⊎ (named p x ≡ Malformed)
  unfolding named
  own-reply = go x ((reads x).0 refl)
    where
      go : (y : Reply) → Taken F Malformed y → Says p F (named p y) ⊎ (named p y ≡ Malformed)
      go (Positive id) (formed f) = by (λ q. Says p F q ⊎ (q ≡ Malformed)) _ (λ e. inl (positive id f ((within-exactly p.transmits (p.offset + id)).0 e))) (λ _. inr refl)
      go (Refused opcode) (formed f) = inl (refused opcode f)
      go Malformed f = inr refl

  form-reply : (q : Reply) → Says p F q → named p x ≡ q
  unfolding named
  form-reply q (positive id f h) = ap (named p) ((reads (Positive id)).1 (formed f)) ∙ named-inside p id h
  form-reply q (refused opcode f) = ap (named p) ((reads (Refused opcode)).1 (formed f))

  no-reply : Says p F Malformed → ⊥
  no-reply f = elim f [ ]

  named-reads : (q : Reply) → named p x ≡ q ↔ Taken (Says p F) Malformed q
  named-reads = taken (named p x) own-reply form-reply no-reply

module _ (p : Profile) (s : List ℕ) (receive : ℕ) where
  -- the form is that of the profile
  by_form : {b : Bool} → p.short ≡ b → reply_for p s receive ≡ named p (if b then short_reply_read s else reply_read s receive)
  unfolding reply_for
  by_form e = ap (λ (b : Bool). named p (if b then short_reply_read s else reply_read s receive)) e

  -- a reply of three bytes is positive, with an ID in the profile's range, or a refusal, exactly by its form; all else, and an ID outside, is badly formed
  pub reply-for-short : p.short ≡ true → (q : Reply) → reply_for p s receive ≡ q ↔ Taken (Says p (ShortReplyForm s)) Malformed q
  reply-for-short e q = rw (by_form e) (named-reads p (short_reply_read s) (short-reply-reads s) q)

  -- the same of seven bytes
  pub reply-for-long : p.short ≡ false → Bytes s → (q : Reply) → reply_for p s receive ≡ q ↔ Taken (Says p (ReplyForm receive s)) Malformed q
  reply-for-long e b q = rw (by_form e) (named-reads p (reply_read s receive) (reply-reads s b receive) q)

-- if a reply names an ID, that lies in the profile's range
abbrev Transmits : Profile → Reply → Type 0
Transmits p (Positive t) = Within p.transmits t
Transmits p (Refused opcode) = Unit {0}
Transmits p Malformed = Unit {0}

named-within : (p : Profile) (q : Reply) → Transmits p (named p q)
unfolding named
named-within p (Positive id) = by (Transmits p) _ (λ e. (within-exactly p.transmits (p.offset + id)).0 e) (λ _. tt)
named-within p (Refused opcode) = tt
named-within p Malformed = tt

-- "an ID in a reply answer 1": one that is taken is not outside
pub reply-within : (p : Profile) (s : List ℕ) (receive t : ℕ) → reply_for p s receive ≡ Positive t → Within p.transmits t
unfolding reply_for
reply-within p s receive t e = subst (Transmits p) e (named-within p (if p.short then short_reply_read s else reply_read s receive))

-- ---- TP 1.6: the frames of 001, both ways

-- the part of an ID above the offset, in one byte
pub channel-byte : (offset id : ℕ) → offset % 256 ≡ 0 → offset ≤ id → id < offset + 256 → (id % 256 ≡ id - offset) × (offset + id % 256 ≡ id)
channel-byte offset id e h k = omega arith

module _ (p : Profile) (r : Row p) where
  -- unit, C0, and our receive ID without the offset, which added to it gives the ID
  pub request-bytes : (unit receive : ℕ) → Within p.receives receive
      → (bytes_of (request_for p unit receive) ≡ unit ∷ 0xC0 ∷ (receive - p.offset) ∷ []) × (p.offset + (receive - p.offset) ≡ receive)
  unfolding request_for
  request-bytes u i h = let c = channel-byte p.offset i r.offset (omega arith) (omega arith) in (rw (r.short, c.0), omega arith)

  -- a unit that reads it finds its own number and the part of our receive ID above the offset
  pub request-back : (unit receive : ℕ) → Within p.receives receive → short_request_read (bytes_of (request_for p unit receive)) ≡ Open unit (receive - p.offset)
  unfolding short_request_read
  request-back u i h = rw (request-bytes u i h).0

  module _ (receive : ℕ) where
    -- a positive reply that a unit writes for a transmit ID of the row names that ID, whatever our own
    pub positive_back : (transmit : ℕ) → Within p.transmits transmit → reply_for p (bytes_of (short_reply_of 0xD0 transmit)) receive ≡ Positive transmit
    positive_back t h =
        let c = (channel-byte p.offset t r.offset (omega arith) (omega arith)).1 in
        by_form p _ receive r.short ∙ ap (named p) (short-positive-read t) ∙ named-inside p (t % 256) (subst (Within p.transmits) (sym c) h) ∙ ap Positive c

    -- 00, D0 and a third byte that leads outside the row is badly formed
    pub outside-refused : (channel : ℕ) → (Within p.transmits (p.offset + channel) → ⊥) → reply_for p (0x00 ∷ 0xD0 ∷ channel ∷ []) receive ≡ Malformed
    unfolding short_reply_read
    outside-refused c h = by_form p _ receive r.short ∙ named-outside p c h

    -- "negative reply D8 only", with any byte behind it
    pub refused-back : (any : ℕ) → reply_for p (0x00 ∷ 0xD8 ∷ any ∷ []) receive ≡ Refused 0xD8
    unfolding named short_reply_read
    refused-back a = by_form p _ receive r.short

    -- any other opcode, D6 and D7 too
    pub other-refused : (opcode any : ℕ) → opcode ≢ 0xD0 → opcode ≢ 0xD8 → reply_for p (0x00 ∷ opcode ∷ any ∷ []) receive ≡ Malformed
    unfolding named
    other-refused o a h k = by_form p _ receive r.short ∙ ap (named p) (short-other-read o a h k)

    -- any other length, so also the seven bytes of TP 2.0
    pub length-refused : (s : List ℕ) → length s ≢ 3 → reply_for p s receive ≡ Malformed
    unfolding named
    length-refused s h = by_form p _ receive r.short ∙ ap (named p) (short-length-read s h)

-- ---- TP 2.0: a caller sees no change

-- an ID of eleven bits is a transmit ID, without an offset
whole-id : (t : ℕ) → t < 0x800 → named tp20 (Positive t) ≡ Positive t
whole-id t h = named-inside tp20 t (omega arith) ∙ ap Positive (omega arith)

whole : (q : Reply) → ((t : ℕ) → q ≡ Positive t → t < 0x800) → named tp20 q ≡ q
unfolding named
whole (Positive t) h = whole-id t (h t refl)
whole (Refused opcode) h = refl
whole Malformed h = refl

-- replies are read as in 01
pub tp20-replies : (s : List ℕ) → Bytes s → (receive : ℕ) → reply_for tp20 s receive ≡ reply_read s receive
unfolding reply_for
tp20-replies s b receive = whole (reply_read s receive) (λ t e. eleven ((reply-reads s b receive (Positive t)).0 e))
  where
    eleven : {t : ℕ} → Taken (ReplyForm receive s) Malformed (Positive t) → t < 0x800
    eleven (formed (as-positive t r h e)) = h

-- the same of the replies that are written
pub tp20-positive : (receive transmit : ℕ) → receive < 0x800 → transmit < 0x800 → reply_for tp20 (bytes_of (reply_of 0xD0 receive transmit)) receive ≡ Positive transmit
unfolding reply_for
tp20-positive r t h k = ap (named tp20) (positive-read r t h k) ∙ whole-id t k

pub tp20-refused : (opcode receive transmit own : ℕ) → refusal opcode ≡ true → reply_for tp20 (bytes_of (reply_of opcode receive transmit)) own ≡ Refused opcode
unfolding reply_for named
tp20-refused o r t own h = ap (named tp20) (refused-read o r t own h)

-- requests are those of 01
pub tp20-requests : (unit receive : ℕ) → request_for tp20 unit receive ≡ request_of unit receive
unfolding request_for
tp20-requests unit receive = refl

-- ---- the rows

pub drive-row : Row drive
drive-row = record { short = refl; offset = refl; receives = omega arith; transmits = omega arith }

pub comfort-row : Row comfort
comfort-row = record { short = refl; offset = refl; receives = omega arith; transmits = omega arith }

pub high-row : Row high
high-row = record { short = refl; offset = refl; receives = omega arith; transmits = omega arith }

pub low-row : Row low
low-row = record { short = refl; offset = refl; receives = omega arith; transmits = omega arith }

-- ---- worked

-- the ID that a unit answers on, and no other
pub answers-exactly : (p : Profile) (unit id : ℕ) → answers_on p unit id ≡ true ↔ id ≡ p.reply + unit
answers-exactly p u i = (eqb-true i (p.reply + u), eq-eqb i (p.reply + u))

-- "ECU Identifier Range" (table 2): the lowest and the highest unit of each row; "its 0x4D0 to 0x4DF with offset 0x4A0 stands as printed"
pub answers-worked :
    answers_on drive 0x00 0x200 ∷ answers_on drive 0x1F 0x21F ∷ answers_on comfort 0x00 0x2E0 ∷ answers_on comfort 0x1F 0x2FF
    ∷ answers_on high 0x30 0x4D0 ∷ answers_on high 0x3F 0x4DF ∷ answers_on low 0x30 0x4D0 ∷ answers_on low 0x3F 0x4DF ∷ []
    ≡ replicate 8 true
answers-worked = refl

-- what 00, D0 and each of these bytes say in a row
abbrev replies : Profile → List ℕ → List Reply
replies p = map (λ (channel : ℕ). reply_for p (0x00 ∷ 0xD0 ∷ channel ∷ []) 0)

-- both ends of the row's range, and one beyond each
pub drive-replies : replies drive (0x3F ∷ 0x40 ∷ 0xBF ∷ 0xC0 ∷ []) ≡ Malformed ∷ Positive 0x740 ∷ Positive 0x7BF ∷ Malformed ∷ []
unfolding reply_for named within short_reply_read
drive-replies = refl

pub comfort-replies : replies comfort (0x1F ∷ 0x20 ∷ 0x3F ∷ 0x40 ∷ []) ≡ Malformed ∷ Positive 0x320 ∷ Positive 0x33F ∷ Malformed ∷ []
unfolding reply_for named within short_reply_read
comfort-replies = refl

pub high-replies : replies high (0xEF ∷ 0xF0 ∷ 0xFF ∷ 0x00 ∷ []) ≡ Malformed ∷ Positive 0x4F0 ∷ Positive 0x4FF ∷ Malformed ∷ []
unfolding reply_for named within short_reply_read
high-replies = refl

pub low-replies : replies low (0xAF ∷ 0xB0 ∷ 0xBF ∷ 0xC0 ∷ []) ≡ Malformed ∷ Positive 0x6B0 ∷ Positive 0x6BF ∷ Malformed ∷ []
unfolding reply_for named within short_reply_read
low-replies = refl

-- the C0 of each row's lowest unit and receive ID
pub requests-worked :
    bytes_of (request_for drive 0x00 0x740) ∷ bytes_of (request_for comfort 0x00 0x300) ∷ bytes_of (request_for high 0x30 0x4E0) ∷ bytes_of (request_for low 0x30 0x690) ∷ []
    ≡ (0x00 ∷ 0xC0 ∷ 0x40 ∷ []) ∷ (0x00 ∷ 0xC0 ∷ 0x00 ∷ []) ∷ (0x30 ∷ 0xC0 ∷ 0xE0 ∷ []) ∷ (0x30 ∷ 0xC0 ∷ 0x90 ∷ []) ∷ []
unfolding request_for
requests-worked = refl

-- "negative reply D8 only": D6, D7 and D8 with three bytes
pub refusals-worked : map (λ (opcode : ℕ). reply_for drive (0x00 ∷ opcode ∷ 0x40 ∷ []) 0x740) (0xD6 ∷ 0xD7 ∷ 0xD8 ∷ []) ≡ Malformed ∷ Malformed ∷ Refused 0xD8 ∷ []
unfolding reply_for named within short_reply_read
refusals-worked = refl
