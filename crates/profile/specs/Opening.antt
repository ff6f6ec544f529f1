-- 02, 10: an opening by the numbers of its profile.
use Rattle.std.specs.Prelude.{ℕ, ◌+◌, Bool, List, eqb, if◌then◌else◌}
use Rattle.telegram.specs.declared.payload.Payload.{Payload}
use Rattle.opening.specs.Opening.{request_of, reply_read, Reply, Positive, Refused, NoReply as Malformed}
use Rattle.opening.specs.Short.{short_request_of, short_reply_read}
use Rattle.profile.specs.declared.Profile.{Profile}
use Rattle.profile.specs.Profile.{within}

-- the ID that a unit answers on: "Source identifier = 0x200 + N", 0x2E0 + N, 0x4A0 + N (001, 5.1.3.2)
abbrev pub reply_id : Profile → (unit : ℕ) → ℕ
reply_id p unit = p.reply + unit

-- an ID is that one
abbrev pub answers_on : Profile → (unit id : ℕ) → Bool
answers_on p unit id = eqb id (reply_id p unit)

-- the C0 in the profile's form
unfoldable pub request_for : Profile → (unit receive : ℕ) → Payload
request_for p unit receive = if p.short then short_request_of unit receive else request_of unit receive

-- "The Channel ID (ChId) is added to the Channel offset" (001, 5.1.2.4); one outside the range is badly formed
unfoldable pub named : Profile → Reply → Reply
named p (Positive id) = if within p.transmits (p.offset + id) then Positive (p.offset + id) else Malformed
named p (Refused opcode) = Refused opcode
named p Malformed = Malformed

-- a reply in the profile's form, read against our own receive ID
unfoldable pub reply_for : Profile → List ℕ → (receive : ℕ) → Reply
reply_for p s receive = named p (if p.short then short_reply_read s else reply_read s receive)
