-- 02, 10, in numbers and bytes. No promise cites these; proofs/Rules.antt and proofs/Opening.antt prove them of what the promises cite.
use Rattle.std.specs.Prelude.{ℕ, ◌+◌, ◌%◌, ◌≤◌, ◌<◌, true, ◌≢◌, List, ◌≡◌}
use Rattle.telegram.specs.Forms.{Formed}
use Rattle.telegram.specs.declared.kinds.Sorted.{Sorted}
use Rattle.telegram.specs.declared.kinds.Telegram.TheVariants.{Test, Break}
use Rattle.profile.specs.declared.Profile.{Profile}
use Rattle.opening.specs.Opening.{Reply, Positive, Refused}
use Rattle.profile.specs.declared.Range.{Range}

-- a number lies from the least to the most
abbrev pub Within : Range → ℕ → Type 0
Within r n = (r.least ≤ n) × (n ≤ r.most)

-- the bytes s have the form that t says, and t is neither a test nor a break
abbrev pub FormedWithout : List ℕ → Sorted → Type 0
FormedWithout s t = Formed s t × (t.kind ≢ Test) × (t.kind ≢ Break)

-- what a reply says, by F, the forms of its bytes
pub data Says (p : Profile) (F : Reply → Type 0) : Reply → Type 0 where
  -- "The Channel ID (ChId) is added to the Channel offset" (001, 5.1.3.5), and the sum lies in the range of table 5
  positive : (channel : ℕ) → F (Positive channel) → Within p.transmits (p.offset + channel) → Says p F (Positive (p.offset + channel))
  refused : (opcode : ℕ) → F (Refused opcode) → Says p F (Refused opcode)

-- a row of TP 1.6, as far as its opening goes: three bytes, and of every ID the part above the offset in one of them
pub record Row (p : Profile) : Type 0 where
  pub short : p.short ≡ true
  pub offset : p.offset % 256 ≡ 0
  pub receives : (p.offset ≤ p.receives.least) × (p.receives.most < p.offset + 256)
  pub transmits : (p.offset ≤ p.transmits.least) × (p.transmits.most < p.offset + 256)
