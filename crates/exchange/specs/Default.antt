-- 02, request 3: "Change the default block size from 15 to 8." What an opening with the default settings agrees with an A1 of any block size
-- from 1 to 15, over bytes, and a long message behind it. `default-blocks` and `default-asks` of proofs/Default.antt prove the two.
use Rattle.std.specs.Prelude.{ℕ, ◌+◌, ◌*◌, ◌≤◌, ◌<◌, ◌≡◌, ltb, get_or, replicate, if◌then◌else◌}
use mathlib.Core.List.{List, [], ◌∷◌, ◌++◌, map, flat_map}
use Rattle.settings.specs.Settings.{defaults}
use Rattle.connection.specs.Record.{closed_record}
use Rattle.exchange.specs.Exchange.{Call, open_with, frame, due, send, After, run}

-- an opening with the default settings: a D0 that gives a transmit ID by its two bytes, and an A1
abbrev pub opens : (low high block t1 t2 t3 t4 : ℕ) → List Call
opens low high block t1 t2 t3 t4 =
    open_with defaults
    ∷ due []
    ∷ frame 0x201 (0x00 ∷ 0xD0 ∷ 0x00 ∷ 0x03 ∷ low ∷ high ∷ 0x01 ∷ [])
    ∷ due []
    ∷ frame 0x300 (0xA1 ∷ block ∷ t1 ∷ t2 ∷ t3 ∷ t4 ∷ [])
    ∷ []

-- what its five calls come to
pub record Blocks (calls : List After) (low high block : ℕ) : Type 0 where
  -- each is answered 0
  pub answered : map (λ (a : After). a.says.number) calls ≡ 0 ∷ 0 ∷ 0 ∷ 0 ∷ 0 ∷ []
  -- the C0 goes out, and the A0, which offers 8
  pub offered :
      flat_map (λ (a : After). a.line) calls
      ≡ (0x200 ∷ 0x01 ∷ 0xC0 ∷ 0x00 ∷ 0x10 ∷ 0x00 ∷ 0x03 ∷ 0x01 ∷ []) ∷ ((low + 256 * high) ∷ 0xA0 ∷ 0x08 ∷ 0x8A ∷ 0xFF ∷ 0x32 ∷ 0xFF ∷ []) ∷ []
  -- the phases: requesting (1), agreeing (2), and behind the A1 open (3)
  pub phases : map (λ (a : After). a.connection.phase) calls ≡ 1 ∷ 1 ∷ 2 ∷ 2 ∷ 3 ∷ []
  -- "gets blocks of 8": no block size before the A1, and behind it 8, or what the unit names if that is less
  pub agreed : map (λ (a : After). a.connection.end.channel.parameters.terms.block) calls ≡ 0 ∷ 0 ∷ 0 ∷ 0 ∷ (if ltb block 8 then block else 8) ∷ []

-- from the closed record, whatever buffer is lent, whatever transmit ID of eleven bits the D0 gives, and whatever block size from 1 to 15 and times
-- the A1 names
abbrev pub DefaultBlocks : Type 0
DefaultBlocks = (b : List ℕ) (low high block t1 t2 t3 t4 : ℕ) → low + 256 * high < 0x800 → 1 ≤ block → block ≤ 15 → Blocks (run closed_record b (opens low high block t1 t2 t3 t4)) low high block

-- "a unit that names 15 gets blocks of 8": a message of 26 frames to it, with the Acks that it gives
abbrev pub message : List ℕ
message = replicate 180 0x5A

abbrev pub sends : List Call
sends =
    opens 0x40 0x07 0x0F 0x8A 0xFF 0x00 0xFF ++ send message
    ∷ replicate 8 (due message) ++ frame 0x300 (0xB8 ∷ [])
    ∷ replicate 8 (due message) ++ frame 0x300 (0xB0 ∷ [])
    ∷ replicate 8 (due message) ++ frame 0x300 (0xB8 ∷ [])
    ∷ due message
    ∷ due message
    ∷ []

-- the first byte of each frame handed over
unfoldable pub first_bytes : List ℕ
first_bytes = map (λ l. get_or l 1 0) (flat_map (λ (a : After). a.line) (run closed_record [] sends))

-- the C0 and the A0; then data with AR, bit 5 clear, on the frames 8, 16 and 24, and on the last
abbrev pub blocks_of_eight : List ℕ
blocks_of_eight =
    0x01 ∷ 0xA0
    ∷ 0x20 ∷ 0x21 ∷ 0x22 ∷ 0x23 ∷ 0x24 ∷ 0x25 ∷ 0x26 ∷ 0x07
    ∷ 0x28 ∷ 0x29 ∷ 0x2A ∷ 0x2B ∷ 0x2C ∷ 0x2D ∷ 0x2E ∷ 0x0F
    ∷ 0x20 ∷ 0x21 ∷ 0x22 ∷ 0x23 ∷ 0x24 ∷ 0x25 ∷ 0x26 ∷ 0x07
    ∷ 0x28 ∷ 0x19 ∷ []
