-- 02, request 4, "Units that pad their control telegrams": "padding alters nothing else", said once of the records of both sides. Each proves it of its own (Padding.antt).
use Rattle.std.specs.Prelude.{ℕ, Bool, true, false, List, ◌++◌, ◌↔◌, ◌≢◌, ◌≡◌, length}
use Rattle.telegram.specs.Forms.{Fillable}
use Rattle.telegram.specs.declared.kinds.Telegram.{Telegram}
use Rattle.open_end.specs.declared.answers.Told.{Told}

-- what a frame comes to, a buffer being lent: the answer, its mark, and the record and the buffer after it
pub record Outcome (A : Type 0) : Type 0 where
  pub told : Told
  pub padded : Bool
  pub left : A
  pub buffer : List ℕ

-- "Every answer to an arriving frame, but 1, 3 and a closed record's 4"
pub record CarriesOn (standing : Type 0) (number : ℕ) : Type 0 where
  pub formed : number ≢ 1
  pub heard : number ≢ 3
  pub stands : standing

-- a control telegram at its own length, and the same with any content behind it, arrive at a record
pub record AltersNothing {A : Type 0} (standing : Type 0) (own filled : Outcome A) : Type 0 where
  -- the same number, done and opcode
  pub told : filled.told ≡ own.told
  -- the same record
  pub left : filled.left ≡ own.left
  -- the same buffer
  pub buffer : filled.buffer ≡ own.buffer
  -- at its own length it is unmarked
  pub unmarked : own.padded ≡ false
  -- filled up it is marked, "but 1, 3 and a closed record's 4"
  pub marked : (filled.padded ≡ true) ↔ CarriesOn standing filled.told.said.number

-- every Ack, A3, A4, A8 or A1, and every content that fills it up to 8 bytes
abbrev pub PaddingIn : {A : Type 0} → (standing : Type 0) → (List ℕ → Outcome A) → Type 0
PaddingIn standing comes =
    (own content : List ℕ) (t : Telegram) → Fillable own t → length (own ++ content) ≡ 8 → AltersNothing standing (comes own) (comes (own ++ content))
