-- Reading the Control bytes of a Section (document 02, §3): 1, 16 the CRC, 17 a q-Mode other than 1 or 2, 18. Reading accepts exactly the bytes that clause 22 gives to
-- some fields that it allows within one Section.
-- Assumes nothing.
use Rattle.std.specs.Prelude.{◌≡◌, Bool, true, false, ◌||◌, List, [], ◌∷◌, ℕ, Result, ◌/◌, ◌%◌, eqb, length, take, drop}
use Rattle.outcome.specs.Say.{Say, done, refused, said_by}
use Rattle.bits.specs.Bits.{number}
use Rattle.lists.specs.Same.{same}
use Rattle.crc.specs.Crc.{crc}
use Rattle.control.specs.declared.Control.{Control}
use Rattle.control.specs.Fields.{allowed}
use Rattle.control.specs.Channels.{control_bytes}
use Rattle.control.specs.Values.{values_of}
use Rattle.control_reader.specs.declared.ReadControlError.{ReadControlError}
use Rattle.control_reader.specs.declared.ReadControlError.TheVariants.{WrongIncoming, WrongCrc, UnknownMode, NotAllowed}
pub mod Exact
pub mod One

-- the q-channel of Control bytes: the second bit of each
abbrev pub q_of : List ℕ → List ℕ
q_of [] = []
q_of (b ∷ bytes) = b / 64 % 2 ∷ q_of bytes

-- the CRC field, positions 82 to 97, is that of the fields before it
unfoldable pub crc_holds : List ℕ → Bool
crc_holds bytes = same (drop 80 (q_of bytes)) (crc (take 80 (q_of bytes)))

-- the q-Mode field, positions 6 to 9, is 1 or 2
unfoldable pub known_mode : List ℕ → Bool
known_mode bytes = eqb (number 0 (take 4 (drop 4 (q_of bytes)))) 1 || eqb (number 0 (take 4 (drop 4 (q_of bytes)))) 2

-- what reading may say of some bytes
pub data Reads (bytes : List ℕ) : Say → Type 0 where
  wrong-length : (length bytes ≡ 96 → ⊥) → Reads bytes (refused 1 [])
  wrong-crc : length bytes ≡ 96 → crc_holds bytes ≡ false → Reads bytes (refused 16 [])
  unknown_mode : length bytes ≡ 96 → crc_holds bytes ≡ true → known_mode bytes ≡ false → Reads bytes (refused 17 [])
  not-allowed : length bytes ≡ 96 → crc_holds bytes ≡ true → known_mode bytes ≡ true
      → ((f : Control) → allowed f ≡ true → control_bytes f ≡ bytes → ⊥) → Reads bytes (refused 18 [])
  read : (f : Control) → allowed f ≡ true → control_bytes f ≡ bytes → Reads bytes (done (values_of f))

-- document 02's number for each refusal
abbrev pub refusal_of : ReadControlError → ℕ
refusal_of WrongIncoming = 1
refusal_of WrongCrc = 16
refusal_of UnknownMode = 17
refusal_of NotAllowed = 18

-- what each answer says: the fields, or why there are none
abbrev pub say_of : Result Control ReadControlError → Say
say_of = said_by values_of refusal_of
