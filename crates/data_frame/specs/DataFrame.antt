-- A Data Frame (ISO/IEC 16449, clause 16): 2,064 bytes. A record with a field for each rule of the clause.
-- Assumes nothing.
use Rattle.std.specs.Prelude.{◌≡◌, Bool, true, false, ◌&&◌, List, [], ◌∷◌, ℕ, ◌-◌, ◌/◌, ◌%◌, ◌^◌, eqb, length, take, drop, get_or}
use Rattle.outcome.specs.Bytes.{Bytes}
use Rattle.codeword.specs.Code.{Codeword}
use Rattle.bits.specs.Bits.{number}
use Rattle.frame_edc.specs.FrameEdc.{Divisible}
use Rattle.data_frame.specs.declared.Fields.{Fields}
pub mod Bits
pub mod One
pub mod Values

-- ONE is 1
abbrev pub bit : Bool → ℕ
bit true = 1
bit false = 0

-- 16.1, figure 18: Sector Information, bits b31 to b24 of the ID. b31, b30, b28 and b25 are ZERO.
unfoldable pub information : Fields → ℕ
information f =
    number 0 (0 ∷ 0 ∷ bit f.reflectivity ∷ 0 ∷ bit f.zone.0 ∷ bit f.zone.1 ∷ 0 ∷ bit f.layer ∷ [])

-- 16.1: the four bytes of the ID
abbrev pub identification : Fields → List ℕ
identification f = information f ∷ f.number.0 ∷ f.number.1 ∷ f.number.2 ∷ []

-- 16.3: the six bytes of CPR_MAI
abbrev pub copyright : Fields → List ℕ
copyright f = f.copyright.0 ∷ f.copyright.1 ∷ f.copyright.2 ∷ f.copyright.3 ∷ f.copyright.4 ∷ f.copyright.5 ∷ []

-- figure 16: where CPR_MAI and the 2,048 Main Data bytes stand
abbrev pub copyright_in : List ℕ → List ℕ
copyright_in frame = take 6 (drop 6 frame)

abbrev pub main_data : List ℕ → List ℕ
main_data frame = take 2048 (drop 12 frame)

-- A Data Frame with these fields and Main Data. 16.2: ID and IED are six bytes divisible by (x + 1)(x + α), so that their sums with 1 and α are 0.
-- 16.4: the EDC, the last four bytes, makes the whole divisible.
pub record DataFrame (fields : Fields) (main frame : List ℕ) : Type 0 where
  pub long : length frame ≡ 2064
  pub bytes : Bytes frame
  pub id : take 4 frame ≡ identification fields
  pub ied : Codeword 2 (take 6 frame)
  pub cpr_mai : copyright_in frame ≡ copyright fields
  pub has_main : main_data frame ≡ main
  pub edc : Divisible frame

-- ---- the fields that stand in a frame

-- bit b n of the ID, n from 24 to 31: b24 is the least significant bit of the first byte
abbrev pub bit_of : ℕ → ℕ → ℕ
bit_of n first = first / 2 ^ (n - 24) % 2

-- the bits that "shall be set to ZERO", b31, b30, b28 and b25, are so
unfoldable pub reserved_are_zero : ℕ → Bool
reserved_are_zero first = eqb (bit_of 31 first) 0 && (eqb (bit_of 30 first) 0 && (eqb (bit_of 28 first) 0 && eqb (bit_of 25 first) 0))

unfoldable pub fields_of : List ℕ → Fields
fields_of frame =
    record {
      reflectivity = eqb (bit_of 29 (get_or frame 0 0)) 1;
      zone = record { 0 = eqb (bit_of 27 (get_or frame 0 0)) 1; 1 = eqb (bit_of 26 (get_or frame 0 0)) 1 };
      layer = eqb (bit_of 24 (get_or frame 0 0)) 1;
      number = record { 0 = get_or frame 1 0; 1 = get_or frame 2 0; 2 = get_or frame 3 0 };
      copyright =
          record {
            0 = get_or frame 6 0;
            1 = get_or frame 7 0;
            2 = get_or frame 8 0;
            3 = get_or frame 9 0;
            4 = get_or frame 10 0;
            5 = get_or frame 11 0;
          };
    }

-- the fields as numbers: b29, b27, b26, b24, the bytes of the sector number, and CPR_MAI
abbrev pub values : Fields → List ℕ
values f =
    bit f.reflectivity
    ∷ bit f.zone.0
    ∷ bit f.zone.1
    ∷ bit f.layer
    ∷ f.number.0
    ∷ f.number.1
    ∷ f.number.2
    ∷ copyright f

-- and the fields of such numbers
abbrev pub fields_from : List ℕ → Fields
fields_from v =
    record {
      reflectivity = eqb (get_or v 0 0) 1;
      zone = record { 0 = eqb (get_or v 1 0) 1; 1 = eqb (get_or v 2 0) 1 };
      layer = eqb (get_or v 3 0) 1;
      number = record { 0 = get_or v 4 0; 1 = get_or v 5 0; 2 = get_or v 6 0 };
      copyright =
          record {
            0 = get_or v 7 0;
            1 = get_or v 8 0;
            2 = get_or v 9 0;
            3 = get_or v 10 0;
            4 = get_or v 11 0;
            5 = get_or v 12 0;
          };
    }
