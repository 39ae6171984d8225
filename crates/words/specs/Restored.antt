-- The words of (48) to (6A), where document 003 is damaged, from other words by document 01's three rules ("Channel bits").
-- Assumes nothing.
use Rattle.std.specs.Prelude.{cond, List, [], ℕ, ◌-◌, eqb, leb, get_or, set}
use Rattle.bits.specs.Bits.{bits_of, number}
use Rattle.words.specs.Words.{word_of}

-- the 14 digits of a byte's word; the first is the leftmost
abbrev pub digits_of : ℕ → List ℕ
digits_of b = bits_of 14 (word_of b)

-- the nth digit set
abbrev pub with_digit : ℕ → List ℕ → List ℕ
with_digit n ds = set ds (n - 1) 1

-- the nth digit's ONE moved to the mth; nothing where the nth digit is no ONE
abbrev pub moved : ℕ → ℕ → List ℕ → List ℕ
moved n m ds = cond (eqb (get_or ds (n - 1) 0) 1) (with_digit m (set ds (n - 1) 0)) []

-- (48) to (57): the word of the byte less (40) with the twelfth digit set; (58) to (5F): that of the byte less (20) with the eleventh digit's ONE
-- moved to the twelfth; (60) to (6A): that of the byte less (20) with the twelfth digit's ONE moved to the thirteenth, but (66) is 01000000100100
unfoldable pub restored : ℕ → ℕ
restored b =
    cond (eqb b 0x66) 0b01000000100100
    (number 0
    (cond (leb b 0x57) (with_digit 12 (digits_of (b - 0x40)))
    (cond (leb b 0x5F) (moved 11 12 (digits_of (b - 0x20))) (moved 12 13 (digits_of (b - 0x20))))))
