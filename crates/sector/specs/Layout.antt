-- The fields of a Sector (clause 14): 2,352 bytes.
-- Assumes nothing.
use Rattle.std.specs.Prelude.{cond, List, [], ◌∷◌, ℕ, eqb, take, drop, get_or, replicate}
use Rattle.address.specs.declared.HeaderTime.{HeaderTime}
pub mod Zeros

-- 14.1, bytes 0 to 11: (00), ten (FF), (00)
abbrev pub sync : List ℕ
sync = 0x00 ∷ 0xFF ∷ 0xFF ∷ 0xFF ∷ 0xFF ∷ 0xFF ∷ 0xFF ∷ 0xFF ∷ 0xFF ∷ 0xFF ∷ 0xFF ∷ 0x00 ∷ []

-- the n bytes from byte a on
abbrev pub bytes_from : ℕ → ℕ → List ℕ → List ℕ
bytes_from a n s = take n (drop a s)

-- 14.2, bytes 12 to 14: the address, and byte 15: the mode
abbrev pub time_of : List ℕ → HeaderTime
time_of s = record { 0 = get_or s 12 0; 1 = get_or s 13 0; 2 = get_or s 14 0 }

abbrev pub mode_of : List ℕ → ℕ
mode_of s = get_or s 15 0

-- how many bytes of user data a mode has, from byte 16 on: Mode 00 has none
abbrev pub user_length : ℕ → ℕ
user_length mode = cond (eqb mode 1) 2048 (cond (eqb mode 2) 2336 0)

abbrev pub user_data : List ℕ → List ℕ
user_data s = bytes_from 16 (user_length (mode_of s)) s

-- n bytes (00)
unfoldable pub zeros : ℕ → List ℕ
zeros n = replicate n 0
