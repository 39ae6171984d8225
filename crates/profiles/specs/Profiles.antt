-- What the choice needs to know of a word: its ZEROs before the first ONE, where the automaton stands after it, its levels; and the rows of eight
-- bytes that hold this for some words.
-- Assumes nothing.
use Rattle.std.specs.Prelude.{◌≡◌, cond, List, [], ◌∷◌, ◌++◌, ℕ, zero, suc, ◌+◌, ◌*◌, ◌/◌, ◌%◌, ◌≤◌, ◌<◌, ◌^◌, ltb, get_or}
use Rattle.bits.specs.Bits.{bits_of}
use Rattle.merging.specs.Automaton.{broken, steps}
use Rattle.merging.specs.Dsv.{ups, level_after}
use Rattle.automaton_states.specs.States.{entered}
use Rattle.profiles.specs.declared.Profile.{Profile}
pub mod Rows
pub mod Hold

-- the ZEROs before the first ONE
abbrev pub lead_of : List ℕ → ℕ
lead_of [] = 0
lead_of (zero ∷ bs) = suc (lead_of bs)
lead_of (suc b ∷ bs) = 0

-- what comes after it
abbrev pub rest_of : List ℕ → List ℕ
rest_of [] = []
rest_of (zero ∷ bs) = rest_of bs
rest_of (suc b ∷ bs) = bs

-- the profile of a word
abbrev pub profile_of : ℕ → Profile
profile_of w =
    record {
      lead = lead_of (bits_of 14 w);
      plain = steps 0 (rest_of (bits_of 14 w));
      ten = steps 11 (rest_of (bits_of 14 w));
      odd = level_after 0 (bits_of 14 w);
      ups = ups 1 (bits_of 14 w);
      word = w;
    }

-- a profile that holds what the choice goes by
pub record Profiled (w : ℕ) (p : Profile) : Type 0 where
  pub is : p ≡ profile_of w
  pub leads : (s : ℕ) → s < broken → steps s (bits_of 14 w) ≡ entered s p.lead p.plain p.ten
  pub word_small : w < 2 ^ 14
  pub lead-small : p.lead ≤ 10
  pub plain_small : p.plain ≤ broken
  pub ten-small : p.ten ≤ broken
  pub odd_small : p.odd ≤ 1
  pub ups-small : p.ups ≤ 14

-- its row of eight bytes
abbrev pub row : ℕ → List ℕ
row w =
    lead_of (bits_of 14 w) ∷ steps 0 (rest_of (bits_of 14 w)) ∷ steps 11 (rest_of (bits_of 14 w)) ∷ ups 1 (bits_of 14 w) ∷ level_after 0 (bits_of 14 w)
    ∷ w / 256 ∷ w % 256 ∷ 0 ∷ []

-- a row of eight bytes for each
unfoldable pub rows : List ℕ → List ℕ
rows [] = []
rows (w ∷ ws) = row w ++ rows ws

-- the profile in row k of a table
abbrev pub in_row : List ℕ → ℕ → Profile
in_row table k =
    record {
      lead = get_or table (8 * k) 0;
      plain = get_or table (8 * k + 1) 0;
      ten = get_or table (8 * k + 2) 0;
      odd = get_or table (8 * k + 4) 0;
      ups = get_or table (8 * k + 3) 0;
      word = get_or table (8 * k + 5) 0 * 256 + get_or table (8 * k + 6) 0;
    }

-- of 258 rows; beyond them there are zeros
unfoldable pub profile_in : List ℕ → ℕ → Profile
profile_in table k = cond (ltb k 258) (in_row table k) (record { lead = 0; plain = 0; ten = 0; odd = 0; ups = 0; word = 0 })
