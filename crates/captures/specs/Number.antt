-- A number in groups of seven bits (document 02, §5: "each a number in groups of seven bits, low group first, top bit set on all but the last,
-- shortest form only").
-- Assumes nothing.
use Rattle.std.specs.Prelude.{◌≡◌, cond, List, [], ◌∷◌, ℕ, ◌+◌, ◌*◌, ◌/◌, ◌%◌, ◌<◌, ◌≤◌, ltb, length}
pub mod Shortest
pub mod Leading

-- bytes of which all but the last have their top bit set
abbrev pub Grouped : List ℕ → Type 0
Grouped [] = ⊥
Grouped (b ∷ []) = b < 128
Grouped (b ∷ c ∷ bs) = (128 ≤ b) × (b < 256) × Grouped (c ∷ bs)

-- the number of their groups, the low group first
abbrev pub value : List ℕ → ℕ
value [] = 0
value (b ∷ bs) = b % 128 + 128 * value bs

-- bs is the shortest form of n
pub record ShortestForm (bs : List ℕ) (n : ℕ) : Type 0 where
  pub grouped : Grouped bs
  pub is : value bs ≡ n
  pub least : (cs : List ℕ) → Grouped cs → value cs ≡ n → length bs ≤ length cs

-- the shortest form of a number below 65,536 (`shortest_is`, `shortest-one`): one, two or three groups
unfoldable pub shortest : ℕ → List ℕ
shortest n =
    cond (ltb n 128) (n ∷ [])
    (cond (ltb n 16384) ((128 + n % 128) ∷ n / 128 ∷ [])
    ((128 + n % 128) ∷ (128 + n / 128 % 128) ∷ n / 16384 ∷ []))
