-- What marks say: the marks that come in with bytes (document 02, §7), and a word's own (document 01, "CIRC (Annex C)").
-- Assumes nothing.
use Rattle.std.specs.Prelude.{◌≡◌, cond, ◌⊎◌, List, map, ℕ, eqb}
pub mod Either
pub mod Lost

-- a mark of P: 1 and P holds, or 0 and it does not
abbrev pub Marks : ℕ → Type 0 → Type 0
Marks m P = ((m ≡ 1) × P) ⊎ ((m ≡ 0) × (P → ⊥))

-- the mark that comes in with a byte (document 02, §7): 1 and 4 say that the byte is lost, and no other number does
unfoldable pub lost_by : ℕ → ℕ
lost_by k = cond (eqb k 1) 1 (cond (eqb k 4) 1 0)

unfoldable pub lost_marks : List ℕ → List ℕ
lost_marks ks = map lost_by ks
