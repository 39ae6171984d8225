-- The doubt mark of an F1-frame (document 01, "CIRC"; document 02, §7): set exactly when for either of the two C2 words that its bytes came from no codeword was
-- found.
-- Assumes nothing.
use Rattle.std.specs.Prelude.{◌≡◌, ◌⊎◌, List, ℕ, ◌-◌, ◌≤◌, ◌<◌}
use Rattle.codeword.specs.Code.{weight, Near}
use Rattle.erasures.specs.Agrees.{Agrees}
use Rattle.circ.specs.Marked.{word_met_c2, marks_met_c2}
pub mod Exact

-- no codeword is found for the word w with the marks m: it has no marks and no codeword is near it; or it has one to four and no codeword agrees with it on
-- every unmarked byte; or it has five or more
pub data NoneFound (m w : List ℕ) : Type 0 where
  none-near : weight m ≡ 0 → ((c : List ℕ) → Near 4 w c → ⊥) → NoneFound m w
  none-agrees : 0 < weight m → weight m ≤ 4 → ((c : List ℕ) → Agrees 4 m w c → ⊥) → NoneFound m w
  too_many : 4 < weight m → NoneFound m w

-- of the C2 word that a reader of the frames g with the marks k meets at step n
abbrev pub InDoubt : (g k : ℕ → List ℕ) → ℕ → Type 0
InDoubt g k n = NoneFound (marks_met_c2 g k n) (word_met_c2 g k n)

-- the bytes of step n came from the C2 word of that step and, from step 2 on, from the one of two steps before
abbrev pub Doubted : (g k : ℕ → List ℕ) → ℕ → Type 0
Doubted g k n = InDoubt g k n ⊎ ((2 ≤ n) × InDoubt g k (n - 2))
