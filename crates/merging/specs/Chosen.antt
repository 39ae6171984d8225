-- Which of the allowed Merging bits are chosen (Annex E; document 01, "Channel bits"): those with the smallest absolute DSV after the word or Sync
-- Header that follows; of equals, one with a ONE goes before 000, and otherwise the order is 100, 010, 001.
-- Assumes nothing.
use Rattle.std.specs.Prelude.{Bool, cond, List, [], ◌∷◌, ◌++◌, ℕ, ◌+◌, ltb}
use Rattle.merging.specs.Rule.{sync_header_bits, allowed}
use Rattle.merging.specs.Dsv.{level_after, ups, downs, absolute}
pub mod One
pub mod Behind
pub mod Better

-- what is written: the bits of the Section so far, the level after them, and two counts whose difference is the DSV
pub record SoFar : Type 0 where
  pub bits : List ℕ
  pub level : ℕ
  pub plus : ℕ
  pub minus : ℕ

-- more bits: the counts grow by those at level +1 and by those at -1
abbrev pub after : SoFar → List ℕ → SoFar
after w bs =
    record {
      bits = w.bits ++ bs;
      level = level_after w.level bs;
      plus = w.plus + ups w.level bs;
      minus = w.minus + downs w.level bs;
    }

-- the absolute DSV after Merging bits m and what follows them
abbrev pub dsv_after : ℕ → ℕ → ℕ → List ℕ → List ℕ → ℕ
dsv_after level plus minus next m = absolute (plus + ups level (m ++ next)) (minus + downs level (m ++ next))

-- the four Merging bits
abbrev pub m100 : List ℕ
m100 = 1 ∷ 0 ∷ 0 ∷ []

abbrev pub m010 : List ℕ
m010 = 0 ∷ 1 ∷ 0 ∷ []

abbrev pub m001 : List ℕ
m001 = 0 ∷ 0 ∷ 1 ∷ []

abbrev pub m000 : List ℕ
m000 = 0 ∷ 0 ∷ 0 ∷ []

-- the choice from a list in order of preference takes the better of two, again and again; that it is the one that document 01's sentence describes,
-- and the only one, is shown in Chosen/One and Chosen/Fold

-- of two, in this order: the second if it is allowed and the first isn't, or if both are and the second has the smaller DSV
abbrev pub better : (List ℕ → Bool) → (List ℕ → ℕ) → List ℕ → List ℕ → List ℕ
better ok dsv a b = cond (ok b) (cond (ok a) (cond (ltb (dsv b) (dsv a)) b a) b) a

-- before a word
unfoldable pub before_word : (List ℕ → Bool) → (List ℕ → ℕ) → List ℕ
before_word ok dsv = better ok dsv (better ok dsv (better ok dsv m100 m010) m001) m000

-- before a Sync Header there are only 100 and 000
unfoldable pub before_header : (List ℕ → Bool) → (List ℕ → ℕ) → List ℕ
before_header ok dsv = better ok dsv m100 m000

-- a word is written, after its Merging bits
unfoldable pub with_word : SoFar → List ℕ → SoFar
with_word w next =
    after w
    (before_word (allowed w.bits next) (dsv_after w.level w.plus w.minus next) ++ next)

-- a Sync Header is written, at its place
unfoldable pub with_header : SoFar → SoFar
with_header w = after w sync_header_bits

-- the Merging bits before the next Sync Header are written
unfoldable pub with_tail : SoFar → SoFar
with_tail w = after w (before_header (allowed w.bits sync_header_bits) (dsv_after w.level w.plus w.minus sync_header_bits))
