-- The automaton's state after some bits, without a step for each: after a word by its profile, after 000, and before the 23rd bit of a Sync Header.
-- Assumes nothing.
use Rattle.std.specs.Prelude.{cond, List, ℕ, zero, suc, ◌+◌, ◌%◌, eqb, leb, ltb}
use Rattle.merging.specs.Automaton.{broken}
use Rattle.merging.specs.Chosen.{m100, m010, m001}
pub mod Right

-- after n ZEROs and a ONE, which leads to `ten` if ten ZEROs stand before it, and else to `plain`
unfoldable pub entered : ℕ → ℕ → ℕ → ℕ → ℕ
entered s n plain ten =
    cond (ltb (s % 11 + n) 2) broken (cond (ltb 10 (s % 11 + n)) broken (cond (eqb (s % 11 + n) 10) (cond (ltb s 11) ten broken) plain))

-- after a word
abbrev pub after_word : ℕ → ℕ → ℕ → ℕ → ℕ
after_word s lead plain ten = cond (eqb s broken) broken (entered s lead plain ten)

-- after 000
abbrev pub after_zeros : ℕ → ℕ
after_zeros s = cond (leb broken s) broken (cond (ltb (s % 11) 8) (s + 3) broken)

-- before a Sync Header's 23rd bit, after 100
abbrev pub header_after_one : ℕ → ℕ
header_after_one s = cond (ltb (s % 11) 2) broken (cond (eqb s 21) broken 21)

-- and after 000
abbrev pub header_after_zeros : ℕ → ℕ
header_after_zeros s = cond (ltb (s % 11) 7) 21 broken

-- the Merging bits with a ONE after n ZEROs
abbrev pub one_after : ℕ → List ℕ
one_after zero = m100
one_after (suc zero) = m010
one_after (suc (suc n)) = m001
