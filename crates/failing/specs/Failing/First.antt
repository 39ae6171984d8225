-- What the first codeword that fails says of the number that is sought below that of all codewords.
-- Assumes nothing.
use Rattle.std.specs.Prelude.{◌≡◌, refl, Bool, true, false, cond, List, ℕ, Option, Some, None, ◌<◌, ◌≤◌, ltb}
use Rattle.std.proofs.Common.{sym, arith, lt-ltb, le-ltb, ltb-true, ltb-false}
use Rattle.outcome.specs.First.{first_below}
use Rattle.rspc.specs.Either.{words_of}
use Rattle.rspc.specs.declared.Parity.{Parity}
use Rattle.failing.specs.Failing.{failing, first_failing}

never_some : {A : Type 0} {p : ℕ} → ◌≡◌ {A = Option ℕ} None (Some p) → A
never_some e = let z : ◌≡◌ {A = ℕ} 0 1 = cc in absurd (omega arith)

same_some : {p q : ℕ} → ◌≡◌ {A = Option ℕ} (Some p) (Some q) → p ≡ q
same_some e = cc

module _ (parity : Parity) (s : List ℕ) where
  abbrev first : ℕ
  first = first_below (failing parity s) (words_of parity)

  abbrev all : ℕ
  all = words_of parity

  -- one fails
  pub some_fails : {p : ℕ} → first_failing parity s ≡ Some p → (p ≡ first) × (p < all)
  unfolding first_failing
  some_fails {p} = by (ltb first all) refl
    where
      by : (b : Bool) → ltb first all ≡ b → cond b (Some first) None ≡ Some p → (p ≡ first) × (p < all)
      by true t e = let q : first ≡ p = same_some e in (sym q, omega (arith, q, ltb-true first all t))
      by false t e = never_some e

  -- none does
  pub none_fails : first_failing parity s ≡ None → all ≤ first
  unfolding first_failing
  none_fails = by (ltb first all) refl
    where
      by : (b : Bool) → ltb first all ≡ b → cond b (Some first) None ≡ None → all ≤ first
      by true t e = never_some (sym e)
      by false t e = ltb-false first all t

  -- and back
  pub first_is : first < all → Some first ≡ first_failing parity s
  unfolding first_failing
  first_is l = simp (lt-ltb first all l)

  pub none_is : all ≤ first → None ≡ first_failing parity s
  unfolding first_failing
  none_is l = simp (le-ltb first all l)
