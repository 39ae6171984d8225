-- The pass is done once all columns are passed: each codeword has its column.
-- Assumes nothing.
use mathlib.Core.Path.{◌≡◌, refl, sym, ap, ◌∙◌, subst}
use mathlib.Core.Bool.{Bool, true, false}
use mathlib.Core.List.{List}
use Prim.Native.Nat.{ℕ, ◌<◌, ◌≤◌}
use native.Mathlib.Omega.{arith}
use lib.Dec.{T}
use Rattle.outcome.specs.Table.{all_below}
use Rattle.outcome.specs.Table.Entries.{below, all_below_lem, true_of}
use Rattle.codeword.specs.Nearest.{nearest, is_found}
use Rattle.rspc.specs.declared.Parity.{Parity}
use Rattle.rspc.specs.Either.{words_of, word_of}
use Rattle.rspc.specs.Columns.{column_of, in_column}
use Rattle.rspc.specs.Columns.Turned.{column-lt, in_column_lt, word_of_column}
use Rattle.rspc.specs.Pass.{after_pass, Passed}
use Rattle.rspc.specs.PassInPlace.{each_near}
use Rattle.mending.proofs.Passing.{standing, Passing}

-- tests that hold together are one
both_ways : (a b : Bool) → (T a → T b) → (T b → T a) → a ≡ b
both_ways true b f g = sym (true_of b (f tt))
both_ways false true f g = absurd (g tt)
both_ways false false f g = refl

module _ (parity : Parity) {s t : List ℕ} {k : ℕ} {near : Bool} (p : Passing parity s k near t) where
  pub passing_all : words_of parity ≤ k → (near ≡ each_near parity s) × Passed parity s t
  unfolding each_near
  passing_all h =
      let e : k ≡ words_of parity = omega (arith, p.upto) in (
        p.found ∙ ap (all_below (λ j. is_found (nearest 2 (standing parity s j)))) e ∙ both_ways _ _ by_words by_columns,
        record { long = p.long; before = p.before; after = p.after; words = handed },
      )
    where
      by_words : T (all_below (λ j. is_found (nearest 2 (standing parity s j))) (words_of parity)) → T (all_below (λ n. is_found (nearest 2 (word_of parity s n))) (words_of parity))
      by_words a =
          all_below_lem (λ n. is_found (nearest 2 (word_of parity s n))) (words_of parity)
          (λ n l. subst (λ (m : ℕ). T (is_found (nearest 2 (word_of parity s m)))) (word_of_column parity n l)
          (below (λ j. is_found (nearest 2 (standing parity s j))) (words_of parity) a (column_of parity n) (column-lt parity n l)))

      by_columns : T (all_below (λ n. is_found (nearest 2 (word_of parity s n))) (words_of parity)) → T (all_below (λ j. is_found (nearest 2 (standing parity s j))) (words_of parity))
      by_columns a =
          all_below_lem (λ j. is_found (nearest 2 (standing parity s j))) (words_of parity)
          (λ j l. below (λ n. is_found (nearest 2 (word_of parity s n))) (words_of parity) a (in_column parity j) (in_column_lt parity j l))

      handed : (n : ℕ) → n < words_of parity → word_of parity t n ≡ after_pass (word_of parity s n)
      handed n l =
          subst (λ (m : ℕ). word_of parity t m ≡ after_pass (word_of parity s m)) (word_of_column parity n l)
          (p.passed (column_of parity n) (omega (arith, column-lt parity n l)))
