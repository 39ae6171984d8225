-- Parity in two bytes in a row, and in four, anywhere in a word of any length: there is a choice. (Parity/One: only one.)
-- Assumes nothing.
use Rattle.std.specs.Prelude.{◌≡◌, refl, List, [], ◌∷◌, ◌++◌, map, ℕ, zero, suc, ◌*◌, ◌<◌, T, length, replicate}
use Rattle.std.proofs.Common.{sym, ap, ◌∙◌, subst, arith}
use Rattle.std.proofs.lemmas.List.{length-replicate}
use Rattle.outcome.specs.Bytes.{Bytes}
use Rattle.outcome.specs.Bytes.Kept.{bytes_append, bytes_replicate}
use Rattle.outcome.specs.Table.{tabulated}
use Rattle.outcome.specs.Table.Entries.{length-tabulated, tabulated-at, bytes_tabulated}
use Rattle.xor.specs.Added.{added}
use Rattle.field.specs.Field.{power, mul}
use Rattle.field.specs.Field.Product.{mul-lt}
use Rattle.codeword.specs.Code.{sum, Codeword}
use Rattle.codeword.specs.Code.Sums.{sum_lt}
use Rattle.codeword.specs.Parity.{WithSums, Parity}
use Rattle.codeword.specs.Parity.LinearForms.{Form, value, solves, solved}
use Rattle.codeword.specs.Parity.Solve.{two_forms, two_solve, four_forms, four_solve}
use Rattle.codeword.specs.Parity.One.{parity_added, power-back}

added-zeros : (n : ℕ) (q : List ℕ) → length q ≡ n → added (replicate n 0) q ≡ q
added-zeros zero [] e = refl
added-zeros zero (y ∷ q) e = absurd (omega arith)
added-zeros (suc n) [] e = absurd (omega arith)
added-zeros (suc n) (y ∷ q) e = ap (λ (t : List ℕ). y ∷ t) (added-zeros n q (omega arith))

module _ (fs : List Form) (s : T (solves fs)) (a b : List ℕ) (ha : Bytes a) (hb : Bytes b) where
  -- the word with zeros where the parity is to stand
  abbrev blank : List ℕ
  blank = a ++ (replicate (length fs) 0 ++ b)

  -- its sums, moved down by what comes after the parity
  abbrev target : ℕ → ℕ
  target j = mul (sum j blank) (power (254 * (j * length b)))

  abbrev filled : List ℕ
  filled = map (value (tabulated target 0 (length fs))) fs

  blank-lt : (j : ℕ) → sum j blank < 256
  blank-lt j =
      sum_lt j blank
      (bytes_append a (replicate (length fs) 0 ++ b) ha (bytes_append (replicate (length fs) 0) b (bytes_replicate (length fs) 0 (omega arith)) hb))

  filled-sums : WithSums (tabulated target 0 (length fs)) filled
  filled-sums =
      solved fs (tabulated target 0 (length fs)) s
      (bytes_tabulated target 0 (length fs) (λ j. mul-lt (sum j blank) (254 * (j * length b)) (blank-lt j)))
      (length-tabulated target 0 (length fs))

  parity_exists : (p : List ℕ) × Parity (length fs) p (a ++ (p ++ b))
  parity_exists =
      let t : List ℕ = tabulated target 0 (length fs) in
      let n : length t ≡ length fs = length-tabulated target 0 (length fs) in
      let l : length filled ≡ length fs = filled-sums.long ∙ n in (
        filled,
        record {
          long = l;
          bytes = filled-sums.bytes;
          code =
              subst (λ (p : List ℕ). Codeword (length fs) (a ++ (p ++ b))) (added-zeros (length fs) filled l)
              (parity_added (length fs) a (replicate (length fs) 0) filled b (bytes_replicate (length fs) 0 (omega arith)) filled-sums.bytes
              (length-replicate {A = ℕ} (length fs) 0 ∙ sym l)
              (λ j h.
              ap (λ (x : ℕ). mul x (power (j * length b))) (filled-sums.sums j (omega arith) ∙ tabulated-at target (length fs) j h)
              ∙ power-back (sum j blank) (254 * (j * length b)) (j * length b) (blank-lt j) (omega arith)));
        },
      )

-- two bytes in a row, and four, between any a and b
pub two_exist : (a b : List ℕ) → Bytes a → Bytes b → (p : List ℕ) × Parity 2 p (a ++ (p ++ b))
unfolding two_forms
two_exist = parity_exists two_forms two_solve

pub four_exist : (a b : List ℕ) → Bytes a → Bytes b → (p : List ℕ) × Parity 4 p (a ++ (p ++ b))
unfolding four_forms
four_exist = parity_exists four_forms four_solve
