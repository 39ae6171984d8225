-- The invariant of the loop that turns the sums of columns into parity, in place: the columns below k have their parity, the others their
-- sums.
-- Assumes nothing.
use mathlib.Core.Path.{◌≡◌, sym, ap, ap₂, ◌∙◌, subst}
use mathlib.Core.Logic.{◌⊎◌, inl, inr}
use mathlib.Core.Bool.{Bool}
use mathlib.Core.List.{List, [], ◌∷◌, ◌++◌}
use Prim.Native.Nat.{ℕ, ◌+◌, ◌/◌, ◌<◌, ◌≤◌}
use native.Mathlib.Omega.{arith}
use lib.ListN.{length, get_or, set, length-set}
use lib.Seq.{get_or-set_same, get_or-set_other}
use Rattle.outcome.specs.Bytes.{Bytes}
use Rattle.outcome.specs.First.Found.{lt-or-le}
use Rattle.field.specs.Field.{power, mul}
use Rattle.codeword.specs.Code.{sum, Codeword}
use Rattle.codeword.specs.Parity.{WithSums}
use Rattle.codeword.specs.Parity.One.{parity_from_sums_lem}
use Rattle.word_parity.proofs.Pair.{two_listed}
use Rattle.sweep.specs.Columns.{Swept}
use Rattle.sweep.specs.Columns.Fit.{swept_0, swept_1}
use Rattle.sweep.specs.Columns.Sums.{bytes_column, length-sums, sums_at}
use Rattle.parities.specs.Inner.ParityRows.{whole_column, ParityRows}

pub record Parting (w : ℕ) (rows : List ℕ) (k : ℕ) (p q : List ℕ) : Type 0 where
  pub bytes : Bytes rows
  pub upto : k ≤ w
  pub long_p : length p ≡ w
  pub long_q : length q ≡ w
  pub code : (m : ℕ) → m < k → Codeword 2 (whole_column w rows m ++ (get_or p m 0 ∷ get_or q m 0 ∷ []))
  pub sum_0 : (m : ℕ) → k ≤ m → m < w → get_or p m 0 ≡ sum 0 (whole_column w rows m)
  pub sum_1 : (m : ℕ) → k ≤ m → m < w → get_or q m 0 ≡ sum 1 (whole_column w rows m)

-- so it is after `sweep::sums`
pub parting_none : {rows a b p q : List ℕ} {r : Bool} → Bytes rows → Swept rows a b r p q → length a ≡ length b → 0 < length a
    → Parting (length p) rows 0 p q
parting_none {rows} {a} {b} {p} {q} h s e z = subst (λ (w : ℕ). Parting w rows 0 p q) (sym long) start
  where
    long : length p ≡ length a
    long = ap length (swept_0 s e z) ∙ length-sums 0 (length a) (length rows / length a) rows

    start : Parting (length a) rows 0 p q
    start =
        record {
          bytes = h;
          upto = omega arith;
          long_p = long;
          long_q = ap length (swept_1 s e z) ∙ length-sums 1 (length a) (length rows / length a) rows;
          code = λ m l. absurd (omega arith);
          sum_0 = λ m l k. ap (λ (x : List ℕ). get_or x m 0) (swept_0 s e z) ∙ sums_at 0 (length a) (length rows / length a) rows m k;
          sum_1 = λ m l k. ap (λ (x : List ℕ). get_or x m 0) (swept_1 s e z) ∙ sums_at 1 (length a) (length rows / length a) rows m k;
        }

module _ {w k : ℕ} {rows p q : List ℕ} (f : Parting w rows k p q) where
  parting_more : (x y : ℕ) → k < w → WithSums (get_or p k 0 ∷ mul (get_or q k 0) (power 2) ∷ []) (x ∷ y ∷ [])
      → Parting w rows (k + 1) (set p k x) (set q k y)
  parting_more x y h s =
      record {
        bytes = f.bytes;
        upto = omega arith;
        long_p = length-set p k x ∙ f.long_p;
        long_q = length-set q k y ∙ f.long_q;
        code = λ m l. at m (lt-or-le m k) l;
        sum_0 = λ m l b. get_or-set_other p k m x 0 (λ e. omega arith) ∙ f.sum_0 m (omega arith) b;
        sum_1 = λ m l b. get_or-set_other q k m y 0 (λ e. omega arith) ∙ f.sum_1 m (omega arith) b;
      }
    where
      col : List ℕ
      col = whole_column w rows k

      new : Codeword 2 (whole_column w rows k ++ (x ∷ y ∷ []))
      new =
          (parity_from_sums_lem (whole_column w rows k) (x ∷ y ∷ []) (bytes_column w (length rows / w) rows k f.bytes)
          (subst (λ (t : List ℕ). WithSums t (x ∷ y ∷ []))
          (ap₂ (λ (a b : ℕ). a ∷ mul b (power 2) ∷ []) (f.sum_0 k (omega arith) h) (f.sum_1 k (omega arith) h)) s)).code

      moved : (m : ℕ) → {a b c d : ℕ} → a ≡ c → b ≡ d → Codeword 2 (whole_column w rows m ++ (c ∷ d ∷ [])) → Codeword 2 (whole_column w rows m ++ (a ∷ b ∷ []))
      moved m e g = subst (λ (t : List ℕ). Codeword 2 (whole_column w rows m ++ t)) (sym (ap₂ (λ (a b : ℕ). a ∷ b ∷ []) e g))

      at : (m : ℕ) → (m < k) ⊎ (k ≤ m) → m < k + 1 → Codeword 2 (whole_column w rows m ++ (get_or (set p k x) m 0 ∷ get_or (set q k y) m 0 ∷ []))
      at m (inl b) l =
          moved m (get_or-set_other p k m x 0 (λ e. omega arith)) (get_or-set_other q k m y 0 (λ e. omega arith)) (f.code m b)
      at m (inr b) l =
          let e : k ≡ m = omega arith in
          subst (λ (n : ℕ). Codeword 2 (whole_column w rows n ++ (get_or (set p k x) n 0 ∷ get_or (set q k y) n 0 ∷ []))) e
          (moved k (get_or-set_same p k x 0 (omega (arith, f.long_p))) (get_or-set_same q k y 0 (omega (arith, f.long_q))) new)

  -- the two bytes as they come back
  pub parting_pair : (t : List ℕ) → k < w → WithSums (get_or p k 0 ∷ mul (get_or q k 0) (power 2) ∷ []) t
      → Parting w rows (k + 1) (set p k (get_or t 0 0)) (set q k (get_or t 1 0))
  parting_pair t h s =
      parting_more (get_or t 0 0) (get_or t 1 0) h
      (subst (λ (l : List ℕ). WithSums (get_or p k 0 ∷ mul (get_or q k 0) (power 2) ∷ []) l) (two_listed t s.long) s)

  pub parting_all : w ≤ k → ParityRows w rows p q
  parting_all h = record { long_p = f.long_p; long_q = f.long_q; code = λ m l. f.code m (omega arith) }
