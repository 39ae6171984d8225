-- The invariant of the pass over the rows: the sums of the columns of the rows passed.
-- Assumes nothing.
use mathlib.Core.Path.{◌≡◌, refl, sym, ap, ◌∙◌, subst}
use mathlib.Core.Bool.{Bool, true, cond}
use mathlib.Core.List.{List, ◌∷◌, ◌++◌}
use Prim.Native.Nat.{ℕ, zero, suc, ◌+◌, ◌-◌, ◌*◌, ◌/◌, ◌<◌, ◌≤◌}
use native.Mathlib.Nat.{mul-zero, mul-suc, mul_comm, suc-mul, div-eq_of_lt-le}
use native.Mathlib.Numerals.{add-one}
use native.Mathlib.Omega.{arith}
use borrow.Author.Tests.{eq-eqb}
use lib.Dec.{eqb}
use lib.ListN.{length, get_or, take, drop, replicate, length-take, length-drop, length-append, length-replicate}
use lib.Seq.{get_or-take, get_or-drop, take_at, drop_at}
use Rattle.std.proofs.Common.{drop-drop}
use Rattle.outcome.specs.Bytes.{Bytes}
use Rattle.outcome.specs.Table.{tabulated}
use Rattle.xor.specs.Added.{added}
use Rattle.codeword.specs.Code.{sum}
use Rattle.sweep.specs.Columns.{column, column_sums, all_sums}
use Rattle.sweep.specs.Columns.Sums.{length-sums}
use Rattle.sweep.specs.Inner.Rise.{risen}
use Rattle.sweep.proofs.Rows.{more_0, more_1}

-- rows of w bytes up to the place `at` are passed
pub record Sweeping (rows : List ℕ) (w at : ℕ) (s0 s1 : List ℕ) : Type 0 where
  pub bytes : Bytes rows
  pub wide : 0 < w
  pub passed : ℕ
  pub place : at ≡ w * passed
  pub upto : at ≤ length rows
  pub first : s0 ≡ column_sums 0 w passed rows
  pub second : s1 ≡ column_sums 1 w passed rows

-- before the first row each sum is 0
none_passed : (j w : ℕ) (rows : List ℕ) → replicate w 0 ≡ column_sums j w 0 rows
unfolding column_sums column sum
none_passed j w rows = zeros 0 w
  where
    zeros : (i n : ℕ) → replicate n 0 ≡ tabulated (λ k. 0) i n
    zeros i zero = refl
    zeros i (suc n) = ap (λ (t : List ℕ). 0 ∷ t) (zeros (suc i) n)

-- so it is where both lists of sums, of one length, are cleared
pub sweeping_none : (rows a b s0 s1 : List ℕ) → Bytes rows → length a ≡ length b → 0 < length a → s0 ≡ replicate (length a) 0 → s1 ≡ replicate (length b) 0
    → Sweeping rows (length s0) 0 s0 s1
sweeping_none rows a b s0 s1 h e p z0 z1 =
    let l : length s0 ≡ length a = ap length z0 ∙ length-replicate {A = ℕ} (length a) 0 in
    record {
      bytes = h;
      wide = omega arith;
      passed = 0;
      place = sym (mul-zero (length s0));
      upto = omega arith;
      first = z0 ∙ ap (λ (n : ℕ). replicate n 0) (sym l) ∙ none_passed 0 (length s0) rows;
      second = z1 ∙ ap (λ (n : ℕ). replicate n 0) (sym e ∙ sym l) ∙ none_passed 1 (length s0) rows;
    }

module _ {rows s0 s1 : List ℕ} {w at : ℕ} (f : Sweeping rows w at s0 s1) where
  pub long_0 : length s0 ≡ w
  long_0 = ap length f.first ∙ length-sums 0 w f.passed rows

  pub long_1 : length s1 ≡ w
  long_1 = ap length f.second ∙ length-sums 1 w f.passed rows

  -- the next row, as the code takes it
  abbrev next : List ℕ
  next = take (at + w - at) (drop at rows)

  pub next_long : w ≤ length rows - at → length (take (at + w - at) (drop at rows)) ≡ w
  next_long h = omega (arith, length-take (at + w - at) (drop at rows), length-drop at rows)

  next-at : (k : ℕ) → k < w → get_or (take (at + w - at) (drop at rows)) k 0 ≡ get_or rows (w * f.passed + k) 0
  next-at k h =
      get_or-take (at + w - at) (drop at rows) k 0 (omega arith) ∙ get_or-drop at rows k 0
      ∙ ap (λ (n : ℕ). get_or rows (n + k) 0) f.place

  -- it is added to the first sums, by `xor::add`, and to the second ones
  pub sweeping_more : (r : Bool) (t0 t1 : List ℕ) → w ≤ length rows - at
      → (r ≡ eqb (length s0) (length (take (at + w - at) (drop at rows)))) × (t0 ≡ cond r (added s0 (take (at + w - at) (drop at rows))) s0)
      → t1 ≡ risen s1 (take (at + w - at) (drop at rows)) → Sweeping rows w (at + w) t0 t1
  sweeping_more r t0 t1 h p q =
      let same : r ≡ true = p.0 ∙ eq-eqb (length s0) (length next) (long_0 ∙ sym (next_long h)) in
      record {
        bytes = f.bytes;
        wide = f.wide;
        passed = suc f.passed;
        place = ap (λ (n : ℕ). n + w) f.place ∙ sym (mul-suc w f.passed);
        upto = omega (arith, f.upto, f.wide);
        first =
            p.1 ∙ ap (λ (b : Bool). cond b (added s0 next) s0) same ∙ ap (λ (a : List ℕ). added a next) f.first
            ∙ more_0 w f.passed rows next f.bytes (next_long h) next-at;
        second = q ∙ ap (λ (a : List ℕ). risen a next) f.second ∙ more_1 w f.passed rows next f.bytes (next_long h) next-at;
      }

  -- where no whole row is left
  all_passed : length rows - at < w → length rows / w ≡ f.passed
  all_passed h =
      let e : f.passed * w ≡ at = mul_comm f.passed w ∙ sym f.place in
      let g : (f.passed + 1) * w ≡ f.passed * w + w = ap (λ (n : ℕ). n * w) (add-one f.passed) ∙ suc-mul f.passed w in
      div-eq_of_lt-le w (omega (arith, f.upto)) (omega (arith, f.upto))

  pub sweeping_all : length rows - at < w → (s0 ≡ all_sums 0 w rows) × (s1 ≡ all_sums 1 w rows)
  sweeping_all h = (
    f.first ∙ ap (λ (n : ℕ). column_sums 0 w n rows) (sym (all_passed h)),
    f.second ∙ ap (λ (n : ℕ). column_sums 1 w n rows) (sym (all_passed h)),
  )

-- ---- the same by what is left of the rows, as an iterator over them has it

pub record Passing (rows : List ℕ) (w : ℕ) (rest s0 s1 : List ℕ) : Type 0 where
  pub at : ℕ
  pub so_far : Sweeping rows w at s0 s1
  pub left : drop at rows ≡ rest

module _ {rows rest s0 s1 : List ℕ} {w : ℕ} (g : Passing rows w rest s0 s1) where
  pub width_0 : length s0 ≡ w
  width_0 = long_0 g.so_far

  pub width_1 : length s1 ≡ w
  width_1 = long_1 g.so_far

  pub passing_more : (x next_rest : List ℕ) → rest ≡ x ++ next_rest → length x ≡ w → (r : Bool) (t0 t1 : List ℕ)
      → (r ≡ eqb (length s0) (length x)) × (t0 ≡ cond r (added s0 x) s0) → t1 ≡ risen s1 x → Passing rows w next_rest t0 t1
  passing_more x next_rest e l r t0 t1 p q =
      let parts : drop g.at rows ≡ x ++ next_rest = g.left ∙ e in
      let row : x ≡ take (g.at + w - g.at) (drop g.at rows) =
      sym (ap (take (g.at + w - g.at)) parts ∙ take_at x next_rest (g.at + w - g.at) (omega arith)) in
      let room : w ≤ length rows - g.at = omega (arith, length-drop g.at rows, ap length parts, length-append x next_rest) in
      record {
        at = g.at + w;
        so_far =
            sweeping_more g.so_far r t0 t1 room
            (subst (λ (y : List ℕ). (r ≡ eqb (length s0) (length y)) × (t0 ≡ cond r (added s0 y) s0)) row p)
            (subst (λ (y : List ℕ). t1 ≡ risen s1 y) row q);
        left = sym (drop-drop w g.at rows) ∙ ap (drop w) parts ∙ drop_at x next_rest w l;
      }

  pub passing_all : length rest < w → (s0 ≡ all_sums 0 w rows) × (s1 ≡ all_sums 1 w rows)
  passing_all h = sweeping_all g.so_far (omega (arith, length-drop g.at rows, ap length g.left))
