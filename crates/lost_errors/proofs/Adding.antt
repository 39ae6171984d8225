-- A loop that adds the errors to a word, place by place.
-- Assumes nothing.
use mathlib.Core.Path.{◌≡◌, sym, ap₂, ◌∙◌}
use mathlib.Core.Bool.{cond}
use mathlib.Core.List.{List}
use Prim.Native.Nat.{ℕ, ◌+◌, ◌≤◌, ◌<◌}
use native.Mathlib.Omega.{arith}
use lib.Bits.{bit_xor}
use lib.Dec.{eqb}
use lib.ListN.{length, get_or, set}
use borrow.Author.Tests.{eq-eqb, ne_eqb}
use Rattle.outcome.specs.Buffer.{Filling}
use Rattle.outcome.specs.Buffer.Filled.{filling-none, filling_long, filling_more, filling_all, filling_rest}
use Rattle.xor.specs.Added.{added}
use Rattle.xor.specs.Added.Places.{length-added, added-at}
use Rattle.erasures.specs.Errors.{error_of, errors}
use Rattle.erasures.specs.Errors.Right.{length-errors, errors-at}

-- the errors of the first i places are added to w
pub record Adding (m s w : List ℕ) (i : ℕ) (out : List ℕ) : Type 0 where
  pub same : length m ≡ length w
  pub is : Filling w (added w (errors m s)) i out

module _ (m s w : List ℕ) (e : length m ≡ length w) where
  target_long : length (added w (errors m s)) ≡ length w
  target_long = length-added w (errors m s) (sym (length-errors m s ∙ e))

  pub adding_none : Adding m s w 0 w
  adding_none = record { same = e; is = filling-none w (added w (errors m s)) (sym target_long) }

module _ {m s w out : List ℕ} {i : ℕ} (a : Adding m s w i out) where
  pub adding_long : length out ≡ length w
  adding_long = filling_long a.is

  pub adding_inside : i < length m → i < length out
  adding_inside h = omega (arith, adding_long, a.same)

  pub adding_more : {v : ℕ} → i < length m → v ≡ error_of m s i → Adding m s w (i + 1) (set out i (bit_xor (get_or out i 0) v))
  adding_more {v} h p =
      record {
        same = a.same;
        is = filling_more a.is (bit_xor (get_or out i 0) v) (omega (arith, target_long m s w a.same, a.same))
            (ap₂ bit_xor (filling_rest a.is i (omega arith)) (p ∙ sym (errors-at m s i h))
            ∙ sym (added-at w (errors m s) i (omega (arith, a.same)) (omega (arith, length-errors m s))));
      }

  pub adding_all : length m ≤ i → out ≡ cond (eqb (length m) (length w)) (added w (errors m s)) w
  adding_all h = rw (eq-eqb (length m) (length w) a.same) (filling_all a.is (omega (arith, target_long m s w a.same, a.same)))

-- between different lengths nothing changes
pub adding_other : (m s w : List ℕ) → (length m ≡ length w → ⊥) → w ≡ cond (eqb (length m) (length w)) (added w (errors m s)) w
adding_other m s w n = rw (ne_eqb (length m) (length w) n)
