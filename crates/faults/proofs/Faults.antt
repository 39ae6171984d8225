-- The fault by the sums: one law for each way out of a function that finds it.
-- Assumes nothing.
use mathlib.Core.Path.{◌≡◌, refl, sym, ap, ◌∙◌}
use mathlib.Core.Bool.{Bool, true, false}
use mathlib.Core.List.{List}
use Prim.Native.Nat.{ℕ, zero, suc, ◌≤◌, ◌<◌}
use native.Mathlib.Omega.{arith}
use borrow.Author.Tests.{lt-ltb, le-ltb, eq-eqb}
use lib.Dec.{eqb, eqb→eq}
use lib.ListN.{length, get_or, replicate}
use lib.Seq.{ext_get_or}
use Rattle.std.proofs.lemmas.List.{length-replicate, get_or-replicate}
use Rattle.outcome.specs.First.{first_below}
use Rattle.outcome.specs.Table.{all_below}
use Rattle.outcome.specs.Table.Entries.{below, all_below_lem, true_of, of_true}
use Rattle.codeword.specs.Fault.{all_zero, fits, fault_at, fault}
use Rattle.codeword.specs.declared.Fault.{Fault}
use Rattle.codeword.specs.declared.Fault.TheVariants.{Clean, Lost}

-- ---- are all sums 0?

is_zero : List ℕ → ℕ → Bool
is_zero s j = eqb (get_or s j 0) 0

module _ (s : List ℕ) (n : ℕ) where
  pub all_zero_lem : s ≡ replicate n 0 → all_zero s ≡ true
  unfolding all_zero is_zero
  all_zero_lem e =
      true_of (all_below (is_zero s) (length s))
      (all_below_lem (is_zero s) (length s) (λ j h. of_true (is_zero s j) (eq-eqb (get_or s j 0) 0 (ap (λ (l : List ℕ). get_or l j 0) e ∙ get_or_all j))))
    where
      get_or_all : (j : ℕ) → ◌≡◌ {A = ℕ} (get_or (replicate n 0) j 0) 0
      get_or_all j = go n j
        where
          go : (n j : ℕ) → ◌≡◌ {A = ℕ} (get_or (replicate n 0) j 0) 0
          go zero j = refl
          go (suc n) zero = refl
          go (suc n) (suc j) = go n j

  pub not_all_zero : length s ≡ n → (s ≡ replicate n 0 → ⊥) → all_zero s ≡ false
  unfolding all_zero is_zero
  not_all_zero l other = go (all_below (is_zero s) (length s)) refl
    where
      go : (b : Bool) → all_below (is_zero s) (length s) ≡ b → b ≡ false
      go true e =
          absurd (other (ext_get_or 0 s (replicate n 0) (l ∙ sym (length-replicate n 0))
          (λ j h.
          eqb→eq (get_or s j 0) 0 (below (is_zero s) (length s) (of_true (all_below (is_zero s) (length s)) e) j h)
          ∙ sym (get_or-replicate n j 0 0 (omega arith)))))
      go false e = refl

-- ---- the ways out

module _ (s : List ℕ) (k : ℕ) where
  pub fault_long : 255 < k → Lost ≡ fault s k
  unfolding fault
  fault_long h = rw (lt-ltb 255 k h)

  module _ (h : k ≤ 255) where
    pub fault-none : all_zero s ≡ true → Clean ≡ fault s k
    unfolding fault
    fault-none z = rw (le-ltb 255 k h, z)

    pub fault-found : all_zero s ≡ false → {m : ℕ} {f : Fault} → m ≡ first_below (fits s) k → f ≡ fault_at (get_or s 0 0) k m → f ≡ fault s k
    unfolding fault
    fault-found z e p = rw (le-ltb 255 k h, z, ← e) p
