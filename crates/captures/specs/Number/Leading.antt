-- The shortest form that a list begins with: there is at most one.
-- Assumes nothing.
use Rattle.std.specs.Prelude.{◌≡◌, ℕ, ◌+◌, ◌*◌, ◌/◌, ◌%◌, length, get_or, drop}
use Rattle.std.proofs.Common.{sym, ap₂, ◌∙◌, arith}
use Rattle.std.proofs.Math.Path.{ap}
use mathlib.Core.List.{List, ◌++◌}
use Rattle.std.proofs.Math.Seq.{drop-append_seam}
use Rattle.captures.specs.Number.{shortest}
use Rattle.captures.specs.Number.Shortest.{Size, one, two, three, sized}

at : ℕ → List ℕ → ℕ
at i l = get_or l i 0

whole : (n : ℕ) → n % 128 + (n / 128 % 128 + n / 16384 * 128) * 128 ≡ n
whole n = omega arith

-- numbers of the same groups are the same
same_groups : (n m : ℕ) → n % 128 ≡ m % 128 → n / 128 % 128 ≡ m / 128 % 128 → n / 16384 ≡ m / 16384 → n ≡ m
same_groups n m p q r =
    sym (whole n) ∙ ap₂ (λ (a b : ℕ). a + b * 128) p (ap₂ (λ (a b : ℕ). a + b * 128) q r) ∙ whole m

module _ (n m : ℕ) (t u : List ℕ) (e : shortest n ++ t ≡ shortest m ++ u) where
  pub leading_one : n ≡ m
  unfolding at
  leading_one = go (sized n) (sized m)
    where
      byte : (i : ℕ) (a b : List ℕ) → shortest n ≡ a → shortest m ≡ b → at i (a ++ t) ≡ at i (b ++ u)
      byte i a b p q = ap (λ (l : List ℕ). at i (l ++ t)) (sym p) ∙ ap (at i) e ∙ ap (λ (l : List ℕ). at i (l ++ u)) q

      go : Size n → Size m → n ≡ m
      go (one h p) (one k q) = byte 0 _ _ p q
      go (one h p) (two k l q) = absurd (omega (arith, byte 0 _ _ p q))
      go (one h p) (three k q) = absurd (omega (arith, byte 0 _ _ p q))
      go (two h k p) (one l q) = absurd (omega (arith, byte 0 _ _ p q))
      go (two h k p) (two l o q) = omega (arith, byte 0 _ _ p q, byte 1 _ _ p q)
      go (two h k p) (three l q) = absurd (omega (arith, byte 1 _ _ p q))
      go (three h p) (one k q) = absurd (omega (arith, byte 0 _ _ p q))
      go (three h p) (two k l q) = absurd (omega (arith, byte 1 _ _ p q))
      go (three h p) (three k q) = same_groups n m (omega (arith, byte 0 _ _ p q)) (omega (arith, byte 1 _ _ p q)) (byte 2 _ _ p q)

  pub rest_one : t ≡ u
  rest_one =
      sym (drop-append_seam (shortest n) t) ∙ ap₂ (λ (k : ℕ) (l : List ℕ). drop (length (shortest k)) l) leading_one e
      ∙ drop-append_seam (shortest m) u
