-- A word that leaves a fresh store fresh may go in as often as it likes before the others: nothing tells.
-- Assumes nothing.
use Rattle.std.specs.Prelude.{◌≡◌, List, replicate}
use Rattle.std.proofs.Math.Path.{refl, ap, ap₂}
use Rattle.std.proofs.Common.{◌∙◌, add-zero, add-suc, arith}
use Prim.Native.Nat.{ℕ, zero, suc, ◌+◌, ◌<◌}
use Rattle.lines.specs.Delay.{total}
use Rattle.lines.specs.Stream.{back}
use Rattle.lines.specs.Stream.Late.{back-later, back-before}
use Rattle.lines.specs.Chain.{chain_next, chain_at}

module _ (d₁ d₂ d₃ : List ℕ) (g₁ g₂ g₃ : List ℕ → List ℕ) (z : List ℕ)
    (settled : chain_next d₁ d₂ d₃ g₁ g₂ g₃ (replicate (total d₁ + (total d₂ + total d₃)) 0) z ≡ replicate (total d₁ + (total d₂ + total d₃)) 0) where
  -- as long as nothing but z goes in, the store stays fresh
  pub stays_fresh : (f : ℕ → List ℕ) (n : ℕ) → ((m : ℕ) → m < n → f m ≡ z) → chain_at d₁ d₂ d₃ g₁ g₂ g₃ f n ≡ replicate (total d₁ + (total d₂ + total d₃)) 0
  unfolding chain_at
  stays_fresh f zero h = refl
  stays_fresh f (suc n) h = ap₂ (chain_next d₁ d₂ d₃ g₁ g₂ g₃) (stays_fresh f n (λ m l. h m (omega arith))) (h n (omega arith)) ∙ settled

  -- k times z and then f: at step k + n the store is that of f at step n
  pub late-store : (f : ℕ → List ℕ) (k n : ℕ) → chain_at d₁ d₂ d₃ g₁ g₂ g₃ (back z f k) (k + n) ≡ chain_at d₁ d₂ d₃ g₁ g₂ g₃ f n
  unfolding chain_at
  late-store f k zero = ap (chain_at d₁ d₂ d₃ g₁ g₂ g₃ (back z f k)) (add-zero k) ∙ stays_fresh (back z f k) k (λ m l. back-before z f k m l)
  late-store f k (suc n) =
      ap (chain_at d₁ d₂ d₃ g₁ g₂ g₃ (back z f k)) (add-suc k n) ∙ ap₂ (chain_next d₁ d₂ d₃ g₁ g₂ g₃) (late-store f k n) (back-later z f k n)
