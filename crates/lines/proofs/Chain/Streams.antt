-- Step by step from a fresh store, a chain of three stages gives what its streams give.
-- Assumes nothing.
use Rattle.std.specs.Prelude.{◌≡◌, length, take, drop}
use Rattle.std.proofs.Math.Path.{sym, ap}
use Rattle.std.proofs.Common.{◌∙◌, arith, take_at, drop_at, take_all, drop-drop}
use mathlib.Core.List.{List, ◌++◌}
use Prim.Native.Nat.{ℕ, zero, suc, ◌+◌}
use Rattle.std.proofs.Math.ListN.{replicate}
use Rattle.std.proofs.lemmas.List.{replicate-append-replicate}
use Rattle.lines.specs.Delay.{rows_out, total}
use Rattle.lines.specs.Stream.{state_at, out_at}
use Rattle.lines.proofs.Stream.Rows.{length_state}
use Rattle.lines.specs.Chain.{lines₁, lines₂, lines₃, word₂, word₃, chain_out, chain_next, chain_at}

-- the chain over time: what leaves the first stage at step n, and the second
module _ (d₁ d₂ d₃ : List ℕ) (g₁ g₂ g₃ : List ℕ → List ℕ) where
  abbrev stream₁ : (ℕ → List ℕ) → ℕ → List ℕ
  stream₁ f n = out_at d₁ (λ m. g₁ (f m)) n

  abbrev stream₂ : (ℕ → List ℕ) → ℕ → List ℕ
  stream₂ f n = out_at d₂ (λ m. g₂ (stream₁ f m)) n

  -- and the third: what the chain gives
  unfoldable pub chained : (ℕ → List ℕ) → ℕ → List ℕ
  chained f n = out_at d₃ (λ m. g₃ (stream₂ f m)) n

module _ (d₁ d₂ d₃ : List ℕ) (g₁ g₂ g₃ : List ℕ → List ℕ) (a b c : List ℕ) (ea : length a ≡ total d₁) (eb : length b ≡ total d₂) (ec : length c ≡ total d₃) where
  part₁ : lines₁ d₁ d₂ d₃ g₁ g₂ g₃ (a ++ (b ++ c)) ≡ a
  part₁ = take_at a (b ++ c) (total d₁) ea

  part₂ : lines₂ d₁ d₂ d₃ g₁ g₂ g₃ (a ++ (b ++ c)) ≡ b
  part₂ = ap (take (total d₂)) (drop_at a (b ++ c) (total d₁) ea) ∙ take_at b c (total d₂) eb

  part₃ : lines₃ d₁ d₂ d₃ g₁ g₂ g₃ (a ++ (b ++ c)) ≡ c
  part₃ =
      ap (take (total d₃))
      (sym (drop-drop (total d₂) (total d₁) (a ++ (b ++ c))) ∙ ap (drop (total d₂)) (drop_at a (b ++ c) (total d₁) ea) ∙ drop_at b c (total d₂) eb)
      ∙ take_all (total d₃) c (omega arith)

module _ (d₁ d₂ d₃ : List ℕ) (g₁ g₂ g₃ : List ℕ → List ℕ) (f : ℕ → List ℕ) where
  abbrev s₁ : ℕ → List ℕ
  s₁ n = state_at d₁ (λ m. g₁ (f m)) n

  abbrev s₂ : ℕ → List ℕ
  s₂ n = state_at d₂ (λ m. g₂ (stream₁ d₁ d₂ d₃ g₁ g₂ g₃ f m)) n

  abbrev s₃ : ℕ → List ℕ
  s₃ n = state_at d₃ (λ m. g₃ (stream₂ d₁ d₂ d₃ g₁ g₂ g₃ f m)) n

  abbrev store : ℕ → List ℕ
  store n = chain_at d₁ d₂ d₃ g₁ g₂ g₃ f n

  module _ (n : ℕ) (e : store n ≡ s₁ n ++ (s₂ n ++ s₃ n)) where
    l₁ : lines₁ d₁ d₂ d₃ g₁ g₂ g₃ (store n) ≡ s₁ n
    l₁ = ap (lines₁ d₁ d₂ d₃ g₁ g₂ g₃) e ∙ part₁ d₁ d₂ d₃ g₁ g₂ g₃ (s₁ n) (s₂ n) (s₃ n) (length_state d₁ _ n) (length_state d₂ _ n) (length_state d₃ _ n)

    l₂ : lines₂ d₁ d₂ d₃ g₁ g₂ g₃ (store n) ≡ s₂ n
    l₂ = ap (lines₂ d₁ d₂ d₃ g₁ g₂ g₃) e ∙ part₂ d₁ d₂ d₃ g₁ g₂ g₃ (s₁ n) (s₂ n) (s₃ n) (length_state d₁ _ n) (length_state d₂ _ n) (length_state d₃ _ n)

    l₃ : lines₃ d₁ d₂ d₃ g₁ g₂ g₃ (store n) ≡ s₃ n
    l₃ = ap (lines₃ d₁ d₂ d₃ g₁ g₂ g₃) e ∙ part₃ d₁ d₂ d₃ g₁ g₂ g₃ (s₁ n) (s₂ n) (s₃ n) (length_state d₁ _ n) (length_state d₂ _ n) (length_state d₃ _ n)

    w₂ : word₂ d₁ d₂ d₃ g₁ g₂ g₃ (store n) (f n) ≡ g₂ (stream₁ d₁ d₂ d₃ g₁ g₂ g₃ f n)
    unfolding out_at
    w₂ = ap (λ (t : List ℕ). g₂ (rows_out d₁ t (g₁ (f n)))) l₁

    w₃ : word₃ d₁ d₂ d₃ g₁ g₂ g₃ (store n) (f n) ≡ g₃ (stream₂ d₁ d₂ d₃ g₁ g₂ g₃ f n)
    unfolding out_at
    w₃ =
        ap (λ (t : List ℕ). g₃ (rows_out d₂ t (word₂ d₁ d₂ d₃ g₁ g₂ g₃ (store n) (f n)))) l₂
        ∙ ap (λ (t : List ℕ). g₃ (rows_out d₂ (s₂ n) t)) w₂

    out : chain_out d₁ d₂ d₃ g₁ g₂ g₃ (store n) (f n) ≡ chained d₁ d₂ d₃ g₁ g₂ g₃ f n
    unfolding out_at chain_out chained
    out = ap (λ (t : List ℕ). rows_out d₃ t (word₃ d₁ d₂ d₃ g₁ g₂ g₃ (store n) (f n))) l₃ ∙ ap (rows_out d₃ (s₃ n)) w₃

    next : chain_next d₁ d₂ d₃ g₁ g₂ g₃ (store n) (f n) ≡ s₁ (suc n) ++ (s₂ (suc n) ++ s₃ (suc n))
    unfolding chain_next state_at out_at
    next = rw (l₁, l₂, l₃)

  -- the store is the three stages' stores
  pub chain_state : (n : ℕ) → chain_at d₁ d₂ d₃ g₁ g₂ g₃ f n ≡ s₁ n ++ (s₂ n ++ s₃ n)
  unfolding chain_at state_at
  chain_state zero =
      sym (replicate-append-replicate (total d₁) (total d₂ + total d₃) 0)
      ∙ ap (λ (t : List ℕ). replicate (total d₁) 0 ++ t) (sym (replicate-append-replicate (total d₂) (total d₃) 0))
  chain_state (suc n) = next n (chain_state n)

  -- from a fresh store, what step n gives is what the streams give
  pub chain_law : (n : ℕ) → chain_out d₁ d₂ d₃ g₁ g₂ g₃ (chain_at d₁ d₂ d₃ g₁ g₂ g₃ f n) (f n) ≡ chained d₁ d₂ d₃ g₁ g₂ g₃ f n
  chain_law n = out n (chain_state n)
