-- A fresh store and zeros: nothing moves. So a fresh store acts as if endless zeros had gone before.
-- Assumes nothing.
use Rattle.std.specs.Prelude.{◌≡◌, ℕ, ◌+◌, take, drop}
use Rattle.std.proofs.Common.{sym, ap, ◌∙◌, arith, take_at, drop_at, take_all, drop-drop}
use Rattle.std.proofs.Math.Path.{ap₂}
use mathlib.Core.List.{List, ◌++◌}
use Rattle.std.proofs.lemmas.List.{length-replicate, replicate-append-replicate}
use Rattle.lines.specs.Delay.{rows_out, rows_next, total, zeros}
use Rattle.lines.proofs.Delay.Quiet.{quiet_out, quiet_next}
use Rattle.lines.specs.Chain.{lines₁, lines₂, lines₃, word₂, word₃, chain_out, chain_next}

zeros-add : (m n : ℕ) → zeros m ++ zeros n ≡ zeros (m + n)
zeros-add m n = replicate-append-replicate m n 0

take-zeros : (m n : ℕ) → take m (zeros (m + n)) ≡ zeros m
take-zeros m n = ap (take m) (sym (zeros-add m n)) ∙ take_at (zeros m) (zeros n) m (length-replicate m 0)

drop-zeros : (m n : ℕ) → drop m (zeros (m + n)) ≡ zeros n
drop-zeros m n = ap (drop m) (sym (zeros-add m n)) ∙ drop_at (zeros m) (zeros n) m (length-replicate m 0)

-- a chain whose functions make zeros of x, and zeros of zeros
module _ (d₁ d₂ d₃ : List ℕ) (g₁ g₂ g₃ : List ℕ → List ℕ) (k₁ k₂ k₃ : ℕ)
    (x : List ℕ) (e₁ : g₁ x ≡ zeros k₁) (e₂ : g₂ (zeros k₁) ≡ zeros k₂) (e₃ : g₃ (zeros k₂) ≡ zeros k₃) where
  abbrev s : List ℕ
  s = zeros (total d₁ + (total d₂ + total d₃))

  l₁ : lines₁ d₁ d₂ d₃ g₁ g₂ g₃ s ≡ zeros (total d₁)
  l₁ = take-zeros (total d₁) (total d₂ + total d₃)

  l₂ : lines₂ d₁ d₂ d₃ g₁ g₂ g₃ s ≡ zeros (total d₂)
  l₂ = ap (take (total d₂)) (drop-zeros (total d₁) (total d₂ + total d₃)) ∙ take-zeros (total d₂) (total d₃)

  l₃ : lines₃ d₁ d₂ d₃ g₁ g₂ g₃ s ≡ zeros (total d₃)
  l₃ =
      ap (take (total d₃))
      (sym (drop-drop (total d₂) (total d₁) s)
      ∙ ap (drop (total d₂)) (drop-zeros (total d₁) (total d₂ + total d₃))
      ∙ drop-zeros (total d₂) (total d₃))
      ∙ take_all (total d₃) (zeros (total d₃)) (omega (arith, length-replicate {A = ℕ} (total d₃) 0))

  w₂ : word₂ d₁ d₂ d₃ g₁ g₂ g₃ s x ≡ zeros k₂
  w₂ = ap g₂ (ap₂ (rows_out d₁) l₁ e₁ ∙ quiet_out d₁ (total d₁) k₁) ∙ e₂

  w₃ : word₃ d₁ d₂ d₃ g₁ g₂ g₃ s x ≡ zeros k₃
  w₃ = ap g₃ (ap₂ (rows_out d₂) l₂ w₂ ∙ quiet_out d₂ (total d₂) k₂) ∙ e₃

  -- such a chain gives zeros for x from a fresh store
  pub chain_zeros : chain_out d₁ d₂ d₃ g₁ g₂ g₃ (zeros (total d₁ + (total d₂ + total d₃))) x ≡ zeros k₃
  unfolding chain_out
  chain_zeros = ap₂ (rows_out d₃) l₃ w₃ ∙ quiet_out d₃ (total d₃) k₃

  -- which stays fresh
  pub chain_stays : chain_next d₁ d₂ d₃ g₁ g₂ g₃ (zeros (total d₁ + (total d₂ + total d₃))) x ≡ zeros (total d₁ + (total d₂ + total d₃))
  unfolding chain_next
  chain_stays =
      ap₂ ◌++◌
      (ap₂ (rows_next d₁) l₁ e₁ ∙ quiet_next d₁ (total d₁) k₁)
      (ap₂ ◌++◌ (ap₂ (rows_next d₂) l₂ w₂ ∙ quiet_next d₂ (total d₂) k₂) (ap₂ (rows_next d₃) l₃ w₃ ∙ quiet_next d₃ (total d₃) k₃) ∙ zeros-add (total d₂) (total d₃))
      ∙ zeros-add (total d₁) (total d₂ + total d₃)
