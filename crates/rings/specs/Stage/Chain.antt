-- Three stages of rings one after the other, with a function before each, are a step of the chain of the lines that they stand for.
-- Assumes nothing.
use Rattle.std.specs.Prelude.{◌≡◌, ℕ, length, take, drop}
use Rattle.std.proofs.Common.{sym, ◌∙◌, arith, take_at, drop_at, take_all, drop-drop}
use Rattle.std.proofs.Math.Path.{ap, ap₂}
use mathlib.Core.List.{List, ◌++◌}
use Rattle.lines.specs.Delay.{rows_out, rows_next, total}
use Rattle.lines.specs.Chain.{lines₁, lines₂, lines₃, word₂, word₃, chain_out, chain_next}
use Rattle.rings.specs.Rings.{waits, onward, unrolled_all}
use Rattle.rings.specs.Stage.{Turned}
use Rattle.rings.specs.Stage.Beside.{lines_now, lines_later, line_long}

module _ {d₁ d₂ d₃ : List ℕ} (g₁ g₂ g₃ : List ℕ → List ℕ) (x : List ℕ) {p₁ p₂ p₃ s₁ s₂ s₃ w₁ w₂ w₃ w₄ w₅ w₆ r₁ r₂ r₃ : List ℕ}
    (e₁ : w₁ ≡ g₁ x) (t₁ : Turned d₁ p₁ s₁ w₁ w₂ r₁)
    (e₂ : w₃ ≡ g₂ w₂) (t₂ : Turned d₂ p₂ s₂ w₃ w₄ r₂)
    (e₃ : w₅ ≡ g₃ w₄) (t₃ : Turned d₃ p₃ s₃ w₅ w₆ r₃) where
  -- the lines of each stage
  l₁ : List ℕ
  l₁ = unrolled_all d₁ p₁ s₁

  l₂ : List ℕ
  l₂ = unrolled_all d₂ p₂ s₂

  l₃ : List ℕ
  l₃ = unrolled_all d₃ p₃ s₃

  -- and of all
  abbrev line : List ℕ
  line = unrolled_all (d₁ ++ (d₂ ++ d₃)) (p₁ ++ (p₂ ++ p₃)) (s₁ ++ (s₂ ++ s₃))

  is_line : line ≡ l₁ ++ (l₂ ++ l₃)
  unfolding l₁ l₂ l₃
  is_line = lines_now t₁ (d₂ ++ d₃) (p₂ ++ p₃) (s₂ ++ s₃) ∙ ap (λ (l : List ℕ). unrolled_all d₁ p₁ s₁ ++ l) (lines_now t₂ d₃ p₃ s₃)

  k₁ : length l₁ ≡ total d₁
  unfolding l₁
  k₁ = line_long t₁

  k₂ : length l₂ ≡ total d₂
  unfolding l₂
  k₂ = line_long t₂

  k₃ : length l₃ ≡ total d₃
  unfolding l₃
  k₃ = line_long t₃

  past : drop (total d₁) line ≡ l₂ ++ l₃
  past = ap (drop (total d₁)) is_line ∙ drop_at l₁ (l₂ ++ l₃) (total d₁) k₁

  has₁ : lines₁ d₁ d₂ d₃ g₁ g₂ g₃ line ≡ l₁
  has₁ = ap (take (total d₁)) is_line ∙ take_at l₁ (l₂ ++ l₃) (total d₁) k₁

  has₂ : lines₂ d₁ d₂ d₃ g₁ g₂ g₃ line ≡ l₂
  has₂ = ap (take (total d₂)) past ∙ take_at l₂ l₃ (total d₂) k₂

  has₃ : lines₃ d₁ d₂ d₃ g₁ g₂ g₃ line ≡ l₃
  has₃ =
      ap (take (total d₃)) (sym (drop-drop (total d₂) (total d₁) line) ∙ ap (drop (total d₂)) past ∙ drop_at l₂ l₃ (total d₂) k₂)
      ∙ take_all (total d₃) l₃ (omega (arith, k₃))

  is₂ : w₃ ≡ word₂ d₁ d₂ d₃ g₁ g₂ g₃ line x
  unfolding l₁
  is₂ = e₂ ∙ ap g₂ (t₁.out ∙ ap₂ (rows_out d₁) (sym has₁) e₁)

  is₃ : w₅ ≡ word₃ d₁ d₂ d₃ g₁ g₂ g₃ line x
  unfolding l₂
  is₃ = e₃ ∙ ap g₃ (t₂.out ∙ ap₂ (rows_out d₂) (sym has₂) is₂)

  pub chain_out_lem : w₆ ≡ chain_out d₁ d₂ d₃ g₁ g₂ g₃ (unrolled_all (d₁ ++ (d₂ ++ d₃)) (p₁ ++ (p₂ ++ p₃)) (s₁ ++ (s₂ ++ s₃))) x
  unfolding l₃ chain_out
  chain_out_lem = t₃.out ∙ ap₂ (rows_out d₃) (sym has₃) is₃

  pub chain_next_lem : unrolled_all (d₁ ++ (d₂ ++ d₃)) (onward (waits (d₁ ++ (d₂ ++ d₃))) (p₁ ++ (p₂ ++ p₃))) (r₁ ++ (r₂ ++ r₃))
      ≡ chain_next d₁ d₂ d₃ g₁ g₂ g₃ (unrolled_all (d₁ ++ (d₂ ++ d₃)) (p₁ ++ (p₂ ++ p₃)) (s₁ ++ (s₂ ++ s₃))) x
  unfolding l₁ l₂ l₃ chain_next
  chain_next_lem =
      lines_later t₁ (d₂ ++ d₃) (p₂ ++ p₃) (r₂ ++ r₃)
      ∙ ap₂ ◌++◌
      (ap₂ (rows_next d₁) (sym has₁) e₁)
      (lines_later t₂ d₃ p₃ r₃ ∙ ap₂ ◌++◌ (ap₂ (rows_next d₂) (sym has₂) is₂) (t₃.next ∙ ap₂ (rows_next d₃) (sym has₃) is₃))
