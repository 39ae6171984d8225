-- Two stages side by side are one stage: what goes through it are words with more rows.
-- Assumes nothing.
use Rattle.std.specs.Prelude.{◌≡◌, refl, length, take, drop}
use Rattle.std.proofs.Math.Path.{sym, ap}
use Rattle.std.proofs.Common.{ap₂, ◌∙◌, arith, length-drop}
use mathlib.Core.List.{List, [], ◌∷◌, ◌++◌, append_assoc}
use Prim.Native.Nat.{ℕ, zero, suc, ◌+◌}
use Rattle.std.proofs.Math.ListN.{replicate}
use Rattle.std.proofs.lemmas.List.{replicate-append-replicate, take-append-le, drop-append-le}
use Rattle.lines.specs.Delay.{line_out, line_next, rows_out, rows_next, total}
use Rattle.lines.specs.Stream.{state_at, out_at}
use Rattle.lines.proofs.Stream.Rows.{length_state}

-- together they hold as much
pub total_beside : (d e : List ℕ) → total (d ++ e) ≡ total d + total e
unfolding total
total_beside [] e = omega arith
total_beside (x ∷ d) e = omega (arith, total_beside d e)

-- a step of both
pub rows_beside : (d e s t v w : List ℕ) → length s ≡ total d → length v ≡ length d
    → rows_out (d ++ e) (s ++ t) (v ++ w) ≡ rows_out d s v ++ rows_out e t w
unfolding rows_out total
rows_beside [] e [] t [] w p q = refl
rows_beside [] e [] t (y ∷ v) w p q = absurd (omega arith)
rows_beside [] e (z ∷ s) t v w p q = absurd (omega arith)
rows_beside (x ∷ d) e s t [] w p q = absurd (omega arith)
rows_beside (x ∷ d) e s t (y ∷ v) w p q =
    ap₂ ◌∷◌
    (ap (λ (l : List ℕ). line_out l y) (take-append-le x s t (omega arith)))
    (ap (λ (l : List ℕ). rows_out (d ++ e) l (v ++ w)) (drop-append-le x s t (omega arith))
    ∙ rows_beside d e (drop x s) t v w (omega (arith, length-drop x s)) (omega arith))

pub next_beside : (d e s t v w : List ℕ) → length s ≡ total d → length v ≡ length d
    → rows_next (d ++ e) (s ++ t) (v ++ w) ≡ rows_next d s v ++ rows_next e t w
unfolding rows_next total
next_beside [] e [] t [] w p q = refl
next_beside [] e [] t (y ∷ v) w p q = absurd (omega arith)
next_beside [] e (z ∷ s) t v w p q = absurd (omega arith)
next_beside (x ∷ d) e s t [] w p q = absurd (omega arith)
next_beside (x ∷ d) e s t (y ∷ v) w p q =
    ap₂ ◌++◌
    (ap (λ (l : List ℕ). line_next l y) (take-append-le x s t (omega arith)))
    (ap (λ (l : List ℕ). rows_next (d ++ e) l (v ++ w)) (drop-append-le x s t (omega arith))
    ∙ next_beside d e (drop x s) t v w (omega (arith, length-drop x s)) (omega arith))
    ∙ sym (append_assoc (line_next (take x s) y) (rows_next d (drop x s) v) (rows_next e t w))

module _ (d e : List ℕ) (a b : ℕ → List ℕ) (wide : (m : ℕ) → length (a m) ≡ length d) where
  -- the stores stand one behind the other
  pub state_beside : (n : ℕ) → state_at (d ++ e) (λ m. a m ++ b m) n ≡ state_at d a n ++ state_at e b n
  unfolding state_at
  state_beside zero = ap (λ (k : ℕ). replicate k 0) (total_beside d e) ∙ sym (replicate-append-replicate (total d) (total e) 0)
  state_beside (suc n) =
      ap (λ (s : List ℕ). rows_next (d ++ e) s (a n ++ b n)) (state_beside n)
      ∙ next_beside d e (state_at d a n) (state_at e b n) (a n) (b n) (length_state d a n) (wide n)

  -- and what comes out does
  pub beside : (n : ℕ) → out_at (d ++ e) (λ m. a m ++ b m) n ≡ out_at d a n ++ out_at e b n
  unfolding out_at
  beside n =
      ap (λ (s : List ℕ). rows_out (d ++ e) s (a n ++ b n)) (state_beside n)
      ∙ rows_beside d e (state_at d a n) (state_at e b n) (a n) (b n) (length_state d a n) (wide n)
