-- Which rows are laid between which lengths.
-- Assumes nothing.
use Rattle.std.specs.Prelude.{◌≡◌, refl, Bool, true, false, cond, ◌&&◌, List, ℕ, length}
use Rattle.std.proofs.Common.{ap, ap₂, ◌∙◌, eq-eqb, ne_eqb}
use Rattle.q_rows.specs.Laid.{all_rows, Laid}

-- what is laid of a Sector where there is room
pub all_laid : {s old new : List ℕ} {r : Bool} → length s ≡ 2352 → length old ≡ 2340 → Laid s old r new → new ≡ all_rows s
all_laid {s} {old} ls lo g =
    g.rows
    ∙ ap (λ (b : Bool). cond b (all_rows s) old) (g.answer ∙ ap₂ ◌&&◌ (eq-eqb (length s) 2352 ls) (eq-eqb (length old) 2340 lo))

pub other_sector : (s old : List ℕ) → (length s ≡ 2352 → ⊥) → Laid s old false old
other_sector s old n = record { answer = simp (ne_eqb (length s) 2352 n); rows = refl }

pub other-room : (s old : List ℕ) → length s ≡ 2352 → (length old ≡ 2340 → ⊥) → Laid s old false old
other-room s old e n = record { answer = simp (eq-eqb (length s) 2352 e, ne_eqb (length old) 2340 n); rows = refl }

pub room-filled : (s old new : List ℕ) → length s ≡ 2352 → length old ≡ 2340 → new ≡ all_rows s → Laid s old true new
room-filled s old new e l g = record { answer = simp (eq-eqb (length s) 2352 e, eq-eqb (length old) 2340 l); rows = g }
