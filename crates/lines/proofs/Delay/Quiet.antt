-- Where nothing but zeros waits and comes in, a step changes nothing.
-- Assumes nothing.
use Rattle.std.specs.Prelude.{◌≡◌, refl, List, [], ◌∷◌, ◌++◌, ℕ, zero, suc, ◌+◌, take, drop}
use Rattle.std.proofs.Common.{ap, ap₂, ◌∙◌, zero-add, suc-add, add-one}
use Rattle.std.proofs.lemmas.List.{replicate-append-replicate}
use Rattle.lines.specs.Delay.{line_out, line_next, rows_out, rows_next, zeros}

-- ---- parts of zeros: the first d of n, or all, and what is left behind them

first : ℕ → ℕ → ℕ
first zero n = zero
first (suc d) zero = zero
first (suc d) (suc n) = suc (first d n)

left : ℕ → ℕ → ℕ
left zero n = n
left (suc d) zero = zero
left (suc d) (suc n) = left d n

first-left : (d n : ℕ) → first d n + left d n ≡ n
unfolding first left
first-left zero n = zero-add n
first-left (suc d) zero = refl
first-left (suc d) (suc n) = suc-add (first d n) (left d n) ∙ ap suc (first-left d n)

take-zeros : (d n : ℕ) → take d (zeros n) ≡ zeros (first d n)
unfolding first
take-zeros zero n = refl
take-zeros (suc d) zero = refl
take-zeros (suc d) (suc n) = ap (λ (l : List ℕ). 0 ∷ l) (take-zeros d n)

drop-zeros : (d n : ℕ) → drop d (zeros n) ≡ zeros (left d n)
unfolding left
drop-zeros zero n = refl
drop-zeros (suc d) zero = refl
drop-zeros (suc d) (suc n) = drop-zeros d n

-- ---- a line, and a stage

pub zeros_out : (d : ℕ) → line_out (zeros d) 0 ≡ 0
unfolding line_out
zeros_out zero = refl
zeros_out (suc d) = refl

pub zeros-next : (d : ℕ) → line_next (zeros d) 0 ≡ zeros d
unfolding line_next
zeros-next zero = refl
zeros-next (suc d) = replicate-append-replicate d 1 0 ∙ ap (λ (n : ℕ). zeros n) (add-one d)

pub quiet_out : (ds : List ℕ) (n k : ℕ) → rows_out ds (zeros n) (zeros k) ≡ zeros k
unfolding rows_out
quiet_out [] n k = refl
quiet_out (d ∷ ds) n zero = refl
quiet_out (d ∷ ds) n (suc k) =
    ap₂ ◌∷◌ (ap (λ (l : List ℕ). line_out l 0) (take-zeros d n) ∙ zeros_out (first d n))
    (ap (λ (l : List ℕ). rows_out ds l (zeros k)) (drop-zeros d n) ∙ quiet_out ds (left d n) k)

pub quiet_next : (ds : List ℕ) (n k : ℕ) → rows_next ds (zeros n) (zeros k) ≡ zeros n
unfolding rows_next
quiet_next [] n k = refl
quiet_next (d ∷ ds) n zero = refl
quiet_next (d ∷ ds) n (suc k) =
    ap₂ ◌++◌ (ap (λ (l : List ℕ). line_next l 0) (take-zeros d n) ∙ zeros-next (first d n))
    (ap (λ (l : List ℕ). rows_next ds l (zeros k)) (drop-zeros d n) ∙ quiet_next ds (left d n) k)
    ∙ replicate-append-replicate (first d n) (left d n) 0
    ∙ ap (λ (m : ℕ). zeros m) (first-left d n)
