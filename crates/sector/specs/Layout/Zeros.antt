-- Parts of a list of zeros are zeros.
-- Assumes nothing.
use Rattle.std.specs.Prelude.{◌≡◌, refl, List, ◌∷◌, ℕ, zero, suc, ◌-◌, ◌≤◌, length, take, drop, replicate}
use Rattle.std.proofs.Common.{sym, ap, ◌∙◌, arith}
use Rattle.std.proofs.Math.Nat.{sub-zero, zero-sub, suc-sub-suc}
use Rattle.std.proofs.lemmas.List.{length-replicate}
use Rattle.sector.specs.Layout.{zeros}

-- n zeros are n bytes
pub length-zeros : (n : ℕ) → length (zeros n) ≡ n
unfolding zeros
length-zeros n = length-replicate {A = ℕ} n 0

-- without the first n, the rest are zeros
pub drop-zeros : (n m : ℕ) → drop n (zeros m) ≡ zeros (m - n)
unfolding zeros
drop-zeros zero m = ap (λ (k : ℕ). replicate k 0) (sym (sub-zero m))
drop-zeros (suc n) zero = ap (λ (k : ℕ). replicate k 0) (sym (zero-sub (suc n)))
drop-zeros (suc n) (suc m) = drop-zeros n m ∙ ap (λ (k : ℕ). replicate k 0) (sym (suc-sub-suc m n))

-- and so are the first n
pub take-zeros : (n m : ℕ) → n ≤ m → take n (zeros m) ≡ zeros n
unfolding zeros
take-zeros zero m h = refl
take-zeros (suc n) zero h = absurd (omega arith)
take-zeros (suc n) (suc m) h = ap (λ (w : List ℕ). 0 ∷ w) (take-zeros n m (omega arith))
