-- Which incoming marks say that a byte is lost.
-- Assumes nothing.
use Rattle.std.specs.Prelude.{◌≡◌, refl, List, ℕ, length, get_or}
use Rattle.std.proofs.lemmas.List.{length-map}
use Rattle.std.proofs.Math.ListN.{get_or-map}
use Rattle.std.proofs.Common.{ne_eqb}
use Rattle.circ.specs.Marks.{lost_by, lost_marks}

pub lost_by_one : lost_by 1 ≡ 1
unfolding lost_by
lost_by_one = refl

pub lost_by_four : lost_by 4 ≡ 1
unfolding lost_by
lost_by_four = refl

pub lost_by_no_other : (k : ℕ) → (k ≡ 1 → ⊥) → (k ≡ 4 → ⊥) → lost_by k ≡ 0
unfolding lost_by
lost_by_no_other k a b = rw (ne_eqb k 1 a, ne_eqb k 4 b)

-- place by place
pub length_lost : (ks : List ℕ) → length (lost_marks ks) ≡ length ks
unfolding lost_marks
length_lost ks = length-map ks lost_by

pub lost_at : (ks : List ℕ) (i : ℕ) → get_or (lost_marks ks) i 0 ≡ lost_by (get_or ks i 0)
unfolding lost_marks lost_by
lost_at ks i = get_or-map lost_by ks i 0
