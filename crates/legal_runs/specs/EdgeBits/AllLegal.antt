-- Where no run is illegal, all are legal.
-- Assumes nothing.
use Rattle.std.specs.Prelude.{◌≡◌, refl, Bool, true, false, not, ◌&&◌, List, [], ◌∷◌, ℕ, suc, ◌/◌, ◌<◌, ◌≤◌, leb, length, get_or}
use Rattle.std.proofs.Common.{ap, arith, leb-true}
use Rattle.outcome.specs.First.{First}
use Rattle.outcome.specs.First.Found.{first_below_lem}
use Rattle.captures.specs.Counts.{bits_in, legal}
use Rattle.replaying.specs.Replay.{first_illegal}
use Rattle.replaying.specs.Replay.Sizes.{Legal}
use Rattle.legal_runs.specs.EdgeBits.{runs}
use Rattle.legal_runs.specs.EdgeBits.There.{runs_long}

leb-and : (a b : Bool) → a && b ≡ true → (a ≡ true) × (b ≡ true)
leb-and true true e = (refl, refl)
leb-and true false e = let z : ◌≡◌ {A = ℕ} 0 1 = cc in absurd (omega arith)
leb-and false b e = let z : ◌≡◌ {A = ℕ} 0 1 = cc in absurd (omega arith)

all_legal : (ds : List ℕ) → ((j : ℕ) → j < length ds → legal (get_or ds j 0) ≡ true) → Legal ds
all_legal [] h = tt
all_legal (d ∷ ds) h =
    let p = leb-and (leb 3 (bits_in d)) (leb (bits_in d) 11) (h 0 (omega arith)) in
    (leb-true 3 (bits_in d) p.0, leb-true (bits_in d) 11 p.1, all_legal ds (λ j k. h (suc j) (omega arith)))

pub illegal_within : (w : List ℕ) (i : ℕ) → i ≡ first_illegal (runs w) → i ≤ length w / 2
unfolding first_illegal
illegal_within w i e =
    let f = first_below_lem (λ j. not (legal (get_or (runs w) j 0))) (length (runs w)) in
    omega (arith, f.within, runs_long w)

pub none_illegal : (ds : List ℕ) → length ds ≤ first_illegal ds → Legal ds
unfolding first_illegal
none_illegal ds h = all_legal ds (λ j k. by j k (legal (get_or ds j 0)) refl)
  where
    f : First (λ i. not (legal (get_or ds i 0)) ≡ true) (length ds) (first_illegal ds)
    f = first_below_lem (λ i. not (legal (get_or ds i 0))) (length ds)

    by : (j : ℕ) → j < length ds → (t : Bool) → legal (get_or ds j 0) ≡ t → t ≡ true
    by j k true e = refl
    by j k false e = absurd (f.before j (omega arith) (ap not e))
