-- The steps that make the candidate: the pass over the P codewords, and what is tried of it.
-- Assumes nothing.
use mathlib.Core.Path.{◌≡◌, refl, sym, ◌∙◌, subst}
use mathlib.Core.Bool.{Bool, false, cond}
use mathlib.Core.List.{List}
use Prim.Native.Nat.{ℕ}
use lib.Dec.{eqb}
use lib.ListN.{length}
use Rattle.outcome.specs.Buffer.Lengths.{same_lengths}
use Rattle.rspc.specs.declared.Parity.TheVariants.{P}
use Rattle.rspc.specs.PassInPlace.{Pass}
use Rattle.trial.specs.Freshen.{Freshen}
use Rattle.candidates.specs.Candidate.{FoundFor}

pub other_length : (r old : List ℕ) → (length r ≡ 2352 → ⊥) → FoundFor r old false old
other_length r old n = record { sector = λ l. absurd (n l); other = λ _. (refl, refl) }

-- what came in is copied into the Sector, which goes through the pass and the trial
pub found_for_lem : (r old a t v : List ℕ) (k near f : Bool) → length r ≡ 2352 → length old ≡ 2352 → (k ≡ eqb (length r) (length old)) × (a ≡ cond k r old)
    → Pass P a near t → Freshen t f v → FoundFor r old near v
found_for_lem r old a t v k near f l lo g pass fresh =
    let e : a ≡ r = same_lengths k (length r) (length old) a r old g (l ∙ sym lo) in
    let p = (subst (λ (x : List ℕ). Pass P x near t) e pass).sector l in
    record {
      sector = λ _. (p.0, record { mended = t; passed = p.1; tried = (fresh.sector (p.1.long ∙ l)).1 });
      other = λ n. absurd (n l);
    }
