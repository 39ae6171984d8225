-- An address is printed exactly of the correct Sectors of Mode 00, and it is theirs.
-- Assumes nothing.
use Rattle.std.specs.Prelude.{◌≡◌, refl, Bool, true, false, cond, List, [], ◌∷◌, ℕ, eqb, Some, None}
use Rattle.std.proofs.Common.{sym, ap, ◌∙◌, arith, eq-eqb, eqb-true}
use Rattle.outcome.specs.Say.{Say, done, refused}
use Rattle.outcome.specs.Bytes.{Bytes}
use Rattle.address.specs.declared.HeaderTime.{HeaderTime}
use Rattle.sector.specs.Layout.{time_of, mode_of}
use Rattle.sector.specs.Correct.{Correct}
use Rattle.judge.specs.Judging.{passing, judging}
use Rattle.judge.specs.Judging.Exact.{judge_sound, judge_complete}
use Rattle.empty_lines.specs.Listed.{says_empty, found_in}

-- what is found follows from what judging says
pub found_by : (s : List ℕ) (say : Say) → judging s ≡ say → found_in s ≡ cond (says_empty say) (Some (time_of s)) None
unfolding found_in
found_by s say e = ap (λ (x : Say). cond (says_empty x) (Some (time_of s)) None) e

-- a correct Sector of Mode 00 is found, with its address
pub empty_found : (s : List ℕ) → Correct s → mode_of s ≡ 0 → found_in s ≡ Some (time_of s)
empty_found s c e = found_by s (passing (mode_of s) (time_of s)) (judge_complete s c) ∙ simp (eq-eqb (mode_of s) 0 e)

never : {A : Type 0} {time : HeaderTime} → None ≡ Some time → A
never e = let z : ◌≡◌ {A = ℕ} 0 1 = cc in absurd (omega arith)

-- and what is found empty is a correct Sector of Mode 00 with this address
pub found_empty : (s : List ℕ) (time : HeaderTime) → Bytes s → found_in s ≡ Some time → Correct s × (mode_of s ≡ 0) × (time ≡ time_of s)
found_empty s time h e = by (judging s) refl
  where
    passed : (b : Bool) (mode : ℕ) → eqb mode 0 ≡ b → cond b (Some (time_of s)) None ≡ Some time → (mode ≡ 0) × (time ≡ time_of s)
    passed true mode p q = (eqb-true mode 0 p, cc)
    passed false mode p q = never q

    by : (say : Say) → judging s ≡ say → Correct s × (mode_of s ≡ 0) × (time ≡ time_of s)
    by (done []) j = never (sym (found_by s (done []) j) ∙ e)
    by (done (mode ∷ address)) j =
        let g = judge_sound s h j in
        let k = passed (eqb mode 0) mode refl (sym (found_by s (done (mode ∷ address)) j) ∙ e) in
        let same : mode ≡ mode_of s = cc g.1 in
        (g.0, sym same ∙ k.0, k.1)
    by (refused n v) j = never (sym (found_by s (refused n v) j) ∙ e)
