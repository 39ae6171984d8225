-- What the faults of frames say: a faulty frame decides, and frames without a fault leave the rest to decide.
-- Assumes nothing.
use Rattle.std.specs.Prelude.{◌≡◌, refl, Bool, true, false, List, [], ℕ, zero, suc, take, drop, get_or}
use Rattle.std.proofs.Common.{sym, ap, ◌∙◌, arith}
use Rattle.outcome.specs.Say.{Say, done, refused, demand}
use Rattle.outcome.specs.Say.Refusals.{never}
use Rattle.codeword.specs.Nearest.{is_codeword}
use Rattle.division.specs.Polynomial.{is_zero}
use Rattle.frame_edc.specs.FrameEdc.{remainder}
use Rattle.data_frame.specs.DataFrame.{reserved_are_zero}
use Rattle.frame_reader.specs.Reading.{faults}
use Rattle.told.specs.Told.{number_of}
use Rattle.frame_faults.specs.AllFaults.{all_faults}
use Rattle.frame_faults.specs.Inner.Refusals.{refusal_of}

-- three demands
abbrev three : Bool → Bool → Bool → Say → Say
three p q u rest = demand p 28 (demand q 29 (demand u 30 rest))

three-none : (p q u : Bool) → number_of (three p q u (done [])) ≡ 0 → (rest : Say) → three p q u rest ≡ rest
three-none true true true e rest = refl
three-none true true false e rest = absurd (omega arith)
three-none true false u e rest = absurd (omega arith)
three-none false q u e rest = absurd (omega arith)

three-some : (p q u : Bool) → (number_of (three p q u (done [])) ≡ 0 → ⊥) → (rest : Say) → three p q u rest ≡ refusal_of (number_of (three p q u (done [])))
three-some true true true e rest = absurd (e refl)
three-some true true false e rest = refl
three-some true false u e rest = refl
three-some false q u e rest = refl

three-values : (p q u : Bool) (v : List ℕ) → number_of (three p q u (done v)) ≡ number_of (three p q u (done []))
three-values true true true v = refl
three-values true true false v = refl
three-values true false u v = refl
three-values false q u v = refl

three-number : (p q u : Bool) (rest : Say) → (number_of (three p q u (done [])) ≡ 0 → ⊥) → number_of (three p q u rest) ≡ number_of (three p q u (done []))
three-number true true true rest e = absurd (e refl)
three-number true true false rest e = refl
three-number true false u rest e = refl
three-number false q u rest e = refl

-- a refusal of three demands stays where what stands behind them is refused so too
three-refused : (p q u : Bool) (s t : Say) {n : ℕ} {v : List ℕ} → three p q u s ≡ refused n v → (s ≡ refused n v → t ≡ refused n v) → three p q u t ≡ refused n v
three-refused true true true s t e h = h e
three-refused true true false s t e h = e
three-refused true false u s t e h = e
three-refused false q u s t e h = e

-- and where three demands are done, so is what stands behind them
three-done : (p q u : Bool) (s : Say) {v : List ℕ} → three p q u s ≡ done v → s ≡ done v
three-done true true true s e = e
three-done true true false s e = never e
three-done true false u s e = never e
three-done false q u s e = never e

module _ (f : List ℕ) where
  -- a frame that is refused is so whatever stands behind it
  pub refused-frame : (s t : Say) {n : ℕ} {v : List ℕ} → faults f s ≡ refused n v → (s ≡ refused n v → t ≡ refused n v) → faults f t ≡ refused n v
  refused-frame = three-refused (is_codeword 2 (take 6 f)) (is_zero (remainder f)) (reserved_are_zero (get_or f 0 0))

  pub clean_frame : number_of (faults f (done [])) ≡ 0 → (rest : Say) → faults f rest ≡ rest
  clean_frame = three-none (is_codeword 2 (take 6 f)) (is_zero (remainder f)) (reserved_are_zero (get_or f 0 0))

  pub faulty_frame : (number_of (faults f (done [])) ≡ 0 → ⊥) → (rest : Say) → faults f rest ≡ refusal_of (number_of (faults f (done [])))
  faulty_frame = three-some (is_codeword 2 (take 6 f)) (is_zero (remainder f)) (reserved_are_zero (get_or f 0 0))

  pub number-values : (v : List ℕ) → number_of (faults f (done v)) ≡ number_of (faults f (done []))
  number-values = three-values (is_codeword 2 (take 6 f)) (is_zero (remainder f)) (reserved_are_zero (get_or f 0 0))

  pub faulty_number : (rest : Say) → (number_of (faults f (done [])) ≡ 0 → ⊥) → number_of (faults f rest) ≡ number_of (faults f (done []))
  faulty_number = three-number (is_codeword 2 (take 6 f)) (is_zero (remainder f)) (reserved_are_zero (get_or f 0 0))

-- ---- frames in a row

pub all_clean : (k : ℕ) (w : List ℕ) → number_of (all_faults k w (done [])) ≡ 0 → (rest : Say) → all_faults k w rest ≡ rest
all_clean zero w e rest = refl
all_clean (suc k) w e rest = by (number_of (faults (take 2064 w) (done []))) refl (λ z. all_clean k (drop 2064 w) z rest)
  where
    by : (n : ℕ) → number_of (faults (take 2064 w) (done [])) ≡ n
        → (number_of (all_faults k (drop 2064 w) (done [])) ≡ 0 → all_faults k (drop 2064 w) rest ≡ rest) → all_faults (suc k) w rest ≡ rest
    by zero p others =
        clean_frame (take 2064 w) p (all_faults k (drop 2064 w) rest)
        ∙ others (ap number_of (sym (clean_frame (take 2064 w) p (all_faults k (drop 2064 w) (done [])))) ∙ e)
    by (suc n) p others =
        absurd
        (let h : number_of (faults (take 2064 w) (done [])) ≡ 0 → ⊥ = λ z. omega arith in
        omega (arith, faulty_number (take 2064 w) (all_faults k (drop 2064 w) (done [])) h))

pub all_faulty : (k : ℕ) (w : List ℕ) → (number_of (all_faults k w (done [])) ≡ 0 → ⊥) → (rest : Say)
    → all_faults k w rest ≡ refusal_of (number_of (all_faults k w (done [])))
all_faulty zero w e rest = absurd (e refl)
all_faulty (suc k) w e rest = by (number_of (faults (take 2064 w) (done []))) refl (λ z. all_faulty k (drop 2064 w) z rest)
  where
    by : (n : ℕ) → number_of (faults (take 2064 w) (done [])) ≡ n
        → ((number_of (all_faults k (drop 2064 w) (done [])) ≡ 0 → ⊥) → all_faults k (drop 2064 w) rest ≡ refusal_of (number_of (all_faults k (drop 2064 w) (done []))))
        → all_faults (suc k) w rest ≡ refusal_of (number_of (all_faults (suc k) w (done [])))
    by zero p others =
        let same = clean_frame (take 2064 w) p (all_faults k (drop 2064 w) (done [])) in
        clean_frame (take 2064 w) p (all_faults k (drop 2064 w) rest)
        ∙ others (λ z. e (ap number_of same ∙ z))
        ∙ ap (λ (s : Say). refusal_of (number_of s)) (sym same)
    by (suc n) p others =
        let h : number_of (faults (take 2064 w) (done [])) ≡ 0 → ⊥ = λ z. omega arith in
        faulty_frame (take 2064 w) h (all_faults k (drop 2064 w) rest)
        ∙ ap refusal_of (sym (faulty_number (take 2064 w) (all_faults k (drop 2064 w) (done [])) h))

-- what frames are refused for they are refused for whatever stands behind them
pub all_refused : (k : ℕ) (w : List ℕ) (rest : Say) {n : ℕ} {v : List ℕ} → all_faults k w (done []) ≡ refused n v → all_faults k w rest ≡ refused n v
all_refused zero w rest e = never (sym e)
all_refused (suc k) w rest e =
    refused-frame (take 2064 w) (all_faults k (drop 2064 w) (done [])) (all_faults k (drop 2064 w) rest) e (all_refused k (drop 2064 w) rest)

-- where frames are done, so is what stands behind them
pub all_done : (k : ℕ) (w : List ℕ) (rest : Say) {v : List ℕ} → all_faults k w rest ≡ done v → rest ≡ done v
all_done zero w rest e = e
all_done (suc k) w rest e =
    all_done k (drop 2064 w) rest
    (three-done (is_codeword 2 (take 6 (take 2064 w))) (is_zero (remainder (take 2064 w))) (reserved_are_zero (get_or (take 2064 w) 0 0)) (all_faults k (drop 2064 w) rest) e)
