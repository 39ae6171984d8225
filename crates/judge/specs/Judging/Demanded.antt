-- A demand that is passed was met, and one that is met is passed; also where it is on each codeword.
-- Assumes nothing.
use Rattle.std.specs.Prelude.{◌≡◌, refl, Bool, true, false, not, cond, List, [], ◌∷◌, ℕ, ◌<◌, ltb}
use Rattle.std.proofs.Common.{ap, arith, le-ltb, ltb-true, ltb-false}
use Rattle.std.proofs.lemmas.Bool.{not-false}
use Rattle.outcome.specs.Say.{Say, done, refused, demand}
use Rattle.outcome.specs.Say.Refusals.{never}
use Rattle.outcome.specs.First.{first_below}
use Rattle.outcome.specs.First.Found.{first_below_lem}
use Rattle.codeword.specs.Code.{Codeword}
use Rattle.codeword.specs.Nearest.{is_codeword}
use Rattle.codeword.specs.Code.NearOne.{code_of_test, test_of_code}
use Rattle.rspc.specs.declared.Parity.{Parity}
use Rattle.rspc.specs.Either.{words_of}
use Rattle.failing.specs.Failing.{failing}
use Rattle.judge.specs.Judging.{demand_each}

-- a demand that is passed was met
pub demanded : (t : Bool) (n : ℕ) (rest : Say) {v : List ℕ} → demand t n rest ≡ done v → (t ≡ true) × (rest ≡ done v)
demanded true n rest e = (refl, e)
demanded false n rest e = never e

-- of n codewords
all_pass : (fails : ℕ → Bool) (n : ℕ) → first_below fails n ≡ n → (k : ℕ) → k < n → fails k ≡ false
all_pass fails n e k h = go (fails k) refl
  where
    go : (b : Bool) → fails k ≡ b → b ≡ false
    go true p = absurd ((first_below_lem fails n).before k (omega arith) p)
    go false p = refl

none_fails : (fails : ℕ → Bool) (n : ℕ) → ((k : ℕ) → k < n → fails k ≡ false) → first_below fails n ≡ n
none_fails fails n h = go (ltb (first_below fails n) n) refl
  where
    go : (b : Bool) → ltb (first_below fails n) n ≡ b → first_below fails n ≡ n
    go true p =
        let l : first_below fails n < n = ltb-true (first_below fails n) n p in
        let q : fails (first_below fails n) ≡ true = (first_below_lem fails n).holds l in
        let r : fails (first_below fails n) ≡ false = h (first_below fails n) l in
        let z : ◌≡◌ {A = ℕ} 0 1 = cc in absurd (omega arith)
    go false p = omega (arith, ltb-false (first_below fails n) n p, (first_below_lem fails n).within)

-- and so for a demand on each codeword
pub demanded_each : (parity : Parity) (s : List ℕ) (number : ℕ) (rest : Say) {v : List ℕ} → demand_each parity s number rest ≡ done v
    → ((k : ℕ) → k < words_of parity → failing parity s k ≡ false) × (rest ≡ done v)
demanded_each parity s number rest {v} e = go (ltb first n) refl e
  where
    n : ℕ
    n = words_of parity

    first : ℕ
    first = first_below (failing parity s) n

    go : (b : Bool) → ltb first n ≡ b → cond b (refused number (first ∷ [])) rest ≡ done v
        → ((k : ℕ) → k < n → failing parity s k ≡ false) × (rest ≡ done v)
    go true p q = never q
    go false p q = (all_pass (failing parity s) n (omega (arith, ltb-false first n p, (first_below_lem (failing parity s) n).within)), q)

-- a demand that each codeword meets is passed
pub met_each : (parity : Parity) (s : List ℕ) (number : ℕ) (rest : Say) → ((k : ℕ) → k < words_of parity → failing parity s k ≡ false)
    → demand_each parity s number rest ≡ rest
met_each parity s number rest h =
    simp (le-ltb (first_below (failing parity s) (words_of parity)) (words_of parity) (omega (arith, none_fails (failing parity s) (words_of parity) h)))

-- ---- the codewords

-- a word that does not fail is a codeword, and back
pub code_of : (w : List ℕ) → not (is_codeword 2 w) ≡ false → Codeword 2 w
code_of w e = code_of_test 2 w (not-false (is_codeword 2 w) e)

pub of_code : (w : List ℕ) → Codeword 2 w → not (is_codeword 2 w) ≡ false
of_code w c = ap not (test_of_code 2 w c)
