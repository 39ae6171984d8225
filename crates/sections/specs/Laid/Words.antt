-- Every word of a Section is SYNC 0, SYNC 1 or the word of a byte: what holds of these holds of it.
-- Assumes nothing.
use Rattle.std.specs.Prelude.{◌≡◌, refl, Bool, true, false, cond, List, ℕ, ◌+◌, ◌-◌, ◌*◌, ◌<◌, eqb, get_or}
use Rattle.std.proofs.Common.{eqb-true}
use Rattle.outcome.specs.Bytes.{Bytes}
use Rattle.words.specs.Words.{word_of, sync0, sync1}
use Rattle.section_frames.specs.Section.{word_at}
use Rattle.sections.specs.Laid.{at_place}

-- P says of a word what belongs to it: a to SYNC 0, b to SYNC 1, both only in a Control place, and g of a byte to its word
pub at_word : (frames control : List ℕ) → Bytes frames → Bytes control → (P : ℕ → ℕ → Type 0) (f i a b : ℕ) (g : ℕ → ℕ)
    → (i ≡ 0 → P sync0 a) → (i ≡ 0 → P sync1 b) → ((x : ℕ) → x < 256 → P (word_of x) (g x))
    → P (word_at frames control f i) (at_place f i a b (g (get_or control (f - 2) 0)) (g (get_or frames (32 * f + (i - 1)) 0)))
unfolding word_at
at_word frames control hf hc P f i a b g first second each = go (eqb i 0) (eqb f 0) (eqb f 1) refl
  where
    c : ℕ
    c = get_or control (f - 2) 0

    d : ℕ
    d = get_or frames (32 * f + (i - 1)) 0

    go : (p q r : Bool) → eqb i 0 ≡ p → P (cond p (cond q sync0 (cond r sync1 (word_of c))) (word_of d)) (cond p (cond q a (cond r b (g c))) (g d))
    go true true r e = first (eqb-true i 0 e)
    go true false true e = second (eqb-true i 0 e)
    go true false false e = each c (hc (f - 2))
    go false q r e = each d (hf (32 * f + (i - 1)))
