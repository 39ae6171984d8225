-- Laws of adding two lists: place by place, and twice gives the list again.
-- Assumes nothing.
use Rattle.std.specs.Prelude.{◌≡◌, refl, List, [], ◌∷◌, ℕ, zero, suc, ◌<◌, ◌≤◌, length, get_or}
use Rattle.std.proofs.Common.{ap, ap₂, not-suc-le-zero, le_of_suc-le-suc, arith}
use Rattle.std.specs.Int.Bits.{bit_xor}
use Rattle.std.proofs.lemmas.Nat.{xor_lt}
use Rattle.outcome.specs.Bytes.{Bytes}
use Rattle.outcome.specs.Bytes.Kept.{bytes_nil, bytes_cons}
use Rattle.xor.specs.Xor.Group.{xor_twice}
use Rattle.xor.specs.Added.{added}

pub length-added : (a b : List ℕ) → length a ≡ length b → length (added a b) ≡ length a
length-added [] b e = refl
length-added (x ∷ a) [] e = absurd (omega arith)
length-added (x ∷ a) (y ∷ b) e = ap suc (length-added a b (omega arith))

pub added-at : (a b : List ℕ) (i : ℕ) → i < length a → i < length b → get_or (added a b) i 0 ≡ bit_xor (get_or a i 0) (get_or b i 0)
added-at [] b i h k = absurd (not-suc-le-zero h)
added-at (x ∷ a) [] i h k = absurd (not-suc-le-zero k)
added-at (x ∷ a) (y ∷ b) zero h k = refl
added-at (x ∷ a) (y ∷ b) (suc i) h k = added-at a b i (le_of_suc-le-suc h) (le_of_suc-le-suc k)

pub bytes_added : (a b : List ℕ) → Bytes a → Bytes b → Bytes (added a b)
bytes_added [] b ha hb = bytes_nil
bytes_added (x ∷ a) [] ha hb = bytes_nil
bytes_added (x ∷ a) (y ∷ b) ha hb =
    bytes_cons (bit_xor x y) (added a b) (xor_lt 8 x y (ha 0) (hb 0)) (bytes_added a b (λ i. ha (suc i)) (λ i. hb (suc i)))

-- what is added twice is gone
pub added_twice : (a b : List ℕ) → length a ≤ length b → added (added a b) b ≡ a
added_twice [] b h = refl
added_twice (x ∷ a) [] h = absurd (not-suc-le-zero h)
added_twice (x ∷ a) (y ∷ b) h = ap₂ ◌∷◌ (xor_twice x y) (added_twice a b (le_of_suc-le-suc h))
