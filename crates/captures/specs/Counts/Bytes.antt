-- Counts and their bytes say each other.
-- Assumes nothing.
use Rattle.std.specs.Prelude.{◌≡◌, refl, List, [], ◌∷◌, ℕ, suc, ◌+◌, ◌*◌, ◌/◌, ◌%◌, length}
use Rattle.std.proofs.Common.{ap₂, arith}
use Rattle.outcome.specs.Bytes.{Bytes}
use Rattle.captures.specs.Counts.{counts_of, bytes_of, Counts}

pub bytes_counts : (w : List ℕ) → Bytes w → length w % 2 ≡ 0 → bytes_of (counts_of w) ≡ w
unfolding counts_of bytes_of
bytes_counts [] h e = refl
bytes_counts (a ∷ []) h e = absurd (omega arith)
bytes_counts (a ∷ b ∷ w) h e =
    let high : (256 * a + b) / 256 ≡ a = omega (arith, h 1) in
    let low : (256 * a + b) % 256 ≡ b = omega (arith, h 1) in
    ap₂ ◌∷◌ high (ap₂ ◌∷◌ low (bytes_counts w (λ i. h (suc (suc i))) (omega arith)))

pub counts_bytes : (cs : List ℕ) → counts_of (bytes_of cs) ≡ cs
unfolding counts_of bytes_of
counts_bytes [] = refl
counts_bytes (c ∷ cs) =
    let same : 256 * (c / 256) + c % 256 ≡ c = omega arith in
    ap₂ ◌∷◌ same (counts_bytes cs)

-- bytes make numbers of 16 bits
pub counts_small : (w : List ℕ) → Bytes w → Counts (counts_of w)
unfolding counts_of
counts_small [] h = tt
counts_small (a ∷ []) h = tt
counts_small (a ∷ b ∷ w) h = (omega (arith, h 0, h 1), counts_small w (λ i. h (suc (suc i))))

-- two bytes a count
pub length_counts : (w : List ℕ) → length (counts_of w) ≡ length w / 2
unfolding counts_of
length_counts [] = refl
length_counts (a ∷ []) = refl
length_counts (a ∷ b ∷ w) = omega (arith, length_counts w)

pub length_bytes : (cs : List ℕ) → length (bytes_of cs) ≡ 2 * length cs
unfolding bytes_of
length_bytes [] = refl
length_bytes (c ∷ cs) = omega (arith, length_bytes cs)
