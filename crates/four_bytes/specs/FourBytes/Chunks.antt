-- Bytes in chunks of four: the number of chunk k is that of the four bytes from 4 k on.
-- Assumes nothing.
use Rattle.std.specs.Prelude.{◌≡◌, List, [], ℕ, zero, suc, ◌+◌, ◌*◌, ◌/◌, ◌<◌, length, get_or, take, drop}
use Rattle.std.specs.Simd.{first_chunks}
use Rattle.std.proofs.Common.{refl, sym, ap, ◌∙◌, arith}
use lib.Seq.{drop-drop}
use Rattle.four_bytes.specs.FourBytes.{number_of, number_at}
use Rattle.four_bytes.specs.FourBytes.Back.{number-within}

chunk_at : (k n : ℕ) (bytes : List ℕ) → k < n → get_or (first_chunks 4 n bytes) k [] ≡ take 4 (drop (4 * k) bytes)
chunk_at k zero bytes h = absurd (omega arith)
chunk_at zero (suc n) bytes h = refl
chunk_at (suc k) (suc n) bytes h =
    chunk_at k n (drop 4 bytes) (omega arith) ∙ ap (take 4) (drop-drop (4 * k) 4 bytes) ∙ ap (λ (i : ℕ). take 4 (drop i bytes)) (further k)
  where
    further : (k : ℕ) → 4 + 4 * k ≡ 4 * suc k
    further k = omega arith

pub chunk_number : (bytes : List ℕ) (k v : ℕ) → k < length bytes / 4 → v ≡ number_of (get_or (first_chunks 4 (length bytes / 4) bytes) k [])
    → v ≡ number_at bytes (4 * k)
chunk_number bytes k v h e =
    e ∙ ap number_of (chunk_at k (length bytes / 4) bytes h) ∙ sym (number-within bytes (4 * k) (omega arith))
