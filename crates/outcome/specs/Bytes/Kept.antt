-- Lists of bytes stay lists of bytes: joined, cut, changed at a place.
-- Assumes nothing.
use Rattle.std.specs.Prelude.{List, [], ◌∷◌, ◌++◌, ℕ, zero, suc, ◌<◌, set, take, drop, replicate}
use Rattle.std.proofs.Common.{arith}
use Rattle.outcome.specs.Bytes.{Bytes}

pub bytes_nil : Bytes []
bytes_nil i = omega arith

pub bytes_cons : (b : ℕ) (w : List ℕ) → b < 256 → Bytes w → Bytes (b ∷ w)
bytes_cons b w hb h zero = hb
bytes_cons b w hb h (suc i) = h i

pub bytes_append : (v w : List ℕ) → Bytes v → Bytes w → Bytes (v ++ w)
bytes_append [] w hv hw = hw
bytes_append (b ∷ v) w hv hw = bytes_cons b (v ++ w) (hv 0) (bytes_append v w (λ i. hv (suc i)) hw)

pub bytes_take : (n : ℕ) (w : List ℕ) → Bytes w → Bytes (take n w)
bytes_take zero w h = bytes_nil
bytes_take (suc n) [] h = h
bytes_take (suc n) (b ∷ w) h = bytes_cons b (take n w) (h 0) (bytes_take n w (λ i. h (suc i)))

pub bytes_drop : (n : ℕ) (w : List ℕ) → Bytes w → Bytes (drop n w)
bytes_drop zero w h = h
bytes_drop (suc n) [] h = h
bytes_drop (suc n) (b ∷ w) h = bytes_drop n w (λ i. h (suc i))

pub bytes_set : (w : List ℕ) (i v : ℕ) → Bytes w → v < 256 → Bytes (set w i v)
bytes_set [] i v h hv = h
bytes_set (b ∷ w) zero v h hv = bytes_cons v w hv (λ i. h (suc i))
bytes_set (b ∷ w) (suc i) v h hv = bytes_cons b (set w i v) (h 0) (bytes_set w i v (λ k. h (suc k)) hv)

pub bytes_replicate : (n v : ℕ) → v < 256 → Bytes (replicate n v)
bytes_replicate zero v h = bytes_nil
bytes_replicate (suc n) v h = bytes_cons v (replicate n v) h (bytes_replicate n v h)
