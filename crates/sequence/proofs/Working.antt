-- A turn of working the sequence out: byte n + 15 is byte n plus byte n + 1 of what is there already.
-- Assumes nothing.
use mathlib.Core.Path.{◌≡◌, sym, ap, ap₂, ◌∙◌, subst}
use mathlib.Core.List.{List}
use Prim.Native.Nat.{ℕ, ◌+◌, ◌<◌}
use native.Mathlib.Omega.{arith}
use lib.Bits.{bit_xor}
use lib.ListN.{get_or, set, take, drop, replicate, get_or-append}
use lib.Seq.{get_or-take, length-take-le}
use Rattle.outcome.specs.Buffer.{Filling}
use Rattle.outcome.specs.Buffer.Filled.{filling_more}
use Rattle.sequence.specs.Sequence.{sequence}
use Rattle.sequence.specs.Sequence.Bytes.{bytes_follow}
use Rattle.sequence.specs.Sequence.Follows.{length-sequence, sequence-at}

-- what is worked out up to byte n + 14
abbrev pub Worked : ℕ → List ℕ → Type 0
Worked n bytes = Filling (replicate 2340 0) sequence (n + 15) bytes

module _ (n : ℕ) (bytes : List ℕ) (f : Worked n bytes) (h : n < 2325) where
  there : (k : ℕ) → k < n + 15 → get_or bytes k 0 ≡ get_or sequence k 0
  there k l =
      ap (λ (b : List ℕ). get_or b k 0) f.is
      ∙ get_or-append (take (n + 15) sequence) (drop (n + 15) (replicate 2340 0)) 0 k (omega (arith, length-take-le (n + 15) sequence (omega (arith, length-sequence))))
      ∙ get_or-take (n + 15) sequence k 0 l

  pub worked_more : Worked (n + 1) (set bytes (n + 15) (bit_xor (get_or bytes n 0) (get_or bytes (n + 1) 0)))
  worked_more =
      let e : n + 15 + 1 ≡ n + 1 + 15 = omega arith in
      subst (λ (m : ℕ). Filling (replicate 2340 0) sequence m (set bytes (n + 15) (bit_xor (get_or bytes n 0) (get_or bytes (n + 1) 0)))) e
      (filling_more f (bit_xor (get_or bytes n 0) (get_or bytes (n + 1) 0)) (omega (arith, length-sequence))
      (ap₂ bit_xor (there n (omega arith) ∙ sequence-at n (omega arith)) (there (n + 1) (omega arith) ∙ sequence-at (n + 1) (omega arith))
      ∙ sym (bytes_follow n) ∙ sym (sequence-at (n + 15) (omega arith))))
