-- The first N sums of a word byte by byte.
-- Assumes nothing.
use Rattle.std.specs.Prelude.{◌≡◌, List, ℕ, ◌+◌, ◌<◌, ◌≤◌, length, get_or, take, replicate}
use Rattle.std.proofs.Common.{sym, ◌∙◌, arith}
use Rattle.std.proofs.lemmas.List.{length-replicate, get_or-replicate}
use Rattle.std.specs.Int.Bits.{bit_xor}
use lib.Seq.{ext_get_or}
use Rattle.outcome.specs.Bytes.{Bytes}
use Rattle.outcome.specs.Table.Entries.{length-tabulated, tabulated-at, tabulated-same}
use Rattle.field.specs.Field.{power, mul}
use Rattle.codeword.specs.Code.{sum, sums}
use Rattle.codeword.specs.Code.Sums.{sum-none, sum_step, sum_all}

module _ (N : ℕ) (w : List ℕ) where
  -- the sums of the first i bytes
  abbrev pub so_far : ℕ → List ℕ
  so_far i = sums N (take i w)

  pub length-so_far : (i : ℕ) → length (so_far i) ≡ N
  length-so_far i = length-tabulated (λ j. sum j (take i w)) 0 N

  at : (i j : ℕ) → j < N → get_or (so_far i) j 0 ≡ sum j (take i w)
  at i j h = tabulated-at (λ j. sum j (take i w)) N j h

  -- before the first byte all are 0
  pub none : replicate N 0 ≡ so_far 0
  none =
      ext_get_or 0 (replicate N 0) (so_far 0) (length-replicate N 0 ∙ sym (length-so_far 0))
      (λ j l.
      let h : j < N = omega (arith, length-replicate {A = ℕ} N 0) in
      get_or-replicate N j 0 0 h ∙ sym (at 0 j h ∙ sum-none j w))

  -- a sum takes one byte more
  pub one_more : (i j : ℕ) {s t : ℕ} → Bytes w → i < length w → j < N → s ≡ get_or (so_far i) j 0 → t ≡ mul s (power j)
      → bit_xor t (get_or w i 0) ≡ get_or (so_far (i + 1)) j 0
  one_more i j h l k p q = sum_step j w i h l (p ∙ at i j k) q ∙ sym (at (i + 1) j k)

  pub all : (i : ℕ) → length w ≤ i → so_far i ≡ sums N w
  all i h = tabulated-same (λ j. sum j (take i w)) (λ j. sum j w) N (λ j l. sum_all j w i h)
