-- Two bytes with given sums, as the function computes them: the steps are the forms of `Solve`.
-- Assumes nothing.
use mathlib.Core.Path.{◌≡◌, refl, subst}
use mathlib.Core.List.{List, [], ◌∷◌, map}
use Prim.Native.Nat.{ℕ, ◌<◌}
use lib.Bits.{bit_xor}
use Rattle.outcome.specs.Bytes.Kept.{bytes_nil, bytes_cons}
use Rattle.field.specs.Field.{mul}
use Rattle.codeword.specs.Parity.{WithSums}
use Rattle.codeword.specs.Parity.LinearForms.{value, solved}
use Rattle.codeword.specs.Parity.Solve.{two_forms, two_solve}

module _ (t0 t1 : ℕ) (h0 : t0 < 256) (h1 : t1 < 256) where
  abbrev two : List ℕ
  two = t0 ∷ t1 ∷ []

  pub two_solved : {p : ℕ} → p ≡ mul (bit_xor t0 t1) 244 → WithSums two (p ∷ bit_xor t0 p ∷ [])
  unfolding two_forms
  two_solved {p} e =
      let forms : map (value two) two_forms ≡ p ∷ bit_xor t0 p ∷ [] = cc in
      subst (WithSums two) forms (solved two_forms two two_solve (bytes_cons t0 (t1 ∷ []) h0 (bytes_cons t1 [] h1 bytes_nil)) refl)
