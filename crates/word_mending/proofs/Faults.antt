-- The place of a fault is inside the codeword.
-- Assumes nothing.
use mathlib.Core.Path.{◌≡◌, sym, ap, ◌∙◌}
use mathlib.Core.List.{List}
use Prim.Native.Nat.{ℕ, ◌<◌}
use Rattle.codeword.specs.Fault.{fault}
use Rattle.codeword.specs.Fault.Decides.{fault_inside}
use Rattle.codeword.specs.declared.Fault.{Fault}
use Rattle.codeword.specs.declared.Fault.TheVariants.{At}
use Rattle.rspc.specs.declared.Parity.{Parity}
use Rattle.rspc.specs.Either.{rows_of}

pub fault-row : (parity : Parity) (sums : List ℕ) {rows : ℕ} {f : Fault} → rows ≡ rows_of parity → f ≡ fault sums rows → (i e : ℕ) → f ≡ At i e
    → i < rows_of parity
fault-row parity sums is_rows is i e q = fault_inside sums (rows_of parity) i e (ap (fault sums) (sym is_rows) ∙ sym is ∙ q)
