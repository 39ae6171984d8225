-- What is copied is handed out.
-- Assumes nothing.
use mathlib.Core.Path.{◌≡◌, ap, ◌∙◌}
use mathlib.Core.Bool.{Bool, cond}
use mathlib.Core.List.{List}
use Prim.Native.Nat.{ℕ}
use lib.Dec.{eqb}
use lib.ListN.{length}
use Rattle.codeword.specs.Code.{changes}
use Rattle.handing_out.specs.HandedOut.{HandsOut}

pub copied : (r s old new : List ℕ) (k : Bool) (n : ℕ) → (k ≡ eqb (length s) (length old)) × (new ≡ cond k s old) → n ≡ changes r s → HandsOut r s old n new
copied r s old new k n e c = record { counts = c; gives = e.1 ∙ ap (λ (b : Bool). cond b s old) e.0 }
