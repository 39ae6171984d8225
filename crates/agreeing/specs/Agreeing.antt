-- The codeword of four sums that agrees with a word on its unmarked bytes (document 02, §7), as a function of the marks and the word. Nothing is known of it
-- but what the type of `decision` says: it is some c with `Agrees 4 m w c`, or none where there is no such c. In a word of at most 255 bytes with at most four marks
-- there is at most one (`agrees-one`).
-- Assumes nothing.
use Rattle.std.specs.Prelude.{List, ℕ}
use Rattle.std.proofs.Math.Option.{Option, none, some}
use Rattle.erasures.specs.Agrees.{Agrees}
use Rattle.erasures.specs.Agrees.Decided.{agrees_decided}
pub mod Exact

decision : (m w : List ℕ) → Dec ((c : List ℕ) × Agrees 4 m w c)
decision m w = agrees_decided 4 m w

found : {P : List ℕ → Type 0} → Dec ((c : List ℕ) × P c) → Option (List ℕ)
found (yes x) = some x.0
found (no n) = none

pub agreeing : List ℕ → List ℕ → Option (List ℕ)
agreeing m w = found (decision m w)
