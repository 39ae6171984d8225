-- The ways out of a batch, each with what leads to it: the order 1, 2.
-- Assumes nothing.
use mathlib.Core.Path.{◌≡◌, refl}
use mathlib.Core.List.{List, [], ◌∷◌}
use Prim.Native.Nat.{ℕ}
use Rattle.std.specs.Prelude.{Option, Some, None, Result, Err}
use native.Mathlib.Omega.{arith}
use lib.ListN.{length, replicate}
use Rattle.outcome.specs.Say.{cleared}
use Rattle.outcome.specs.Say.Refusals.{cleared-wrong}
use Rattle.batch.specs.declared.BatchError.{BatchError}
use Rattle.batch.specs.declared.BatchError.TheVariants.{WrongIncoming, WrongOutgoing}
use Rattle.batch.specs.Batch.{SectorFate, no_sector, RepairsMany, wrong_incoming, wrong-outgoing, taken, say_of}
use Rattle.batch.specs.Inner.Counted.{Counted}

-- no length is right, or another is: nothing is touched
untouched : (old : List ℕ) → cleared 0 old ≡ old
untouched [] = refl
untouched (x ∷ old) = cleared-wrong 0 (x ∷ old) (λ e. omega arith)

module _ (r old new : List ℕ) (count : Option ℕ) (c : Counted r count) (a : Result ℕ BatchError) (fates : List SectorFate) where
  -- a refusal touches nothing and gives no fates
  refuses : (x : BatchError) (left : List ℕ) → (a ≡ Err x) × (fates ≡ replicate 16 no_sector) × (new ≡ left) → left ≡ old
      → RepairsMany r old (say_of (Err x)) (replicate 16 no_sector) old → RepairsMany r old (say_of a) fates new
  refuses x left e q h = rw (e.0, e.1, e.2, q) h

  pub on_incoming : count ≡ None → (a ≡ Err WrongIncoming) × (fates ≡ replicate 16 no_sector) × (new ≡ cleared 0 old) → RepairsMany r old (say_of a) fates new
  on_incoming z e = refuses WrongIncoming (cleared 0 old) e (untouched old) (wrong_incoming (c.none z))

  pub on_outgoing : (n : ℕ) → count ≡ Some n → (length old ≡ length r → ⊥) → (a ≡ Err WrongOutgoing) × (fates ≡ replicate 16 no_sector) × (new ≡ cleared (length r) old)
      → RepairsMany r old (say_of a) fates new
  on_outgoing n z l e = refuses WrongOutgoing (cleared (length r) old) e (cleared-wrong (length r) old l) (wrong-outgoing (c.so_many n z) l)

pub ruleset ways = (on_incoming, on_outgoing, taken)
