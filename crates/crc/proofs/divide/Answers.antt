-- `crc::divide` meets its contract: after some bytes the register is that of their bits (`byte_more`).
-- Assumes nothing.
use mathlib.Core.Path.{◌≡◌, subst}
use mathlib.Core.List.{List}
use Prim.Native.Nat.{ℕ}
use borrow.Author.Rules.{rules}
use Rattle.std.proofs.lemmas.Fn.{fold_over, slice_gives, fronts}
use Rattle.bits.specs.Bits.{unpack}
use Rattle.crc.specs.Inner.Register.{steps, byte_more, no_bytes}
use Rattle.crc.proofs.divide.Goals as goal

pub returns : goal.returns
returns c = subst (λ (s : List ℕ). c.fold.result ≡ steps 0 (unpack s)) c.iter.ensures.rest
    (fold_over fronts (λ y. y.now) _ (λ (ys : List ℕ) (r : ℕ). r ≡ steps 0 (unpack ys)) _
    (λ ys a x b f' j k. (byte_more ys x.now a b j (search rules), search rules))
    _ _ _ _ (slice_gives c.iter.result) no_bytes c.fold.ensures.ran)
