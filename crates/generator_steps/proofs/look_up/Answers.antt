-- `generator_steps::look_up` meets its contract: the four answers, added.
-- Assumes nothing.
use mathlib.Core.Path.{◌≡◌}
use Prim.Native.Nat.{ℕ}
use lib.Bits.{bit_xor}
use Rattle.generator_rows.specs.Register.{entries}
use Rattle.generator_steps.proofs.look_up.Goals as goal

pub returns : goal.returns
unfolding entries
returns c = all c.entry-a.ensures c.entry-b.ensures c.entry-c.ensures c.entry-d.ensures
  where
    all : {a b c d a' b' c' d' : ℕ} → a ≡ a' → b ≡ b' → c ≡ c' → d ≡ d'
        → bit_xor (bit_xor (bit_xor a b) c) d ≡ bit_xor (bit_xor (bit_xor a' b') c') d'
    all p q r s = λ i. bit_xor (bit_xor (bit_xor (p i) (q i)) (r i)) (s i)
