-- `control_reader::field_bytes` meets its contract: the loop fills the ten bytes (`pack-at`).
-- Assumes nothing.
use mathlib.Core.Path.{◌≡◌, refl, sym, ap, ◌∙◌}
use mathlib.Core.List.{List}
use Prim.Native.Nat.{ℕ, ◌*◌, ◌<◌}
use borrow.Author.Rules.{rules}
use lib.ListN.{length, length-replicate, get_or, take, drop}
use Rattle.outcome.specs.Table.Entries.{tabulated-at}
use Rattle.outcome.specs.Buffer.Filled.{filling-none, filling_more, filling_all}
use Rattle.bits.specs.Bits.{number, pack}
use Rattle.control_reader.specs.Reading.{q_of}
use Rattle.control_reader.specs.Inner.Bits.{pack-at}
use Rattle.control_reader.proofs.field_bytes.Goals as goal

-- byte i of ten
byte_is : (qs : List ℕ) (i : ℕ) → i < 10 → number 0 (take 8 (drop (8 * i) qs)) ≡ get_or (pack 10 qs) i 0
byte_is qs i h =
    sym (ap (λ (l : List ℕ). get_or l i 0) (pack-at 10 0 qs) ∙ tabulated-at (λ (k : ℕ). number 0 (take 8 (drop (8 * k) qs))) 10 i h)

ten : (qs : List ℕ) → length (pack 10 qs) ≡ 10
unfolding pack
ten qs = refl

pub loop-i-init : goal.loop-i-init
loop-i-init c = filling-none _ (pack 10 (q_of c.args.bytes.now)) (length-replicate {A = ℕ} 10 0 ∙ sym (ten (q_of c.args.bytes.now)))

pub loop-i-preserved : goal.loop-i-preserved
loop-i-preserved c = filling_more c.loop-i.invariant _ (rw (ten (q_of c.args.bytes.now)) c.loop-i-test.true) (c.q_byte.ensures ∙ byte_is (q_of c.args.bytes.now) c.loop-i.i (search rules))

pub returns : goal.returns
returns c = filling_all c.loop-i.invariant (rw (ten (q_of c.args.bytes.now)) c.loop-i-test.false)
