-- `edc_division::divide` meets its contract. In both loops the register holds the remainder of the bytes passed (`Passed`), and four bytes
-- more, or one, are so many steps of it.
-- Assumes nothing.
use Rattle.std.specs.Prelude.{[], List, ℕ, get_or}
use Rattle.std.proofs.Common.{ap, ◌∙◌, arith}
use lib.Seq.{get_or-drop}
use Rattle.four_bytes.specs.FourBytes.{number_of}
use Rattle.four_bytes.specs.FourBytes.Chunks.{chunk_number}
use Rattle.edc.specs.Register.{with_byte}
use Rattle.edc_division.proofs.Passed.{passed_none, passed_word, passed_byte, passed_so, passed_all}
use Rattle.edc_division.proofs.divide.Goals as goal

pub loop-word-init : goal.loop-word-init
loop-word-init c = passed_none _

pub loop-word-preserved : goal.loop-word-preserved
loop-word-preserved c =
    let k = c.loop-word.word-index in
    passed_so
    (passed_word c.loop-word.invariant _ _ _ c.requires (λ i. (c.type_inv.bytes i).fits)
    (omega (arith, c.loop-word-test.true, c.as_chunks.ensures.front_len))
    (chunk_number c.args.bytes.now k _ (omega (arith, c.loop-word-test.true, c.as_chunks.ensures.front_len))
    (c.from_le_bytes.ensures ∙ ap (λ (ws : List (List ℕ)). number_of (get_or ws k [])) c.as_chunks.ensures.front))
    c.advance.ensures)
    (omega arith)

pub loop-byte-init : goal.loop-byte-init
loop-byte-init c =
    passed_so c.loop-word.invariant
    (omega (arith, c.loop-word.auto.word-index-end, c.loop-word-test.false, c.as_chunks.ensures.front_len))

pub loop-byte-preserved : goal.loop-byte-preserved
loop-byte-preserved c =
    let k = c.loop-byte.byte-index in
    passed_so
    (passed_byte c.loop-byte.invariant _ _ c.requires (λ i. (c.type_inv.bytes i).fits)
    (omega (arith, c.loop-byte-test.true, c.as_chunks.ensures.back_len))
    (c.take_byte-r.ensures
    ∙ ap (λ (l : List ℕ). with_byte c.args.t.now c.loop-byte.r (get_or l k 0)) c.as_chunks.ensures.back
    ∙ ap (with_byte c.args.t.now c.loop-byte.r) (get_or-drop _ c.args.bytes.now k 0)))
    (omega arith)

pub returns : goal.returns
returns c = passed_all c.loop-byte.invariant (omega (arith, c.loop-byte-test.false, c.as_chunks.ensures.back_len))
