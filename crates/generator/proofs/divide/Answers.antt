-- `generator::divide` meets its contract. In both loops the register has the sums of the bytes passed (`Divided`), and four bytes more, or one,
-- keep it so.
-- Assumes nothing.
use Rattle.std.specs.Prelude.{[], List, ℕ, get_or}
use Rattle.std.proofs.Common.{ap, ◌∙◌, arith, rules}
use lib.Seq.{get_or-drop}
use Rattle.four_bytes.specs.FourBytes.{number_of}
use Rattle.four_bytes.specs.FourBytes.Chunks.{chunk_number}
use Rattle.generator_rows.specs.Register.{with_byte}
use Rattle.generator.proofs.Divided.{divided-none, divided_word, divided_byte, divided_so, divided_all}
use Rattle.generator.proofs.divide.Goals as goal

pub loop-word-init : goal.loop-word-init
loop-word-init c = divided-none _

pub loop-word-preserved : goal.loop-word-preserved
loop-word-preserved c =
    let k = c.loop-word.word-index in
    divided_so
    (divided_word _ c.requires (λ i. (c.type_inv.w i).fits) c.loop-word.invariant _ _ (search rules) (search rules)
    (omega (arith, c.loop-word-test.true, c.as_chunks.ensures.front_len))
    (chunk_number c.args.w.now k _ (omega (arith, c.loop-word-test.true, c.as_chunks.ensures.front_len))
    (c.from_le_bytes.ensures ∙ ap (λ (ws : List (List ℕ)). number_of (get_or ws k [])) c.as_chunks.ensures.front))
    c.look_up.ensures)
    (omega arith)

pub loop-byte-init : goal.loop-byte-init
loop-byte-init c =
    divided_so c.loop-word.invariant
    (omega (arith, c.loop-word.auto.word-index-end, c.loop-word-test.false, c.as_chunks.ensures.front_len))

pub loop-byte-preserved : goal.loop-byte-preserved
loop-byte-preserved c =
    let k = c.loop-byte.byte-index in
    divided_so
    (divided_byte _ c.requires (λ i. (c.type_inv.w i).fits) c.loop-byte.invariant _ (search rules)
    (omega (arith, c.loop-byte-test.true, c.as_chunks.ensures.back_len))
    (c.take_byte-r.ensures
    ∙ ap (λ (l : List ℕ). with_byte c.args.t.now c.loop-byte.r (get_or l k 0)) c.as_chunks.ensures.back
    ∙ ap (with_byte c.args.t.now c.loop-byte.r) (get_or-drop _ c.args.w.now k 0)))
    (omega arith)

pub returns : goal.returns
returns c = divided_all c.loop-byte.invariant (omega (arith, c.loop-byte-test.false, c.as_chunks.ensures.back_len))
