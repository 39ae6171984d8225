-- `circ_writer::go` meets its contract: the rows went through all stages (`encoded_lines`, `encoded-frame`), the frame goes out, and all places go on.
-- Assumes nothing.
use mathlib.Core.Path.{◌≡◌, ap, ap₂, ◌∙◌}
use native.Mathlib.Omega.{arith}
use lib.ListN.{length}
use Rattle.outcome.specs.Buffer.Lengths.{same_lengths}
use Rattle.rings.specs.Rings.{waits, unrolled_all}
use Rattle.circ.specs.Rows.{before_c2, between, after_c1}
use Rattle.circ.specs.Chains.{writer_out, writer_next}
use Rattle.circ.specs.Codes.{q_of, p_of}
use Rattle.circ.specs.Rings.{writer_waits}
use Rattle.circ_encoding.specs.Encoding.Lines.{encoded_lines, encoded-frame}
use borrow.Author.Rules.{rules}
use Rattle.circ_writer.proofs.go.Goals as goal

pub returns : goal.returns
unfolding before_c2 between after_c1 writer_waits waits
returns c =
    let told = c.encode-f2.ensures in
    let a = c.args in
    let s = a.store.now in
    let ps = a.places.now in
    let f1 = c.copy.new.to in
    let f2 = c.encode-f2.result in
    let whole = same_lengths c.copy.result (length a.frame.now) 24 _ a.frame.now _ c.copy.ensures c.requires.incoming in
    record {
      places_are = c.onward.ensures;
      line_is =
          ap₂ (unrolled_all writer_waits) c.onward.ensures told.store_is
          ∙ encoded_lines ps s told.many told.long c.requires.in_place f1
          ∙ ap (writer_next q_of p_of (unrolled_all writer_waits ps s)) whole;
      out_is =
          same_lengths c.copy-2.result (length f2) (length a.out.now) _ f2 _ c.copy-2.ensures (omega (arith, (let made : length c.encode-f2.result ≡ 32 = search rules in made), c.requires.outgoing))
          ∙ told.frame_is
          ∙ encoded-frame ps s told.many told.long c.requires.in_place f1
          ∙ ap (writer_out q_of p_of (unrolled_all writer_waits ps s)) whole;
    }
