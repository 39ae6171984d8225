-- `sector_fields::protect` meets its contract: the laws of `Protecting` follow the Sector from call to call.
-- Assumes nothing.
use mathlib.Core.Path.{◌≡◌, sym, ap, ◌∙◌}
use native.Mathlib.Omega.{arith}
use borrow.Author.Rules.{rules}
use lib.ListN.{length}
use lib.Seq.{length-take-le}
use Rattle.sector_fields.proofs.Protects.{length-with}
use Rattle.sector_fields.proofs.Protecting.{edc_copied, both_put}
use Rattle.sector_fields.proofs.protect.Goals as goal

pub slice_bounds-parity-end : goal.slice_bounds-parity-end
slice_bounds-parity-end c =
    let long : length c.args.laid ≡ 2352 = search rules in
    sym (length-take-le 2064 c.args.laid (omega arith))

pub slice_bounds-put_p-end : goal.slice_bounds-put_p-end
slice_bounds-put_p-end c =
    let l = c.args.laid in
    let long : length l ≡ 2352 = search rules in
    let check = c.parity-check in
    let copy = c.copy in
    sym (ap length (edc_copied l long check.result copy.new.to copy.result check.ensures copy.ensures) ∙ length-with l long)

pub returns : goal.returns
returns c =
    let l = c.args.laid in
    let long : length l ≡ 2352 = search rules in
    let check = c.parity-check in
    let copy = c.copy in
    let put-p = c.put_p in
    let put-q = c.put_q in
    both_put l long _ put-p.new.s put-q.new.s put-p.result put-q.result
    (edc_copied l long check.result copy.new.to copy.result check.ensures copy.ensures) put-p.ensures put-q.ensures
