-- `control_writer::q_bytes` meets its contract: the fields, and the CRC over their bits (`coded_bytes`).
-- Assumes nothing.
use mathlib.Core.Path.{◌≡◌, ap, ap₂, ◌∙◌}
use mathlib.Core.List.{List, [], ◌∷◌, ◌++◌}
use Prim.Native.Nat.{ℕ, ◌≤◌}
use native.Mathlib.Omega.{arith}
use borrow.Author.Rules.{rules}
use borrow.Rule.Slice.PartMut.{put_mid}
use lib.ListN.{length, length-append}
use lib.Seq.{take_at}
use Rattle.std.proofs.Common.{append-nil, drop_of_length-le}
use Rattle.outcome.specs.Buffer.Part.{part-back}
use Rattle.bits.specs.Bits.{unpack}
use Rattle.control_writer.specs.Inner.Coded.{coded, coded_bytes}
use Rattle.control_writer.proofs.q_bytes.Goals as goal

-- ten bytes and then two, in twelve places
joined : (x y f p : List ℕ) → x ≡ f → y ≡ p → length f ≡ 10 → put_mid 10 2 (x ++ (0 ∷ 0 ∷ [])) y ≡ f ++ p
joined x y f p e g l =
    let twelve : length (f ++ (0 ∷ 0 ∷ [])) ≤ 12 = omega (arith, length-append f (0 ∷ 0 ∷ [])) in
    ap₂ (λ (s t : List ℕ). put_mid 10 2 (s ++ (0 ∷ 0 ∷ [])) t) e g
    ∙ part-back 10 12 (f ++ (0 ∷ 0 ∷ [])) p (omega arith)
    ∙ ap₂ (λ (s t : List ℕ). s ++ (p ++ t)) (take_at f (0 ∷ 0 ∷ []) 10 l) (drop_of_length-le (f ++ (0 ∷ 0 ∷ [])) twelve)
    ∙ ap (λ (t : List ℕ). f ++ t) (append-nil p)

pub returns : goal.returns
returns c =
    let fields = c.field_bytes-fields in
    let ten : length fields.result ≡ 10 = search rules in
    ap unpack (joined _ _ _ _ c.copy_from_slice.ensures.after c.copy_from_slice-2.ensures.after ten ∙ ap (λ (t : List ℕ). fields.result ++ t) c.parity.ensures)
    ∙ coded_bytes fields.result
    ∙ ap coded fields.ensures
