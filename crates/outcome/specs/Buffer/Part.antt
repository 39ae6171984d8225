-- A slice of which a part was lent as `&mut` and has come back.
-- Assumes nothing.
use Rattle.std.specs.Prelude.{◌≡◌, List, ◌++◌, ℕ, ◌-◌, ◌≤◌, length, take, drop}
use Rattle.std.proofs.Common.{ap, ◌∙◌, append-nil}
use Rattle.std.proofs.Math.Seq.{drop-length}
use borrow.Rule.Slice.PartMut.{put_mid, Post-is}

-- the part from a up to e
pub part-back : (a e : ℕ) (w q : List ℕ) → a ≤ e → put_mid a (e - a) w q ≡ take a w ++ (q ++ drop e w)
part-back a e w q h = ap (λ (t : List ℕ). take a w ++ (q ++ t)) (Post-is a e w h)

-- the part from a up to the slice's end
pub end_back : (a : ℕ) (w q : List ℕ) → a ≤ length w → put_mid a (length w - a) w q ≡ take a w ++ q
end_back a w q h = part-back a (length w) w q h ∙ ap (λ (t : List ℕ). take a w ++ (q ++ t)) (drop-length w) ∙ ap (λ (t : List ℕ). take a w ++ t) (append-nil q)
