-- A frame is put together of the front, the Main Data, and the EDC of both, which is copied behind them. What comes of it is a Data Frame.
-- Assumes nothing.
use mathlib.Core.Path.{◌≡◌, refl, sym, ap, ap₂, subst, ◌∙◌}
use mathlib.Core.Bool.{Bool}
use mathlib.Core.List.{List, [], ◌++◌, append_assoc, append-nil}
use Prim.Native.Nat.{ℕ, ◌+◌, ◌≤◌}
use native.Mathlib.Omega.{arith}
use borrow.Rule.Slice.PartMut.{put_mid}
use lib.ListN.{length, take, drop, length-append, length-drop, drop_of_length-le}
use lib.Seq.{take_at, drop_at, drop-drop}
use Rattle.outcome.specs.Bytes.{Bytes}
use Rattle.laying.specs.Both.{both, Lays}
use Rattle.laying.specs.Both.Copied.{laid_both}
use Rattle.codeword.specs.Code.{Codeword}
use Rattle.frame_edc.specs.FrameEdc.{Divisible, edc}
use Rattle.frame_edc.specs.FrameEdc.Right.{edc-right, length-edc}
use Rattle.data_frame.specs.declared.Fields.{Fields}
use Rattle.data_frame.specs.DataFrame.{DataFrame, identification, copyright}
use Rattle.frame_writer.specs.Inner.Made.{Front, Made}

module _ (front main z : List ℕ) (lf : length front ≡ 12) (lm : length main ≡ 2048) (lz : length z ≡ 2064) where
  abbrev two : List ℕ
  two = both 0 front main z

  length_two : length two ≡ 2064
  length_two =
      omega (
        arith,
        length-append front (main ++ drop (0 + length front + length main) z),
        length-append main (drop (0 + length front + length main) z),
        length-drop (0 + length front + length main) z,
      )

  pub both-laid : (f : List ℕ) (r : Bool) → Lays 0 front main z r f → f ≡ two
  both-laid f r c = laid_both 0 front main z (omega arith) c

  front-two : take 2060 two ≡ front ++ main
  front-two =
      ap (take 2060) (sym (append_assoc front main (drop (0 + length front + length main) z)))
      ∙ take_at (front ++ main) (drop (0 + length front + length main) z) 2060 (omega (arith, length-append front main))

  pub check_copied : (f x : List ℕ) → f ≡ two → x ≡ edc (take 2060 (drop 0 f)) → put_mid 2060 4 f x ≡ (front ++ main) ++ edc (front ++ main)
  check_copied f x e k =
      let s : take 2060 f ≡ front ++ main = ap (take 2060) e ∙ front-two in
      let few : length f ≤ 2064 = omega (arith, ap length e, length_two) in
      let end : drop 4 (drop 2060 f) ≡ [] = drop-drop 4 2060 f ∙ drop_of_length-le f few in
      ap₂ (λ (a b : List ℕ). a ++ b) s (ap₂ (λ (a b : List ℕ). a ++ b) (k ∙ ap edc s) end ∙ append-nil (edc (front ++ main)))

pub length_front : {fields : Fields} {front : List ℕ} → Front fields front → length front ≡ 12
length_front {fields} {front} p =
    ap length p.is
    ∙ length-append (identification fields) (p.code ++ copyright fields)
    ∙ omega (arith, length-append p.code (copyright fields), p.right.long)

-- what was made is a Data Frame
pub made-frame : {fields : Fields} {main frame : List ℕ} → Made fields main frame → length main ≡ 2048 → Bytes frame → DataFrame fields main frame
made-frame {fields} {main} {frame} m l b =
    record {
      long = ap length m.is ∙ length-append (front ++ main) check ∙ omega (arith, length-append front main, length-edc (front ++ main), lf);
      bytes = b;
      id = ap (take 4) all ∙ take_at (identification fields) (code ++ (copyright fields ++ (main ++ check))) 4 refl;
      ied =
          subst (λ (w : List ℕ). Codeword 2 w) (sym six) m.right.right.code;
      cpr_mai =
          ap (λ (t : List ℕ). take 6 (drop 6 t)) (all ∙ sym (append_assoc (identification fields) code (copyright fields ++ (main ++ check))))
          ∙ ap (take 6) (drop_at (identification fields ++ code) (copyright fields ++ (main ++ check)) 6 lc)
          ∙ take_at (copyright fields) (main ++ check) 6 refl;
      has_main =
          ap (λ (t : List ℕ). take 2048 (drop 12 t)) (m.is ∙ append_assoc front main check)
          ∙ ap (take 2048) (drop_at front (main ++ check) 12 lf) ∙ take_at main check 2048 l;
      edc = subst (λ (w : List ℕ). Divisible w) (sym m.is) (edc-right (front ++ main));
    }
  where
    front : List ℕ
    front = m.front

    code : List ℕ
    code = m.right.code

    check : List ℕ
    check = edc (front ++ main)

    lf : length front ≡ 12
    lf = length_front m.right

    lc : length (identification fields ++ code) ≡ 6
    lc = length-append (identification fields) code ∙ omega (arith, m.right.right.long)

    all : frame ≡ identification fields ++ (code ++ (copyright fields ++ (main ++ check)))
    all =
        m.is ∙ append_assoc front main check ∙ ap (λ (t : List ℕ). t ++ (main ++ check)) m.right.is
        ∙ append_assoc (identification fields) (code ++ copyright fields) (main ++ check)
        ∙ ap (λ (t : List ℕ). identification fields ++ t) (append_assoc code (copyright fields) (main ++ check))

    six : take 6 frame ≡ identification fields ++ code
    six =
        ap (take 6) (all ∙ sym (append_assoc (identification fields) code (copyright fields ++ (main ++ check))))
        ∙ take_at (identification fields ++ code) (copyright fields ++ (main ++ check)) 6 lc
