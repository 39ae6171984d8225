-- Fields and Main Data determine their Data Frame: the two bytes of the IED and the four of the EDC are the only ones.
-- Assumes nothing.
use Rattle.std.specs.Prelude.{◌≡◌, List, ◌++◌, ℕ, take, drop}
use Rattle.std.proofs.Common.{sym, ap, ap₂, subst, ◌∙◌, arith, length-drop, take-append-drop, take-add, drop-drop, length-take-le}
use Rattle.outcome.specs.Bytes.Kept.{bytes_take, bytes_drop}
use Rattle.codeword.specs.Code.{Codeword}
use Rattle.codeword.specs.Parity.{Parity}
use Rattle.codeword.specs.Parity.One.{parity_end_one}
use Rattle.frame_edc.specs.FrameEdc.{Divisible, edc}
use Rattle.frame_edc.specs.FrameEdc.Right.{edc-one}
use Rattle.data_frame.specs.declared.Fields.{Fields}
use Rattle.data_frame.specs.DataFrame.{DataFrame, identification, copyright}

module _ {fields : Fields} {main frame : List ℕ} (d : DataFrame fields main frame) where
  -- the IED behind the ID
  pub code_bytes : Parity 2 (take 2 (drop 4 frame)) (identification fields ++ take 2 (drop 4 frame))
  code_bytes =
      record {
        long = length-take-le 2 (drop 4 frame) (omega (arith, length-drop 4 frame, d.long));
        bytes = bytes_take 2 (drop 4 frame) (bytes_drop 4 frame d.bytes);
        code =
            subst (λ (w : List ℕ). Codeword 2 w) (take-add 4 2 frame ∙ ap (λ (t : List ℕ). t ++ take 2 (drop 4 frame)) d.id) d.ied;
      }

  -- all that stands before the EDC
  front : take 2060 frame ≡ take 6 frame ++ (copyright fields ++ main)
  front =
      take-add 6 2054 frame
      ∙ ap (λ (t : List ℕ). take 6 frame ++ t) (take-add 6 2048 (drop 6 frame) ∙ ap₂ (λ (x y : List ℕ). x ++ y) d.cpr_mai (main_there))
    where
      main_there : take 2048 (drop 6 (drop 6 frame)) ≡ main
      main_there = ap (take 2048) (drop-drop 6 6 frame) ∙ d.has_main

  pub edc_bytes : drop 2060 frame ≡ edc (take 2060 frame)
  edc_bytes =
      edc-one (take 2060 frame) (drop 2060 frame) (omega (arith, length-drop 2060 frame, d.long)) (bytes_drop 2060 frame d.bytes)
      (subst (λ (w : List ℕ). Divisible w) (sym (take-append-drop 2060 frame)) d.edc)

-- two frames with the same fields and Main Data are the same
pub frame-one : {fields : Fields} {main f g : List ℕ} → DataFrame fields main f → DataFrame fields main g → f ≡ g
frame-one {fields} {main} {f} {g} p q =
    sym (take-append-drop 2060 f)
    ∙ ap₂ (λ (x y : List ℕ). x ++ y) same (edc_bytes p ∙ ap edc same ∙ sym (edc_bytes q))
    ∙ take-append-drop 2060 g
  where
    code : take 2 (drop 4 f) ≡ take 2 (drop 4 g)
    code = parity_end_one 2 (identification fields) (take 2 (drop 4 f)) (take 2 (drop 4 g)) (omega arith) (code_bytes p) (code_bytes q)

    six : take 6 f ≡ take 6 g
    six = take-add 4 2 f ∙ ap₂ (λ (x y : List ℕ). x ++ y) (p.id ∙ sym q.id) code ∙ sym (take-add 4 2 g)

    same : take 2060 f ≡ take 2060 g
    same = front p ∙ ap (λ (t : List ℕ). t ++ (copyright fields ++ main)) six ∙ sym (front q)
