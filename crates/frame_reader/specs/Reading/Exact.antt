-- Reading accepts exactly the Data Frames of clause 16, with their own fields and Main Data.
-- Assumes nothing.
use Rattle.std.specs.Prelude.{◌≡◌, refl, Bool, true, false, List, ℕ, eqb, length, take, get_or}
use Rattle.std.proofs.Common.{sym, ap, ap₂, ◌∙◌, arith, eqb-true, get_or-take}
use Rattle.outcome.specs.Bytes.{Bytes}
use Rattle.outcome.specs.Say.{Say, done, demand, outcome}
use Rattle.outcome.specs.Say.Refusals.{never}
use Rattle.codeword.specs.Nearest.{is_codeword}
use Rattle.codeword.specs.Code.NearOne.{code_of_test, test_of_code}
use Rattle.division.specs.Polynomial.{is_zero}
use Rattle.frame_edc.specs.FrameEdc.{remainder}
use Rattle.frame_edc.specs.FrameEdc.Right.{test_divisible, divisible_test}
use Rattle.data_frame.specs.declared.Fields.{Fields}
use Rattle.data_frame.specs.DataFrame.{DataFrame, information, main_data, reserved_are_zero, fields_of, values}
use Rattle.data_frame.specs.DataFrame.Bits.{information_reserved_zero, fields_back, id_back, copyright-back}
use Rattle.frame_reader.specs.Reading.{says, reading}
use Rattle.frame_reader.specs.Reading.WaysOut.{on_done}

-- a demand that is passed was met
demanded : (t : Bool) (n : ℕ) (rest : Say) {v : List ℕ} → demand t n rest ≡ done v → (t ≡ true) × (rest ≡ done v)
demanded true n rest e = (refl, e)
demanded false n rest e = never e

-- what is read is a frame of the clause
pub read_sound : (frame old : List ℕ) {v : List ℕ} → Bytes frame → says frame old ≡ done v → DataFrame (fields_of frame) (main_data frame) frame
read_sound frame old b e =
    let one = demanded (eqb (length frame) 2064) 1 _ e in
    let two = demanded (eqb (length old) 2048) 2 _ one.1 in
    let ied = demanded (is_codeword 2 (take 6 frame)) 28 _ two.1 in
    let edc = demanded (is_zero (remainder frame)) 29 _ ied.1 in
    let set = demanded (reserved_are_zero (get_or frame 0 0)) 30 _ edc.1 in
    let long : length frame ≡ 2064 = eqb-true (length frame) 2064 one.0 in
    record {
      long = long;
      bytes = b;
      id = id_back frame b long set.0;
      ied = code_of_test 2 (take 6 frame) ied.0;
      cpr_mai = copyright-back frame b long;
      has_main = refl;
      edc = test_divisible frame edc.0;
    }

-- and every frame of the clause is read, with its fields and its Main Data
pub read_complete : {fields : Fields} {main frame : List ℕ} → DataFrame fields main frame → (old : List ℕ) → length old ≡ 2048
    → reading frame old ≡ outcome (done (values fields)) main
read_complete {fields} {main} {frame} d old l =
    let first : get_or frame 0 0 ≡ information fields = sym (get_or-take 4 frame 0 0 (omega arith)) ∙ ap (λ (t : List ℕ). get_or t 0 0) d.id in
    sym
    (on_done frame old (main_data frame) d.long l (test_of_code 2 (take 6 frame) d.ied) (divisible_test frame d.edc)
    (ap reserved_are_zero first ∙ information_reserved_zero fields) refl)
    ∙ ap₂ (λ (f : Fields) (m : List ℕ). outcome (done (values f)) m) (fields_back fields frame d.id d.cpr_mai) d.has_main
