-- Sector Information and its bits say each other: the bits of a frame's fields are those fields, and a first byte whose reserved bits are ZERO is that of its bits.
-- Assumes nothing.
use Rattle.std.specs.Prelude.{◌≡◌, Bool, true, false, cond, List, [], ◌∷◌, T, eqb, take, drop}
use Rattle.std.proofs.Math.Path.{refl, sym}
use Rattle.std.proofs.Common.{ap, ◌∙◌, eqb→eq}
use Prim.Native.Nat.{ℕ, zero, suc, ◌+◌, ◌<◌}
use native.Mathlib.Omega.{arith}
use Rattle.std.proofs.Math.ListN.{length, get_or, length-drop}
use Rattle.std.proofs.Math.Seq.{ext_get_or, get_or-take, get_or-drop, length-take-le}
use Rattle.outcome.specs.Bytes.{Bytes}
use Rattle.outcome.specs.Table.{all_below}
use Rattle.outcome.specs.Table.Entries.{below}
use Rattle.bits.specs.Bits.{number}
use Rattle.data_frame.specs.declared.Fields.{Fields}
use Rattle.data_frame.specs.DataFrame.{bit, information, identification, copyright, copyright_in, bit_of, reserved_are_zero, fields_of}

-- figure 18 of four bits
abbrev figure : Bool → Bool → Bool → Bool → ℕ
figure b29 b27 b26 b24 = number 0 (0 ∷ 0 ∷ bit b29 ∷ 0 ∷ bit b27 ∷ bit b26 ∷ 0 ∷ bit b24 ∷ [])

information-bits : (b29 b27 b26 b24 : Bool) → (reserved_are_zero (figure b29 b27 b26 b24) ≡ true) × (eqb (bit_of 29 (figure b29 b27 b26 b24)) 1 ≡ b29)
    × (eqb (bit_of 27 (figure b29 b27 b26 b24)) 1 ≡ b27) × (eqb (bit_of 26 (figure b29 b27 b26 b24)) 1 ≡ b26) × (eqb (bit_of 24 (figure b29 b27 b26 b24)) 1 ≡ b24)
unfolding reserved_are_zero
information-bits true true true true = (refl, refl, refl, refl, refl)
information-bits true true true false = (refl, refl, refl, refl, refl)
information-bits true true false true = (refl, refl, refl, refl, refl)
information-bits true true false false = (refl, refl, refl, refl, refl)
information-bits true false true true = (refl, refl, refl, refl, refl)
information-bits true false true false = (refl, refl, refl, refl, refl)
information-bits true false false true = (refl, refl, refl, refl, refl)
information-bits true false false false = (refl, refl, refl, refl, refl)
information-bits false true true true = (refl, refl, refl, refl, refl)
information-bits false true true false = (refl, refl, refl, refl, refl)
information-bits false true false true = (refl, refl, refl, refl, refl)
information-bits false true false false = (refl, refl, refl, refl, refl)
information-bits false false true true = (refl, refl, refl, refl, refl)
information-bits false false true false = (refl, refl, refl, refl, refl)
information-bits false false false true = (refl, refl, refl, refl, refl)
information-bits false false false false = (refl, refl, refl, refl, refl)

-- no bit that is reserved is set in Sector Information
pub information_reserved_zero : (f : Fields) → reserved_are_zero (information f) ≡ true
unfolding information
information_reserved_zero f = (information-bits f.reflectivity f.zone.0 f.zone.1 f.layer).0

-- ---- computed over all 256 first bytes

first_test : ℕ → Bool
first_test x = cond (reserved_are_zero x) (eqb (figure (eqb (bit_of 29 x) 1) (eqb (bit_of 27 x) 1) (eqb (bit_of 26 x) 1) (eqb (bit_of 24 x) 1)) x) true

first_passes : T (all_below first_test 256)
unfolding first_test reserved_are_zero
first_passes = tt

first_byte : (x : ℕ) → x < 256 → reserved_are_zero x ≡ true → figure (eqb (bit_of 29 x) 1) (eqb (bit_of 27 x) 1) (eqb (bit_of 26 x) 1) (eqb (bit_of 24 x) 1) ≡ x
unfolding first_test
first_byte x h e =
    let y : ℕ = figure (eqb (bit_of 29 x) 1) (eqb (bit_of 27 x) 1) (eqb (bit_of 26 x) 1) (eqb (bit_of 24 x) 1) in
    eqb→eq y x (rw e at (below first_test 256 first_passes x h))

-- ---- the fields of a frame

-- a frame with the ID and the CPR_MAI of some fields has these fields
pub fields_back : (f : Fields) (frame : List ℕ) → take 4 frame ≡ identification f → copyright_in frame ≡ copyright f → fields_of frame ≡ f
unfolding fields_of information
fields_back f frame e c =
    let at : (i : ℕ) → i < 4 → get_or frame i 0 ≡ get_or (identification f) i 0
    = λ i h. sym (get_or-take 4 frame i 0 h) ∙ ap (λ (l : List ℕ). get_or l i 0) e in
    let cat : (i : ℕ) → i < 6 → get_or frame (6 + i) 0 ≡ get_or (copyright f) i 0
    = λ i h. sym (get_or-drop 6 frame i 0) ∙ sym (get_or-take 6 (drop 6 frame) i 0 h) ∙ ap (λ (l : List ℕ). get_or l i 0) c in
    let x : get_or frame 0 0 ≡ figure f.reflectivity f.zone.0 f.zone.1 f.layer = at 0 (omega arith) in
    let b = information-bits f.reflectivity f.zone.0 f.zone.1 f.layer in
    let r29 : eqb (bit_of 29 (get_or frame 0 0)) 1 ≡ f.reflectivity = ap (λ (y : ℕ). eqb (bit_of 29 y) 1) x ∙ b.1 in
    let r27 : eqb (bit_of 27 (get_or frame 0 0)) 1 ≡ f.zone.0 = ap (λ (y : ℕ). eqb (bit_of 27 y) 1) x ∙ b.2 in
    let r26 : eqb (bit_of 26 (get_or frame 0 0)) 1 ≡ f.zone.1 = ap (λ (y : ℕ). eqb (bit_of 26 y) 1) x ∙ b.3 in
    let r24 : eqb (bit_of 24 (get_or frame 0 0)) 1 ≡ f.layer = ap (λ (y : ℕ). eqb (bit_of 24 y) 1) x ∙ b.4 in
    let n0 : get_or frame 1 0 ≡ f.number.0 = at 1 (omega arith) in
    let n1 : get_or frame 2 0 ≡ f.number.1 = at 2 (omega arith) in
    let n2 : get_or frame 3 0 ≡ f.number.2 = at 3 (omega arith) in
    let c0 : get_or frame 6 0 ≡ f.copyright.0 = cat 0 (omega arith) in
    let c1 : get_or frame 7 0 ≡ f.copyright.1 = cat 1 (omega arith) in
    let c2 : get_or frame 8 0 ≡ f.copyright.2 = cat 2 (omega arith) in
    let c3 : get_or frame 9 0 ≡ f.copyright.3 = cat 3 (omega arith) in
    let c4 : get_or frame 10 0 ≡ f.copyright.4 = cat 4 (omega arith) in
    let c5 : get_or frame 11 0 ≡ f.copyright.5 = cat 5 (omega arith) in
    λ i. record {
      reflectivity = r29 i;
      zone = record { 0 = r27 i; 1 = r26 i };
      layer = r24 i;
      number = record { 0 = n0 i; 1 = n1 i; 2 = n2 i };
      copyright = record { 0 = c0 i; 1 = c1 i; 2 = c2 i; 3 = c3 i; 4 = c4 i; 5 = c5 i };
    }

module _ (frame : List ℕ) (bytes : Bytes frame) (long : length frame ≡ 2064) where
  -- a frame whose reserved bits are ZERO has the ID of its fields
  pub id_back : reserved_are_zero (get_or frame 0 0) ≡ true → take 4 frame ≡ identification (fields_of frame)
  unfolding fields_of information
  id_back e =
      ext_get_or 0 (take 4 frame) (identification (fields_of frame)) (length-take-le 4 frame (omega arith))
      (λ i h.
      let l : i < 4 = omega (arith, length-take-le 4 frame (omega arith)) in
      get_or-take 4 frame i 0 l ∙ at i l)
    where
      at : (i : ℕ) → i < 4 → get_or frame i 0 ≡ get_or (identification (fields_of frame)) i 0
      at zero h = sym (first_byte (get_or frame 0 0) (bytes 0) e)
      at (suc zero) h = refl
      at (suc (suc zero)) h = refl
      at (suc (suc (suc zero))) h = refl
      at (suc (suc (suc (suc i)))) h = absurd (omega arith)

  -- and their CPR_MAI
  pub copyright-back : copyright_in frame ≡ copyright (fields_of frame)
  unfolding fields_of
  copyright-back =
      let n : length (copyright_in frame) ≡ 6 = length-take-le 6 (drop 6 frame) (omega (arith, length-drop 6 frame)) in
      ext_get_or 0 (copyright_in frame) (copyright (fields_of frame)) n
      (λ i h.
      let l : i < 6 = omega arith in
      get_or-take 6 (drop 6 frame) i 0 l ∙ get_or-drop 6 frame i 0 ∙ at i l)
    where
      at : (i : ℕ) → i < 6 → get_or frame (6 + i) 0 ≡ get_or (copyright (fields_of frame)) i 0
      at zero h = refl
      at (suc zero) h = refl
      at (suc (suc zero)) h = refl
      at (suc (suc (suc zero))) h = refl
      at (suc (suc (suc (suc zero)))) h = refl
      at (suc (suc (suc (suc (suc zero))))) h = refl
      at (suc (suc (suc (suc (suc (suc i)))))) h = absurd (omega arith)
