-- Two bytes of CRC against the last sixteen q bits.
-- Assumes nothing.
use mathlib.Core.Path.{◌≡◌, sym, ap, ◌∙◌}
use mathlib.Core.Bool.{Bool}
use mathlib.Core.List.{List, [], ◌∷◌}
use Prim.Native.Nat.{ℕ, ◌-◌}
use native.Mathlib.Omega.{arith}
use Rattle.std.specs.Prelude.{nat_eq}
use Rattle.std.specs.Cmp.Lexicographic.{pointwise}
use Rattle.std.proofs.lemmas.Bool.Decides.{Decides-eqb}
use Rattle.std.proofs.lemmas.Slice.Eq.{slice_eq-Decides}
use lib.ListN.{length, get_or, take, drop, length-drop}
use lib.Seq.{drop-drop}
use Rattle.bits.specs.Bits.{number, unpack, pack}
use Rattle.bits.proofs.Bits.Packed.{unpack-pack}
use Rattle.bits.specs.Binary.{Binary}
use Rattle.bits.specs.Binary.Parts.{binary_take, binary_drop}
use Rattle.lists.proofs.Same.Equal.{same_is}
use Rattle.crc.specs.Crc.{crc}
use Rattle.crc.specs.Crc.Bits.{length-crc, binary_crc}
use Rattle.control_reader.specs.Reading.{q_of, crc_holds}
use Rattle.control_reader.specs.Inner.Bits.{length-q_of, binary_q_of, unpack_fields}

-- the two bytes of sixteen bits
first : List ℕ → ℕ
first bs = number 0 (take 8 bs)

second : List ℕ → ℕ
second bs = number 0 (take 8 (drop 8 bs))

sixteen-one : (a b : List ℕ) → Binary a → Binary b → length a ≡ 16 → length b ≡ 16 → first a ≡ first b → second a ≡ second b → a ≡ b
unfolding first second pack
sixteen-one a b ha hb la lb p q =
    sym (unpack-pack 2 a ha la) ∙ ap unpack (λ i. p i ∷ q i ∷ []) ∙ unpack-pack 2 b hb lb

module _ (bytes : List ℕ) (l : length bytes ≡ 96) (q c : List ℕ) (hq : q ≡ pack 10 (q_of bytes)) (hc : c ≡ pack 2 (crc (unpack q)))
    (x : ℕ) (hx : x ≡ number 0 (take 8 (drop 80 (q_of bytes)))) where
  qs : List ℕ
  qs = q_of bytes

  made : List ℕ
  made = crc (take 80 (q_of bytes))

  c_is : c ≡ pack 2 made
  unfolding made
  c_is = hc ∙ ap (λ (t : List ℕ). pack 2 (crc t)) (ap unpack hq ∙ unpack_fields (q_of bytes) (length-q_of bytes ∙ l) (binary_q_of bytes))

  c_first : get_or c 0 0 ≡ first made
  unfolding first pack
  c_first = ap (λ (t : List ℕ). get_or t 0 0) c_is

  c_second : get_or c 1 0 ≡ second made
  unfolding second pack
  c_second = ap (λ (t : List ℕ). get_or t 1 0) c_is

  module _ (z : ℕ) (hz : z ≡ number 0 (take 8 (drop 88 (q_of bytes)))) where
    last : z ≡ second (drop 80 (q_of bytes))
    unfolding second
    last = hz ∙ ap (λ (t : List ℕ). number 0 (take 8 t)) (sym (drop-drop 8 80 (q_of bytes)))

    both : drop 80 (q_of bytes) ≡ made → c ≡ x ∷ z ∷ []
    unfolding first second pack
    both e = c_is ∙ (λ i. sym (hx ∙ ap first e) i ∷ sym (last ∙ ap second e) i ∷ [])

    bits : c ≡ x ∷ z ∷ [] → drop 80 (q_of bytes) ≡ made
    unfolding made first
    bits e =
        let h : Binary (take 80 (q_of bytes)) = binary_take 80 (q_of bytes) (binary_q_of bytes) in
        sym
        (sixteen-one made (drop 80 (q_of bytes)) (binary_crc (take 80 (q_of bytes)) h) (binary_drop 80 (q_of bytes) (binary_q_of bytes)) (length-crc (take 80 (q_of bytes)) h)
        (length-drop 80 (q_of bytes) ∙ ninety_six)
        (sym c_first ∙ ap (λ (t : List ℕ). get_or t 0 0) e ∙ hx) (sym c_second ∙ ap (λ (t : List ℕ). get_or t 1 0) e ∙ last))
      where
        ninety_six : length (q_of bytes) - 80 ≡ 16
        ninety_six = omega (arith, length-q_of bytes)

    pub crc_decides : (r : Bool) → r ≡ pointwise nat_eq c (x ∷ z ∷ []) → r ≡ crc_holds bytes
    unfolding crc_holds made
    crc_decides r e =
        let d = slice_eq-Decides Decides-eqb c (x ∷ z ∷ []) r e in
        same_is (drop 80 (q_of bytes)) made r (λ t. bits (d.0 t)) (λ t. d.1 (both t))
