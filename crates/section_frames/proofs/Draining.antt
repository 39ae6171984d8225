-- Whole bytes go from the bits that the pen holds to the buffer; the bits that are written stay the same.
-- Assumes nothing.
use mathlib.Core.Path.{◌≡◌, refl, sym, ap, ap₂, ◌∙◌, subst}
use mathlib.Core.List.{List, [], ◌∷◌, ◌++◌, append_assoc, append-nil}
use Prim.Native.Nat.{ℕ, ◌+◌, ◌-◌, ◌*◌, ◌/◌, ◌%◌, ◌≤◌, ◌<◌, ◌^◌}
use native.Mathlib.Nat.{mod-eq_of_lt, mod-lt, one-mul}
use native.Mathlib.Numerals.{add-one}
use native.Mathlib.Omega.{arith}
use lib.Arith.{digits_lt}
use lib.Pow.{pow_pos, pow_mono, pow-add, shr_lt, split}
use lib.ListN.{length, set, take, length-set}
use lib.Seq.{take-suc-set}
use Rattle.bits.specs.Bits.{bits_of, unpack}
use Rattle.bits.specs.Bits.Numbers.{bits_split, bits_low, bits-join}
use Rattle.bits.proofs.Bits.Packed.{unpack-append}
use Rattle.section_frames.specs.declared.pen.Pen.{Pen}
use Rattle.section_frames.specs.Inner.BufferBits.{Room, Inked}

pub record Draining (out₀ : List ℕ) (held₀ count₀ at₀ : ℕ) (out : List ℕ) (held count at : ℕ) : Type 0 where
  pub long : length out ≡ length out₀
  pub place : 8 * at + count ≡ 8 * at₀ + count₀
  pub fits : held < 2 ^ count
  pub few : count ≤ 31
  pub room : 8 * at₀ + count₀ ≤ 8 * length out₀
  pub bits : unpack (take at out) ++ bits_of count held ≡ unpack (take at₀ out₀) ++ bits_of count₀ held₀

-- two to the n, as the code makes it
pub scale_is : {out : List ℕ} {pen : Pen} {v n : ℕ} → Room out pen v n → 1 * 2 ^ n % 4294967296 ≡ 2 ^ n
scale_is {out} {pen} {v} {n} r =
    let p : 2 ^ n ≤ 2 ^ 24 = pow_mono {i = n} {j = 24} r.short in
    ap (λ (x : ℕ). x % 4294967296) (one-mul (2 ^ n)) ∙ mod-eq_of_lt (omega arith)

module _ (out : List ℕ) (pen : Pen) (v n scale : ℕ) (r : Room out pen v n) (e : scale ≡ 2 ^ n) where
  -- the held bits and the new ones
  pub gathered_fits : pen.held * scale + v < 2 ^ (pen.count + n)
  gathered_fits =
      rw (e, pow-add 2 pen.count n) (digits_lt r.held.fits r.small)

  pub gathered_small : pen.held * scale + v < 2147483648
  gathered_small = omega (arith, gathered_fits, pow_mono {i = pen.count + n} {j = 31} (omega (arith, r.held.few, r.short)))

  pub drain_start : Draining out (pen.held * scale + v) (pen.count + n) pen.at out (pen.held * scale + v) (pen.count + n) pen.at
  drain_start =
      record {
        long = refl;
        place = refl;
        fits = gathered_fits;
        few = omega (arith, r.held.few, r.short);
        room = omega (arith, r.room);
        bits = refl;
      }

  pub drain_end : (out' : List ℕ) (held count at : ℕ) → Draining out (pen.held * scale + v) (pen.count + n) pen.at out' held count at → count < 8
      → Inked out pen v n out' (record { at = at; held = held; count = count })
  drain_end out' held count at d h =
      let joined : bits_of (pen.count + n) (pen.held * scale + v) ≡ bits_of pen.count pen.held ++ bits_of n v
      = ap (λ (k : ℕ). bits_of (pen.count + n) (pen.held * k + v)) e ∙ bits-join pen.count n pen.held v r.small in
      record {
        held = record { few = h; fits = d.fits };
        long = d.long;
        place = omega (arith, d.place);
        bits = d.bits ∙ ap (λ (t : List ℕ). unpack (take pen.at out) ++ t) joined ∙ sym (append_assoc (unpack (take pen.at out)) (bits_of pen.count pen.held) (bits_of n v));
      }

one_byte : (x : ℕ) → unpack (x ∷ []) ≡ bits_of 8 x
unfolding unpack
one_byte x = append-nil (bits_of 8 x)

module _ {out₀ : List ℕ} {held₀ count₀ at₀ : ℕ} {out : List ℕ} {held count at : ℕ} (d : Draining out₀ held₀ count₀ at₀ out held count at) (h : 8 ≤ count) where
  pub drain_at : at < length out
  drain_at = omega (arith, d.long, d.place, d.room)

  pub drain_unit : 1 * 2 ^ (count - 8) % 4294967296 ≡ 2 ^ (count - 8)
  drain_unit =
      let p : 2 ^ (count - 8) ≤ 2 ^ 31 = pow_mono {i = count - 8} {j = 31} (omega (arith, d.few)) in
      ap (λ (x : ℕ). x % 4294967296) (one-mul (2 ^ (count - 8))) ∙ mod-eq_of_lt (omega arith)

  pub drain_unit_pos : 0 < 1 * 2 ^ (count - 8) % 4294967296
  drain_unit_pos = rw drain_unit (pow_pos (count - 8))

  byte_lt : held / 2 ^ (count - 8) < 256
  byte_lt =
      let e : 8 + (count - 8) ≡ count = omega arith in
      shr_lt 8 (count - 8) (subst (λ (k : ℕ). held < 2 ^ k) (sym e) d.fits)

  pub drain_step : Draining out₀ held₀ count₀ at₀ (set out at (held / 2 ^ (count - 8) % 256)) (held % 2 ^ (count - 8)) (count - 8) (at + 1)
  drain_step =
      let c = count - 8 in
      let x = held / 2 ^ c in
      let e : 8 + c ≡ count = omega arith in
      let byte : x % 256 ≡ x = mod-eq_of_lt byte_lt in
      let low : bits_of c (held % 2 ^ c) ≡ bits_of c held = sym (bits_low c x (held % 2 ^ c)) ∙ ap (bits_of c) (split held c) in
      let took : take (at + 1) (set out at (x % 256)) ≡ take at out ++ (x % 256 ∷ []) = ap (λ (k : ℕ). take k (set out at (x % 256))) (add-one at) ∙ take-suc-set out at (x % 256) drain_at in
      record {
        long = length-set out at (x % 256) ∙ d.long;
        place = omega (arith, d.place);
        fits = mod-lt held (pow_pos c);
        few = omega (arith, d.few);
        room = d.room;
        bits =
            ap₂ (λ (a b : List ℕ). unpack a ++ b) took low
            ∙ ap (λ (t : List ℕ). t ++ bits_of c held) (unpack-append (take at out) (x % 256 ∷ []) ∙ ap (λ (t : List ℕ). unpack (take at out) ++ t) (one_byte (x % 256) ∙ ap (bits_of 8) byte))
            ∙ append_assoc (unpack (take at out)) (bits_of 8 x) (bits_of c held)
            ∙ ap (λ (t : List ℕ). unpack (take at out) ++ t) (sym (bits_split 8 c held) ∙ ap (λ (k : ℕ). bits_of k held) e)
            ∙ d.bits;
      }
