-- Bits begin with given bits exactly if the number of as many of them is theirs.
-- Assumes nothing.
use Rattle.std.specs.Prelude.{◌≡◌, refl, Bool, ◌&&◌, List, [], ◌∷◌, ℕ, zero, suc, ◌+◌, ◌*◌, ◌^◌, ◌≤◌, ◌<◌, eqb, length, take, drop}
use Rattle.std.proofs.Common.{sym, ap, ap₂, ◌∙◌, subst, arith, ne_eqb, length-drop, length-take-le}
use Rattle.bits.specs.Bits.{number}
use Rattle.bits.specs.Bits.Numbers.{number_shift, number_lt}
use Rattle.bits.specs.Binary.{Binary}
use Rattle.bits.specs.Binary.Parts.{binary_take, binary_drop, binary_bits}
use Rattle.words.specs.Words.{sync_header}
use Rattle.merging.specs.Rule.{sync_header_bits, starts}
use Rattle.merging.specs.Rule.Headers.{eqb-plus}
use Rattle.fields.specs.Fields.{field_at}

first_bit : (b : ℕ) (bs : List ℕ) → number 0 (b ∷ bs) ≡ b * 2 ^ length bs + number 0 bs
first_bit b bs =
    let e : 2 * 0 + b ≡ b = omega arith in
    number_shift bs (2 * 0 + b) ∙ ap (λ (x : ℕ). x * 2 ^ length bs + number 0 bs) e

digits : (p b x y P : ℕ) → p < 2 → b < 2 → x < P → y < P → (eqb p b && eqb y x) ≡ eqb (b * P + y) (p * P + x)
digits zero zero x y P hp hb hx hy =
    let e : y ≡ 0 * P + y = omega arith in
    let f : x ≡ 0 * P + x = omega arith in
    ap₂ eqb e f
digits zero (suc zero) x y P hp hb hx hy = sym (ne_eqb (1 * P + y) (0 * P + x) (λ e. omega arith))
digits (suc zero) zero x y P hp hb hx hy = sym (ne_eqb (0 * P + y) (1 * P + x) (λ e. omega arith))
digits (suc zero) (suc zero) x y P hp hb hx hy = sym (eqb-plus (1 * P) y x)
digits (suc (suc p)) b x y P hp hb hx hy = absurd (omega arith)
digits zero (suc (suc b)) x y P hp hb hx hy = absurd (omega arith)
digits (suc zero) (suc (suc b)) x y P hp hb hx hy = absurd (omega arith)

-- any given bits
pub starts-number : (ps bs : List ℕ) → Binary ps → Binary bs → length ps ≤ length bs → starts ps bs ≡ eqb (number 0 (take (length ps) bs)) (number 0 ps)
starts-number [] bs p q h = refl
starts-number (a ∷ ps) [] p q h = absurd (omega arith)
starts-number (a ∷ ps) (b ∷ bs) p q h =
    let t = take (length ps) bs in
    let l : length t ≡ length ps = length-take-le (length ps) bs (omega arith) in
    let P = 2 ^ length ps in
    let y : number 0 t < P = subst (λ (k : ℕ). number 0 t < 2 ^ k) l (number_lt t (binary_take (length ps) bs q.1)) in
    let e : number 0 (b ∷ t) ≡ b * P + number 0 t = first_bit b t ∙ ap (λ (k : ℕ). b * 2 ^ k + number 0 t) l in
    ap (λ (r : Bool). eqb a b && r) (starts-number ps bs p.1 q.1 (omega arith))
    ∙ digits a b (number 0 ps) (number 0 t) P p.0 q.0 (number_lt ps p.1) y
    ∙ ap₂ eqb (sym e) (sym (first_bit a ps))

-- a Sync Header
pub header_number : (B : List ℕ) → Binary B → (p : ℕ) → p + 24 ≤ length B → starts sync_header_bits (drop p B) ≡ eqb (field_at B p 24) sync_header
header_number B b p h =
    starts-number sync_header_bits (drop p B) (binary_bits 24 sync_header) (binary_drop p B b) (omega (arith, length-drop p B))
