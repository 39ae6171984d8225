-- The stream in bytes: a bit and a field, each out of the bytes where it lies, or out of the Sync Header behind them.
-- Assumes nothing.
use Rattle.std.specs.Prelude.{◌≡◌, ℕ, suc, ◌+◌, ◌-◌, ◌*◌, ◌/◌, ◌%◌, ◌^◌, ◌≤◌, ◌<◌, drop}
use Rattle.std.proofs.Math.Path.{refl, sym, ap}
use Rattle.std.proofs.Common.{◌∙◌, get_or-drop, get_or-append-add, drop-cons}
use mathlib.Core.List.{List}
use native.Mathlib.Omega.{arith}
use Rattle.std.proofs.Math.ListN.{length, get_or, get_or-append, get_or-eq_default}
use Rattle.lists.specs.Each.Case.{case}
use Rattle.bits.specs.Bits.{bits_of, unpack}
use Rattle.bits.proofs.Bits.Packed.{length-unpack, unpack-drop}
use Rattle.words.specs.Words.{sync_header}
use Rattle.merging.specs.Rule.{sync_header_bits}
use Rattle.fields.specs.Fields.{field_at}
use Rattle.fields.specs.Packed.{field_read}
use Rattle.fields.specs.Packed.Read.{read_within}
use Rattle.fields.specs.Fields.Parts.{field_keep, field_past}
use Rattle.stream_rules.specs.Offences.{judged}
use Rattle.stream_rules.specs.Offences.Stream.{length-judged}
use Rattle.stream_windows.specs.Window.{led}
use Rattle.stream_windows.specs.Window.Lead.{past_lead, length-led}

-- ---- a bit

in_byte : (x j : ℕ) → j < 8 → get_or (bits_of 8 x) j 0 ≡ x / 2 ^ (7 - j) % 2
in_byte x j h = case (λ j. get_or (bits_of 8 x) j 0 ≡ x / 2 ^ (7 - j) % 2) 8 (refl, (refl, (refl, (refl, (refl, (refl, (refl, (refl, tt)))))))) j h

in_header : (j : ℕ) → j < 24 → get_or sync_header_bits j 0 ≡ sync_header / 2 ^ (23 - j) % 2
in_header j h =
    case (λ j. get_or sync_header_bits j 0 ≡ sync_header / 2 ^ (23 - j) % 2) 24
    (refl, (refl, (refl, (refl, (refl, (refl, (refl, (refl, (refl, (refl, (refl, (refl, (refl, (refl, (refl, (refl, (refl, (refl, (refl, (refl, (refl, (refl, (refl, (refl, tt)))))))))))))))))))))))) j h

in_lead : (B : List ℕ) (q : ℕ) → q < 16 → get_or (led B) q 0 ≡ 0
in_lead B q h =
    case (λ q. get_or (led B) q 0 ≡ 0) 16
    (refl, (refl, (refl, (refl, (refl, (refl, (refl, (refl, (refl, (refl, (refl, (refl, (refl, (refl, (refl, (refl, tt)))))))))))))))) q h

behind-lead : (B : List ℕ) (q : ℕ) → 16 ≤ q → get_or B (q - 16) 0 ≡ get_or (led B) q 0
behind-lead B q h =
    let e : 16 + (q - 16) + 0 ≡ q = omega arith in
    let f : q - 16 + 0 ≡ q - 16 = omega arith in
    ap (λ (k : ℕ). get_or B k 0) (sym f) ∙ sym (get_or-drop (q - 16) B 0 0) ∙ ap (λ (t : List ℕ). get_or t 0 0) (sym (past_lead B (q - 16)))
    ∙ get_or-drop (16 + (q - 16)) (led B) 0 0 ∙ ap (λ (k : ℕ). get_or (led B) k 0) e

module _ (xs : List ℕ) (q : ℕ) where
  pub bit-before : q < 16 → 0 ≡ get_or (led (judged xs)) q 0
  bit-before h = sym (in_lead (judged xs) q h)

  pub bit_in : 16 ≤ q → (q - 16) / 8 < length xs → get_or xs ((q - 16) / 8) 0 / 2 ^ (7 - (q - 16) % 8) % 2 ≡ get_or (led (judged xs)) q 0
  unfolding unpack
  bit_in g h =
      let k = q - 16 in
      let i = k / 8 in
      let e : 8 * i + k % 8 ≡ k = omega arith in
      let l : length (bits_of 8 (get_or xs i 0)) ≡ 8 = refl in
      sym (get_or-append (unpack xs) sync_header_bits 0 k (omega (arith, length-unpack xs))
      ∙ ap (λ (j : ℕ). get_or (unpack xs) j 0) (sym e)
      ∙ sym (get_or-drop (8 * i) (unpack xs) (k % 8) 0)
      ∙ ap (λ (t : List ℕ). get_or t (k % 8) 0) (unpack-drop i xs ∙ ap unpack (drop-cons xs i 0 h))
      ∙ get_or-append (bits_of 8 (get_or xs i 0)) (unpack (drop (suc i) xs)) 0 (k % 8) (omega arith)
      ∙ in_byte (get_or xs i 0) (k % 8) (omega arith))
      ∙ behind-lead (judged xs) q g

  pub bit-behind : length xs ≤ (q - 16) / 8 → (q - 16) / 8 - length xs < 3 → 16 ≤ q
      → sync_header / 2 ^ (23 - (8 * ((q - 16) / 8 - length xs) + (q - 16) % 8)) % 2 ≡ get_or (led (judged xs)) q 0
  bit-behind h l g =
      let j = 8 * ((q - 16) / 8 - length xs) + (q - 16) % 8 in
      let e : q - 16 ≡ length (unpack xs) + j = omega (arith, length-unpack xs) in
      sym (ap (λ (k : ℕ). get_or (judged xs) k 0) e ∙ get_or-append-add (unpack xs) sync_header_bits j 0 ∙ in_header j (omega arith))
      ∙ behind-lead (judged xs) q g

  pub bit_past : length xs ≤ (q - 16) / 8 → 3 ≤ (q - 16) / 8 - length xs → 0 ≡ get_or (led (judged xs)) q 0
  bit_past h l = sym (get_or-eq_default (led (judged xs)) 0 {n = q} (omega (arith, length-led (judged xs), length-judged xs)))

-- ---- a field

-- one that is read out of the bytes is one of the stream
pub field_judged : (xs : List ℕ) (p n : ℕ) → p / 8 + 2 < length xs → n ≤ 24 - p % 8 → field_read xs p n ≡ field_at (judged xs) p n
field_judged xs p n h k = read_within xs p n h k ∙ sym (field_keep (unpack xs) sync_header_bits p n (omega (arith, length-unpack xs)))

-- 24 bits behind the last byte
pub triple_behind : (xs : List ℕ) (t : ℕ) → 3 * t ≡ length xs → sync_header ≡ field_at (judged xs) (24 * t) 24
triple_behind xs t h =
    let e : 24 * t ≡ length (unpack xs) + 0 = omega (arith, length-unpack xs) in
    sym (ap (λ (p : ℕ). field_at (judged xs) p 24) e ∙ field_past (unpack xs) sync_header_bits 0 24)
