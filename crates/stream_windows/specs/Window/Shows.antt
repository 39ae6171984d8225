-- THE WINDOW SHOWS THE OFFENCE at its bit.
-- Assumes nothing.
use Rattle.std.specs.Prelude.{◌≡◌, Bool, ◌&&◌, ℕ, ◌+◌, ◌-◌, ◌/◌, ◌%◌, ◌^◌, ◌≤◌, length, take, drop}
use Rattle.std.proofs.Math.Path.{refl, ap, ap₂}
use Rattle.std.proofs.Common.{sym, ◌∙◌}
use Rattle.std.proofs.Math.Bool.{cond, not, ◌||◌}
use mathlib.Core.List.{List, [], ◌∷◌}
use native.Mathlib.Omega.{arith}
use Rattle.std.proofs.Math.Dec.{eqb}
use Rattle.std.proofs.Math.Pow.{high, low}
use Rattle.std.proofs.Math.ListN.{replicate, length-drop}
use Rattle.bits.specs.Bits.{number}
use Rattle.bits.specs.Binary.{Binary}
use Rattle.bits.specs.Binary.Parts.{binary_bits, binary_drop}
use Rattle.words.specs.Words.{sync_header}
use Rattle.merging.specs.Rule.{sync_header_bits, starts}
use Rattle.fields.specs.Fields.{field_at}
use Rattle.fields.specs.Fields.Parts.{field_lt, field_split}
use Rattle.stream_rules.specs.Offences.{back, run_offends, header_offends, right_word, word_place, word_offends}
use Rattle.stream_rules.specs.Offences.Numbers.{starts-number, header_number}
use Rattle.stream_rules.specs.Judging.{lowest, offence}
use Rattle.stream_windows.specs.Window.{led, window, run_in, head_in, head_wrong, word_wrong, offence_in}
use Rattle.stream_windows.specs.Window.Lead.{past_lead, back_is, binary_led, length-led}

-- the upper and the lower bits of a field
module _ (l : List ℕ) (b : Binary l) where
  pub upper : (p m n : ℕ) → p + (m + n) ≤ length l → field_at l p (m + n) / 2 ^ n ≡ field_at l p m
  upper p m n h = ap (λ (v : ℕ). v / 2 ^ n) (field_split l b p m n h) ∙ high (field_at l p m) n (field_lt l b (p + m) n (omega arith))

  pub lower : (p m n : ℕ) → p + (m + n) ≤ length l → field_at l p (m + n) % 2 ^ n ≡ field_at l (p + m) n
  lower p m n h = ap (λ (v : ℕ). v % 2 ^ n) (field_split l b p m n h) ∙ low (field_at l p m) n (field_lt l b (p + m) n (omega arith))

module _ (B : List ℕ) (b : Binary B) (p : ℕ) (room : p + 24 ≤ length B) where
  L : List ℕ
  L = led B

  bl : Binary L
  unfolding L
  bl = binary_led B b

  long : length L ≡ 16 + length B
  unfolding L
  long = length-led B

  -- the twelve bits up to bit p
  upto : window B p / 8388608 ≡ field_at L (p + 5) 12
  unfolding window L
  upto = upper L bl (p + 5) 12 23 (omega (arith, long))

  -- the 24 bits from bit p on
  from : window B p % 16777216 ≡ field_at B p 24
  unfolding window L
  from =
      let e : p + 5 + 11 ≡ 16 + p = omega arith in
      lower L bl (p + 5) 11 24 (omega (arith, long)) ∙ ap (λ (k : ℕ). field_at L k 24) e ∙ ap (λ (t : List ℕ). number 0 (take 24 t)) (past_lead B p)

  -- the word among them
  word : window B p % 16777216 / 1024 ≡ field_at B p 14
  word = ap (λ (v : ℕ). v / 1024) from ∙ upper B b p 14 10 (omega arith)

  last_two : window B p / 8388608 % 4 ≡ field_at L (p + 15) 2
  last_two =
      let e : p + 5 + 10 ≡ p + 15 = omega arith in
      ap (λ (v : ℕ). v % 4) upto ∙ lower L bl (p + 5) 10 2 (omega (arith, long)) ∙ ap (λ (k : ℕ). field_at L k 2) e

  last_three : window B p / 8388608 % 8 ≡ field_at L (p + 14) 3
  last_three =
      let e : p + 5 + 9 ≡ p + 14 = omega arith in
      ap (λ (v : ℕ). v % 8) upto ∙ lower L bl (p + 5) 9 3 (omega (arith, long)) ∙ ap (λ (k : ℕ). field_at L k 3) e

  pub head_is : starts sync_header_bits (drop p B) ≡ head_in (window B p)
  head_is = header_number B b p room ∙ ap (λ (v : ℕ). eqb v sync_header) (sym from)

  near_is : back 1 (1 ∷ 1 ∷ []) B p ≡ eqb (window B p / 8388608 % 4) 3
  unfolding L
  near_is =
      back_is B (1 ∷ []) 1 15 p refl
      ∙ starts-number (1 ∷ 1 ∷ []) (drop (p + 15) L) (binary_bits 2 3) (binary_drop (p + 15) L bl) (omega (arith, length-drop (p + 15) L, long))
      ∙ ap (λ (v : ℕ). eqb v 3) (sym last_two)

  close_is : back 2 (1 ∷ 0 ∷ 1 ∷ []) B p ≡ eqb (window B p / 8388608 % 8) 5
  unfolding L
  close_is =
      back_is B (0 ∷ 1 ∷ []) 2 14 p refl
      ∙ starts-number (1 ∷ 0 ∷ 1 ∷ []) (drop (p + 14) L) (binary_bits 3 5) (binary_drop (p + 14) L bl) (omega (arith, length-drop (p + 14) L, long))
      ∙ ap (λ (v : ℕ). eqb v 5) (sym last_three)

  far_is : back 11 (1 ∷ replicate 11 0) B p ≡ eqb (window B p / 8388608) 2048
  unfolding L
  far_is =
      back_is B (replicate 11 0) 11 5 p refl
      ∙ starts-number (1 ∷ replicate 11 0) (drop (p + 5) L) (binary_bits 12 2048) (binary_drop (p + 5) L bl) (omega (arith, length-drop (p + 5) L, long))
      ∙ ap (λ (v : ℕ). eqb v 2048) (sym upto)

  -- of the run
  pub run_is : run_offends B p ≡ run_in (window B p)
  unfolding run_offends
  run_is = ap₂ ◌||◌ near_is (ap₂ ◌||◌ close_is far_is)

  -- of the Sync Header
  pub header_is : header_offends B p ≡ head_wrong p (window B p)
  unfolding header_offends
  header_is = ap (λ (y : Bool). cond (eqb (p % 588) 0) (not y) y) head_is

  -- of the word
  pub word_is : word_offends B p ≡ word_wrong p (window B p)
  unfolding word_offends
  word_is = ap (λ (w : ℕ). word_place p && not (right_word (p / 588 % 98) ((p % 588 - 27) / 17) w)) (sym word)

  -- all in all
  pub offence_is : offence B p ≡ offence_in p (window B p)
  unfolding offence_in offence
  offence_is = λ i. lowest (run_is i) (header_is i) (word_is i)
