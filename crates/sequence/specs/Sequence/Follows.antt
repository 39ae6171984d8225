-- The bits of the sequence follow the rule of Annex B, and no others do; laws of its bytes.
-- Assumes nothing.
use Rattle.std.specs.Prelude.{◌≡◌, refl, List, [], ◌∷◌, ◌⊎◌, ℕ, zero, suc, ◌+◌, ◌-◌, ◌*◌, ◌%◌, ◌^◌, ◌≤◌, ◌<◌, length, get_or, drop}
use Rattle.std.proofs.Common.{sym, ap, ap₂, ◌∙◌, inl, inr, add-zero, zero-add, suc-add, add-suc, pow-suc, arith, length-append, length-drop, get_or-drop}
use Rattle.std.proofs.lemmas.List.{get_or-replicate, get_or_at}
use Rattle.std.proofs.Math.ListN.{get_or-append, get_or-eq_default}
use Rattle.outcome.specs.Bytes.{Bytes}
use Rattle.outcome.specs.Table.{tabulated}
use Rattle.outcome.specs.Table.Entries.{length-tabulated, tabulated-at}
use Rattle.outcome.specs.First.Found.{lt-or-le}
use Rattle.sequence.specs.Sequence.{Rule, next, register, bit, byte_of, byte_at, sequence}

-- ---- the register

length-next : (w : List ℕ) → 0 < length w → length (next w) ≡ length w
unfolding next
length-next w h = omega (arith, length-append (drop 1 w) ((get_or w 0 0 + get_or w 1 0) % 2 ∷ []), length-drop 1 w)

pub length-register : (n : ℕ) → length (register n) ≡ 15
unfolding register
length-register zero = refl
length-register (suc n) = length-next (register n) (omega (arith, length-register n)) ∙ length-register n

-- one bit on, each bit stands a place earlier, and the last is the sum
next-at : (w : List ℕ) (j : ℕ) → suc j < length w → get_or (next w) j 0 ≡ get_or w (suc j) 0
unfolding next
next-at w j h =
    get_or-append (drop 1 w) ((get_or w 0 0 + get_or w 1 0) % 2 ∷ []) 0 j (omega (arith, length-drop 1 w)) ∙ get_or-drop 1 w j 0 ∙ ap (λ (i : ℕ). get_or w i 0) (omega arith)

next_last : (w : List ℕ) (n : ℕ) → length w ≡ suc n → get_or (next w) n 0 ≡ (get_or w 0 0 + get_or w 1 0) % 2
unfolding next
next_last w n h = get_or_at (drop 1 w) ((get_or w 0 0 + get_or w 1 0) % 2) [] 0 n (omega (arith, length-drop 1 w))

-- what the register holds are the bits from bit n on
pub register-at : (j n : ℕ) → j < 15 → get_or (register n) j 0 ≡ bit (n + j)
unfolding bit register
register-at zero n h = ap (λ (m : ℕ). get_or (register m) 0 0) (sym (add-zero n))
register-at (suc j) n h =
    sym (next-at (register n) j (omega (arith, length-register n)))
    ∙ register-at j (suc n) (omega arith)
    ∙ ap bit (suc-add n j ∙ sym (add-suc n j))

-- ---- the rule

pub bit_follows : Rule bit
unfolding bit register
bit_follows =
    record {
      first = refl;
      zeros = zeros;
      later =
          λ n.
          ap bit (fifteen_on n)
          ∙ sym (register-at 14 (suc n) (omega arith))
          ∙ next_last (register n) 14 (length-register n)
          ∙ ap (λ (x : ℕ). (bit n + x) % 2) (register-at 1 n (omega arith));
    }
  where
    fifteen_on : (n : ℕ) → n + 15 ≡ suc n + 14
    fifteen_on n = omega arith

    zeros : (n : ℕ) → 1 ≤ n → n ≤ 14 → bit n ≡ 0
    zeros zero h k = absurd (omega arith)
    zeros (suc n) h k =
        ap bit (sym (zero-add (suc n))) ∙ sym (register-at (suc n) 0 (omega arith)) ∙ get_or-replicate {A = ℕ} 14 n 0 0 (omega arith)

module _ (f g : ℕ → ℕ) (p : Rule f) (q : Rule g) where
  abbrev Alike : ℕ → Type 0
  Alike n = (j : ℕ) → j < 15 → f (n + j) ≡ g (n + j)

  alike_first : Alike 0
  alike_first zero h = p.first ∙ sym q.first
  alike_first (suc j) h =
      ap f (zero-add (suc j))
      ∙ p.zeros (suc j) (omega arith) (omega arith)
      ∙ sym (q.zeros (suc j) (omega arith) (omega arith))
      ∙ ap g (sym (zero-add (suc j)))

  alike_next : (n : ℕ) → Alike n → Alike (suc n)
  alike_next n s j h = by (lt-or-le j 14)
    where
      by : (j < 14) ⊎ (14 ≤ j) → f (suc n + j) ≡ g (suc n + j)
      by (inl l) =
          let e : suc n + j ≡ n + suc j = omega arith in ap f e ∙ s (suc j) (omega arith) ∙ ap g (sym e)
      by (inr l) =
          let e : suc n + j ≡ n + 15 = omega arith in
          ap f e
          ∙ p.later n
          ∙ ap₂ (λ (x y : ℕ). (x + y) % 2) (ap f (sym (add-zero n)) ∙ s 0 (omega arith) ∙ ap g (add-zero n)) (s 1 (omega arith))
          ∙ sym (q.later n)
          ∙ ap g (sym e)

  alike : (n : ℕ) → Alike n
  alike zero = alike_first
  alike (suc n) = alike_next n (alike n)

  -- two sequences of bits that follow the rule are the same
  pub rule_one : (n : ℕ) → f n ≡ g n
  rule_one n = ap f (sym (add-zero n)) ∙ alike n 0 (omega arith) ∙ ap g (add-zero n)

-- a bit is 0 or 1
pub bit-lt : (n : ℕ) → bit n < 2
bit-lt zero = omega (arith, bit_follows.first)
bit-lt (suc n) = by (lt-or-le n 14)
  where
    by : (n < 14) ⊎ (14 ≤ n) → bit (suc n) < 2
    by (inl l) = omega (arith, bit_follows.zeros (suc n) (omega arith) (omega arith))
    by (inr l) =
        let e : suc n ≡ n - 14 + 15 = omega arith in omega (arith, ap bit e, bit_follows.later (n - 14))

-- ---- the bytes

pub length-sequence : length sequence ≡ 2340
unfolding sequence
length-sequence = length-tabulated byte_at 0 2340

-- byte i of the sequence has bits 8 i to 8 i + 7
pub sequence-at : (i : ℕ) → i < 2340 → get_or sequence i 0 ≡ byte_at i
unfolding sequence
sequence-at i h = tabulated-at byte_at 2340 i h

-- n bits make a number of n bits
of_bits_lt : (n i : ℕ) → byte_of (tabulated bit i n) < 2 ^ n
of_bits_lt zero i = omega arith
of_bits_lt (suc n) i = omega (arith, bit-lt i, of_bits_lt n (suc i), pow-suc 2 n)

pub bytes_sequence : Bytes sequence
bytes_sequence i = by (lt-or-le i 2340)
  where
    by : (i < 2340) ⊎ (2340 ≤ i) → get_or sequence i 0 < 256
    by (inl l) = omega (arith, sequence-at i l, of_bits_lt 8 (8 * i))
    by (inr l) = omega (arith, get_or-eq_default sequence 0 {n = i} (omega (arith, length-sequence)))
