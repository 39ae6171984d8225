-- The parity of RSPC is the only one: two Sectors that agree on all that a codeword protects, and are codewords, agree on its
-- parity (Annex A).
-- Assumes nothing.
use Rattle.std.specs.Prelude.{◌≡◌, List, [], ◌∷◌, ℕ, zero, suc, ◌+◌, ◌-◌, ◌<◌, ◌≤◌, length, get_or}
use Rattle.std.proofs.Common.{sym, ◌∙◌, arith}
use Rattle.outcome.specs.Bytes.{Bytes}
use Rattle.codeword.specs.Code.{Codeword, changes}
use Rattle.codeword.specs.Code.Changes.{unlike_same, unlike_le}
use Rattle.codeword.specs.Code.Distance.{codewords_differ}
use Rattle.rspc.specs.Words.{p_place, p_word, q_word, PCodewords, QCodewords, SameCovered, SameQParity}
use Rattle.rspc.specs.Words.P.{length_p, p_at, bytes_p}
use Rattle.rspc.specs.Words.Q.{length_q, bytes_q, q_front}
use Rattle.rspc.specs.declared.Parity.TheVariants.{P, Q}
use Rattle.rspc.proofs.Either.Bytewise.{covers}

-- words that agree on their first k places differ in the others at most
changes-late : (a b : List ℕ) (k : ℕ) → length a ≡ length b → ((i : ℕ) → i < k → get_or a i 0 ≡ get_or b i 0) → changes a b ≤ length a - k
unfolding changes
changes-late [] b k e h = omega arith
changes-late (x ∷ a) [] k e h = absurd (omega arith)
changes-late (x ∷ a) (y ∷ b) zero e h = omega (arith, unlike_le x y, changes-late a b zero (omega arith) (λ i l. absurd (omega arith)))
changes-late (x ∷ a) (y ∷ b) (suc k) e h =
    omega (arith, unlike_same x y (h 0 (omega arith)), changes-late a b k (omega arith) (λ i l. h (suc i) (omega arith)))

-- so two codewords that agree but for the last two places are one
pub last_two : (a b : List ℕ) (k : ℕ) → length a ≡ k + 2 → length b ≡ k + 2 → k ≤ 253 → Bytes a → Bytes b → Codeword 2 a → Codeword 2 b
    → ((i : ℕ) → i < k → get_or a i 0 ≡ get_or b i 0) → a ≡ b
last_two a b k la lb h ha hb ca cb same =
    codewords_differ 2 a b (la ∙ sym lb) (omega arith) ha hb ca cb (omega (arith, changes-late a b k (la ∙ sym lb) same))

module _ (s t : List ℕ) (hs : Bytes s) (ht : Bytes t) where
  -- the P parity is determined by bytes 12 to 2,075
  pub p_one : ((i : ℕ) → 12 ≤ i → i < 2076 → get_or s i 0 ≡ get_or t i 0) → PCodewords s → PCodewords t → SameCovered s t
  p_one same cs ct =
      covers P s t
      (λ n h. last_two (p_word s n) (p_word t n) 24 (length_p s n) (length_p t n) (omega arith) (bytes_p s n hs) (bytes_p t n ht) (cs n h) (ct n h)
      (λ r l. p_at s n r (omega arith) ∙ same (p_place n r) (omega arith) (omega arith) ∙ sym (p_at t n r (omega arith))))

  -- the Q parity is determined by bytes 12 to 2,247
  pub q_one : SameCovered s t → QCodewords s → QCodewords t → SameQParity s t
  q_one same cs ct i l =
      covers Q s t
      (λ n h. last_two (q_word s n) (q_word t n) 43 (length_q s n) (length_q t n) (omega arith) (bytes_q s n hs) (bytes_q t n ht) (cs n h) (ct n h)
      (λ m l. q_front s t n m h l same)) i (omega arith)
