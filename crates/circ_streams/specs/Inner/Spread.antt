-- Where marks of frames of one run come to stand: a C1 word has its even rows from one frame and its odd rows from the frame before; row r of a C2 word is of
-- the C1 word of 108 - 4r steps before. So of C1 words in a row a C2 word has a quarter, rounded up (document 02, §8).
-- Assumes nothing.
use Rattle.std.specs.Prelude.{◌≡◌, refl, ◌⊎◌, List, ℕ, zero, suc, ◌+◌, ◌-◌, ◌*◌, ◌/◌, ◌≤◌, ◌<◌, leb, get_or}
use Rattle.std.proofs.Common.{ap, ◌∙◌, inl, inr, arith, leb→le}
use Rattle.std.proofs.lemmas.List.{length-replicate, get_or-replicate}
use Rattle.std.proofs.Math.ListN.{get_or-eq_default}
use Rattle.outcome.specs.First.Found.{lt-or-le}
use Rattle.outcome.specs.Table.Entries.{below, tabulated-at}
use Rattle.codeword.specs.Code.{weight}
use Rattle.erasures.specs.Agrees.Unmarked.{weight-none}
use Rattle.lines.specs.Stream.{back}
use Rattle.lines.specs.Stream.Late.{back_all}
use Rattle.circ.specs.Rows.{reader_before_c1, reader_between, longest_wait}
use Rattle.circ.specs.Chains.{met_c1}
use Rattle.circ.specs.Codes.{doubted}
use Rattle.circ.specs.Marks.{lost_by, lost_marks}
use Rattle.circ.specs.Marks.Lost.{lost_at}
use Rattle.circ.specs.Marked.{marks_c1, marks_met_c1, marks_met_c2}
use Rattle.circ_streams.specs.Streams.{MarksOf}
use Rattle.circ_streams.specs.Inner.MarkRows.{marks_c1_row, marks_c2_row}
use Rattle.circ_streams.specs.Inner.Weights.{weight_quarter}

-- a stream that is 0 but from step s to before step e is so d steps later, d steps later
back_outside : (x : ℕ → ℕ) (s e d n : ℕ) → ((j : ℕ) → (j < s) ⊎ (e ≤ j) → x j ≡ 0) → (n < s + d) ⊎ (e + d ≤ n) → back 0 x d n ≡ 0
unfolding back
back_outside x s e zero n h (inl l) = h n (inl (omega arith))
back_outside x s e zero n h (inr l) = h n (inr (omega arith))
back_outside x s e (suc d) zero h o = refl
back_outside x s e (suc d) (suc n) h (inl l) = back_outside x s e d n h (inl (omega arith))
back_outside x s e (suc d) (suc n) h (inr l) = back_outside x s e d n h (inr (omega arith))

-- ---- C1 words

at_most_one : (r : ℕ) → get_or reader_before_c1 r 0 ≤ 1
unfolding reader_before_c1
at_most_one r = by (lt-or-le r 32)
  where
    by : (r < 32) ⊎ (32 ≤ r) → get_or reader_before_c1 r 0 ≤ 1
    by (inl h) = leb→le (get_or reader_before_c1 r 0) 1 (below (λ r. leb (get_or reader_before_c1 r 0) 1) 32 tt r h)
    by (inr h) = omega (arith, get_or-eq_default reader_before_c1 0 {n = r} h)

-- frames are marked only from step a to before step e: C1 words are only from step a to step e
pub marks_c1_outside : (k : ℕ → List ℕ) → MarksOf k → (a e : ℕ)
    → ((n : ℕ) → (n < a) ⊎ (e ≤ n) → (i : ℕ) → lost_by (get_or (k n) i 0) ≡ 0)
    → (n : ℕ) → (n < a) ⊎ (e + 1 ≤ n) → weight (marks_met_c1 k n) ≡ 0
marks_c1_outside k long a e none n o =
    weight-none (marks_met_c1 k n)
    (λ r.
    marks_c1_row k long r n
    ∙ back_outside (λ m. get_or (lost_marks (k m)) r 0) a e (get_or reader_before_c1 r 0) n (λ j p. lost_at (k j) r ∙ none j p r)
    (on (get_or reader_before_c1 r 0) (at_most_one r) o))
  where
    on : (d : ℕ) → d ≤ 1 → (n < a) ⊎ (e + 1 ≤ n) → (n < a + d) ⊎ (e + d ≤ n)
    on d l (inl p) = inl (omega arith)
    on d l (inr p) = inr (omega arith)

-- ---- C2 words

-- how long a row waits
pub between-waits : (r : ℕ) → r < 28 → get_or reader_between r 0 ≡ longest_wait - 4 * r
unfolding reader_between
between-waits r h = tabulated-at (λ i. longest_wait - 4 * i) 28 r h

module _ (g k : ℕ → List ℕ) where
  -- the mark that C1 hands on with its word of step n, in each row
  abbrev handed : ℕ → ℕ
  handed n = doubted 2 (marks_met_c1 k n) (met_c1 g n)

  abbrev row : ℕ → ℕ → ℕ
  row r n = get_or (marks_c1 (marks_met_c1 k n) (met_c1 g n)) r 0

  past : (r : ℕ) → 28 ≤ r → (n : ℕ) → row r n ≡ 0
  past r l n = get_or-eq_default (marks_c1 (marks_met_c1 k n) (met_c1 g n)) 0 {n = r} (omega (arith, length-replicate 28 (handed n)))

  -- C1 words are handed on marked only from step s to before step e
  module _ (s e : ℕ) (sure : (n : ℕ) → (n < s) ⊎ (e ≤ n) → doubted 2 (marks_met_c1 k n) (met_c1 g n) ≡ 0) where
    outside : (r n : ℕ) → (n + 4 * r < s + longest_wait) ⊎ (e + longest_wait ≤ n + 4 * r) → get_or (marks_met_c2 g k n) r 0 ≡ 0
    outside r n o = by (lt-or-le r 28)
      where
        on : r < 28 → (n + 4 * r < s + longest_wait) ⊎ (e + longest_wait ≤ n + 4 * r) → (n < s + (longest_wait - 4 * r)) ⊎ (e + (longest_wait - 4 * r) ≤ n)
        on l (inl p) = inl (omega arith)
        on l (inr p) = inr (omega arith)

        by : (r < 28) ⊎ (28 ≤ r) → get_or (marks_met_c2 g k n) r 0 ≡ 0
        by (inl l) =
            marks_c2_row g k r n
            ∙ ap (λ (d : ℕ). back 0 (row r) d n) (between-waits r l)
            ∙ back_outside (row r) s e (longest_wait - 4 * r) n (λ j p. get_or-replicate 28 r (handed j) 0 l ∙ sure j p) (on l o)
        by (inr l) = marks_c2_row g k r n ∙ back_all (λ v. v ≡ 0) 0 (row r) (get_or reader_between r 0) n refl (past r l)

  -- at most w in a row are: a C2 word has at most a quarter of as many marks, rounded up
  pub marks_c2_few : (s w : ℕ) → ((n : ℕ) → (n < s) ⊎ (s + w ≤ n) → doubted 2 (marks_met_c1 k n) (met_c1 g n) ≡ 0)
      → (n : ℕ) → weight (marks_met_c2 g k n) ≤ (w + 3) / 4
  marks_c2_few s w sure n = weight_quarter (marks_met_c2 g k n) n (s + longest_wait) w (λ r o. outside s (s + w) sure r n (on r o))
    where
      on : (r : ℕ) → (n + 4 * r < s + longest_wait) ⊎ (s + longest_wait + w ≤ n + 4 * r) → (n + 4 * r < s + longest_wait) ⊎ (s + w + longest_wait ≤ n + 4 * r)
      on r (inl p) = inl p
      on r (inr p) = inr (omega arith)
