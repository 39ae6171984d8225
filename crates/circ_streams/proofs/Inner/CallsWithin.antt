-- Public calls with one run of lost frames are the beginning of streams with one (document 02, §8).
-- Assumes nothing.
use Rattle.std.specs.Prelude.{◌≡◌, refl, ◌⊎◌, List, [], ◌∷◌, ℕ, zero, suc, ◌+◌, ◌≤◌, ◌<◌, get_or, replicate}
use Rattle.std.proofs.Common.{sym, ap₂, ◌∙◌, subst, inl, inr, not-suc-le-zero, le_of_suc-le-suc, zero-add, suc-add, add-suc, add-zero, arith, eqb-true}
use Rattle.std.proofs.Math.Path.{ap}
use Rattle.std.proofs.Math.ListN.{length, get_or-eq_default}
use Rattle.outcome.specs.Bytes.{Bytes}
use Rattle.outcome.specs.First.Found.{lt-or-le}
use Rattle.outcome.specs.Say.{done}
use Rattle.calls.specs.Step.{Step, step}
use Rattle.calls.specs.Calls.{firsts}
use Rattle.calls.specs.Calls.Firsts.{length-firsts, map-firsts, firsts_at, begins}
use Rattle.circ.specs.Chains.{writer_at}
use Rattle.circ.specs.Codes.{q_of, p_of}
use Rattle.circ.specs.Marks.{lost_by}
use Rattle.circ.specs.Marked.{marked_at}
use Rattle.circ.specs.Steps.{fits_writer}
use Rattle.circ.specs.Steps.Fits.{both_fit, fit_both}
use Rattle.circ_streams.specs.Streams.{F1Frames, f2_at, f1_at, doubt_at}
use Rattle.circ_streams.specs.Calls.{Call, MarkedFrame, marked, writer_done, reader_done, fits_both, writer_frames, reader_frames, outs}
use Rattle.circ_streams.specs.Calls.Done.{incomings_fit}
use Rattle.circ_streams.specs.Calls.Streams.{writer_calls, reader_calls}
use Rattle.circ_streams.specs.LostRun.{AllLost, Comes, frame_at, LostInCalls}
use Rattle.circ_streams.proofs.Inner.AsWritten.{length-written}
use Rattle.circ_streams.specs.Inner.MarkRows.{zeros-at}
use Rattle.circ_streams.proofs.Inner.Within.{Within, comes_agreeing, comes_lost, comes_unmarked}

-- a list is the first values of a stream that has its values
first-values : {A : Type 0} (z : A) (x : ℕ → A) (l : List A) (k : ℕ) → ((i : ℕ) → i < length l → get_or l i z ≡ x (k + i)) → l ≡ firsts x k (length l)
first-values z x [] k h = refl
first-values z x (y ∷ l) k h =
    ap₂ ◌∷◌ (h 0 (omega arith) ∙ ap x (add-zero k))
    (first-values z x l (suc k) (λ i p. h (suc i) (omega arith) ∙ ap x (add-suc k i ∙ sym (suc-add k i))))

-- within a list what stands behind it does not matter
pub same-within : {A : Type 0} (y z : A) (l : List A) (n : ℕ) → n < length l → get_or l n y ≡ get_or l n z
same-within y z [] n h = absurd (not-suc-le-zero h)
same-within y z (x ∷ l) zero h = refl
same-within y z (x ∷ l) (suc n) h = same-within y z l n (le_of_suc-le-suc h)

-- streams that begin with the frames and marks of these calls, for the frames f that were written
pub record Along (ds : List (Call MarkedFrame)) (a L : ℕ) (f : ℕ → List ℕ) : Type 0 where
  pub g : ℕ → List ℕ
  pub k : ℕ → List ℕ
  pub within : Within a L f g k
  -- the frames of the run are lost as far as there are calls
  pub all_lost : (n : ℕ) → n < length (reader_done ds) → a ≤ n → n < a + L → AllLost (k n)
  -- each call that is done answers as the streams do
  pub answers : (n : ℕ) (z : Step (List ℕ)) → n < length (reader_done ds)
      → get_or (reader_done ds) n z ≡ step (done (doubt_at g k n ∷ [])) (marked_at g k (suc n)) (f1_at g k n)

-- the frames that are written, and zeros behind them
pub frames : (cs : List (Call (List ℕ))) → ((n : ℕ) → Bytes (get_or (writer_frames cs) n (replicate 24 0))) → F1Frames (λ n. get_or (writer_frames cs) n (replicate 24 0))
frames cs bytes =
    record {
      long = λ n. eqb-true (length (get_or (writer_frames cs) n (replicate 24 0))) 24 (incomings_fit fits_writer 32 (replicate 24 0) refl cs n);
      bytes = bytes;
    }

module _ (cs : List (Call (List ℕ))) (ds : List (Call MarkedFrame)) (bytes : (n : ℕ) → Bytes (get_or (writer_frames cs) n (replicate 24 0)))
    (a L : ℕ) (run : LostInCalls a L (outs (writer_done cs)) (reader_frames ds)) where
  abbrev f : ℕ → List ℕ
  f n = get_or (writer_frames cs) n (replicate 24 0)

  made : outs (writer_done cs) ≡ firsts (λ n. f2_at f n) 0 (length (writer_frames cs))
  made =
      ap outs (writer_calls cs f (begins (replicate 24 0) (writer_frames cs)))
      ∙ map-firsts (λ (t : Step (List ℕ)). t.out) (λ n. step (done []) (writer_at q_of p_of f (suc n)) (f2_at f n)) 0 (length (writer_frames cs))

  -- ---- the frames that come in, and behind them those that are written, unmarked

  abbrev behind : ℕ → MarkedFrame
  behind n = marked (f2_at f n) (replicate 32 0)

  abbrev came : ℕ → MarkedFrame
  came n = get_or (reader_frames ds) n (behind n)

  abbrev g : ℕ → List ℕ
  g n = (came n).frame

  abbrev k : ℕ → List ℕ
  k n = (came n).marks

  long : (n : ℕ) → (length (g n) ≡ 32) × (length (k n) ≡ 32)
  long n = fit_both (g n) (k n) (incomings_fit fits_both 24 (behind n) (both_fit (f2_at f n) (replicate 32 0) (length-written f (frames cs bytes) n) refl) ds n)

  comes : (n : ℕ) → n < length (reader_frames ds) → Comes a L n (f2_at f n) (g n) (k n)
  comes n p =
      subst (λ (x : MarkedFrame). Comes a L n (f2_at f n) x.frame x.marks) (same-within (marked [] []) (behind n) (reader_frames ds) n p)
      (subst (λ (w : List ℕ). Comes a L n w (frame_at (reader_frames ds) n).frame (frame_at (reader_frames ds) n).marks) written (run.comes n p))
    where
      written : get_or (outs (writer_done cs)) n [] ≡ f2_at f n
      written =
          ap (λ (l : List (List ℕ)). get_or l n []) made
          ∙ firsts_at [] (λ n. f2_at f n) (length (writer_frames cs)) n
          (omega (arith, run.no_more, ap length made, length-firsts (λ n. f2_at f n) 0 (length (writer_frames cs))))

  past : (n : ℕ) → length (reader_frames ds) ≤ n → came n ≡ behind n
  past n p = get_or-eq_default (reader_frames ds) (behind n) {n = n} p

  within : Within a L f g k
  unfolding lost_by
  within = record { long = λ n. (long n).0; marks = λ n. (long n).1; none = none; agree = agree }
    where
      none : (n : ℕ) → (n < a) ⊎ (a + L ≤ n) → (i : ℕ) → lost_by (get_or (k n) i 0) ≡ 0
      none n o i = by (lt-or-le n (length (reader_frames ds)))
        where
          by : (n < length (reader_frames ds)) ⊎ (length (reader_frames ds) ≤ n) → lost_by (get_or (k n) i 0) ≡ 0
          by (inl p) = comes_unmarked a L n (f2_at f n) (g n) (k n) (comes n p) (long n).1 o i
          by (inr p) = ap (λ (x : MarkedFrame). lost_by (get_or x.marks i 0)) (past n p) ∙ ap lost_by (zeros-at 32 i)

      agree : (n i : ℕ) → i < 32 → lost_by (get_or (k n) i 0) ≡ 0 → get_or (g n) i 0 ≡ get_or (f2_at f n) i 0
      agree n i l z = by (lt-or-le n (length (reader_frames ds)))
        where
          by : (n < length (reader_frames ds)) ⊎ (length (reader_frames ds) ≤ n) → get_or (g n) i 0 ≡ get_or (f2_at f n) i 0
          by (inl p) = comes_agreeing a L n (f2_at f n) (g n) (k n) (comes n p) i l z
          by (inr p) = ap (λ (x : MarkedFrame). get_or x.frame i 0) (past n p)

  -- ---- what the reader's calls answer

  abbrev answer : ℕ → Step (List ℕ)
  answer n = step (done (doubt_at g k n ∷ [])) (marked_at g k (suc n)) (f1_at g k n)

  read : reader_done ds ≡ firsts answer 0 (length (reader_frames ds))
  read =
      reader_calls ds g k
      (first-values (marked [] []) (λ n. marked (g n) (k n)) (reader_frames ds) 0
      (λ i p. same-within (marked [] []) (behind i) (reader_frames ds) i p ∙ ap (λ (j : ℕ). marked (g j) (k j)) (sym (zero-add i))))

  as_many : length (reader_done ds) ≡ length (reader_frames ds)
  as_many = ap length read ∙ length-firsts answer 0 (length (reader_frames ds))

  pub along : Along ds a L (λ n. get_or (writer_frames cs) n (replicate 24 0))
  along =
      record {
        g = g;
        k = k;
        within = within;
        all_lost = λ n h p q. comes_lost a L n (f2_at f n) (g n) (k n) (comes n (omega (arith, as_many))) p q;
        answers =
            λ n z h. ap (λ (l : List (Step (List ℕ))). get_or l n z) read ∙ firsts_at z answer (length (reader_frames ds)) n (omega (arith, as_many));
      }
