-- The public steps, one after the other from `new()`, are the streams: what each says, the next state, and what its buffer holds.
-- Assumes nothing.
use Rattle.std.specs.Prelude.{◌≡◌, refl, List, [], ◌∷◌, ◌++◌, ℕ, suc, eqb, length}
use Rattle.std.proofs.Common.{sym, eq-eqb}
use Rattle.lines.specs.Delay.{total}
use Rattle.lines.specs.Chain.{chain_at}
use Rattle.circ.specs.Rows.{before_c2, between, after_c1, reader_before_c1, reader_between, reader_after_c2}
use Rattle.circ.specs.Chains.{writer_at, writer_next, fresh_writer}
use Rattle.circ.specs.Codes.{q_of, p_of}
use Rattle.circ.specs.Marked.{marked_at, marked_next, fresh_reader}
use Rattle.outcome.specs.Say.{done}
use Rattle.calls.specs.Step.{step}
use Rattle.circ.specs.Step.ByLengths.{right}
use Rattle.circ.specs.Steps.{writes, fits_reader, reads}
use Rattle.circ.specs.Steps.Fits.{both_fit}
use Rattle.circ_streams.specs.Streams.{f2_at, f1_at, doubt_at}

-- ---- the states

-- before its first step a writer's store is that of `new()`
pub writer_fresh : (f : ℕ → List ℕ) → writer_at q_of p_of f 0 ≡ fresh_writer
unfolding writer_at chain_at total before_c2 between after_c1
writer_fresh f = refl

-- and each step leaves the store of the next
pub writer_on : (f : ℕ → List ℕ) (n : ℕ) → writer_at q_of p_of f (suc n) ≡ writer_next q_of p_of (writer_at q_of p_of f n) (f n)
unfolding writer_at chain_at writer_next
writer_on f n = refl

-- the same of a reader
pub reader_fresh : (g k : ℕ → List ℕ) → marked_at g k 0 ≡ fresh_reader
unfolding marked_at chain_at total reader_before_c1 reader_between reader_after_c2
reader_fresh g k = refl

pub reader_on : (g k : ℕ → List ℕ) (n : ℕ) → marked_at g k (suc n) ≡ marked_next (marked_at g k n) (g n ++ k n)
unfolding marked_at chain_at marked_next
reader_on g k n = refl

-- ---- the steps

-- step n of the writer, with a buffer of 32 bytes
pub writer_step : (f : ℕ → List ℕ) (n : ℕ) (out : List ℕ) → length (f n) ≡ 24 → length out ≡ 32
    → writes (writer_at q_of p_of f n) (f n) out ≡ step (done []) (writer_at q_of p_of f (suc n)) (f2_at f n)
writer_step f n out e h =
    sym (right (eqb (length (f n)) 24) 32 [] _ _ (writer_at q_of p_of f n) out (eq-eqb (length (f n)) 24 e) h (writer_at q_of p_of f (suc n)) (f2_at f n) (writer_on f n) refl)

-- step n of the reader, with a buffer of 24 bytes
pub reader_step : (g k : ℕ → List ℕ) (n : ℕ) (out : List ℕ) → length (g n) ≡ 32 → length (k n) ≡ 32 → length out ≡ 24
    → reads (marked_at g k n) (g n) (k n) out ≡ step (done (doubt_at g k n ∷ [])) (marked_at g k (suc n)) (f1_at g k n)
reader_step g k n out e l h =
    sym
    (right (fits_reader (g n) (k n)) 24 (doubt_at g k n ∷ []) _ _ (marked_at g k n) out (both_fit (g n) (k n) e l) h (marked_at g k (suc n)) (f1_at g k n)
    (reader_on g k n)
    refl)
