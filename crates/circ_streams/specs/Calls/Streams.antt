-- In every list of calls from `new()`, those that are done answer as the streams say: what each says, the state it hands back, what its buffer holds.
-- Assumes nothing.
use Rattle.std.specs.Prelude.{◌≡◌, refl, List, [], ◌∷◌, ◌++◌, ℕ, suc, length}
use Rattle.std.proofs.Common.{sym, ap, ◌∙◌, eqb-true}
use Rattle.outcome.specs.Say.{done}
use Rattle.calls.specs.Step.{step}
use Rattle.calls.specs.Calls.{run, done_of, accepted, firsts}
use Rattle.circ.specs.Chains.{writer_out, writer_next, writer_at}
use Rattle.circ.specs.Codes.{q_of, p_of}
use Rattle.circ.specs.Marked.{marked_out, marked_doubt, marked_next, marked_at}
use Rattle.circ.specs.Steps.{fits_writer}
use Rattle.circ.specs.Steps.Fits.{fit_both}
use Rattle.circ_streams.specs.Streams.{f2_at, f1_at, doubt_at}
use Rattle.circ_streams.specs.Streams.Steps.{writer_fresh, reader_fresh, writer_step, reader_step}
use Rattle.circ_streams.specs.Calls.{Call, MarkedFrame, marked, writer_does, reader_does, writer_done, reader_done, fits_both, fitting, writer_frames, reader_frames}
use Rattle.circ_streams.specs.Calls.Done.{done_fitting, done_along}

-- ---- the writer

-- the calls that are done are those of which both lengths are right
pub writer_done_lem : (cs : List (Call (List ℕ))) (s : List ℕ) → accepted writer_does s cs ≡ fitting fits_writer 32 cs
writer_done_lem = done_fitting fits_writer 32 (λ s w. []) (writer_out q_of p_of) (writer_next q_of p_of)

-- f is any stream that begins with their frames
pub writer_calls : (cs : List (Call (List ℕ))) (f : ℕ → List ℕ) → writer_frames cs ≡ firsts f 0 (length (writer_frames cs))
    → writer_done cs ≡ firsts (λ n. step (done []) (writer_at q_of p_of f (suc n)) (f2_at f n)) 0 (length (writer_frames cs))
writer_calls cs f e =
    ap (λ (s : List ℕ). done_of (run writer_does s cs)) (sym (writer_fresh f))
    ∙ done_along fits_writer 32 (λ s w. []) (writer_out q_of p_of) (writer_next q_of p_of) f (writer_at q_of p_of f) _ (λ n. refl)
    (λ n out t h. writer_step f n out (eqb-true (length (f n)) 24 t) h)
    cs
    e

-- ---- the reader

abbrev values_of : List ℕ → MarkedFrame → List ℕ
values_of s x = marked_doubt s (x.frame ++ x.marks) ∷ []

abbrev out_of : List ℕ → MarkedFrame → List ℕ
out_of s x = marked_out s (x.frame ++ x.marks)

abbrev next_of : List ℕ → MarkedFrame → List ℕ
next_of s x = marked_next s (x.frame ++ x.marks)

-- the calls that are done are those of which all three lengths are right
pub reader_done_lem : (cs : List (Call MarkedFrame)) (s : List ℕ) → accepted reader_does s cs ≡ fitting fits_both 24 cs
reader_done_lem = done_fitting fits_both 24 values_of out_of next_of

-- g and k are any streams that begin with their frames and marks
pub reader_calls : (cs : List (Call MarkedFrame)) (g k : ℕ → List ℕ) → reader_frames cs ≡ firsts (λ n. marked (g n) (k n)) 0 (length (reader_frames cs))
    → reader_done cs ≡ firsts (λ n. step (done (doubt_at g k n ∷ [])) (marked_at g k (suc n)) (f1_at g k n)) 0 (length (reader_frames cs))
reader_calls cs g k e =
    ap (λ (s : List ℕ). done_of (run reader_does s cs)) (sym (reader_fresh g k))
    ∙ done_along fits_both 24 values_of out_of next_of (λ n. marked (g n) (k n)) (marked_at g k) _ (λ n. refl)
    (λ n out t h. let b = fit_both (g n) (k n) t in reader_step g k n out b.0 b.1 h)
    cs
    e
