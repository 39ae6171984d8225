-- A step of a CIRC writer or reader in a run of calls: those are done of which all lengths are right, and they answer as the streams say.
-- Assumes nothing.
use Rattle.std.specs.Prelude.{◌≡◌, Bool, true, false, cond, ◌&&◌, ℕ, zero, suc, eqb, length, get_or}
use Rattle.std.proofs.Math.Path.{refl}
use Rattle.std.proofs.Common.{sym, ap, ap₂, ◌∙◌, eqb-true}
use mathlib.Core.List.{List, [], ◌∷◌}
use Rattle.outcome.specs.Say.{done, one_then_two}
use Rattle.calls.specs.Step.{Step, is_done}
use Rattle.calls.specs.Step.Kept.{refused_keeps}
use Rattle.calls.specs.Calls.{run, done_of, accepted, firsts}
use Rattle.calls.specs.Calls.Refused.{done_alike}
use Rattle.circ.specs.Step.{answer_to, stepped}
use Rattle.circ_streams.specs.Calls.{Call, fits, fitting, incomings}

both : (a b : Bool) (values : List ℕ) → is_done (one_then_two a b (done values)) ≡ (a && b)
both true true values = refl
both true false values = refl
both false b values = refl

both_true : (a b : Bool) → (a && b) ≡ true → (a ≡ true) × (b ≡ true)
both_true true true e = (refl, refl)
both_true true false e = (refl, e)
both_true false b e = (e, cc)

-- what comes into these calls passes the test, and so does what stands behind them
pub incomings_fit : {X : Type 0} (test : X → Bool) (outgoing : ℕ) (z : X) → test z ≡ true → (cs : List (Call X)) (n : ℕ)
    → test (get_or (incomings (fitting test outgoing cs)) n z) ≡ true
unfolding fitting
incomings_fit test outgoing z e [] n = e
incomings_fit {X} test outgoing z e (c ∷ cs) n = by (fits test outgoing c) refl n (incomings_fit test outgoing z e cs)
  where
    rest : List (Call X)
    rest = fitting test outgoing cs

    by : (t : Bool) → fits test outgoing c ≡ t → (n : ℕ) → ((n : ℕ) → test (get_or (incomings rest) n z) ≡ true)
        → test (get_or (incomings (cond t (c ∷ rest) rest)) n z) ≡ true
    by true p zero h = (both_true (test c.incoming) (eqb (length c.out) outgoing) p).0
    by true p (suc n) h = h n
    by false p n h = h n

module _ {X : Type 0} (test : X → Bool) (outgoing : ℕ) (values new next : List ℕ → X → List ℕ) where
  abbrev does : List ℕ → Call X → Step (List ℕ)
  does s c = stepped (test c.incoming) outgoing (values s c.incoming) (new s c.incoming) (next s c.incoming) s c.out

  -- the calls that are done are those of which all lengths are right
  pub done_fitting : (cs : List (Call X)) (s : List ℕ) → accepted does s cs ≡ fitting test outgoing cs
  unfolding accepted fitting
  done_fitting [] s = refl
  done_fitting (c ∷ cs) s =
      rw (both (test c.incoming) (eqb (length c.out) outgoing) (values s c.incoming), done_fitting cs (does s c).next)

  -- the states before the steps of the stream f, and what its steps do
  module _ (f : ℕ → X) (at : ℕ → List ℕ) (answer : ℕ → Step (List ℕ)) (moves : (n : ℕ) → (answer n).next ≡ at (suc n))
      (does-so : (n : ℕ) (out : List ℕ) → test (f n) ≡ true → length out ≡ outgoing → does (at n) (record { incoming = f n; out = out }) ≡ answer n) where
    one : (c : Call X) (k : ℕ) → c.incoming ≡ f k → fits test outgoing c ≡ true → does (at k) c ≡ answer k
    one c k e t =
        let both = both_true (test c.incoming) (eqb (length c.out) outgoing) t in
        ap (λ (w : X). does (at k) (record { incoming = w; out = c.out })) e
        ∙ does-so k c.out (ap test (sym e) ∙ both.0) (eqb-true (length c.out) outgoing both.1)

    all : (cs : List (Call X)) (k : ℕ) → incomings (fitting test outgoing cs) ≡ firsts f k (length (incomings (fitting test outgoing cs)))
        → run does (at k) (fitting test outgoing cs) ≡ firsts answer k (length (incomings (fitting test outgoing cs)))
    unfolding run fitting
    all [] k e = refl
    all (c ∷ cs) k e = by (fits test outgoing c) refl e (all cs)
      where
        rest : List (Call X)
        rest = fitting test outgoing cs

        by : (t : Bool) → fits test outgoing c ≡ t → incomings (cond t (c ∷ rest) rest) ≡ firsts f k (length (incomings (cond t (c ∷ rest) rest)))
            → ((k : ℕ) → incomings rest ≡ firsts f k (length (incomings rest)) → run does (at k) rest ≡ firsts answer k (length (incomings rest)))
            → run does (at k) (cond t (c ∷ rest) rest) ≡ firsts answer k (length (incomings (cond t (c ∷ rest) rest)))
        by true p e h =
            let head : c.incoming ≡ f k = cc in
            let tail : incomings rest ≡ firsts f (suc k) (length (incomings rest)) = cc in
            let now = one c k head p in
            ap₂ ◌∷◌ now (ap (λ (s : List ℕ). run does s rest) (ap (λ (t : Step (List ℕ)). t.next) now ∙ moves k) ∙ h (suc k) tail)
        by false p e h = h k e

    -- from the first state on, for every stream that begins with what comes into the calls that are done
    pub done_along : (cs : List (Call X)) → incomings (fitting test outgoing cs) ≡ firsts f 0 (length (incomings (fitting test outgoing cs)))
        → done_of (run does (at 0) cs) ≡ firsts answer 0 (length (incomings (fitting test outgoing cs)))
    done_along cs e =
        done_alike does (λ s c. refused_keeps (answer_to (test c.incoming) outgoing c.out (values s c.incoming)) (next s c.incoming) s) cs (at 0)
        ∙ ap (run does (at 0)) (done_fitting cs (at 0))
        ∙ all cs 0 e
