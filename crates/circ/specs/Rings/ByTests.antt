-- What a step does where what comes in, or the buffer, or a place is wrong, or nothing is.
-- Assumes nothing.
use Rattle.std.specs.Prelude.{ℕ, ◌≡◌, Bool, true, false, List, [], length}
use Rattle.std.proofs.Common.{sym, ap, eq-eqb, ne_eqb}
use Rattle.outcome.specs.Say.{done, refused, cleared}
use Rattle.outcome.specs.Say.Refusals.{cleared-wrong}
use Rattle.calls.specs.Step.{step}
use Rattle.rings.specs.Rings.{below, onward}
use Rattle.circ.specs.Step.{stepped}
use Rattle.circ.specs.Rings.{Rings, rings_at, turned}

module _ (ws : List ℕ) (fits : Bool) (outgoing : ℕ) (values new next : List ℕ) (s : Rings) (old : List ℕ) where
  -- a wrong length comes in: refusal 1, and the buffer is cleared if it can be
  pub wrong_incoming : fits ≡ false → (after : List ℕ) → after ≡ cleared outgoing old → step (refused 1 []) s after ≡ turned ws outgoing s old (stepped fits outgoing values new next s.line old)
  wrong_incoming h after e = rw (h, e)

  -- a wrong buffer: refusal 2, and it stays as it is
  pub wrong-outgoing : fits ≡ true → (length old ≡ outgoing → ⊥) → step (refused 2 []) s old ≡ turned ws outgoing s old (stepped fits outgoing values new next s.line old)
  wrong-outgoing h k =
      rw (h, ne_eqb (length old) outgoing k)
      (ap (λ (o : List ℕ). step (refused 2 []) s o) (sym (cleared-wrong outgoing old k)))

  module _ (h : fits ≡ true) (k : length old ≡ outgoing) where
    -- a wrong place: refusal 6, and the buffer is cleared
    pub wrong-place : below ws s.places ≡ false → (after : List ℕ) → after ≡ cleared outgoing old → step (refused 6 []) s after ≡ turned ws outgoing s old (stepped fits outgoing values new next s.line old)
    wrong-place b after e = rw (h, eq-eqb (length old) outgoing k, b, e)

    -- all are right: the step is done
    pub right : below ws s.places ≡ true → (next' : Rings) (new' : List ℕ) → next' ≡ rings_at (onward ws s.places) next → new' ≡ new
        → step (done values) next' new' ≡ turned ws outgoing s old (stepped fits outgoing values new next s.line old)
    right b next' new' e f = rw (h, eq-eqb (length old) outgoing k, b, e, f)
