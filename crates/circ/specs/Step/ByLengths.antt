-- What a step does where what comes in, or the buffer, or neither has a wrong length.
-- Assumes nothing.
use Rattle.std.specs.Prelude.{ℕ, ◌≡◌, Bool, true, false, List, [], length}
use Rattle.std.proofs.Common.{sym, ap, eq-eqb, ne_eqb}
use Rattle.outcome.specs.Say.{done, refused, cleared}
use Rattle.outcome.specs.Say.Refusals.{cleared-wrong}
use Rattle.calls.specs.Step.{step}
use Rattle.circ.specs.Step.{stepped}

module _ (fits : Bool) (outgoing : ℕ) (values new next s old : List ℕ) where
  -- a wrong length comes in: refusal 1, and the buffer is cleared if it can be
  pub wrong_incoming : fits ≡ false → (after : List ℕ) → after ≡ cleared outgoing old → step (refused 1 []) s after ≡ stepped fits outgoing values new next s old
  wrong_incoming h after e = rw (h, e)

  -- a wrong buffer: refusal 2, and it stays as it is
  pub wrong-outgoing : fits ≡ true → (length old ≡ outgoing → ⊥) → step (refused 2 []) s old ≡ stepped fits outgoing values new next s old
  wrong-outgoing h k =
      rw (h, ne_eqb (length old) outgoing k)
      (ap (λ (o : List ℕ). step (refused 2 []) s o) (sym (cleared-wrong outgoing old k)))

  -- all are right: the step is done
  pub right : fits ≡ true → length old ≡ outgoing → (next' new' : List ℕ) → next' ≡ next → new' ≡ new → step (done values) next' new' ≡ stepped fits outgoing values new next s old
  right h k next' new' e f = rw (h, eq-eqb (length old) outgoing k, e, f)
