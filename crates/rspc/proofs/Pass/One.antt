-- The pass over the codewords of a parity has one outcome.
-- Assumes nothing.
use Rattle.std.specs.Prelude.{◌≡◌, ◌⊎◌, Bool, List, ℕ, ◌<◌, ◌≤◌, get_or}
use Rattle.std.proofs.Common.{sym, ◌∙◌, inl, inr, ext_get_or}
use Rattle.outcome.specs.First.Found.{lt-or-le}
use Rattle.lists.specs.Agree.{same-front, same_back}
use Rattle.rspc.specs.declared.Parity.{Parity}
use Rattle.rspc.specs.Either.{end_of}
use Rattle.rspc.proofs.Either.Bytewise.{covers}
use Rattle.rspc.specs.Place.One.{in_place_one}
use Rattle.rspc.specs.Pass.{Passed}
use Rattle.rspc.specs.PassInPlace.{each_near, Pass}

-- what a pass makes of a list is one list
pub passed_one : (parity : Parity) (s t u : List ℕ) → Passed parity s t → Passed parity s u → t ≡ u
passed_one parity s t u p q = ext_get_or 0 t u (p.long ∙ sym q.long) (λ i l. at i (lt-or-le i 12) (lt-or-le i (end_of parity)))
  where
    at : (i : ℕ) → (i < 12) ⊎ (12 ≤ i) → (i < end_of parity) ⊎ (end_of parity ≤ i) → get_or t i 0 ≡ get_or u i 0
    at i (inl h) k = same-front 12 t u (p.before ∙ sym q.before) i h
    at i (inr h) (inl k) = covers parity t u (λ n l. p.words n l ∙ sym (q.words n l)) i h k
    at i (inr h) (inr k) = same_back (end_of parity) t u (p.after ∙ sym q.after) i k

-- two outcomes of the pass coincide
pub pass_one : (parity : Parity) (s : List ℕ) (a b : Bool) (t u : List ℕ) → Pass parity s a t → Pass parity s b u → (a ≡ b) × (t ≡ u)
pass_one parity s a b t u =
    in_place_one (λ s r t. (r ≡ each_near parity s) × Passed parity s t) s a b t u
    (λ e p q. (p.0 ∙ sym q.0, passed_one parity s t u p.1 q.1))
