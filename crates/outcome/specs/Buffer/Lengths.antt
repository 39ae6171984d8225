-- A function that changes nothing between different lengths, and says so: what it leaves where they are the same.
-- Assumes nothing.
use Rattle.std.specs.Prelude.{◌≡◌, Bool, cond, List, ℕ, eqb}
use Rattle.std.proofs.Common.{ap, ◌∙◌, eq-eqb}

pub same_lengths : (r : Bool) (m n : ℕ) (left new old : List ℕ) → (r ≡ eqb m n) × (left ≡ cond r new old) → m ≡ n → left ≡ new
same_lengths r m n left new old (t, e) h = e ∙ ap (λ (b : Bool). cond b new old) (t ∙ eq-eqb m n h)
