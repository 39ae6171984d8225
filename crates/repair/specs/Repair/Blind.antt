-- Repair is blind to what a buffer of the right length held.
-- Assumes nothing.
use Rattle.std.specs.Prelude.{◌≡◌, List, [], ℕ, length}
use Rattle.std.proofs.Common.{sym, ◌∙◌, subst}
use Rattle.outcome.specs.Say.{Say, refused, cleared}
use Rattle.outcome.specs.Say.Refusals.{cleared-right}
use Rattle.repair.specs.Repair.{Repairs, wrong_incoming, wrong-outgoing, none-near, handed_out}
use Rattle.repair.specs.Repair.One.{repair_one}

module _ (r old older : List ℕ) (l : length old ≡ 2352) (k : length older ≡ 2352) where
  both-clear : cleared 2352 older ≡ cleared 2352 old
  both-clear = cleared-right 2352 older k ∙ sym (cleared-right 2352 old l)

  -- what repair may give into one buffer it may give into any other
  pub refilled : {a : Say} {s : List ℕ} → Repairs r old a s → Repairs r older a s
  refilled (wrong_incoming n) = subst (λ (x : List ℕ). Repairs r older (refused 1 []) x) both-clear (wrong_incoming n)
  refilled (wrong-outgoing m n) = absurd (n l)
  refilled (none-near m n o) = subst (λ (x : List ℕ). Repairs r older (refused 5 []) x) both-clear (none-near m k o)
  refilled (handed_out m n o) = handed_out m k o

-- what a buffer of the right length held does not matter
pub blind : (r old older : List ℕ) {a b : Say} {s t : List ℕ} → length old ≡ 2352 → length older ≡ 2352 → Repairs r old a s → Repairs r older b t
    → (a ≡ b) × (s ≡ t)
blind r old older l k h g = repair_one r older (refilled r old older l k h) g
