-- A Sector is handed out exactly when one is sought.
-- Assumes nothing.
use Rattle.std.specs.Prelude.{◌≡◌, List, [], ◌∷◌, ℕ, length, replicate}
use Rattle.std.proofs.Common.{sym, ◌∙◌}
use Rattle.outcome.specs.Say.{Say, done, refused}
use Rattle.outcome.specs.Say.Refusals.{cleared-right, never}
use Rattle.codeword.specs.Code.{changes}
use Rattle.repair.specs.Repair.{Sought, Repairs, wrong_incoming, wrong-outgoing, none-near, handed_out}
use Rattle.repair.specs.Repair.One.{repair_one}

module _ (r old : List ℕ) (lr : length r ≡ 2352) (lo : length old ≡ 2352) where
  -- a Sector that is sought is handed out
  pub repair_finds : {a : Say} {new : List ℕ} (s : List ℕ) → Sought r s → Repairs r old a new → (a ≡ done (changes r s ∷ [])) × (new ≡ s)
  repair_finds s g h = repair_one r old h (handed_out lr lo g)

  -- where there is none, the answer is 5
  pub repair_refuses : {a : Say} {new : List ℕ} → ((s : List ℕ) → Sought r s → ⊥) → Repairs r old a new → (a ≡ refused 5 []) × (new ≡ replicate 2352 0)
  repair_refuses n h =
      let e = repair_one r old h (none-near lr lo n) in (e.0, e.1 ∙ cleared-right 2352 old lo)

done_same : {u v : List ℕ} → done u ≡ done v → u ≡ v
done_same e = cc

-- what is handed out was sought, and comes with its count
pub repair_gives : (r old : List ℕ) {a : Say} {new : List ℕ} {v : List ℕ} → Repairs r old a new → a ≡ done v → Sought r new × (v ≡ changes r new ∷ [])
repair_gives r old (wrong_incoming n) e = never e
repair_gives r old (wrong-outgoing l n) e = never e
repair_gives r old (none-near l k n) e = never e
repair_gives r old (handed_out l k g) e = (g, sym (done_same e))
