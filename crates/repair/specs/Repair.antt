-- What repair answers and hands out (document 01, demand 3 and "P and Q").
-- Assumes nothing.
use Rattle.std.specs.Prelude.{◌≡◌, List, [], ◌∷◌, ℕ, Result, ◌<◌, ◌≤◌, length}
use Rattle.outcome.specs.Say.{Say, done, refused, said_by, cleared}
use Rattle.codeword.specs.Code.{changes}
use Rattle.rspc.specs.Words.{p_words, p_word}
use Rattle.sector.specs.Correct.{CorrectMode01}
use Rattle.repair.specs.declared.RepairError.{RepairError}
use Rattle.repair.specs.declared.RepairError.TheVariants.{WrongIncoming, WrongOutgoing, NoSectorNear}
pub mod One
pub mod Exact
pub mod Clean
pub mod Blind
pub mod Certificate
pub mod Told

-- s differs from what came in, r, in at most one byte of each P codeword; Sync and Q parity are in none, so they do not count
abbrev pub NearP : List ℕ → List ℕ → Type 0
NearP r s = (n : ℕ) → n < p_words → changes (p_word r n) (p_word s n) ≤ 1

-- the Sector that is sought
pub record Sought (r s : List ℕ) : Type 0 where
  pub correct : CorrectMode01 s
  pub near : NearP r s

-- All that repair may say of r and leave in a buffer that held `old`. The order is 1, 2, 5. With a Sector comes the count of its
-- bytes that differ from those that came in, over all 2,352.
pub data Repairs (r old : List ℕ) : Say → List ℕ → Type 0 where
  wrong_incoming : (length r ≡ 2352 → ⊥) → Repairs r old (refused 1 []) (cleared 2352 old)
  wrong-outgoing : length r ≡ 2352 → (length old ≡ 2352 → ⊥) → Repairs r old (refused 2 []) (cleared 2352 old)
  none-near : length r ≡ 2352 → length old ≡ 2352 → ((s : List ℕ) → Sought r s → ⊥) → Repairs r old (refused 5 []) (cleared 2352 old)
  handed_out : {s : List ℕ} → length r ≡ 2352 → length old ≡ 2352 → Sought r s → Repairs r old (done (changes r s ∷ [])) s

abbrev pub refusal_of : RepairError → ℕ
refusal_of WrongIncoming = 1
refusal_of WrongOutgoing = 2
refusal_of NoSectorNear = 5

-- document 01's number and values for each answer
abbrev pub say_of : Result ℕ RepairError → Say
say_of = said_by (λ changed. changed ∷ []) refusal_of
