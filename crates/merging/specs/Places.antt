-- Where Sync Headers stand: at their own places, every 588 bits, and nowhere else.
-- Assumes nothing.
use Rattle.std.specs.Prelude.{◌≡◌, Bool, true, not, ◌&&◌, List, [], ◌∷◌, ◌++◌, ℕ, zero, suc, ◌<◌, length}
use Rattle.merging.specs.Rule.{sync_header_bits, starts}
use Rattle.merging.specs.Automaton.{broken, shown}
pub mod Kept

-- Sync Headers stand in bs exactly at the next own place, which is c bits on, and every 588 bits after it
unfoldable pub placed : ℕ → List ℕ → Bool
placed c [] = true
placed zero (b ∷ bs) = starts sync_header_bits (b ∷ bs) && placed 587 bs
placed (suc c) (b ∷ bs) = not (starts sync_header_bits (b ∷ bs)) && placed c bs

-- c, n bits earlier
abbrev pub earlier : ℕ → ℕ → ℕ
earlier zero c = c
earlier (suc n) c = suc (earlier n c)

-- the Sync Headers of `past` and what follows are at their places if those are of what s shows and what follows; c bits on is the next place
pub record Placed (past : List ℕ) (s c : ℕ) : Type 0 where
  pub state : s < broken
  pub placed_on : (x : List ℕ) → placed 0 (past ++ x) ≡ placed (earlier (length (shown s)) c) (shown s ++ x)
