-- What comes of the search over the passes.
-- Assumes nothing.
use Rattle.std.specs.Prelude.{List, [], ◌∷◌, ℕ}
use Rattle.outcome.specs.Say.{Say, done, refused}
use Rattle.codeword.specs.Code.{changes}
use Rattle.listing.specs.Listed.{listing}
use Rattle.salvaging.specs.Salvage.{ResultOf, NoneFound}

-- what comes of the search, with the buffers: nothing is found and they stay, or the Sector and its list are in them
pub data Works (r : List ℕ) (allowed : ℕ) (old changed : List ℕ) : Say → List ℕ → List ℕ → Type 0 where
  nothing : NoneFound r allowed → Works r allowed old changed (refused 5 []) old changed
  something : {k : ℕ} {s : List ℕ} → ResultOf r allowed k s → Works r allowed old changed (done (k ∷ changes r s ∷ [])) s (listing r s)
