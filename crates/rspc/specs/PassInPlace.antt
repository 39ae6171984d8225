-- What a function answers that passes over a Sector in place: whether each codeword had a codeword near.
-- Assumes nothing.
use Rattle.std.specs.Prelude.{◌≡◌, Bool, List, ℕ}
use Rattle.outcome.specs.Table.{all_below}
use Rattle.codeword.specs.Nearest.{nearest, is_found}
use Rattle.rspc.specs.declared.Parity.{Parity}
use Rattle.rspc.specs.Either.{words_of, word_of}
use Rattle.rspc.specs.Pass.{Passed}
use Rattle.rspc.specs.Place.{InPlace}

-- each codeword of a Sector has a codeword near
unfoldable pub each_near : Parity → List ℕ → Bool
each_near parity s = all_below (λ n. is_found (nearest 2 (word_of parity s n))) (words_of parity)

-- the pass in place, with whether each word had a codeword near
abbrev pub Pass : Parity → List ℕ → Bool → List ℕ → Type 0
Pass parity = InPlace (λ s r t. (r ≡ each_near parity s) × Passed parity s t)
