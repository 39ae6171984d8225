-- What becomes of a word without marks: it is marked exactly where no codeword is near it.
-- Assumes nothing.
use Rattle.std.specs.Prelude.{◌≡◌, refl, ◌⊎◌, List, ℕ, ◌≤◌, length}
use Rattle.std.proofs.Common.{inl, inr, arith, length-set}
use Rattle.std.proofs.Math.Option.{Option, none, some}
use Rattle.outcome.specs.Bytes.{Bytes}
use Rattle.codeword.specs.Code.{Near}
use Rattle.codeword.specs.Nearest.{nearest, verdict, mended, found_or}
use Rattle.codeword.specs.declared.Verdict.{Verdict}
use Rattle.codeword.specs.declared.Verdict.TheVariants as verdicts
use Rattle.codeword.specs.Nearest.Finds.{nearest_sound, nearest-none}
use Rattle.circ.specs.Codes.{mark_of, corrected, word_mark}

-- the mark of a word: 1 and no codeword is near it, or 0 and what is handed on is near it
pub judged : (w : List ℕ) → Bytes w → length w ≤ 255 → ((word_mark w ≡ 1) × ((c : List ℕ) → Near 4 w c → ⊥)) ⊎ ((word_mark w ≡ 0) × Near 4 w (corrected w))
unfolding word_mark corrected
judged w bytes short = go (nearest 4 w) refl
  where
    go : (o : Option (List ℕ)) → nearest 4 w ≡ o → ((mark_of o ≡ 1) × ((c : List ℕ) → Near 4 w c → ⊥)) ⊎ ((mark_of o ≡ 0) × Near 4 w (found_or w o))
    go (some c) p = inr (refl, nearest_sound 4 w bytes c p)
    go none p = inl (refl, nearest-none 4 w bytes (omega arith) short p)

-- bytes stay bytes
pub bytes_corrected : (w : List ℕ) → Bytes w → Bytes (corrected w)
unfolding corrected
bytes_corrected w bytes = go (nearest 4 w) refl
  where
    go : (o : Option (List ℕ)) → nearest 4 w ≡ o → Bytes (found_or w o)
    go (some c) p = (nearest_sound 4 w bytes c p).bytes
    go none p = bytes

-- a word keeps its length
pub length-corrected : (w : List ℕ) → length (corrected w) ≡ length w
unfolding corrected nearest
length-corrected w = go (verdict 4 w)
  where
    go : (v : Verdict) → length (found_or w (mended w v)) ≡ length w
    go verdicts.Clean = refl
    go (verdicts.Change i b) = length-set w i b
    go verdicts.Lost = refl
