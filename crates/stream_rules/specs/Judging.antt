-- What judging one to nine whole Sections answers (document 02, §12: 1, then the first offence; at one bit the lowest of 25 run, 26 header, 27 word).
-- Assumes nothing.
use Rattle.std.specs.Prelude.{Bool, cond, not, ◌&&◌, List, [], ◌∷◌, ℕ, ◌/◌, ◌%◌, eqb, leb, ltb, length}
use Rattle.outcome.specs.First.{first_below}
use Rattle.outcome.specs.Say.{Say, done, refused, demand}
use Rattle.stream_rules.specs.Offences.{judged, run_offends, header_offends, word_offends}
pub mod First

-- the lowest number of what offends at a bit, or 0
abbrev pub lowest : Bool → Bool → Bool → ℕ
lowest run head word = cond run 25 (cond head 26 (cond word 27 0))

-- the number of the offence at bit p, or 0
unfoldable pub offence : List ℕ → ℕ → ℕ
offence B p = lowest (run_offends B p) (header_offends B p) (word_offends B p)

-- the first bit of a stream with an offence, or the stream's length
unfoldable pub first_offence : List ℕ → ℕ
first_offence B = first_below (λ p. not (eqb (offence B p) 0)) (length B)

-- what is said of a stream whose first offence is k at bit p
abbrev pub offence_say : List ℕ → ℕ → ℕ → Say
offence_say B k p = cond (ltb p (length B)) (refused k (p ∷ [])) (done [])

-- what is said of a stream
unfoldable pub verdict : List ℕ → Say
verdict B = offence_say B (offence B (first_offence B)) (first_offence B)

-- one to nine Sections of 7,203 bytes
unfoldable pub right_length : ℕ → Bool
right_length l = eqb (l % 7203) 0 && (leb 1 (l / 7203) && leb (l / 7203) 9)

-- the answer
unfoldable pub judging : List ℕ → Say
judging channel = demand (right_length (length channel)) 1 (verdict (judged channel))
