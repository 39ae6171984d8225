-- A window on a stream: 35 bits, eleven before a bit and 24 from it on, show which offence is at that bit.
-- Assumes nothing.
use Rattle.std.specs.Prelude.{Bool, cond, not, ◌&&◌, ◌||◌, List, ◌++◌, ℕ, ◌+◌, ◌-◌, ◌/◌, ◌%◌, eqb, replicate}
use Rattle.words.specs.Words.{sync_header}
use Rattle.fields.specs.Fields.{field_at}
use Rattle.stream_rules.specs.Offences.{right_word, word_place}
use Rattle.stream_rules.specs.Judging.{lowest}
pub mod Lead
pub mod Shows
pub mod Onward
pub mod Found

-- the stream with 16 ZEROs before it, so that no bit is special
abbrev pub led : List ℕ → List ℕ
led B = replicate 16 0 ++ B

-- the window at bit p
unfoldable pub window : List ℕ → ℕ → ℕ
window B p = field_at (led B) (p + 5) 35

-- a run offends in it
abbrev pub run_in : ℕ → Bool
run_in v = eqb (v / 8388608 % 4) 3 || (eqb (v / 8388608 % 8) 5 || eqb (v / 8388608) 2048)

-- a Sync Header begins in it
abbrev pub head_in : ℕ → Bool
head_in v = eqb (v % 16777216) sync_header

-- one is missing at bit p, or extra
abbrev pub head_wrong : ℕ → ℕ → Bool
head_wrong p v = cond (eqb (p % 588) 0) (not (head_in v)) (head_in v)

-- a word that begins at bit p is wrong
abbrev pub word_wrong : ℕ → ℕ → Bool
word_wrong p v = word_place p && not (right_word (p / 588 % 98) ((p % 588 - 27) / 17) (v % 16777216 / 1024))

-- the number of the offence that the window at bit p shows, or 0
unfoldable pub offence_in : ℕ → ℕ → ℕ
offence_in p v = lowest (run_in v) (head_wrong p v) (word_wrong p v)
