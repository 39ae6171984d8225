-- Scrambling (clause 15): bytes 12 to 2,351 of a Sector are scrambled according to Annex B; its Sync is left.
-- Assumes nothing.
use Rattle.std.specs.Prelude.{List, ◌++◌, ℕ, ◌+◌, take, drop}
use Rattle.outcome.specs.Say.{Outcome}
use Rattle.xor.specs.Added.{added}
use Rattle.entry.specs.Entry.{answering}
use Rattle.sequence.specs.Sequence.{sequence}
pub mod Twice

-- added modulo 2 to the sequence from byte 12 on
unfoldable pub scrambled : List ℕ → List ℕ
scrambled sector = take 12 sector ++ added (drop 12 sector) sequence

-- what `scramble` answers and leaves, of the Sector and of what the outgoing buffer held
abbrev pub scrambling : List ℕ → List ℕ → Outcome
scrambling sector old = answering scrambled sector old
