-- What is chosen, by the automaton (document 01, "Channel bits"): before a word, and in a whole frame. `fits` says for which traces; for the
-- others, and for numbers that are no symbol's, no bits are chosen and the trace stays as it is.
-- Assumes nothing.
use Rattle.std.specs.Prelude.{cond, ◌&&◌, List, [], ◌∷◌, ◌++◌, ℕ, ltb}
use Rattle.bits.specs.Bits.{number}
use Rattle.merging.specs.Automaton.{passes}
use Rattle.merging.specs.Chosen.{before_word}
use Rattle.words.specs.Symbols.{bits_at}
use Rattle.traces.specs.declared.Choice.{Choice}
use Rattle.traces.specs.declared.Tally.{Tally}
use Rattle.traces.specs.declared.Trace.{Trace}
use Rattle.traces.specs.Traces.{trace_after, tally_dsv, fits}
use Rattle.header_choice.specs.HeaderChoice.{after_header, tail_choice}
use Rattle.choosing.specs.declared.FrameChoice.{FrameChoice}
pub mod Rows
pub mod Digits

-- the Merging bits before a word
abbrev pub before_next_word : Trace → List ℕ → List ℕ
before_next_word t next = before_word (passes t.run next) (tally_dsv t.tally next)

-- those and the word, as a number, and the trace after them
unfoldable pub chosen_word : Trace → List ℕ → Choice
chosen_word t next = record { bits = number 0 (before_next_word t next ++ next); after = trace_after t (before_next_word t next ++ next) }

-- symbol k
unfoldable pub word_choice : Trace → ℕ → Choice
word_choice t k = cond (fits t && ltb k 258) (chosen_word t (bits_at k)) (record { bits = 0; after = t })

-- the bits of some symbols, one after the other
unfoldable pub words_chosen : Trace → List ℕ → List ℕ
words_chosen t [] = []
words_chosen t (k ∷ ks) = (word_choice t k).bits ∷ words_chosen (word_choice t k).after ks

-- the trace after some symbols
unfoldable pub words_trace : Trace → List ℕ → Trace
words_trace t [] = t
words_trace t (k ∷ ks) = words_trace (word_choice t k).after ks

-- a frame: its words after a Sync Header, and the Merging bits before the next one
unfoldable pub frame_choice : Tally → List ℕ → FrameChoice
frame_choice t ks =
    record {
      words = words_chosen (after_header t) ks;
      tail = (tail_choice (words_trace (after_header t) ks)).bits;
      after = (tail_choice (words_trace (after_header t) ks)).after;
    }
