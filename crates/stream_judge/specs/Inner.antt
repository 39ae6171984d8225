-- What private functions answer.
-- Assumes nothing.
use Rattle.std.specs.Prelude.{◌≡◌, true, false, Option, None, Some, List, ℕ, ◌%◌, ◌<◌}
use Rattle.channel_frame.specs.ChannelFrame.{word_read}
use Rattle.stream_rules.specs.Offences.{judged, right_word, word_offends}
use Rattle.stream_rules.specs.Judging.{offence}
use Rattle.stream_windows.specs.Window.Found.{Finding}
use Rattle.offence_tests.specs.declared.Offence.{Offence}
use Rattle.offence_tests.specs.Known.{number_of}

-- the first k words of frame f may stand where they stand
abbrev pub WordsRight : List ℕ → ℕ → ℕ → Type 0
WordsRight xs f k = (i : ℕ) → i < k → right_word (f % 98) i (word_read (judged xs) f i) ≡ true

-- no word offends before bit p
abbrev pub WordsClear : List ℕ → ℕ → Type 0
WordsClear xs p = (q : ℕ) → q < p → word_offends (judged xs) q ≡ false

-- nothing offends before bit p
abbrev pub NoneBefore : List ℕ → ℕ → Type 0
NoneBefore xs p = (q : ℕ) → q < p → offence (judged xs) q ≡ 0

-- the first offence and its bit, or none
abbrev pub Finds : List ℕ → Option (Offence × ℕ) → Type 0
Finds xs None = (p : ℕ) × Finding xs 0 p
Finds xs (Some f) = Finding xs (number_of (Some f.0)) f.1
