-- Delay lines, of which the delay sections of CIRC are made (Annex C.3, C.5, C.8). A line of d bytes holds what came in the last d steps, the oldest first.
-- Assumes nothing.
use Rattle.std.specs.Prelude.{ℕ, ◌+◌, List, [], ◌∷◌, ◌++◌, take, drop, get_or, replicate}

-- what comes out of a line when x goes in: the oldest byte, or x itself where the line has no length
unfoldable pub line_out : List ℕ → ℕ → ℕ
line_out s x = get_or (s ++ (x ∷ [])) 0 0

-- the line after that
unfoldable pub line_next : List ℕ → ℕ → List ℕ
line_next s x = drop 1 (s ++ (x ∷ []))

-- a stage of lines: row k of the word goes through a line of the k-th length of ds; the lines stand one after the other in the store s. Rows past ds do not wait.
unfoldable pub rows_out : List ℕ → List ℕ → List ℕ → List ℕ
rows_out [] s w = w
rows_out (d ∷ ds) s [] = []
rows_out (d ∷ ds) s (x ∷ w) = line_out (take d s) x ∷ rows_out ds (drop d s) w

-- the store after that
unfoldable pub rows_next : List ℕ → List ℕ → List ℕ → List ℕ
rows_next [] s w = s
rows_next (d ∷ ds) s [] = s
rows_next (d ∷ ds) s (x ∷ w) = line_next (take d s) x ++ rows_next ds (drop d s) w

-- how many bytes a stage holds
unfoldable pub total : List ℕ → ℕ
total [] = 0
total (d ∷ ds) = d + total ds

-- so many zeros: a fresh store, or a word of them
abbrev pub zeros : ℕ → List ℕ
zeros n = replicate n 0
