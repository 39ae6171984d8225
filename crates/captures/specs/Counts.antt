-- The counts of an edge capture and their distances (document 02, §5: "for each edge, a free-running 16-bit tick count, high byte first. It wraps;
-- the distance of two edges is the difference modulo 65,536").
-- Assumes nothing.
use Rattle.std.specs.Prelude.{Bool, ◌&&◌, List, [], ◌∷◌, ℕ, ◌+◌, ◌-◌, ◌*◌, ◌/◌, ◌%◌, ◌<◌, leb}
pub mod Bytes

-- the counts that the bytes of a capture are
unfoldable pub counts_of : List ℕ → List ℕ
counts_of [] = []
counts_of (h ∷ []) = []
counts_of (h ∷ l ∷ bytes) = (256 * h + l) ∷ counts_of bytes

-- the bytes of counts
unfoldable pub bytes_of : List ℕ → List ℕ
bytes_of [] = []
bytes_of (c ∷ cs) = c / 256 ∷ c % 256 ∷ bytes_of cs

-- each is a number of 16 bits
abbrev pub Counts : List ℕ → Type 0
Counts [] = Unit {0}
Counts (c ∷ cs) = (c < 65536) × Counts cs

-- from the edge with count a to the next, with count b
abbrev pub distance : ℕ → ℕ → ℕ
distance a b = (b + 65536 - a) % 65536

-- the distances of edges that follow an edge with count a
unfoldable pub distances : ℕ → List ℕ → List ℕ
distances a [] = []
distances a (b ∷ bs) = distance a b ∷ distances b bs

-- the runs of edges with these counts, in ticks: the distances of each from the one before
unfoldable pub runs_of : List ℕ → List ℕ
runs_of [] = []
runs_of (c ∷ cs) = distances c cs

-- the count of the edge at distance d from one with count a
abbrev pub onward : ℕ → ℕ → ℕ
onward a d = (a + d) % 65536

-- the counts of edges at these distances after an edge with count a
unfoldable pub edges : ℕ → List ℕ → List ℕ
edges a [] = []
edges a (d ∷ ds) = onward a d ∷ edges (onward a d) ds

-- ---- Channel bits: "Eight ticks are a Channel bit: a distance d is (d+4)/8 bits rounded down, legal from 3 to 11"

abbrev pub bits_in : ℕ → ℕ
bits_in d = (d + 4) / 8

abbrev pub legal : ℕ → Bool
legal d = leb 3 (bits_in d) && leb (bits_in d) 11
