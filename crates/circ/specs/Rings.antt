-- The CIRC writer and reader whose bytes stay where they are (document 02, §9): the bytes that wait stand in rings, with a place for each row that waits.
-- A step does to the line that the rings stand for what `Steps` says; behind its refusals stands 6: a place is not below its row's wait.
-- Assumes nothing.
use Rattle.std.specs.Prelude.{ℕ, ◌+◌, Bool, List, ◌++◌, length, take, drop}
use Rattle.outcome.specs.Say.{Say, done, refused, demand}
use Rattle.calls.specs.Step.{Step, step_of}
use Rattle.lines.specs.Delay.{zeros}
use Rattle.rings.specs.Rings.{waits, below, onward, unrolled_all}
use Rattle.circ.specs.Rows.{before_c2, between, after_c1, reader_before_c1, reader_between, reader_after_c2}
use Rattle.circ.specs.Chains.{fresh_writer}
use Rattle.circ.specs.Marked.{twice, fresh_reader}
use Rattle.circ.specs.Steps.{writes, reads}
pub mod ByTests

-- a state: the places, and the line that the rings stand for. It tells the store (`writer_known`, `reader_known`).
pub record Rings : Type 0 where
  pub places : List ℕ
  pub line : List ℕ

abbrev pub rings_at : List ℕ → List ℕ → Rings
rings_at places line = record { places = places; line = line }

-- one refusal more, behind those that what is said may have: the test is looked at where a step would be done
abbrev pub lastly : Say → Bool → ℕ → Say
lastly (done vs) test n = demand test n (done vs)
lastly (refused m vs) test n = refused m vs

-- the step t of the line s .line, made where its bytes stay; ws are the waits of the rows that wait.
-- The byte that leaves is overwritten where it stood: each place goes one on, and at the end to 0.
module _ (ws : List ℕ) (outgoing : ℕ) (s : Rings) (old : List ℕ) (t : Step (List ℕ)) where
  abbrev pub turned : Step Rings
  turned = step_of (lastly t.say (below ws s.places) 6) outgoing t.out (rings_at (onward ws s.places) t.next) s old

-- ---- the writer

-- how long each row waits, stage after stage
unfoldable pub writer_waits : List ℕ
writer_waits = before_c2 ++ (between ++ after_c1)

abbrev pub writer_rings : List ℕ → List ℕ → Rings
writer_rings places store = rings_at places (unrolled_all writer_waits places store)

-- the step of `writes`, in rings
abbrev pub writes_in_place : Rings → List ℕ → List ℕ → Step Rings
writes_in_place s frame out = turned (waits writer_waits) 32 s out (writes s.line frame out)

-- 12, 27 and 16 rows wait before, between and after
abbrev pub fresh_writer_rings : Rings
fresh_writer_rings = rings_at (zeros (length (waits writer_waits))) fresh_writer

-- ---- the reader

unfoldable pub reader_waits : List ℕ
reader_waits = reader_before_c1 ++ (reader_between ++ reader_after_c2)

-- with the marks: each stands in a ring of its own, behind those of the bytes
unfoldable pub marked_waits : List ℕ
marked_waits = twice reader_before_c1 ++ (twice reader_between ++ reader_after_c2)

-- how many rows have a place before C1, and between C1 and C2: 16 and 27
abbrev pub places_before : ℕ
places_before = length (waits reader_before_c1)

abbrev pub places_between : ℕ
places_between = length (waits reader_between)

-- the places of all rings: a mark's is its byte's
unfoldable pub shared : List ℕ → List ℕ
shared places = twice (take places_before places) ++ (twice (take places_between (drop places_before places)) ++ drop (places_before + places_between) places)

abbrev pub reader_rings : List ℕ → List ℕ → Rings
reader_rings places store = rings_at places (unrolled_all marked_waits (shared places) store)

-- the step of `reads`, in rings
abbrev pub reads_in_place : Rings → List ℕ → List ℕ → List ℕ → Step Rings
reads_in_place s frame marks out = turned (waits reader_waits) 24 s out (reads s.line frame marks out)

-- 16, 27 and 13 rows wait before, between and after
abbrev pub fresh_reader_rings : Rings
fresh_reader_rings = rings_at (zeros (length (waits reader_waits))) fresh_reader
