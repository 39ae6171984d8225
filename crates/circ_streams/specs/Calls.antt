-- Public calls of the CIRC writer and reader (document 01, "CIRC (Annex C)"; document 02, §9): a list of them from `new()`, with anything coming in and any buffers,
-- refused ones among them.
-- Assumes nothing.
use Rattle.std.specs.Prelude.{Bool, cond, ◌&&◌, List, [], ◌∷◌, map, ℕ, eqb, length}
use Rattle.calls.specs.Step.{Step}
use Rattle.calls.specs.Calls.{run, done_of}
use Rattle.circ.specs.Steps.{fits_writer, writes, fits_reader, reads}
use Rattle.circ.specs.Chains.{fresh_writer}
use Rattle.circ.specs.Marked.{fresh_reader}
use Rattle.circ.specs.Rings.{Rings, writes_in_place, fresh_writer_rings, reads_in_place, fresh_reader_rings}
pub mod Alike
pub mod Done
pub mod Streams

-- a call: what comes in, and what the outgoing buffer held
pub record Call (X : Type 0) : Type 0 where
  pub incoming : X
  pub out : List ℕ

-- what comes into the reader: a frame and its marks
pub record MarkedFrame : Type 0 where
  pub frame : List ℕ
  pub marks : List ℕ

abbrev pub marked : List ℕ → List ℕ → MarkedFrame
marked frame marks = record { frame = frame; marks = marks }

-- what a call does in a state, where the bytes that wait shift along
abbrev pub writer_does : List ℕ → Call (List ℕ) → Step (List ℕ)
writer_does s c = writes s c.incoming c.out

abbrev pub reader_does : List ℕ → Call MarkedFrame → Step (List ℕ)
reader_does s c = reads s c.incoming.frame c.incoming.marks c.out

-- and where they stay (document 02, §9): the same over any list of calls (`writer_alike`, `reader_alike`)
abbrev pub writer_in_place : Rings → Call (List ℕ) → Step Rings
writer_in_place s c = writes_in_place s c.incoming c.out

abbrev pub reader_in_place : Rings → Call MarkedFrame → Step Rings
reader_in_place s c = reads_in_place s c.incoming.frame c.incoming.marks c.out

-- the calls that are done, of a list of them from `new()` on
abbrev pub writer_done : List (Call (List ℕ)) → List (Step (List ℕ))
writer_done cs = done_of (run writer_does fresh_writer cs)

abbrev pub reader_done : List (Call MarkedFrame) → List (Step (List ℕ))
reader_done cs = done_of (run reader_does fresh_reader cs)

-- the same of the public steps
abbrev pub writer_done_in_place : List (Call (List ℕ)) → List (Step Rings)
writer_done_in_place cs = done_of (run writer_in_place fresh_writer_rings cs)

abbrev pub reader_done_in_place : List (Call MarkedFrame) → List (Step Rings)
reader_done_in_place cs = done_of (run reader_in_place fresh_reader_rings cs)

-- whether all lengths are right
abbrev pub fits : {X : Type 0} → (X → Bool) → ℕ → Call X → Bool
fits test outgoing c = test c.incoming && eqb (length c.out) outgoing

abbrev pub fits_both : MarkedFrame → Bool
fits_both x = fits_reader x.frame x.marks

-- the calls of which all are: these are done (`writer_done_lem`, `reader_done_lem`)
unfoldable pub fitting : {X : Type 0} → (X → Bool) → ℕ → List (Call X) → List (Call X)
fitting test outgoing [] = []
fitting test outgoing (c ∷ cs) = cond (fits test outgoing c) (c ∷ fitting test outgoing cs) (fitting test outgoing cs)

-- what came into the writer's calls that are done, and into the reader's
abbrev pub incomings : {X : Type 0} → List (Call X) → List X
incomings cs = map (λ c. c.incoming) cs

abbrev pub writer_frames : List (Call (List ℕ)) → List (List ℕ)
writer_frames cs = incomings (fitting fits_writer 32 cs)

abbrev pub reader_frames : List (Call MarkedFrame) → List MarkedFrame
reader_frames cs = incomings (fitting fits_both 24 cs)

-- what the buffers of steps hold
abbrev pub outs : {S : Type 0} → List (Step S) → List (List ℕ)
outs ts = map (λ t. t.out) ts
