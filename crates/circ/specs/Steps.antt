-- A step of the CIRC writer and of the CIRC reader (clause 17, Annex C; document 02, §7), on every state and every input: what it says, the state that it
-- hands back, and what the outgoing buffer then holds. Refusals 1 and 2 in this order (document 01, "Numbers that come back").
-- Assumes nothing.
use Rattle.std.specs.Prelude.{ℕ, Bool, ◌&&◌, List, [], ◌∷◌, ◌++◌, eqb, length}
use Rattle.circ.specs.Chains.{writer_out, writer_next}
use Rattle.circ.specs.Codes.{q_of, p_of}
use Rattle.circ.specs.Marked.{marked_out, marked_doubt, marked_next}
use Rattle.calls.specs.Step.{Step}
use Rattle.circ.specs.Step.{stepped}
pub mod Fits

-- 24 bytes in, 32 out
abbrev pub fits_writer : List ℕ → Bool
fits_writer frame = eqb (length frame) 24

abbrev pub writes : List ℕ → List ℕ → List ℕ → Step (List ℕ)
writes s frame out = stepped (fits_writer frame) 32 [] (writer_out q_of p_of s frame) (writer_next q_of p_of s frame) s out

-- 32 bytes and 32 marks in, 24 bytes out, with a doubt mark
abbrev pub fits_reader : List ℕ → List ℕ → Bool
fits_reader frame marks = eqb (length frame) 32 && eqb (length marks) 32

abbrev pub reads : List ℕ → List ℕ → List ℕ → List ℕ → Step (List ℕ)
reads s frame marks out =
    stepped (fits_reader frame marks) 24 (marked_doubt s (frame ++ marks) ∷ []) (marked_out s (frame ++ marks)) (marked_next s (frame ++ marks)) s out
