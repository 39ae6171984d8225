-- Where a writer stands between words: at most eight ZEROs stand since the last ONE. What is asked of a word and of a Sync Header there: that the
-- automaton and the rule agree on all Merging bits, that some are allowed, and that what is allowed leads to such a place again.
-- Assumes nothing.
use Rattle.std.specs.Prelude.{Bool, cond, not, ◌&&◌, ◌||◌, List, ◌++◌, ℕ, ◌%◌, eqb, leb, ltb, T}
use Rattle.words.specs.RunRule.{gaps}
use Rattle.merging.specs.Rule.{sync_header_bits, headers}
use Rattle.merging.specs.Automaton.{broken, steps, live, shown, start22, passes}
use Rattle.merging.specs.Chosen.{m100, m010, m001, m000}

-- not broken, and at most eight ZEROs since the last ONE
unfoldable pub ready : ℕ → Bool
ready s = ltb s broken && leb (s % 11) 8

-- the rule, after the bits that s shows, with n Sync Headers
unfoldable pub ruled : ℕ → ℕ → List ℕ → Bool
ruled n s bs = gaps (s % 11) bs && eqb (headers (shown s ++ bs)) n

-- the automaton's end and the rule's answer agree, and an end that is not broken is ready
unfoldable pub agrees : ℕ → Bool → Bool
agrees e rule = cond (live e) (rule && ready e) (not rule)

-- Merging bits m before a word
unfoldable pub word_agrees : List ℕ → ℕ → List ℕ → Bool
word_agrees bs s m = agrees (steps s (m ++ bs)) (ruled 0 s (m ++ bs))

-- ready, and all is well with a word in any of the four ways
unfoldable pub takes : List ℕ → ℕ → Bool
takes bs s =
    (ready s && (word_agrees bs s m100 && (word_agrees bs s m010 && (word_agrees bs s m001 && word_agrees bs s m000))))
    && (live (steps s (m100 ++ bs)) || (live (steps s (m010 ++ bs)) || (live (steps s (m001 ++ bs)) || live (steps s (m000 ++ bs)))))

-- ---- before a Sync Header: the automaton looks at its first 22 bits, since its 23rd is the ONE that makes it one

-- the automaton and the rule agree on Merging bits m
unfoldable pub header_agrees : ℕ → List ℕ → Bool
header_agrees s m = cond (live (steps s (m ++ start22))) (ruled 1 s (m ++ sync_header_bits)) (not (ruled 1 s (m ++ sync_header_bits)))

-- on both, and one of them passes
unfoldable pub takes_header : ℕ → Bool
takes_header s = (header_agrees s m100 && header_agrees s m000) && (live (steps s (m100 ++ start22)) || live (steps s (m000 ++ start22)))

-- what a state that takes a word is sure of
pub record Takes (bs : List ℕ) (s : ℕ) : Type 0 where
  pub at100 : T (word_agrees bs s m100)
  pub at010 : T (word_agrees bs s m010)
  pub at001 : T (word_agrees bs s m001)
  pub at000 : T (word_agrees bs s m000)
  pub some : T (passes s bs m100 || (passes s bs m010 || (passes s bs m001 || passes s bs m000)))
