-- Captures kept as lists of run lengths (document 02, §5: "Turning a capture into runs and back gives the same distances; the first count's own value is
-- stored in front as one such number, and an empty capture is an empty list").
-- Assumes nothing.
use Rattle.std.specs.Prelude.{◌≡◌, Bool, ◌&&◌, List, [], ◌∷◌, ◌++◌, ℕ, ◌-◌, ◌%◌, ◌<◌, ◌≤◌, eqb, leb, length, replicate}
use Rattle.outcome.specs.Say.{Say, done, refused, one_then_two, cleared, Outcome, answered}
use Rattle.captures.specs.Counts.{counts_of, bytes_of, Counts, distances, edges}
use Rattle.captures.specs.Number.{shortest}
pub mod One
pub mod Filled
pub mod Lengths

-- the numbers that are kept of counts: the first count's own value, and then the distances
unfoldable pub kept : List ℕ → List ℕ
kept [] = []
kept (c ∷ cs) = c ∷ distances c cs

-- the counts that such numbers stand for
unfoldable pub restored : List ℕ → List ℕ
restored [] = []
restored (c ∷ ds) = c ∷ edges c ds

-- numbers written one after the other
unfoldable pub written : List ℕ → List ℕ
written [] = []
written (n ∷ ns) = shortest n ++ written ns

-- l is the list of the numbers ns: each in shortest form and not above 65,535, and none beyond the 32,768th
pub record ListOf (ns l : List ℕ) : Type 0 where
  pub is : l ≡ written ns
  pub small : Counts ns
  pub few : length ns ≤ 32768

-- the list of a capture, and the capture of such numbers
unfoldable pub run_list : List ℕ → List ℕ
run_list capture = written (kept (counts_of capture))

unfoldable pub capture_of : List ℕ → List ℕ
capture_of ns = bytes_of (restored ns)

-- "the used length comes back and the rest is zero"
abbrev pub filled : ℕ → List ℕ → List ℕ
filled room l = l ++ replicate (room - length l) 0

-- ---- the two entries

-- a capture of even length, not above 64 KiB
abbrev pub right_capture : List ℕ → Bool
right_capture capture = eqb (length capture % 2) 0 && leb (length capture) 65536

-- capture to list: 1, 2
unfoldable pub keeping : List ℕ → List ℕ → Outcome
keeping capture old =
    answered (one_then_two (right_capture capture) (eqb (length old) 98304) (done (length (run_list capture) ∷ []))) 98304
    (filled 98304 (run_list capture)) old

-- list to capture: 1, 2, 19. All that may be said of l, and left in a buffer that held `old`
pub data Restores (l old : List ℕ) : Say → List ℕ → Type 0 where
  too_long : 98304 < length l → Restores l old (refused 1 []) (cleared 65536 old)
  wrong-outgoing : length l ≤ 98304 → (length old ≡ 65536 → ⊥) → Restores l old (refused 2 []) (cleared 65536 old)
  no_list : length l ≤ 98304 → length old ≡ 65536 → ((ns : List ℕ) → ListOf ns l → ⊥) → Restores l old (refused 19 []) (cleared 65536 old)
  is_list : {ns : List ℕ} → length l ≤ 98304 → length old ≡ 65536 → ListOf ns l
      → Restores l old (done (length (capture_of ns) ∷ [])) (filled 65536 (capture_of ns))
