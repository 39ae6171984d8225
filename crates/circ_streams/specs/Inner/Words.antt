-- The rows of a word with Q or P filled in.
-- Assumes nothing.
use Rattle.std.specs.Prelude.{◌≡◌, List, ◌++◌, ℕ, ◌-◌, ◌≤◌, ◌<◌, take}
use Rattle.std.proofs.Math.Path.{ap}
use Rattle.std.proofs.Common.{◌∙◌, inl, inr, arith, length-take-le, get_or-append-add}
use Rattle.std.proofs.Math.ListN.{length, drop, get_or, length-append, length-drop, get_or-append}
use Rattle.std.proofs.Math.Seq.{get_or-take, get_or-drop}
use Rattle.outcome.specs.Bytes.{Bytes}
use Rattle.outcome.specs.Bytes.Kept.{bytes_append, bytes_take, bytes_drop}
use Rattle.circ.specs.Chains.{with_q, with_p}
use Rattle.circ_streams.specs.Inner.Tables.{Carries}

-- an element of the second of two lists in a row
in_second : (a b : List ℕ) (i : ℕ) → length a ≤ i → get_or (a ++ b) i 0 ≡ get_or b (i - length a) 0
in_second a b i h = ap (λ (j : ℕ). get_or (a ++ b) j 0) (omega arith) ∙ get_or-append-add a b (i - length a) 0

module _ (q : List ℕ → List ℕ) (four : (w : List ℕ) → length (q w) ≡ 4) (w : List ℕ) (e : length w ≡ 28) where
  front : length (take 12 w) ≡ 12
  front = length-take-le 12 w (omega arith)

  pub length-with_q : length (with_q q w) ≡ 28
  unfolding with_q
  length-with_q =
      omega (arith, length-append (take 12 w) (q w ++ drop 16 w), length-append (q w) (drop 16 w), front, four w, length-drop 16 w)

  -- the rows that carry F1 bytes stay as they are
  pub data_row : (r : ℕ) → Carries r → get_or (with_q q w) r 0 ≡ get_or w r 0
  unfolding with_q
  data_row r (inl h) = get_or-append (take 12 w) (q w ++ drop 16 w) 0 r (omega (arith, front)) ∙ get_or-take 12 w r 0 h
  data_row r (inr h) =
      in_second (take 12 w) (q w ++ drop 16 w) r (omega (arith, front, h.0))
      ∙ in_second (q w) (drop 16 w) (r - length (take 12 w)) (omega (arith, front, four w, h.0))
      ∙ get_or-drop 16 w (r - length (take 12 w) - length (q w)) 0
      ∙ ap (λ (i : ℕ). get_or w i 0) (omega (arith, front, four w, h.0))

  pub length-with_p : length (with_p q w) ≡ 32
  unfolding with_p
  length-with_p = omega (arith, length-append w (q w), four w)

  -- rows 0 to 27 stay as they are
  pub low_row : (r : ℕ) → r < 28 → get_or (with_p q w) r 0 ≡ get_or w r 0
  unfolding with_p
  low_row r h = get_or-append w (q w) 0 r (omega arith)

  pub bytes_with_q : Bytes w → Bytes (q w) → Bytes (with_q q w)
  unfolding with_q
  bytes_with_q h k = bytes_append (take 12 w) (q w ++ drop 16 w) (bytes_take 12 w h) (bytes_append (q w) (drop 16 w) k (bytes_drop 16 w h))

  pub bytes_with_p : Bytes w → Bytes (q w) → Bytes (with_p q w)
  unfolding with_p
  bytes_with_p h k = bytes_append w (q w) h k
