-- The bytes that `generator` gives as parity are the Q bytes and the P bytes, since there is only one choice.
-- Assumes nothing.
use mathlib.Core.Path.{◌≡◌, refl, ap, ap₂, ◌∙◌}
use mathlib.Core.List.{List, [], ◌∷◌, ◌++◌, append-nil, append_assoc}
use Prim.Native.Nat.{ℕ}
use native.Mathlib.Omega.{arith}
use lib.ListN.{length, take, drop, get_or, set}
use lib.Seq.{sets-eq}
use Rattle.outcome.specs.Bytes.{Bytes}
use Rattle.codeword.specs.Parity.{Parity}
use Rattle.codeword.specs.Parity.One.{parity_one, parity_end_one}
use Rattle.circ.specs.Chains.{with_q, with_p}
use Rattle.circ.specs.Codes.{q_of, p_of}
use Rattle.circ.specs.Codes.Parities.{q_parity, p_parity}

-- a list of four bytes
four : (q : List ℕ) → length q ≡ 4 → get_or q 0 0 ∷ get_or q 1 0 ∷ get_or q 2 0 ∷ get_or q 3 0 ∷ [] ≡ q
four [] e = absurd (omega arith)
four (a ∷ []) e = absurd (omega arith)
four (a ∷ b ∷ []) e = absurd (omega arith)
four (a ∷ b ∷ c ∷ []) e = absurd (omega arith)
four (a ∷ b ∷ c ∷ d ∷ []) e = refl
four (a ∷ b ∷ c ∷ d ∷ x ∷ q) e = absurd (omega arith)

module _ (w q : List ℕ) (bytes : Bytes w) where
  q_is : Parity 4 q (take 12 w ++ (q ++ drop 16 w)) → q ≡ q_of w
  unfolding with_q
  q_is P = parity_one 4 (take 12 w) q (q_of w) (drop 16 w) (omega arith) P (q_parity w bytes)

  -- the four stores into rows 12 to 15
  pub filled_q : length w ≡ 28 → Parity 4 q (take 12 w ++ (q ++ drop 16 w))
      → set (set (set (set w 12 (get_or q 0 0)) 13 (get_or q 1 0)) 14 (get_or q 2 0)) 15 (get_or q 3 0) ≡ with_q q_of w
  unfolding with_q
  filled_q e P =
      sets-eq (get_or q 0 0 ∷ get_or q 1 0 ∷ get_or q 2 0 ∷ get_or q 3 0 ∷ []) w 12 (omega arith)
      ∙ append_assoc (take 12 w) (get_or q 0 0 ∷ get_or q 1 0 ∷ get_or q 2 0 ∷ get_or q 3 0 ∷ []) (drop 16 w)
      ∙ ap (λ (t : List ℕ). take 12 w ++ (t ++ drop 16 w)) (four q P.long ∙ q_is P)

  -- the word in front of the four bytes
  pub filled_p : Parity 4 q (w ++ q) → (v x : List ℕ) → v ≡ w → x ≡ q → v ++ (x ++ []) ≡ with_p p_of w
  unfolding with_p
  filled_p P v x e f = ap₂ ◌++◌ e (append-nil x ∙ f ∙ parity_end_one 4 w q (p_of w) (omega arith) P (p_parity w bytes))
