-- The Q bytes and the P bytes are the parity of their words.
-- Assumes nothing.
use Rattle.std.specs.Prelude.{◌≡◌, refl, List, [], ◌∷◌, ◌++◌, ℕ, suc, length, take, drop}
use Rattle.std.proofs.Common.{ap₂, subst, append-nil, mod-eq_of_lt}
use Rattle.outcome.specs.Bytes.{Bytes}
use Rattle.outcome.specs.Bytes.Kept.{bytes_take, bytes_drop, bytes_nil}
use Rattle.codeword.specs.Parity.{Parity}
use Rattle.circ.specs.Chains.{with_q, with_p}
use Rattle.circ.specs.Codes.{as_bytes, parity, parity_between, q_of, p_of}

as_is : (w : List ℕ) → Bytes w → as_bytes w ≡ w
unfolding as_bytes
as_is [] h = refl
as_is (x ∷ w) h = ap₂ ◌∷◌ (mod-eq_of_lt (h 0)) (as_is w (λ i. h (suc i)))

-- the parity of bytes makes a codeword
pub parity_right : (a b : List ℕ) → Bytes a → Bytes b → Parity 4 (parity_between a b) (a ++ (parity_between a b ++ b))
unfolding parity_between
parity_right a b ha hb =
    subst (λ (t : List ℕ). Parity 4 (parity a b).0 (t ++ ((parity a b).0 ++ b))) (as_is a ha)
    (subst (λ (t : List ℕ). Parity 4 (parity a b).0 (as_bytes a ++ ((parity a b).0 ++ t))) (as_is b hb) (parity a b).1)

-- it is four bytes, whatever stands around it
pub four_bytes : (a b : List ℕ) → length (parity_between a b) ≡ 4
unfolding parity_between
four_bytes a b = (parity a b).1.long

pub bytes_parity : (a b : List ℕ) → Bytes (parity_between a b)
unfolding parity_between
bytes_parity a b = (parity a b).1.bytes

-- with them, a C2 word and a C1 word are codewords
pub q_parity : (w : List ℕ) → Bytes w → Parity 4 (q_of w) (with_q q_of w)
unfolding q_of with_q
q_parity w h = parity_right (take 12 w) (drop 16 w) (bytes_take 12 w h) (bytes_drop 16 w h)

pub p_parity : (w : List ℕ) → Bytes w → Parity 4 (p_of w) (with_p p_of w)
unfolding p_of with_p
p_parity w h = subst (λ (t : List ℕ). Parity 4 (parity_between w []) (w ++ t)) (append-nil (parity_between w [])) (parity_right w [] h bytes_nil)
