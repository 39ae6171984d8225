-- Four bytes packed into a number are its bytes, and so are the four bytes from a place on.
-- Assumes nothing.
use Rattle.std.specs.Prelude.{◌≡◌, List, [], ◌∷◌, ℕ, ◌+◌, ◌*◌, ◌/◌, ◌%◌, ◌-◌, ◌<◌, ◌≤◌, length, get_or, take, drop}
use Rattle.std.proofs.Common.{sym, ap, ◌∙◌, add-suc, add-zero, add-one, arith, le-leb, drop-cons, take_all, length-drop}
use Rattle.std.proofs.lemmas.List.{get_or-drop}
use Rattle.std.proofs.lemmas.Bool.{lt-leb}
use Rattle.outcome.specs.Bytes.{Bytes}
use Rattle.outcome.specs.Bytes.Kept.{bytes_nil, bytes_cons}
use Rattle.four_bytes.specs.FourBytes.{number_of, four_of, number_at}

pub four : {a b c d a' b' c' d' : ℕ} → a ≡ a' → b ≡ b' → c ≡ c' → d ≡ d' → a ∷ b ∷ c ∷ d ∷ [] ≡ a' ∷ b' ∷ c' ∷ d' ∷ []
four p q r s = λ i. p i ∷ q i ∷ r i ∷ s i ∷ []

pub bytes_four : (a b c d : ℕ) → a < 256 → b < 256 → c < 256 → d < 256 → Bytes (a ∷ b ∷ c ∷ d ∷ [])
bytes_four a b c d ha hb hc hd = bytes_cons a (b ∷ c ∷ d ∷ []) ha (bytes_cons b (c ∷ d ∷ []) hb (bytes_cons c (d ∷ []) hc (bytes_cons d [] hd bytes_nil)))

pub bytes_four_of : (n : ℕ) → Bytes (four_of n)
bytes_four_of n = bytes_four (n % 256) (n / 256 % 256) (n / 65536 % 256) (n / 16777216 % 256) (omega arith) (omega arith) (omega arith) (omega arith)

pub four_of-packed : (a b c d : ℕ) → a < 256 → b < 256 → c < 256 → d < 256
    → four_of (a + b * 256 + c * 65536 + d * 16777216) ≡ a ∷ b ∷ c ∷ d ∷ []
four_of-packed a b c d ha hb hc hd = four (omega arith) (omega arith) (omega arith) (omega arith)

-- ---- the four bytes from i on

pub four-at : (w : List ℕ) (i : ℕ) → i + 4 ≤ length w
    → take 4 (drop i w) ≡ get_or w i 0 ∷ get_or w (i + 1) 0 ∷ get_or w (i + 2) 0 ∷ get_or w (i + 3) 0 ∷ []
four-at w i l =
    let a : ℕ = get_or w i 0 in
    let b : ℕ = get_or w (i + 1) 0 in
    let c : ℕ = get_or w (i + 2) 0 in
    ap (take 4) (drop-cons w i 0 (omega arith) ∙ ap (λ (k : ℕ). a ∷ drop k w) (sym (add-one i)))
    ∙ ap (λ (t : List ℕ). a ∷ take 3 t) (drop-cons w (i + 1) 0 (omega arith) ∙ ap (λ (k : ℕ). b ∷ drop k w) (sym (add-suc i 1)))
    ∙ ap (λ (t : List ℕ). a ∷ b ∷ take 2 t) (drop-cons w (i + 2) 0 (omega arith) ∙ ap (λ (k : ℕ). c ∷ drop k w) (sym (add-suc i 2)))
    ∙ ap (λ (t : List ℕ). a ∷ b ∷ c ∷ take 1 t) (drop-cons w (i + 3) 0 (omega arith))

module _ (w : List ℕ) (i : ℕ) where
  pub number-within : i + 4 ≤ length w → number_at w i ≡ number_of (take 4 (drop i w))
  unfolding number_at
  number-within l = rw (le-leb (i + 4) (length w) l)

  pub number_short : length w < i + 4 → 0 ≡ number_at w i
  unfolding number_at
  number_short l = rw (lt-leb (i + 4) (length w) l)

  pub number_here : {r : ℕ} → i + 4 ≤ length w → r ≡ get_or w i 0 + get_or w (i + 1) 0 * 256 + get_or w (i + 2) 0 * 65536 + get_or w (i + 3) 0 * 16777216
      → r ≡ number_at w i
  number_here l e = e ∙ ap number_of (sym (four-at w i l)) ∙ sym (number-within l)

  -- the same of the bytes from i on, as a slice of their own
  pub number_rest : {rest : List ℕ} {r : ℕ} → rest ≡ take (length w - i) (drop i w) → length rest + i ≡ length w → 4 ≤ length rest
      → r ≡ get_or rest 0 0 + get_or rest 1 0 * 256 + get_or rest 2 0 * 65536 + get_or rest 3 0 * 16777216 → r ≡ number_at w i
  number_rest {rest} q l h e =
      let all : rest ≡ drop i w = q ∙ take_all (length w - i) (drop i w) (omega (arith, length-drop i w)) in
      number_here (omega arith)
      (rw (all, get_or-drop i w 0 0, add-zero, get_or-drop i w 1 0, get_or-drop i w 2 0, get_or-drop i w 3 0) at e)

  pub bytes_there : Bytes w → i + 4 ≤ length w → four_of (number_at w i) ≡ take 4 (drop i w)
  bytes_there h l =
      ap four_of (number-within l ∙ ap number_of (four-at w i l))
      ∙ four_of-packed (get_or w i 0) (get_or w (i + 1) 0) (get_or w (i + 2) 0) (get_or w (i + 3) 0) (h i) (h (i + 1)) (h (i + 2)) (h (i + 3))
      ∙ sym (four-at w i l)
