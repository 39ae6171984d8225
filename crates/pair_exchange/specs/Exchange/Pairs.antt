-- Laws of the exchange of pairs: it undoes itself, and where each byte goes.
-- Assumes nothing.
use Rattle.std.specs.Prelude.{◌≡◌, refl, List, [], ◌∷◌, ◌++◌, ℕ, zero, suc, ◌+◌, ◌*◌, ◌/◌, ◌≤◌, ◌<◌, length, get_or, take, drop, replicate}
use Rattle.std.proofs.Common.{sym, ap, ◌∙◌, arith, length-drop, length-take-le, get_or-take, get_or-drop, ext_get_or}
use Rattle.outcome.specs.Bytes.{Bytes}
use Rattle.outcome.specs.Bytes.Kept.{bytes_cons}
use Rattle.pair_exchange.specs.Exchange.{exchanged, other}

pub length_exchanged : (w : List ℕ) → length (exchanged w) ≡ length w
length_exchanged [] = refl
length_exchanged (a ∷ []) = refl
length_exchanged (a ∷ (b ∷ w)) = ap (λ (n : ℕ). suc (suc n)) (length_exchanged w)

pub exchanged-twice : (w : List ℕ) → exchanged (exchanged w) ≡ w
exchanged-twice [] = refl
exchanged-twice (a ∷ []) = refl
exchanged-twice (a ∷ (b ∷ w)) = ap (λ (t : List ℕ). a ∷ (b ∷ t)) (exchanged-twice w)

pub bytes_exchanged : (w : List ℕ) → Bytes w → Bytes (exchanged w)
bytes_exchanged [] h = h
bytes_exchanged (a ∷ []) h = h
bytes_exchanged (a ∷ (b ∷ w)) h =
    bytes_cons b (a ∷ exchanged w) (h 1) (bytes_cons a (exchanged w) (h 0) (bytes_exchanged w (λ i. h (suc (suc i)))))

-- each place of a whole pair has what stood at the other
pub exchanged-at : (w : List ℕ) (i : ℕ) → i / 2 * 2 + 1 < length w → get_or (exchanged w) i 0 ≡ get_or w (other i) 0
exchanged-at [] i h = absurd (omega arith)
exchanged-at (a ∷ []) i h = absurd (omega arith)
exchanged-at (a ∷ (b ∷ w)) zero h = refl
exchanged-at (a ∷ (b ∷ w)) (suc zero) h = refl
exchanged-at (a ∷ (b ∷ w)) (suc (suc i)) h =
    exchanged-at w i (omega arith) ∙ ap (λ (j : ℕ). get_or (a ∷ (b ∷ w)) j 0) (two_on i)
  where
    two_on : (i : ℕ) → suc (suc (other i)) ≡ other (suc (suc i))
    two_on i = omega arith

-- a list of whole pairs is exchanged by itself
pub exchanged-append : (k : ℕ) (v w : List ℕ) → length v ≡ 2 * k → exchanged (v ++ w) ≡ exchanged v ++ exchanged w
exchanged-append k [] w h = refl
exchanged-append k (a ∷ []) w h = absurd (omega arith)
exchanged-append zero (a ∷ (b ∷ v)) w h = absurd (omega arith)
exchanged-append (suc k) (a ∷ (b ∷ v)) w h = ap (λ (t : List ℕ). b ∷ (a ∷ t)) (exchanged-append k v w (omega arith))

-- and so is a part that begins at a pair
abbrev part : ℕ → ℕ → List ℕ → List ℕ
part i j w = take (2 * j) (drop (2 * i) w)

module _ (i j : ℕ) (w : List ℕ) (h : 2 * i + 2 * j ≤ length w) where
  ends : (v : List ℕ) → length v ≡ length w → length (part i j v) ≡ 2 * j
  ends v e = length-take-le (2 * j) (drop (2 * i) v) (omega (arith, length-drop (2 * i) v))

  at : (x : ℕ) → x < 2 * j → get_or (part i j (exchanged w)) x 0 ≡ get_or (exchanged (part i j w)) x 0
  at x l =
      let there : other (2 * i + x) ≡ 2 * i + other x = omega arith in
      get_or-take (2 * j) (drop (2 * i) (exchanged w)) x 0 l
      ∙ get_or-drop (2 * i) (exchanged w) x 0
      ∙ exchanged-at w (2 * i + x) (omega arith)
      ∙ ap (λ (y : ℕ). get_or w y 0) there
      ∙ sym (get_or-drop (2 * i) w (other x) 0)
      ∙ sym (get_or-take (2 * j) (drop (2 * i) w) (other x) 0 (omega arith))
      ∙ sym (exchanged-at (part i j w) x (omega (arith, ends w refl)))

  pub exchanged-part : take (2 * j) (drop (2 * i) (exchanged w)) ≡ exchanged (take (2 * j) (drop (2 * i) w))
  exchanged-part =
      ext_get_or 0 (part i j (exchanged w)) (exchanged (part i j w)) (ends (exchanged w) (length_exchanged w) ∙ sym (length_exchanged (part i j w) ∙ ends w refl))
      (λ x l. at x (omega (arith, ends (exchanged w) (length_exchanged w))))

-- in a list of zeros it changes nothing
pub exchanged-zeros : (n : ℕ) → exchanged (replicate n 0) ≡ replicate n 0
exchanged-zeros zero = refl
exchanged-zeros (suc zero) = refl
exchanged-zeros (suc (suc n)) = ap (λ (t : List ℕ). 0 ∷ (0 ∷ t)) (exchanged-zeros n)
