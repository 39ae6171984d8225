-- The values of a linear rule below 2 ^ j, each from an earlier one by one sum: what makes a table quick to compute.
-- Assumes nothing.
use mathlib.Core.Path.{◌≡◌, refl, sym, ap, ap₂, ◌∙◌}
use mathlib.Core.List.{List, [], ◌∷◌, ◌++◌, map}
use Prim.Native.Nat.{ℕ, zero, suc, ◌+◌, ◌^◌, ◌≤◌}
use native.Mathlib.Nat.{suc-add, add-suc, add-zero, zero-add, one-mul, pow-suc}
use native.Mathlib.Omega.{arith}
use lib.Bits.{bit_xor, xor_shifted}
use Rattle.outcome.specs.Table.{tabulated}

pub tabulated-append : (f : ℕ → ℕ) (i m n : ℕ) → tabulated f i (m + n) ≡ tabulated f i m ++ tabulated f (i + m) n
tabulated-append f i zero n = ap₂ (λ (x y : ℕ). tabulated f x y) (sym (add-zero i)) (zero-add n)
tabulated-append f i (suc m) n =
    let e : suc i + m ≡ i + suc m = suc-add i m ∙ sym (add-suc i m) in
    ap (tabulated f i) (suc-add m n)
    ∙ ap (λ (l : List ℕ). f i ∷ l) (tabulated-append f (suc i) m n ∙ ap (λ (k : ℕ). tabulated f (suc i) m ++ tabulated f k n) e)

module _ (f : ℕ → ℕ) where
  unfoldable pub spread : ℕ → List ℕ
  spread zero = f 0 ∷ []
  spread (suc j) = spread j ++ map (bit_xor (f (2 ^ j))) (spread j)

  module _ (linear : (a b : ℕ) → f (bit_xor a b) ≡ bit_xor (f a) (f b)) where
    -- above 2 ^ j the rule has its value there, plus what it has below
    above : (j i n : ℕ) → i + n ≤ 2 ^ j → map (bit_xor (f (2 ^ j))) (tabulated f i n) ≡ tabulated f (2 ^ j + i) n
    above j i zero h = refl
    above j i (suc n) h =
        let e : bit_xor (2 ^ j) i ≡ 2 ^ j + i
        = ap (λ (x : ℕ). bit_xor x i) (sym (one-mul (2 ^ j))) ∙ xor_shifted 1 j i (omega arith) ∙ ap (λ (x : ℕ). x + i) (one-mul (2 ^ j)) in
        let p : bit_xor (f (2 ^ j)) (f i) ≡ f (2 ^ j + i) = sym (linear (2 ^ j) i) ∙ ap f e in
        let q : map (bit_xor (f (2 ^ j))) (tabulated f (suc i) n) ≡ tabulated f (suc (2 ^ j + i)) n
        = above j (suc i) n (omega arith) ∙ ap (λ (k : ℕ). tabulated f k n) (add-suc (2 ^ j) i) in
        λ t. p t ∷ q t

    pub spread_is : (j : ℕ) → spread j ≡ tabulated f 0 (2 ^ j)
    unfolding spread
    spread_is zero = refl
    spread_is (suc j) =
        let m : ℕ = 2 ^ j in
        let e : 2 ^ suc j ≡ m + m = pow-suc 2 j ∙ omega arith in
        let g : map (bit_xor (f m)) (tabulated f 0 m) ≡ tabulated f (0 + m) m
        = above j 0 m (omega arith) ∙ ap (λ (k : ℕ). tabulated f k m) (add-zero m ∙ sym (zero-add m)) in
        ap (λ (l : List ℕ). l ++ map (bit_xor (f m)) l) (spread_is j)
        ∙ ap (λ (l : List ℕ). tabulated f 0 m ++ l) g
        ∙ sym (ap (tabulated f 0) e ∙ tabulated-append f 0 m m)
