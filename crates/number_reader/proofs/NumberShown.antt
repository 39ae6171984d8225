-- What the first bytes at a place show of the number that stands there.
-- Assumes nothing.
use mathlib.Core.Path.{◌≡◌, sym, ap, ap₂, ◌∙◌}
use mathlib.Core.Logic.{◌⊎◌, inl, inr}
use mathlib.Core.List.{List, [], ◌∷◌, ◌++◌}
use Prim.Native.Nat.{ℕ, suc, ◌+◌, ◌-◌, ◌*◌, ◌/◌, ◌%◌, ◌<◌, ◌≤◌}
use native.Mathlib.Nat.{add-zero}
use native.Mathlib.Numerals.{add-one}
use native.Mathlib.Omega.{arith}
use lib.ListN.{length, get_or, drop, length-drop, length-append, get_or-eq_default}
use lib.Seq.{drop-cons, get_or-drop}
use Rattle.outcome.specs.First.Found.{lt-or-le}
use Rattle.captures.specs.Number.{shortest}
use Rattle.captures.specs.Kept.One.{some_bytes}
use Rattle.captures.specs.Number.Shortest.{Size, one, two, three, sized, shortest_1, shortest_2, shortest_3}
use Rattle.number_reader.specs.Leads.{Stands, NoneStands}
use Rattle.number_reader.specs.Inner.{ByteAt}

-- behind the end there is 0
pub byte_behind : (list : List ℕ) (i : ℕ) → length list ≤ i → ByteAt list i 0
byte_behind list i h = record { is = sym (get_or-eq_default list 0 h); small = omega arith }

pub byte_there : (list : List ℕ) (i r : ℕ) → (r ≡ get_or list i 0) × (r < 256) → ByteAt list i r
byte_there list i r p = record { is = p.0; small = p.1 }

-- so what isn't 0 stands before it
inside : (list : List ℕ) (i r : ℕ) → ByteAt list i r → (r ≡ 0 → ⊥) → i < length list
inside list i r p n = go (lt-or-le i (length list))
  where
    go : (i < length list) ⊎ (length list ≤ i) → i < length list
    go (inl h) = h
    go (inr h) = absurd (n (p.is ∙ get_or-eq_default list 0 h))

module _ (list : List ℕ) (at : ℕ) where
  -- ---- a number stands there

  pub stands_1 : (a : ℕ) → at < length list → ByteAt list at a → a < 128 → Stands list at a 1
  stands_1 a h x k =
      let e = x.is in
      record {
        small = omega arith;
        taken = ap length (sym (shortest_1 a k));
        is =
            drop-cons list at 0 h ∙ ap (λ (i : ℕ). get_or list at 0 ∷ drop i list) (sym (add-one at)) ∙ ap (λ (x : ℕ). x ∷ drop (at + 1) list) (sym e)
            ∙ ap (λ (l : List ℕ). l ++ drop (at + 1) list) (sym (shortest_1 a k));
      }

  two-there : at + 1 < length list → drop at list ≡ get_or list at 0 ∷ get_or list (at + 1) 0 ∷ drop (at + 2) list
  two-there h =
      let k : at < length list = omega arith in
      drop-cons list at 0 k ∙ ap (λ (i : ℕ). get_or list at 0 ∷ drop i list) (sym (add-one at)) ∙ ap (λ (t : List ℕ). get_or list at 0 ∷ t) (drop-cons list (at + 1) 0 h)
      ∙ ap (λ (i : ℕ). get_or list at 0 ∷ get_or list (at + 1) 0 ∷ drop i list) (on at)
    where
      on : (i : ℕ) → suc (i + 1) ≡ i + 2
      on i = omega arith

  three-there : at + 2 < length list → drop at list ≡ get_or list at 0 ∷ get_or list (at + 1) 0 ∷ get_or list (at + 2) 0 ∷ drop (at + 3) list
  three-there h =
      two-there (omega arith) ∙ ap (λ (t : List ℕ). get_or list at 0 ∷ get_or list (at + 1) 0 ∷ t) (drop-cons list (at + 2) 0 h)
      ∙ ap (λ (i : ℕ). get_or list at 0 ∷ get_or list (at + 1) 0 ∷ get_or list (at + 2) 0 ∷ drop i list) (on at)
    where
      on : (i : ℕ) → suc (i + 2) ≡ i + 3
      on i = omega arith

  pub stands_2 : (a b n : ℕ) → ByteAt list at a → ByteAt list (at + 1) b → 128 ≤ a → (b ≡ 0 → ⊥) → b < 128 → n ≡ a - 128 + 128 * b → Stands list at n 2
  stands_2 a b n x y ka nb kb g =
      let h = inside list (at + 1) b y nb in
      let e = x.is in
      let f = y.is in
      let la : a < 256 = x.small in
      let low : 128 ≤ n = omega arith in
      let high : n < 16384 = omega arith in
      let s = shortest_2 n low high in
      let p : a ≡ 128 + n % 128 = omega arith in
      let q : b ≡ n / 128 = omega arith in
      record {
        small = omega arith;
        taken = ap length (sym s);
        is =
            two-there h ∙ ap₂ (λ (x y : ℕ). x ∷ y ∷ drop (at + 2) list) (sym e ∙ p) (sym f ∙ q)
            ∙ ap (λ (l : List ℕ). l ++ drop (at + 2) list) (sym s);
      }

  second : (b c : ℕ) → 128 ≤ b → b < 256 → b ≡ 128 + (b - 128 + 128 * c) % 128
  second b c h k = omega arith

  pub stands_3 : (a b c n : ℕ) → ByteAt list at a → ByteAt list (at + 1) b → ByteAt list (at + 2) c → 128 ≤ a → 128 ≤ b → (c ≡ 0 → ⊥) → c ≤ 3
      → n ≡ a - 128 + 128 * (b - 128) + 16384 * c → Stands list at n 3
  stands_3 a b c n x y z ka kb nc kc m =
      let h = inside list (at + 2) c z nc in
      let e = x.is in
      let f = y.is in
      let g = z.is in
      let la : a < 256 = x.small in
      let lb : b < 256 = y.small in
      let low : 16384 ≤ n = omega arith in
      let s = shortest_3 n low in
      let high : n / 128 ≡ b - 128 + 128 * c = omega arith in
      let p : a ≡ 128 + n % 128 = omega arith in
      let q : b ≡ 128 + n / 128 % 128 = second b c kb lb ∙ ap (λ (k : ℕ). 128 + k % 128) (sym high) in
      let o : c ≡ n / 16384 = omega arith in
      record {
        small = omega arith;
        taken = ap length (sym s);
        is =
            three-there h ∙ ap₂ (λ (x y : ℕ). x ∷ y ∷ get_or list (at + 2) 0 ∷ drop (at + 3) list) (sym e ∙ p) (sym f ∙ q)
            ∙ ap (λ (z : ℕ). (128 + n % 128) ∷ (128 + n / 128 % 128) ∷ z ∷ drop (at + 3) list) (sym g ∙ o)
            ∙ ap (λ (l : List ℕ). l ++ drop (at + 3) list) (sym s);
      }

  -- ---- none does

  -- the bytes of a number that stands there
  byte : (i : ℕ) (n : ℕ) (rest p : List ℕ) → drop at list ≡ shortest n ++ rest → shortest n ≡ p → get_or list (at + i) 0 ≡ get_or (p ++ rest) i 0
  byte i n rest p e s = sym (get_or-drop at list i 0) ∙ ap (λ (l : List ℕ). get_or l i 0) (e ∙ ap (λ (l : List ℕ). l ++ rest) s)

  first : (n : ℕ) (rest p : List ℕ) → drop at list ≡ shortest n ++ rest → shortest n ≡ p → get_or list at 0 ≡ get_or (p ++ rest) 0 0
  first n rest p e s = ap (λ (i : ℕ). get_or list i 0) (sym (add-zero at)) ∙ byte 0 n rest p e s

  pub none_end : length list ≤ at → NoneStands list at
  none_end h n rest small is =
      omega (arith, (some_bytes n).0, ap length is, length-drop at list, length-append (shortest n) rest)

  module _ (a : ℕ) (x : ByteAt list at a) (ka : 128 ≤ a) where
    -- a second group that says nothing
    pub none-two : (b : ℕ) → ByteAt list (at + 1) b → b ≡ 0 → NoneStands list at
    none-two b y e n rest small is = go (sized n)
      where
        go : Size n → ⊥
        go (one k s) = omega (arith, x.is, first n rest (n ∷ []) is s)
        go (two k l s) = omega (arith, y.is, byte 1 n rest _ is s)
        go (three k s) = omega (arith, y.is, byte 1 n rest _ is s)

    third : (b : ℕ) → ByteAt list (at + 1) b → 128 ≤ b → (c : ℕ) → ByteAt list (at + 2) c → (1 ≤ c → c ≤ 3 → ⊥) → NoneStands list at
    third b y kb c z h n rest small is = go (sized n)
      where
        go : Size n → ⊥
        go (one k s) = omega (arith, x.is, first n rest (n ∷ []) is s)
        go (two k l s) = omega (arith, y.is, byte 1 n rest _ is s)
        go (three k s) =
            let o : c ≡ n / 16384 = z.is ∙ byte 2 n rest _ is s in
            h (omega arith) (omega arith)

    -- a third group that says nothing
    pub none-three : (b : ℕ) → ByteAt list (at + 1) b → 128 ≤ b → (c : ℕ) → ByteAt list (at + 2) c → c ≡ 0 → NoneStands list at
    none-three b y kb c z e = third b y kb c z (λ h k. omega arith)

    -- a third group that says too much, or goes on
    pub none_above : (b : ℕ) → ByteAt list (at + 1) b → 128 ≤ b → (c : ℕ) → ByteAt list (at + 2) c → 3 < c → NoneStands list at
    none_above b y kb c z e = third b y kb c z (λ h k. omega arith)
