-- Two rows of parity laid into a Sector make codewords of its P words, and of its Q words.
-- Assumes nothing.
use mathlib.Core.Path.{◌≡◌, refl, sym, ap, ap₂, ◌∙◌, subst}
use mathlib.Core.Bool.{Bool, true, false}
use mathlib.Core.List.{List, [], ◌∷◌, ◌++◌}
use Prim.Native.Nat.{ℕ, suc, ◌+◌, ◌-◌, ◌*◌, ◌/◌, ◌%◌, ◌<◌, min}
use native.Mathlib.Omega.{arith}
use lib.ListN.{length, get_or, take, drop, length-take, length-drop, length-append, get_or-append}
use lib.Seq.{get_or-take, get_or-drop, get_or-append-add}
use Rattle.lists.specs.Laid.{Laid}
use Rattle.lists.specs.Agree.{same-take, same_drop}
use Rattle.laying.specs.Both.{Lays}
use Rattle.laying.specs.Both.Copied.{laid_in}
use Rattle.codeword.specs.Code.{Codeword}
use Rattle.sweep.specs.Columns.Sums.{length-column, column-at}
use Rattle.rspc.specs.Words.{p_place, q_place, p_word, q_word, PCodewords, QCodewords}
use Rattle.rspc.specs.Words.P.{length_p, p_at}
use Rattle.rspc.specs.Words.Q.{length_q, q_at, q_data, q_parity}
use Rattle.rspc.specs.Columns.{p_column, q_column}
use Rattle.rspc.specs.Place.One.{of_sector, of_other}
use Rattle.rspc.specs.Put.{PPut, QPut, PutP, PutQ}
use Rattle.parities.specs.Inner.ParityRows.{whole_column, ParityRows}
use Rattle.gathering.specs.Rows.{q_rows, Gathered}
use Rattle.gathering.specs.Rows.Columns.{length-rows, front_at, gathered}

-- a word is a front and two bytes more
two-behind : (w front : List ℕ) (x y : ℕ) → length w ≡ length front + 2 → ((r : ℕ) → r < length front → get_or w r 0 ≡ get_or front r 0)
    → get_or w (length front) 0 ≡ x → get_or w (suc (length front)) 0 ≡ y → w ≡ front ++ (x ∷ y ∷ [])
two-behind [] front x y e h p q = absurd (omega arith)
two-behind (a ∷ []) [] x y e h p q = absurd (omega arith)
two-behind (a ∷ b ∷ []) [] x y e h p q = ap₂ (λ (m n : ℕ). m ∷ n ∷ []) p q
two-behind (a ∷ b ∷ c ∷ w) [] x y e h p q = absurd (omega arith)
two-behind (a ∷ w) (b ∷ front) x y e h p q =
    ap₂ ◌∷◌ (h 0 (omega arith)) (two-behind w front x y (omega arith) (λ r l. h (suc r) (omega arith)) p q)

-- ---- a column of `rows` and the bytes laid under it

module _ {w a : ℕ} {rows p q s t : List ℕ} (c : ParityRows w rows p q) (b : Laid a (p ++ q) s t) where
  long_both : length (p ++ q) ≡ w + w
  long_both = omega (arith, length-append p q, c.long_p, c.long_q)

  first-row : (k : ℕ) → k < w → get_or t (a + k) 0 ≡ get_or p k 0
  first-row k h = b.inside k (omega (arith, long_both)) ∙ get_or-append p q 0 k (omega (arith, c.long_p))

  second-row : (k : ℕ) → k < w → get_or t (a + (w + k)) 0 ≡ get_or q k 0
  second-row k h =
      b.inside (w + k) (omega (arith, long_both)) ∙ ap (λ (n : ℕ). get_or (p ++ q) (n + k) 0) (sym c.long_p) ∙ get_or-append-add p q k 0

  -- a word that is a column and the two bytes under it is a codeword
  by_column : (x : List ℕ) (n k : ℕ) → k < w → length rows / w ≡ n → length x ≡ n + 2 → ((r : ℕ) → r < n → get_or x r 0 ≡ get_or rows (w * r + k) 0)
      → get_or x n 0 ≡ get_or t (a + k) 0 → get_or x (suc n) 0 ≡ get_or t (a + (w + k)) 0 → Codeword 2 x
  by_column x n k h e l f f0 f1 =
      let long : length (whole_column w rows k) ≡ n = length-column w (length rows / w) rows k ∙ e in
      let is : x ≡ whole_column w rows k ++ (get_or p k 0 ∷ get_or q k 0 ∷ []) =
      two-behind x (whole_column w rows k) (get_or p k 0) (get_or q k 0) (omega arith)
      (λ r b. f r (omega arith) ∙ sym (column-at w (length rows / w) rows k r (omega arith)))
      (ap (λ (m : ℕ). get_or x m 0) long ∙ f0 ∙ first-row k h) (ap (λ (m : ℕ). get_or x (suc m) 0) long ∙ f1 ∙ second-row k h) in
      subst (λ (y : List ℕ). Codeword 2 y) (sym is) (c.code k h)

-- ---- P

-- bytes 12 to 2,075: 24 rows of 86 bytes
abbrev p_data : List ℕ → List ℕ
p_data s = take 2064 (drop 12 s)

data_at : (s : List ℕ) (i : ℕ) → i < 2064 → get_or (p_data s) i 0 ≡ get_or s (12 + i) 0
data_at s i h = get_or-take 2064 (drop 12 s) i 0 h ∙ get_or-drop 12 s i 0

p_put : (s p q t : List ℕ) → length s ≡ 2352 → ParityRows 86 (take 2064 (drop 12 s)) p q → Laid 2076 (p ++ q) s t → PPut s t
p_put s p q t e c b =
    record {
      long = b.long;
      before = same-take 2076 t s b.long b.before;
      after = same_drop 2248 t s b.long (λ i h. b.after i (omega (arith, long_both c b)));
      words = word;
    }
  where
    rows : length (take 2064 (drop 12 s)) / 86 ≡ 24
    rows = ap (λ (m : ℕ). m / 86) (length-take 2064 (drop 12 s) ∙ ap (λ (m : ℕ). min 2064 m) (length-drop 12 s ∙ ap (λ (m : ℕ). m - 12) e))

    word : PCodewords t
    word n h =
        let first : p_place n 24 ≡ 2076 + p_column n = omega arith in
        let second : p_place n 25 ≡ 2076 + (86 + p_column n) = omega arith in
        by_column c b (p_word t n) 24 (p_column n) (omega arith) rows (length_p t n)
        (λ r l.
        let at : p_place n r ≡ 12 + (86 * r + p_column n) = omega arith in
        p_at t n r (omega arith) ∙ b.before (p_place n r) (omega arith)
        ∙ ap (λ (i : ℕ). get_or s i 0) at ∙ sym (data_at s (86 * r + p_column n) (omega arith)))
        (p_at t n 24 (omega arith) ∙ ap (λ (i : ℕ). get_or t i 0) first)
        (p_at t n 25 (omega arith) ∙ ap (λ (i : ℕ). get_or t i 0) second)

-- the two ways out of putting P
pub p_other : (s : List ℕ) → (length s ≡ 2352 → ⊥) → PutP s false s
p_other s n = of_other n

pub p_putting : (s p q t : List ℕ) (r : Bool) → length s ≡ 2352 → ParityRows 86 (take 2064 (drop 12 s)) p q
    → Lays 2076 p q s r t → PutP s true t
p_putting s p q t r e c b = of_sector e (refl, p_put s p q t e c (laid_in 2076 p q s (omega (arith, c.long_p, c.long_q)) b))

-- ---- Q

q_put : (s p q t : List ℕ) → length s ≡ 2352 → ParityRows 52 (q_rows s) p q → Laid 2248 (p ++ q) s t → QPut s t
q_put s p q t e c b = record { long = b.long; before = same-take 2248 t s b.long b.before; words = word }
  where
    rows : length (q_rows s) / 52 ≡ 43
    rows = ap (λ (m : ℕ). m / 52) (length-rows s)

    word : QCodewords t
    word n h =
        let first : q_place n 43 ≡ 2248 + q_column n = omega (arith, q_parity (n % 26) 43 (omega arith)) in
        let second : q_place n 44 ≡ 2248 + (52 + q_column n) = omega (arith, q_parity (n % 26) 44 (omega arith)) in
        by_column c b (q_word t n) 43 (q_column n) (omega arith) rows (length_q t n)
        (λ m l.
        q_at t n m (omega arith) ∙ b.before (q_place n m) (omega (arith, q_data (n % 26) m l)) ∙ sym (front_at s n m h l))
        (q_at t n 43 (omega arith) ∙ ap (λ (i : ℕ). get_or t i 0) first)
        (q_at t n 44 (omega arith) ∙ ap (λ (i : ℕ). get_or t i 0) second)

-- the two ways out of putting Q
pub q_other : (s : List ℕ) → (length s ≡ 2352 → ⊥) → PutQ s false s
q_other s n = of_other n

pub q_putting : (s old rows p q t : List ℕ) (r l : Bool) → length s ≡ 2352 → length old ≡ 2236 → Gathered s old r rows → ParityRows 52 rows p q
    → Lays 2248 p q s l t → PutQ s true t
q_putting s old rows p q t r l e f g c b =
    of_sector e
    (refl, q_put s p q t e (subst (λ (l : List ℕ). ParityRows 52 l p q) (gathered e f g) c) (laid_in 2248 p q s (omega (arith, c.long_p, c.long_q)) b))
