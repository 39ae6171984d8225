-- Sectors in a row, one by one.
-- Assumes nothing.
use Rattle.std.specs.Prelude.{◌≡◌, List, ◌++◌, ℕ, ◌+◌, ◌*◌, ◌/◌, ◌<◌, ◌≤◌, length, take, drop}
use Rattle.std.proofs.Common.{sym, ap, ◌∙◌, arith, length-drop, length-take-le, take_all, take_at, take-take, drop_at, drop-drop, ext_get_or}
use Rattle.lists.specs.Agree.{same-within, same-between}
use Rattle.batch.specs.Sectors.{Sectors, sector_at}

-- a row of Sectors is of one number of them
pub count_one : {n m : ℕ} {r : List ℕ} → Sectors n r → Sectors m r → n ≡ m
count_one p q = omega (arith, p.long, q.long)

pub length_sector : (n i : ℕ) (w : List ℕ) → length w ≡ 2352 * n → i < n → length (sector_at i w) ≡ 2352
length_sector n i w l h = length-take-le 2352 (drop (2352 * i) w) (omega (arith, length-drop (2352 * i) w))

-- Sectors before a place, and from it on
pub sector_before : (i k : ℕ) (t u : List ℕ) → i < k → take (2352 * k) t ≡ take (2352 * k) u → sector_at i t ≡ sector_at i u
sector_before i k t u h e =
    same-within (2352 * i) 2352 t u
    (sym (take-take (2352 * i + 2352) (2352 * k) t (omega arith)) ∙ ap (take (2352 * i + 2352)) e ∙ take-take (2352 * i + 2352) (2352 * k) u (omega arith))

pub sector_behind : (i k : ℕ) (w : List ℕ) → sector_at i (drop (2352 * k) w) ≡ sector_at (k + i) w
sector_behind i k w =
    let e : 2352 * k + 2352 * i ≡ 2352 * (k + i) = omega arith in
    ap (take 2352) (drop-drop (2352 * i) (2352 * k) w ∙ ap (λ (a : ℕ). drop a w) e)

-- what has the same Sectors is the same
pub sectors_same : (n : ℕ) (s t : List ℕ) → length s ≡ 2352 * n → length t ≡ 2352 * n → ((i : ℕ) → i < n → sector_at i s ≡ sector_at i t) → s ≡ t
sectors_same n s t l k h =
    ext_get_or 0 s t (l ∙ sym k)
    (λ j b. same-between (2352 * (j / 2352)) 2352 s t (h (j / 2352) (omega arith)) j (omega arith) (omega arith))

-- the Sectors of two rows, one behind the other
pub sector_first : (i k : ℕ) (u v : List ℕ) → length u ≡ 2352 * k → i < k → sector_at i (u ++ v) ≡ sector_at i u
sector_first i k u v l h = sector_before i k (u ++ v) u h (take_at u v (2352 * k) l ∙ sym (take_all (2352 * k) u (omega arith)))

pub sector_second : (i k : ℕ) (u v : List ℕ) → length u ≡ 2352 * k → sector_at (k + i) (u ++ v) ≡ sector_at i v
sector_second i k u v l = sym (sector_behind i k (u ++ v)) ∙ ap (sector_at i) (drop_at u v (2352 * k) l)

-- m Sectors from Sector a on
abbrev pub row_from : ℕ → ℕ → List ℕ → List ℕ
row_from a m w = take (2352 * m) (drop (2352 * a) w)

pub length-row : (n a m : ℕ) (w : List ℕ) → length w ≡ 2352 * n → a + m ≤ n → length (row_from a m w) ≡ 2352 * m
length-row n a m w l h = length-take-le (2352 * m) (drop (2352 * a) w) (omega (arith, length-drop (2352 * a) w))

pub sector_row : (a m i : ℕ) (w : List ℕ) → i < m → sector_at i (row_from a m w) ≡ sector_at (a + i) w
sector_row a m i w h =
    sector_before i m (row_from a m w) (drop (2352 * a) w) h (take-take (2352 * m) (2352 * m) (drop (2352 * a) w) (omega arith)) ∙ sector_behind i a w
