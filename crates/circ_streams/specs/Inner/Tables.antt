-- Facts about the tables of rows and waits, each a computed test over all rows, and about parity inverted.
-- Assumes nothing.
use Rattle.std.specs.Prelude.{◌≡◌, refl, Bool, true, false, ◌&&◌, ◌||◌, ◌⊎◌, List, [], ◌∷◌, ◌++◌, map, ℕ, zero, suc, ◌+◌, ◌≤◌, ◌<◌, T, ltb, leb, length, take, drop, replicate}
use Rattle.std.proofs.Common.{sym, ap, ◌∙◌, inl, inr, not-suc-le-zero, le_of_suc-le-suc, arith, ltb→lt, leb→le, drop-cons, take_all}
use Rattle.std.proofs.Math.Dec.{eqb, eqb→eq}
use Rattle.std.proofs.Math.ListN.{get_or}
use Rattle.outcome.specs.Bytes.{Bytes}
use Rattle.outcome.specs.Bytes.Kept.{bytes_append, bytes_replicate}
use Rattle.outcome.specs.Table.Entries.{below, and_left, and_right}
use Rattle.xor.specs.Added.Places.{length-added, added_twice, bytes_added}
use Rattle.circ.specs.Rows.{picked, first_twelve, last_twelve, placed, rows_of_bytes, collected, before_c2, between, after_c1, reader_before_c1, reader_between, reader_after_c2, mask, inverted, longest_wait}

-- ---- what the waits of a row add up to in writer and reader

-- 1 frame around C1 in every row
pub around_c1 : (r : ℕ) → r < 32 → get_or after_c1 r 0 + get_or reader_before_c1 r 0 ≡ 1
unfolding after_c1 reader_before_c1
around_c1 r h = eqb→eq (get_or after_c1 r 0 + get_or reader_before_c1 r 0) 1 (below (λ r. eqb (get_or after_c1 r 0 + get_or reader_before_c1 r 0) 1) 32 tt r h)

-- 108 between C1 and C2
pub around_between : (r : ℕ) → r < 28 → get_or between r 0 + get_or reader_between r 0 ≡ longest_wait
unfolding between reader_between
around_between r h =
    eqb→eq (get_or between r 0 + get_or reader_between r 0) longest_wait (below (λ r. eqb (get_or between r 0 + get_or reader_between r 0) longest_wait) 28 tt r h)

-- a row that carries an F1 byte: 0 to 11 or 16 to 27
abbrev pub Carries : ℕ → Type 0
Carries r = (r < 12) ⊎ ((16 ≤ r) × (r < 28))

pub carries_low : (r : ℕ) → Carries r → r < 28
carries_low r (inl h) = omega arith
carries_low r (inr h) = h.1

abbrev carries_test : ℕ → Bool
carries_test r = ltb r 12 || (leb 16 r && ltb r 28)

carries_of : (r : ℕ) (a b c : Bool) → T (a || (b && c)) → (T a → r < 12) → (T b → 16 ≤ r) → (T c → r < 28) → Carries r
carries_of r true b c t ha hb hc = inl (ha tt)
carries_of r false b c t ha hb hc = inr (hb (and_left b c t), hc (and_right b c t))

carries_test_lem : (r : ℕ) → T (carries_test r) → Carries r
carries_test_lem r t = carries_of r (ltb r 12) (leb 16 r) (ltb r 28) t (ltb→lt r 12) (leb→le 16 r) (ltb→lt r 28)

module _ (b : ℕ) (h : b < 24) where
  -- the row of an F1 byte
  pub byte_carried : Carries (get_or rows_of_bytes b 0)
  byte_carried = carries_test_lem (get_or rows_of_bytes b 0) (below (λ b. carries_test (get_or rows_of_bytes b 0)) 24 tt b h)

  -- and 2 around C2
  pub around_c2 : get_or before_c2 (get_or rows_of_bytes b 0) 0 + get_or reader_after_c2 (get_or rows_of_bytes b 0) 0 ≡ 2
  unfolding before_c2 reader_after_c2
  around_c2 =
      eqb→eq (get_or before_c2 (get_or rows_of_bytes b 0) 0 + get_or reader_after_c2 (get_or rows_of_bytes b 0) 0) 2
      (below (λ b. eqb (get_or before_c2 (get_or rows_of_bytes b 0) 0 + get_or reader_after_c2 (get_or rows_of_bytes b 0) 0) 2) 24 tt b h)

-- ---- bytes picked from a word

map_at : (g : ℕ → ℕ) (l : List ℕ) (i : ℕ) → i < length l → get_or (map g l) i 0 ≡ g (get_or l i 0)
map_at g [] i h = absurd (not-suc-le-zero h)
map_at g (x ∷ l) zero h = refl
map_at g (x ∷ l) (suc i) h = map_at g l i (le_of_suc-le-suc h)

-- each F1 byte is that of its row
pub collected-at : (u : List ℕ) (b : ℕ) → b < 24 → get_or (collected u) b 0 ≡ get_or u (get_or rows_of_bytes b 0) 0
collected-at u b h = map_at (λ r. get_or u r 0) rows_of_bytes b h

pub length-collected : (u : List ℕ) → length (collected u) ≡ 24
length-collected u = refl

pub length-placed : (f : List ℕ) → length (placed f) ≡ 28
length-placed f = refl

-- the n bytes of l from i on, one by one
listed : ℕ → ℕ → List ℕ → List ℕ
listed zero i l = []
listed (suc n) i l = get_or l i 0 ∷ listed n (suc i) l

listed_is : (n i : ℕ) (l : List ℕ) → i + n ≤ length l → listed n i l ≡ take n (drop i l)
unfolding listed
listed_is zero i l h = refl
listed_is (suc n) i l h = rw (drop-cons l i 0 (omega arith)) (ap (λ (t : List ℕ). get_or l i 0 ∷ t) (listed_is n (suc i) l (omega arith)))

-- an F1-frame placed in the rows and collected from them is the frame
pub placed-collected : (f : List ℕ) → length f ≡ 24 → collected (placed f) ≡ f
unfolding listed
placed-collected f e = listed_is 24 0 f (omega arith) ∙ take_all 24 f (omega arith)

-- the byte that a frame gives to its row
pub placed_at : (f : List ℕ) (b : ℕ) → length f ≡ 24 → b < 24 → get_or (placed f) (get_or rows_of_bytes b 0) 0 ≡ get_or f b 0
placed_at f b e h = sym (collected-at (placed f) b h) ∙ ap (λ (t : List ℕ). get_or t b 0) (placed-collected f e)

bytes_picked : (places w : List ℕ) → Bytes w → Bytes (picked places w)
bytes_picked [] w h i = omega arith
bytes_picked (p ∷ places) w h zero = h p
bytes_picked (p ∷ places) w h (suc i) = bytes_picked places w h i

pub bytes_placed : (f : List ℕ) → Bytes f → Bytes (placed f)
bytes_placed f h =
    bytes_append (picked first_twelve f) (replicate 4 0 ++ picked last_twelve f) (bytes_picked first_twelve f h)
    (bytes_append (replicate 4 0) (picked last_twelve f) (bytes_replicate 4 0 (omega arith)) (bytes_picked last_twelve f h))

-- ---- parity inverted

-- no F1 byte is inverted
pub mask_data : (b : ℕ) → b < 24 → get_or mask (get_or rows_of_bytes b 0) 0 ≡ 0
unfolding mask
mask_data b h = eqb→eq (get_or mask (get_or rows_of_bytes b 0) 0) 0 (below (λ b. eqb (get_or mask (get_or rows_of_bytes b 0) 0) 0) 24 tt b h)

-- every Q byte and every P byte is
pub mask_parity : (i : ℕ) → i < 4 → (get_or mask (12 + i) 0 ≡ 255) × (get_or mask (28 + i) 0 ≡ 255)
unfolding mask
mask_parity i h = (
  eqb→eq (get_or mask (12 + i) 0) 255 (below (λ i. eqb (get_or mask (12 + i) 0) 255) 4 tt i h),
  eqb→eq (get_or mask (28 + i) 0) 255 (below (λ i. eqb (get_or mask (28 + i) 0) 255) 4 tt i h),
)

pub length-inverted : (w : List ℕ) → length w ≡ 32 → length (inverted w) ≡ 32
unfolding inverted mask
length-inverted w e = length-added w mask e ∙ e

-- twice inverted is as it was
pub inverted-twice : (w : List ℕ) → length w ≡ 32 → inverted (inverted w) ≡ w
unfolding inverted mask
inverted-twice w e = added_twice w mask (omega arith)

pub bytes_inverted : (w : List ℕ) → Bytes w → Bytes (inverted w)
unfolding inverted mask
bytes_inverted w h =
    bytes_added w mask h
    (bytes_append (replicate 12 0) (replicate 4 255 ++ (replicate 12 0 ++ replicate 4 255)) (bytes_replicate 12 0 (omega arith))
    (bytes_append (replicate 4 255) (replicate 12 0 ++ replicate 4 255) (bytes_replicate 4 255 (omega arith))
    (bytes_append (replicate 12 0) (replicate 4 255) (bytes_replicate 12 0 (omega arith)) (bytes_replicate 4 255 (omega arith)))))
