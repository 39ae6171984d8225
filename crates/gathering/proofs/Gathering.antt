-- Gathering the Q codewords into rows: the invariant within a row, and each row as a part of all of them.
-- Assumes nothing.
use mathlib.Core.Path.{◌≡◌, refl, sym, ap, ap₂, ◌∙◌, subst}
use mathlib.Core.Bool.{true, false}
use mathlib.Core.List.{List, ◌++◌}
use Prim.Native.Nat.{ℕ, ◌+◌, ◌-◌, ◌*◌, ◌/◌, ◌%◌, ◌<◌, ◌≤◌}
use native.Mathlib.Omega.{arith}
use borrow.Author.Tests.{eq-eqb, ne_eqb}
use borrow.Rule.Slice.PartMut.{put_mid}
use lib.ListN.{length, get_or, set, take, drop, length-take, length-drop}
use lib.Seq.{ext_get_or, get_or-take, get_or-drop}
use Rattle.outcome.specs.Buffer.{Filling}
use Rattle.outcome.specs.Buffer.Filled.{filling-none, filling_more, filling-part, filling_all, filling_long}
use Rattle.outcome.specs.Buffer.Part.{part-back}
use Rattle.outcome.specs.Table.Entries.{length-tabulated, tabulated-at}
use Rattle.rspc.specs.Words.{place}
use Rattle.gathering.specs.Rows.{q_byte, q_rows, Gathered}
use Rattle.gathering.specs.Rows.Columns.{length-rows, rows_at}
use Rattle.gathering.specs.Inner.Row.{q_row}

-- ---- a row

pub length-row : (s : List ℕ) (m : ℕ) → length (q_row s m) ≡ 52
unfolding q_row
length-row s m = length-tabulated (q_byte s m) 0 52

row_at : (s : List ℕ) (m k : ℕ) → k < 52 → get_or (q_row s m) k 0 ≡ q_byte s m k
unfolding q_row
row_at s m k h = tabulated-at (q_byte s m) 52 k h

-- the bytes of d codewords of each half are there, and `word` is the next one
pub record Gathering (s row₀ : List ℕ) (m d word : ℕ) (row : List ℕ) : Type 0 where
  pub filled : Filling row₀ (q_row s m) (2 * d) row
  pub number : word ≡ (44 * m + 43 * d) % 1118

pub gathering_none : (s row₀ : List ℕ) (m : ℕ) → length row₀ ≡ 52 → Gathering s row₀ m 0 (44 * m % 1118) row₀
gathering_none s row₀ m e = record { filled = filling-none row₀ (q_row s m) (e ∙ sym (length-row s m)); number = omega arith }

module _ {s row₀ row : List ℕ} {m d word : ℕ} (g : Gathering s row₀ m d word row) where
  pub gathering_more : (next : ℕ) → d < 26 → next ≡ (word + 43) % 1118
      → Gathering s row₀ m (d + 1) next (set (set row (2 * d) (get_or s (2 * word + 12) 0)) (2 * d + 1) (get_or s (2 * word + 13) 0))
  gathering_more next h e =
      record {
        filled =
            subst (λ (n : ℕ). Filling row₀ (q_row s m) n (set (set row (2 * d) (get_or s (2 * word + 12) 0)) (2 * d + 1) (get_or s (2 * word + 13) 0)))
            twice
            (filling_more (filling_more g.filled (get_or s (2 * word + 12) 0) (omega (arith, length-row s m)) lsb)
            (get_or s (2 * word + 13) 0) (omega (arith, length-row s m)) msb);
        number = e ∙ omega (arith, g.number);
      }
    where
      twice : 2 * d + 1 + 1 ≡ 2 * (d + 1)
      twice = omega arith

      byte : (half at k : ℕ) → half < 2 → at ≡ place half word → k ≡ 2 * d + half → get_or s at 0 ≡ get_or (q_row s m) k 0
      byte half at k l p q =
          let a : k % 2 ≡ half = omega arith in
          let b : k / 2 ≡ d = omega arith in
          ap (λ (x : ℕ). get_or s x 0) p ∙ ap (λ (x : ℕ). get_or s (place half x) 0) g.number
          ∙ ap₂ (λ (x y : ℕ). get_or s (place x ((44 * m + 43 * y) % 1118)) 0) (sym a) (sym b) ∙ sym (row_at s m k (omega arith))

      lsb : get_or s (2 * word + 12) 0 ≡ get_or (q_row s m) (2 * d) 0
      lsb = byte 0 (2 * word + 12) (2 * d) (omega arith) (omega arith) (omega arith)

      msb : get_or s (2 * word + 13) 0 ≡ get_or (q_row s m) (2 * d + 1) 0
      msb = byte 1 (2 * word + 13) (2 * d + 1) (omega arith) (omega arith) (omega arith)

  pub gathering_long : length row ≡ length row₀
  gathering_long = filling_long g.filled

  pub gathering_all : 26 ≤ d → row ≡ q_row s m
  gathering_all h = filling_all g.filled (omega (arith, length-row s m))

-- ---- all rows

row-part : (s : List ℕ) (m : ℕ) → m < 43 → q_row s m ≡ take 52 (drop (52 * m) (q_rows s))
row-part s m h =
    let long : length (take 52 (drop (52 * m) (q_rows s))) ≡ 52 = omega (arith, length-take 52 (drop (52 * m) (q_rows s)), length-drop (52 * m) (q_rows s), length-rows s) in
    ext_get_or 0 (q_row s m) (take 52 (drop (52 * m) (q_rows s))) (length-row s m ∙ sym long)
    (λ k l.
    let b : k < 52 = omega (arith, length-row s m) in
    let row : (52 * m + k) / 52 ≡ m = omega arith in
    let col : (52 * m + k) % 52 ≡ k = omega arith in
    row_at s m k b ∙ sym (ap₂ (q_byte s) row col) ∙ sym (rows_at s (52 * m + k) (omega arith))
    ∙ sym (get_or-drop (52 * m) (q_rows s) k 0) ∙ sym (get_or-take 52 (drop (52 * m) (q_rows s)) k 0 b))

module _ (s : List ℕ) {d out : List ℕ} {m : ℕ} (f : Filling d (q_rows s) (52 * m) out) where
  pub rows_more : (part : List ℕ) → m < 43 → part ≡ q_row s m → Filling d (q_rows s) (52 * (m + 1)) (put_mid (52 * m) (52 * m + 52 - 52 * m) out part)
  rows_more part h e =
      let next : 52 * m + 52 ≡ 52 * (m + 1) = omega arith in
      rw (part-back (52 * m) (52 * m + 52) out part (omega arith))
      (subst (λ (n : ℕ). Filling d (q_rows s) n (take (52 * m) out ++ (part ++ drop (52 * m + 52) out))) next
      (filling-part f 52 part (omega (arith, length-rows s)) (e ∙ row-part s m h)))

-- ---- the ways out

module _ (s old : List ℕ) where
  pub on_sector : (length s ≡ 2352 → ⊥) → Gathered s old false old
  on_sector n = let e = ne_eqb (length s) 2352 n in record { answer = simp e; rows = refl }

  module _ (l : length s ≡ 2352) where
    pub on_room : (length old ≡ 2236 → ⊥) → Gathered s old false old
    on_room n =
        let e = eq-eqb (length s) 2352 l in
        let f = ne_eqb (length old) 2236 n in
        record { answer = simp (e, f); rows = refl }

    pub on_both : (new : List ℕ) → length old ≡ 2236 → new ≡ q_rows s → Gathered s old true new
    on_both new k g =
        let e = eq-eqb (length s) 2352 l in
        let f = eq-eqb (length old) 2236 k in
        record { answer = simp (e, f); rows = g }

pub ruleset ways = (on_sector, on_room, on_both)
