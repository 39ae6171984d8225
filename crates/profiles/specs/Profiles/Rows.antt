-- The rows hold the profiles of all symbols.
-- Assumes nothing.
use Rattle.std.specs.Prelude.{◌≡◌, List, [], ◌∷◌, ◌++◌, ℕ, zero, suc, ◌+◌, ◌*◌, ◌/◌, ◌%◌, ◌<◌, length, get_or}
use Rattle.std.proofs.Common.{sym, ap, ap₂, ◌∙◌, add-zero, not-suc-le-zero, le_of_suc-le-suc, arith, lt-ltb, get_or-append-add}
use Rattle.std.proofs.Math.ListN.{get_or-append}
use Rattle.bits.specs.Bits.{bits_of}
use Rattle.profiles.specs.Profiles.{lead_of, profile_of, row, rows, in_row, profile_in}
use Rattle.words.specs.Symbols.{symbols}
use Rattle.words.specs.Symbols.Which.{how_many_symbols}

row_at : (ws : List ℕ) (k j : ℕ) → k < length ws → j < 8 → get_or (rows ws) (8 * k + j) 0 ≡ get_or (row (get_or ws k 0)) j 0
unfolding rows
row_at [] k j h l = absurd (not-suc-le-zero h)
row_at (w ∷ ws) zero j h l =
    let e : 8 * 0 + j ≡ j = omega arith in
    ap (λ (n : ℕ). get_or (row w ++ rows ws) n 0) e ∙ get_or-append (row w) (rows ws) 0 j l
row_at (w ∷ ws) (suc k) j h l =
    let e : 8 * suc k + j ≡ 8 + (8 * k + j) = omega arith in
    ap (λ (n : ℕ). get_or (row w ++ rows ws) n 0) e ∙ get_or-append-add (row w) (rows ws) (8 * k + j) 0
    ∙ row_at ws k j (le_of_suc-le-suc h) l

row_field : (table : List ℕ) (k j : ℕ) → table ≡ rows symbols → k < 258 → j < 8 → get_or table (8 * k + j) 0 ≡ get_or (row (get_or symbols k 0)) j 0
row_field table k j e h l = ap (λ (t : List ℕ). get_or t (8 * k + j) 0) e ∙ row_at symbols k j (rw how_many_symbols h) l

row_first : (table : List ℕ) (k : ℕ) → table ≡ rows symbols → k < 258 → get_or table (8 * k) 0 ≡ lead_of (bits_of 14 (get_or symbols k 0))
row_first table k e h = ap (λ (i : ℕ). get_or table i 0) (sym (add-zero (8 * k))) ∙ row_field table k 0 e h (omega arith)

in_row_lem : (table : List ℕ) (k : ℕ) → table ≡ rows symbols → k < 258 → in_row table k ≡ profile_of (get_or symbols k 0)
in_row_lem table k e h =
    let f : (j : ℕ) → j < 8 → get_or table (8 * k + j) 0 ≡ get_or (row (get_or symbols k 0)) j 0 = λ j l. row_field table k j e h l in
    let x = get_or symbols k 0 in
    let d : x / 256 * 256 + x % 256 ≡ x = omega arith in
    λ i.
    record {
      lead = row_first table k e h i;
      plain = f 1 (omega arith) i;
      ten = f 2 (omega arith) i;
      odd = f 4 (omega arith) i;
      ups = f 3 (omega arith) i;
      word = (ap₂ (λ (a b : ℕ). a * 256 + b) (f 5 (omega arith)) (f 6 (omega arith)) ∙ d) i;
    }

-- the rows hold the profiles of the symbols
pub row_profile : (table : List ℕ) (k : ℕ) → table ≡ rows symbols → k < 258 → profile_in table k ≡ profile_of (get_or symbols k 0)
unfolding profile_in
row_profile table k e h = rw (lt-ltb k 258 h) (in_row_lem table k e h)
