-- The rows have 2,236 bytes, and each column is a Q codeword without its parity.
-- Assumes nothing.
use Rattle.std.specs.Prelude.{◌≡◌, Bool, cond, ◌&&◌, List, ℕ, ◌+◌, ◌*◌, ◌/◌, ◌%◌, ◌<◌, length, get_or}
use Rattle.std.proofs.Common.{sym, ap, ap₂, ◌∙◌, arith, eq-eqb}
use Rattle.outcome.specs.Table.Entries.{length-tabulated, tabulated-at}
use Rattle.rspc.specs.Words.{place, q_words, q_place}
use Rattle.rspc.specs.Words.Q.{q_data}
use Rattle.rspc.specs.Columns.{q_column}
use Rattle.gathering.specs.Rows.{q_byte, q_rows, Gathered}

pub length-rows : (s : List ℕ) → length (q_rows s) ≡ 2236
unfolding q_rows
length-rows s = length-tabulated (λ i. q_byte s (i / 52) (i % 52)) 0 2236

pub rows_at : (s : List ℕ) (i : ℕ) → i < 2236 → get_or (q_rows s) i 0 ≡ q_byte s (i / 52) (i % 52)
unfolding q_rows
rows_at s i h = tabulated-at (λ i. q_byte s (i / 52) (i % 52)) 2236 i h

-- byte m of Q codeword n before its parity stands in row m, in the codeword's column
pub front_at : (s : List ℕ) (n m : ℕ) → n < q_words → m < 43 → get_or (q_rows s) (52 * m + q_column n) 0 ≡ get_or s (q_place n m) 0
front_at s n m h l =
    let row : (52 * m + q_column n) / 52 ≡ m = omega arith in
    let col : (52 * m + q_column n) % 52 ≡ q_column n = omega arith in
    let half : q_column n % 2 ≡ n / 26 = omega arith in
    let d : q_column n / 2 ≡ n % 26 = omega arith in
    rows_at s (52 * m + q_column n) (omega arith) ∙ ap₂ (q_byte s) row col
    ∙ ap₂ (λ (a b : ℕ). get_or s (place a ((44 * m + 43 * b) % 1118)) 0) half d
    ∙ ap (λ (a : ℕ). get_or s (place (n / 26) a) 0) (sym (q_data (n % 26) m l))

-- what is gathered from a Sector where there is room
pub gathered : {s old new : List ℕ} {r : Bool} → length s ≡ 2352 → length old ≡ 2236 → Gathered s old r new → new ≡ q_rows s
gathered {s} {old} ls lo g =
    g.rows
    ∙ ap (λ (b : Bool). cond b (q_rows s) old) (g.answer ∙ ap₂ ◌&&◌ (eq-eqb (length s) 2352 ls) (eq-eqb (length old) 2236 lo))
