-- A state tells its places and its store.
-- Assumes nothing.
use Rattle.std.specs.Prelude.{ℕ, ◌≡◌, refl, true, List, length}
use Rattle.std.proofs.Common.{sym, ap, ap₂, ◌∙◌, arith}
use Rattle.lines.specs.Delay.{total, zeros}
use Rattle.rings.specs.Rings.{waits, below, unrolled_all}
use Rattle.rings.specs.Rings.Back.{store-one}
use Rattle.rings.specs.Rings.Fresh.{at_rest, fresh-below}
use Rattle.circ.specs.Rows.{before_c2, between, after_c1, reader_before_c1, reader_between, reader_after_c2}
use Rattle.circ.specs.Chains.{writer_holds, fresh_writer}
use Rattle.circ.specs.Marked.{reader_holds, fresh_reader}
use Rattle.circ.specs.Rings.{Rings, rings_at, writer_waits, writer_rings, fresh_writer_rings, reader_waits, marked_waits, shared, reader_rings, fresh_reader_rings}

known : (ds ps qs : List ℕ) (spread : List ℕ → List ℕ) (s t : List ℕ) → total ds ≡ length s → total ds ≡ length t
    → rings_at ps (unrolled_all ds (spread ps) s) ≡ rings_at qs (unrolled_all ds (spread qs) t) → (ps ≡ qs) × (s ≡ t)
known ds ps qs spread s t h k e =
    let p : ps ≡ qs = ap (λ (r : Rings). r.places) e in
    let l : unrolled_all ds (spread ps) s ≡ unrolled_all ds (spread qs) t = ap (λ (r : Rings). r.line) e in
    (p, store-one ds (spread ps) s t (omega arith) (omega arith) (l ∙ ap (λ (u : List ℕ). unrolled_all ds (spread u) t) (sym p)))

-- ---- the writer

writer_total : total writer_waits ≡ 1552
unfolding writer_waits before_c2 between after_c1 total
writer_total = refl

-- so many bytes wait
pub writer_holds_lem : writer_holds ≡ 1552
unfolding before_c2 between after_c1 total
writer_holds_lem = refl

writer_many : length (waits writer_waits) ≡ 55
unfolding writer_waits before_c2 between after_c1 waits
writer_many = refl

pub writer_known : (ps qs s t : List ℕ) → length s ≡ 1552 → length t ≡ 1552 → writer_rings ps s ≡ writer_rings qs t → (ps ≡ qs) × (s ≡ t)
writer_known ps qs s t h k e = known writer_waits ps qs (λ u. u) s t (writer_total ∙ sym h) (writer_total ∙ sym k) e

-- the rings of `new()`
pub writer_rest : (ps s : List ℕ) → ps ≡ zeros 55 → s ≡ fresh_writer → writer_rings ps s ≡ fresh_writer_rings
writer_rest ps s p e =
    ap₂ writer_rings (p ∙ ap (λ (n : ℕ). zeros n) (sym writer_many)) e
    ∙ ap (rings_at (zeros (length (waits writer_waits)))) (at_rest writer_waits fresh_writer)

pub writer_legal : below (waits writer_waits) fresh_writer_rings.places ≡ true
writer_legal = fresh-below writer_waits

-- ---- the reader

reader_total : total marked_waits ≡ 3082
unfolding marked_waits reader_before_c1 reader_between reader_after_c2 total
reader_total = refl

-- so many bytes and marks wait
pub reader_holds_lem : reader_holds ≡ 3082
unfolding reader_before_c1 reader_between reader_after_c2 total
reader_holds_lem = refl

reader_many : length (waits reader_waits) ≡ 56
unfolding reader_waits reader_before_c1 reader_between reader_after_c2 waits
reader_many = refl

marked_many : length (waits marked_waits) ≡ 99
unfolding marked_waits reader_before_c1 reader_between reader_after_c2 waits
marked_many = refl

pub reader_known : (ps qs s t : List ℕ) → length s ≡ 3082 → length t ≡ 3082 → reader_rings ps s ≡ reader_rings qs t → (ps ≡ qs) × (s ≡ t)
reader_known ps qs s t h k e = known marked_waits ps qs shared s t (reader_total ∙ sym h) (reader_total ∙ sym k) e

shared_rest : shared (zeros (length (waits reader_waits))) ≡ zeros 99
unfolding shared reader_waits reader_before_c1 reader_between reader_after_c2 waits
shared_rest = refl

pub reader_rest : (ps s : List ℕ) → ps ≡ zeros 56 → s ≡ fresh_reader → reader_rings ps s ≡ fresh_reader_rings
reader_rest ps s p e =
    ap₂ reader_rings (p ∙ ap (λ (n : ℕ). zeros n) (sym reader_many)) e
    ∙ ap (rings_at (zeros (length (waits reader_waits))))
    (ap (λ (t : List ℕ). unrolled_all marked_waits t fresh_reader) (shared_rest ∙ ap (λ (n : ℕ). zeros n) (sym marked_many)) ∙ at_rest marked_waits fresh_reader)

pub reader_legal : below (waits reader_waits) fresh_reader_rings.places ≡ true
reader_legal = fresh-below reader_waits
