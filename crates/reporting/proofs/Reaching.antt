-- From turn to turn: what was read, the lines of what came, and how far the report then is.
-- Assumes nothing.
use Rattle.std.proofs.Common.{◌≡◌, sym, ap, ◌∙◌, subst, true, false, List, ℕ, ◌+◌, ◌-◌, ◌*◌, ◌/◌, ◌≤◌, ◌<◌, arith, length}
use Rattle.batch.specs.Sectors.{sector_at}
use Rattle.batch.specs.Sectors.Apart.{length_sector}
use Rattle.fate_counts.specs.declared.Counts.{Counts}
use Rattle.fate_counts.specs.Counting.{largest}
use Rattle.input_reading.specs.declared.Filled.{Filled}
use Rattle.std.specs.Prelude.{Option, None}
use Rattle.std.specs.Prelude as std
use Rattle.input_reading.specs.declared.Stop.{Stop}
use Rattle.input_reading.specs.declared.Stop.TheVariants.{Failed, End}
use Rattle.input_reading.specs.Reading.{StoppedAt, Fills}
use Rattle.report_stand.specs.declared.Progress.{Progress}
use Rattle.report_stand.specs.declared.Stand.{Stand}
use Rattle.report_stand.specs.declared.Stand.TheVariants.{Going}
use Rattle.report_stand.specs.Standing.{is_over, ahead, stand_of, stand_after}
use Rattle.report_run.specs.Run.{tells, ends, unread, goes, Reached, Counted, Turning}
use Rattle.report_run.specs.Run as run
use Rattle.report_lines.specs.Told.{Lines, none, next, Told, all_told, unwritten, sectors_in, Some}
use Rattle.report_lines.specs.Told.Counted.{lines_counted}
use Rattle.reporting.specs.Inner.Turn.{Turn}
use Rattle.reporting.proofs.Steps.{going, turned-over}

-- no more is read than there is room for
pub within : (room have : ℕ) (stop : Option Stop) → StoppedAt room have stop → have ≤ room
within room have None h = omega arith
within room have (std.Some stop) h = omega arith

pub whole-within : (c : Counts) (filled : Filled) → Fills (2352 * ahead c) filled → 2352 * (filled.have / 2352) ≤ 37632
whole-within c filled f =
    let h : filled.have ≤ 2352 * ahead c = within (2352 * ahead c) filled.have filled.stop f in omega arith

-- ---- one turn

module _ (c : Counts) (filled : Filled) (fills : Fills (2352 * ahead c) filled) (r : List ℕ)
    (long : length r ≡ 2352 * (filled.have / 2352)) where
  -- the whole Sectors that came are few enough
  pub some-came : (out : List ℕ) → length out ≡ length r → Some c r out
  some-came out e =
      let h : filled.have ≤ 2352 * ahead c = within (2352 * ahead c) filled.have filled.stop fills in
      record { whole = omega arith; few = omega arith; counts = omega arith; room = e }

  so_many : sectors_in r ≡ filled.have / 2352
  so_many = omega arith

  turn_of : {p : Progress} → Told (filled.have / 2352) r c (stand_after filled) p → Turn c p
  turn_of t = record { filled = filled; fills = fills; came = r; long = long; told = t }

  -- a line could not be written
  pub turn-over : (p : Progress) → Told (sectors_in r) r c Going p → is_over p.stand ≡ true → Turn c p
  turn-over p (all_told l e) o = let z : true ≡ false = sym o ∙ ap is_over e in let z : ◌≡◌ {A = ℕ} 0 1 = cc in absurd (omega arith)
  turn-over p (unwritten h l f e) o = turn_of (unwritten (omega (arith, so_many)) l f e)

-- ---- from turn to turn

lines_reached : {r : List ℕ} {c d : Counts} {k : ℕ} (m : ℕ) → length r ≡ 2352 * m → k ≤ m → k ≤ largest - c.sectors → Reached Going c
    → Lines r c k d → Reached Going d
lines_reached m l h room a none = a
lines_reached {r} m l h room a (next {i} {d} {fate} u f) =
    let before = lines_reached m l (omega arith) (omega arith) a u in
    let e = lines_counted u (omega arith) in
    record { text = _; run = goes before.run (tells {c = d} (sector_at i r) (length_sector m i r l (omega arith)) f (omega (arith, e))) }

module _ (n : ℕ) (p q : Progress) (on : p.stand ≡ Going) (t : Turning n p) (h : n < largest) (u : Turn p.counts q) where
  abbrev have : ℕ
  have = u.filled.have

  counted : p.counts.sectors ≡ n
  counted = subst (λ (s : Stand). Counted n s p.counts) on t.counted

  few : have / 2352 ≤ ahead p.counts
  few = let w = within (2352 * ahead p.counts) have u.filled.stop u.fills in omega arith

  -- the report after some of the lines
  told_so_far : {k : ℕ} {d : Counts} → k ≤ have / 2352 → Lines u.came p.counts k d → Reached Going d × (d.sectors ≡ n + k)
  told_so_far {k} {d} l x =
      let room : k ≤ largest - p.counts.sectors = omega (arith, few) in (
        lines_reached (have / 2352) u.long l room (subst (λ (s : Stand). Reached s p.counts) on t.reached) x,
        omega (arith, lines_counted x room, counted),
      )

  -- and then as reading ended
  ended : (stop : Option Stop) → StoppedAt (2352 * ahead p.counts) have stop → q.stand ≡ stand_of have stop
      → Reached Going q.counts × (q.counts.sectors ≡ n + have / 2352) → Turning (n + ahead p.counts) q
  ended None s e a =
      record {
        reached = subst (λ (x : Stand). Reached x q.counts) (sym e) a.0;
        counted = subst (λ (x : Stand). Counted (n + ahead p.counts) x q.counts) (sym e) (omega (arith, a.1, s));
      }
  ended (std.Some End) s e a =
      record {
        reached = subst (λ (x : Stand). Reached x q.counts) (sym e) (record { text = _; run = goes a.0.run (ends (omega arith)) });
        counted = subst (λ (x : Stand). Counted (n + ahead p.counts) x q.counts) (sym e) tt;
      }
  ended (std.Some Failed) s e a =
      record {
        reached = subst (λ (x : Stand). Reached x q.counts) (sym e) (record { text = _; run = goes a.0.run unread });
        counted = subst (λ (x : Stand). Counted (n + ahead p.counts) x q.counts) (sym e) tt;
      }

  -- a turn takes the report as many Sectors further as were asked for, or to its end
  pub turned : Turning (n + ahead p.counts) q
  turned = by u.told
    where
      by : Told (have / 2352) u.came p.counts (stand_after u.filled) q → Turning (n + ahead p.counts) q
      by (all_told l e) = ended u.filled.stop u.fills e (told_so_far (omega arith) l)
      by (unwritten {k} {fate} b l f e) =
          let a = told_so_far (omega arith) l in
          let step = tells {c = q.counts} (sector_at k u.came) (length_sector (have / 2352) k u.came u.long b) f (omega (arith, a.1, few, counted)) in
          record {
            reached = subst (λ (x : Stand). Reached x q.counts) (sym e) (record { text = _; run = goes a.0.run (run.unwritten 0 step) });
            counted = subst (λ (x : Stand). Counted (n + ahead p.counts) x q.counts) (sym e) tt;
          }

-- the Sectors counted where the report goes on
pub sectors_counted : (n : ℕ) (p : Progress) → is_over p.stand ≡ false → Turning n p → p.counts.sectors ≡ n
sectors_counted n p e t = subst (λ (s : Stand). Counted n s p.counts) (going p.stand e) t.counted

module _ (n : ℕ) (p q : Progress) (e : is_over p.stand ≡ false) (t : Turning n p) (h : n < largest) (u : Turn p.counts q) where
  after_turn : Turning (n + ahead p.counts) q
  after_turn = turned n p q (going p.stand e) t h u

  -- where a turn ends the report the number of Sectors does not matter
  pub ends_there : is_over q.stand ≡ true → Turning largest q
  ends_there o = turned-over (n + ahead p.counts) largest q o after_turn

  -- and else more of them are counted
  pub goes_on : is_over q.stand ≡ false → (n < q.counts.sectors) × (q.counts.sectors ≤ largest) × Turning q.counts.sectors q
  goes_on o =
      let k : q.counts.sectors ≡ n + ahead p.counts = sectors_counted (n + ahead p.counts) q o after_turn in
      let m : p.counts.sectors ≡ n = sectors_counted n p e t in
      (omega arith, omega arith, subst (λ (x : ℕ). Turning x q) (sym k) after_turn)
