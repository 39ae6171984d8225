-- The sixteen fates of a batch: those of its Sectors, and behind them those of no Sector.
-- Assumes nothing.
use Rattle.std.specs.Prelude.{◌≡◌, List, ◌++◌, ◌⊎◌, ℕ, ◌+◌, ◌-◌, ◌<◌, ◌≤◌, length, take, replicate}
use Rattle.std.proofs.Common.{sym, ap, ◌∙◌, inl, inr, arith, length-append, length-take-le, get_or-take, get_or-append-add}
use Rattle.std.proofs.lemmas.List.{length-replicate, get_or-replicate}
use Rattle.std.proofs.Math.ListN.{get_or-append, get_or-eq_default}
use Rattle.outcome.specs.First.Found.{lt-or-le}
use Rattle.batch.specs.Batch.{SectorFate, no_sector, fate_at}

abbrev pub sixteen : List SectorFate → List SectorFate
sixteen f = take 16 (f ++ replicate 16 no_sector)

pub no_fate : (i : ℕ) → fate_at i (replicate 16 no_sector) ≡ no_sector
no_fate i = by (lt-or-le i 16)
  where
    by : (i < 16) ⊎ (16 ≤ i) → fate_at i (replicate 16 no_sector) ≡ no_sector
    by (inl h) = get_or-replicate 16 i no_sector no_sector h
    by (inr h) = get_or-eq_default (replicate 16 no_sector) no_sector h

pub length-sixteen : (f : List SectorFate) → length (sixteen f) ≡ 16
length-sixteen f = length-take-le 16 (f ++ replicate 16 no_sector) (omega (arith, length-append f (replicate 16 no_sector), length-replicate 16 no_sector))

-- of at most sixteen fates none is lost
pub fate_sixteen : (i : ℕ) (f : List SectorFate) → length f ≤ 16 → fate_at i (sixteen f) ≡ fate_at i f
fate_sixteen i f l = by (lt-or-le i 16)
  where
    within : i < 16 → (i < length f) ⊎ (length f ≤ i) → fate_at i (sixteen f) ≡ fate_at i f
    within h (inl k) = get_or-take 16 (f ++ replicate 16 no_sector) i no_sector h ∙ get_or-append f (replicate 16 no_sector) no_sector i k
    within h (inr k) =
        let e : length f + (i - length f) ≡ i = omega arith in
        get_or-take 16 (f ++ replicate 16 no_sector) i no_sector h
        ∙ ap (λ (j : ℕ). fate_at j (f ++ replicate 16 no_sector)) (sym e)
        ∙ get_or-append-add f (replicate 16 no_sector) (i - length f) no_sector
        ∙ no_fate (i - length f)
        ∙ sym (get_or-eq_default f no_sector k)

    by : (i < 16) ⊎ (16 ≤ i) → fate_at i (sixteen f) ≡ fate_at i f
    by (inl h) = within h (lt-or-le i (length f))
    by (inr h) = get_or-eq_default (sixteen f) no_sector (omega (arith, length-sixteen f)) ∙ sym (get_or-eq_default f no_sector (omega arith))
