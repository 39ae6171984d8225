-- What each export promises allows one outcome: `left_one` of told for scrambling, cutting, joining, aligning and finding; a run of CIRC calls promises an equation for all
-- that it hands back, and a single step is told by its number, places, store and buffer.
-- Assumes nothing.
use Rattle.std.specs.Prelude.{◌≡◌, List, ℕ, length}
use Rattle.calls.specs.Step.{Step, step}
use Rattle.circ.specs.Rings.{Rings, writer_rings, reader_rings}
use Rattle.circ.proofs.Rings.Known.{writer_known, reader_known}
use Rattle.told.specs.Told.{Told}
use Rattle.told.proofs.Told.Steps.{step-one}

module _ {x y : ℕ} {v w : List ℕ} where
  -- a step of the CIRC writer: number, places, store and buffer
  pub circ_written_one : (o : Step Rings) (ps qs s t a b : List ℕ) → length s ≡ 1552 → length t ≡ 1552
      → Told 0 (λ say. step say (writer_rings ps s) a ≡ o) x v → Told 0 (λ say. step say (writer_rings qs t) b ≡ o) y w
      → (x ≡ y) × (v ≡ w) × ((ps ≡ qs) × (s ≡ t) × (a ≡ b))
  circ_written_one o ps qs s t a b h k p q =
      let e = step-one o (writer_rings ps s) (writer_rings qs t) a b p q in
      let known = writer_known ps qs s t h k e.2.0 in
      (e.0, e.1, (known.0, known.1, e.2.1))

  -- a step of the CIRC reader: number, doubt mark, places, store and buffer
  pub circ_read_one : (o : Step Rings) (ps qs s t a b : List ℕ) → length s ≡ 3082 → length t ≡ 3082
      → Told 1 (λ say. step say (reader_rings ps s) a ≡ o) x v → Told 1 (λ say. step say (reader_rings qs t) b ≡ o) y w
      → (x ≡ y) × (v ≡ w) × ((ps ≡ qs) × (s ≡ t) × (a ≡ b))
  circ_read_one o ps qs s t a b h k p q =
      let e = step-one o (reader_rings ps s) (reader_rings qs t) a b p q in
      let known = reader_known ps qs s t h k e.2.0 in
      (e.0, e.1, (known.0, known.1, e.2.1))
