-- A batch is the batches of its parts, split anywhere.
-- Assumes nothing.
use Rattle.std.specs.Prelude.{◌≡◌, List, [], ◌∷◌, ◌++◌, ◌⊎◌, ℕ, ◌+◌, ◌-◌, ◌*◌, ◌<◌, ◌≤◌, length, take, drop}
use Rattle.std.proofs.Common.{sym, ap, ◌∙◌, subst, inl, inr, arith, length-append, length-drop, length-take-le, take_all, get_or-take, get_or-drop, get_or-append-add}
use Rattle.std.proofs.Math.ListN.{get_or-append, get_or-eq_default}
use Rattle.outcome.specs.First.Found.{lt-or-le}
use Rattle.outcome.specs.Say.{done}
use Rattle.repair.specs.Repair.{Repairs}
use Rattle.batch.specs.Sectors.{sector_at}
use Rattle.batch.specs.Sectors.Apart.{sector_first, sector_second, row_from, length-row, sector_row}
use Rattle.batch.specs.Batch.{SectorFate, no_sector, fate_at, say_at, Taken, RepairsMany, taken}
use Rattle.batch.specs.Batch.Alone.{when_done}
use Rattle.batch.specs.Batch.Fates.{sixteen, length-sixteen, fate_sixteen}

-- Sectors in a row of a batch are a batch by themselves: m of them, from Sector a on
module _ {n : ℕ} {r old : List ℕ} {f : List SectorFate} {s : List ℕ} (p : RepairsMany r old (done (n ∷ [])) f s) where
  part_of : (a m : ℕ) → 1 ≤ m → a + m ≤ n → Taken m (row_from a m r) (row_from a m old) (sixteen (take m (drop a f))) (row_from a m s)
  part_of a m b h =
      let d = when_done p in
      let lr = length-row n a m r d.some.long h in
      let lo = length-row n a m old (d.room ∙ d.some.long) h in
      record {
        some = record { some = b; sixteen = omega (arith, d.some.sixteen); long = lr };
        room = lo ∙ sym lr;
        as_long = length-row n a m s (d.as_long ∙ d.room ∙ d.some.long) h ∙ sym lo;
        each = λ i l. rw (sector_row a m i r l, sector_row a m i old l, sector_row a m i s l, fate_here i l) (d.each (a + i) (omega arith));
        past = λ i l. fate_sixteen i (take m (drop a f)) few ∙ get_or-eq_default (take m (drop a f)) no_sector (omega (arith, many));
        sixteen = length-sixteen (take m (drop a f));
      }
    where
      many : length (take m (drop a f)) ≡ m
      many = length-take-le m (drop a f) (omega (arith, length-drop a f, (when_done p).sixteen, (when_done p).some.sixteen))

      few : length (take m (drop a f)) ≤ 16
      few = omega (arith, many, (when_done p).some.sixteen)

      fate_here : (i : ℕ) → i < m → fate_at i (sixteen (take m (drop a f))) ≡ fate_at (a + i) f
      fate_here i l = fate_sixteen i (take m (drop a f)) few ∙ get_or-take m (drop a f) i no_sector l ∙ get_or-drop a f i no_sector

  -- the two parts of a batch, split behind any of its Sectors but the last, are batches
  pub split : (k : ℕ) → 1 ≤ k → k < n
      → RepairsMany (take (2352 * k) r) (take (2352 * k) old) (done (k ∷ [])) (sixteen (take k f)) (take (2352 * k) s)
      × RepairsMany (drop (2352 * k) r) (drop (2352 * k) old) (done ((n - k) ∷ [])) (sixteen (take (n - k) (drop k f))) (drop (2352 * k) s)
  split k b h =
      let d = when_done p in (
        taken (part_of 0 k b (omega arith)),
        rw (← rest k r d.some.long, ← rest k old (d.room ∙ d.some.long), ← rest k s (d.as_long ∙ d.room ∙ d.some.long))
            (taken (part_of k (n - k) (omega arith) (omega arith))),
      )
    where
      rest : (k : ℕ) (w : List ℕ) → length w ≡ 2352 * n → row_from k (n - k) w ≡ drop (2352 * k) w
      rest k w l = take_all (2352 * (n - k)) (drop (2352 * k) w) (omega (arith, length-drop (2352 * k) w))

-- two batches one behind the other are a batch, where they have at most sixteen Sectors
pub joined : {k m : ℕ} {r q old older : List ℕ} {f g : List SectorFate} {s t : List ℕ} → RepairsMany r old (done (k ∷ [])) f s
    → RepairsMany q older (done (m ∷ [])) g t → k + m ≤ 16
    → RepairsMany (r ++ q) (old ++ older) (done ((k + m) ∷ [])) (sixteen (take k f ++ take m g)) (s ++ t)
joined {k} {m} {r} {q} {old} {older} {f} {g} {s} {t} p o h =
    taken {n = k + m}
    (record {
      some =
          record {
            some = omega (arith, d.some.some);
            sixteen = h;
            long = omega (arith, length-append r q, d.some.long, e.some.long);
          };
      room = length-append old older ∙ omega (arith, length-append r q, d.room, e.room);
      as_long = length-append s t ∙ omega (arith, length-append old older, d.as_long, e.as_long);
      each = λ i l. each i (lt-or-le i k) l;
      past = λ i l. fate_sixteen i (take k f ++ take m g) (omega (arith, both)) ∙ get_or-eq_default (take k f ++ take m g) no_sector (omega (arith, both));
      sixteen = length-sixteen (take k f ++ take m g);
    })
  where
    d : Taken k r old f s
    d = when_done p

    e : Taken m q older g t
    e = when_done o

    first : length (take k f) ≡ k
    first = length-take-le k f (omega (arith, d.sixteen))

    both : length (take k f ++ take m g) ≡ k + m
    both = length-append (take k f) (take m g) ∙ omega (arith, first, length-take-le m g (omega (arith, e.sixteen)))

    fate_first : (i : ℕ) → i < k → fate_at i (sixteen (take k f ++ take m g)) ≡ fate_at i f
    fate_first i l =
        fate_sixteen i (take k f ++ take m g) (omega (arith, both))
        ∙ get_or-append (take k f) (take m g) no_sector i (omega (arith, first))
        ∙ get_or-take k f i no_sector l

    fate_second : (j : ℕ) → j < m → fate_at (k + j) (sixteen (take k f ++ take m g)) ≡ fate_at j g
    fate_second j l =
        let n : k + j ≡ length (take k f) + j = omega (arith, first) in
        fate_sixteen (k + j) (take k f ++ take m g) (omega (arith, both))
        ∙ ap (λ (i : ℕ). fate_at i (take k f ++ take m g)) n
        ∙ get_or-append-add (take k f) (take m g) j no_sector
        ∙ get_or-take m g j no_sector l

    second : (j : ℕ) → j < m
        → Repairs (sector_at (k + j) (r ++ q)) (sector_at (k + j) (old ++ older)) (say_at (k + j) (sixteen (take k f ++ take m g))) (sector_at (k + j) (s ++ t))
    second j l =
        rw (sector_second j k r q d.some.long, sector_second j k old older (d.room ∙ d.some.long), sector_second j k s t (d.as_long ∙ d.room ∙ d.some.long), fate_second j l)
        (e.each j l)

    each : (i : ℕ) → (i < k) ⊎ (k ≤ i) → i < k + m
        → Repairs (sector_at i (r ++ q)) (sector_at i (old ++ older)) (say_at i (sixteen (take k f ++ take m g))) (sector_at i (s ++ t))
    each i (inl b) l =
        rw (sector_first i k r q d.some.long b, sector_first i k old older (d.room ∙ d.some.long) b, sector_first i k s t (d.as_long ∙ d.room ∙ d.some.long) b, fate_first i b)
        (d.each i b)
    each i (inr b) l =
        let n : k + (i - k) ≡ i = omega arith in
        subst (λ (x : ℕ). Repairs (sector_at x (r ++ q)) (sector_at x (old ++ older)) (say_at x (sixteen (take k f ++ take m g))) (sector_at x (s ++ t))) n
        (second (i - k) (omega arith))
