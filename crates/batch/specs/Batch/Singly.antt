-- A batch is the single calls one after another.
-- Assumes nothing.
use Rattle.std.specs.Prelude.{◌≡◌, refl, List, [], ◌∷◌, ◌++◌, ℕ, zero, suc, ◌+◌, ◌*◌, ◌<◌, ◌≤◌, length, take, drop}
use Rattle.std.proofs.Common.{sym, ap, ◌∙◌, arith, length-append, length-drop, take-append-drop, length-take-le, take_at, get_or-take}
use Rattle.std.proofs.Math.ListN.{get_or-eq_default}
use Rattle.outcome.specs.Say.{Say, done}
use Rattle.outcome.specs.Say.Refusals.{cleared-right}
use Rattle.repair.specs.Repair as single
use Rattle.repair.specs.Repair.{Repairs}
use Rattle.batch.specs.Sectors.{sector_at}
use Rattle.batch.specs.Sectors.Apart.{sector_behind, sector_second}
use Rattle.batch.specs.Batch.{SectorFate, no_sector, say_at, Taken, RepairsMany, taken}
use Rattle.batch.specs.Batch.Alone.{when_done}
use Rattle.batch.specs.Batch.Fates.{sixteen, length-sixteen, fate_sixteen}

-- single calls one after another, each on the next Sector and the next 2,352 bytes of the buffer: what came in, what the buffer held, the
-- fate of each, and what the buffer then holds
pub data Singly : List ℕ → List ℕ → List SectorFate → List ℕ → Type 0 where
  none : Singly [] [] [] []
  next : {r old s rs olds ss : List ℕ} {f : SectorFate} {fs : List SectorFate} → length r ≡ 2352 → length old ≡ 2352
      → Repairs r old (single.say_of f) s → Singly rs olds fs ss → Singly (r ++ rs) (old ++ olds) (f ∷ fs) (s ++ ss)

-- each Sector by itself, where there are as many as fates
record ByEach (fs : List SectorFate) (r old s : List ℕ) : Type 0 where
  in_long : length r ≡ 2352 * length fs
  old_long : length old ≡ 2352 * length fs
  out_long : length s ≡ 2352 * length fs
  each : (i : ℕ) → i < length fs → Repairs (sector_at i r) (sector_at i old) (say_at i fs) (sector_at i s)

-- what repair leaves is as long as what the buffer held
repaired_long : {r old : List ℕ} {a : Say} {s : List ℕ} → length old ≡ 2352 → Repairs r old a s → length s ≡ 2352
repaired_long {old = old} l (single.wrong_incoming n) = ap length (cleared-right 2352 old l)
repaired_long l (single.wrong-outgoing m n) = absurd (n l)
repaired_long {old = old} l (single.none-near m n o) = ap length (cleared-right 2352 old l)
repaired_long l (single.handed_out m n o) = o.correct.correct.head.long

empty : (w : List ℕ) → length w ≡ 0 → [] ≡ w
empty [] e = refl
empty (x ∷ w) e = absurd (omega arith)

by_calls : (fs : List SectorFate) (r old s : List ℕ) → ByEach fs r old s → Singly r old fs s
by_calls [] r old s b =
    rw (← empty r b.in_long, ← empty old b.old_long, ← empty s b.out_long) none
by_calls (f ∷ fs) r old s b =
    rw (← take-append-drop 2352 r, ← take-append-drop 2352 old, ← take-append-drop 2352 s)
    (next (front r b.in_long) (front old b.old_long) (b.each 0 (omega arith))
    (by_calls fs (drop 2352 r) (drop 2352 old) (drop 2352 s)
    (record {
      in_long = fewer r b.in_long;
      old_long = fewer old b.old_long;
      out_long = fewer s b.out_long;
      each = λ i h. rw (later i r, later i old, later i s) (b.each (suc i) (omega arith));
    })))
  where
    front : (w : List ℕ) → length w ≡ 2352 * suc (length fs) → length (take 2352 w) ≡ 2352
    front w l = length-take-le 2352 w (omega arith)

    fewer : (w : List ℕ) → length w ≡ 2352 * suc (length fs) → length (drop 2352 w) ≡ 2352 * length fs
    fewer w l = omega (arith, length-drop 2352 w)

    later : (i : ℕ) (w : List ℕ) → sector_at i (drop 2352 w) ≡ sector_at (suc i) w
    later i w = let e : 1 + i ≡ suc i = omega arith in sector_behind i 1 w ∙ ap (λ (k : ℕ). sector_at k w) e

-- the single calls on the Sectors of a batch give its fates and its bytes
pub batch_singly : {r old : List ℕ} {f : List SectorFate} {s : List ℕ} {n : ℕ} → RepairsMany r old (done (n ∷ [])) f s → Singly r old (take n f) s
batch_singly {r} {old} {f} {s} {n} p =
    by_calls (take n f) r old s
    (record {
      in_long = d.some.long ∙ so_many;
      old_long = d.room ∙ d.some.long ∙ so_many;
      out_long = d.as_long ∙ d.room ∙ d.some.long ∙ so_many;
      each = λ i h. rw (get_or-take n f i no_sector (omega (arith, many))) (d.each i (omega (arith, many)));
    })
  where
    d : Taken n r old f s
    d = when_done p

    many : length (take n f) ≡ n
    many = length-take-le n f (omega (arith, d.some.sixteen, d.sixteen))

    so_many : 2352 * n ≡ 2352 * length (take n f)
    so_many = omega (arith, many)

one_by_one : {r old : List ℕ} {fs : List SectorFate} {s : List ℕ} → Singly r old fs s → ByEach fs r old s
one_by_one none = record { in_long = refl; old_long = refl; out_long = refl; each = λ i h. absurd (omega arith) }
one_by_one (next {r} {old} {s} {rs} {olds} {ss} {f} {fs} lr lo a more) =
    let b = one_by_one more in
    let ls : length s ≡ 2352 = repaired_long lo a in
    record {
      in_long = omega (arith, length-append r rs, b.in_long);
      old_long = omega (arith, length-append old olds, b.old_long);
      out_long = omega (arith, length-append s ss, b.out_long, ls);
      each = each b ls;
    }
  where
    each : ByEach fs rs olds ss → length s ≡ 2352 → (i : ℕ) → i < suc (length fs)
        → Repairs (sector_at i (r ++ rs)) (sector_at i (old ++ olds)) (say_at i (f ∷ fs)) (sector_at i (s ++ ss))
    each b ls zero h = rw (take_at r rs 2352 lr, take_at old olds 2352 lo, take_at s ss 2352 ls) a
    each b ls (suc i) h = rw (later i r rs lr, later i old olds lo, later i s ss ls) (b.each i (omega arith))
      where
        later : (i : ℕ) (u v : List ℕ) → length u ≡ 2352 → sector_at (suc i) (u ++ v) ≡ sector_at i v
        later i u v l = let e : 1 + i ≡ suc i = omega arith in sym (ap (λ (k : ℕ). sector_at k (u ++ v)) e) ∙ sector_second i 1 u v l

-- and single calls one after another, on 1 to 16 Sectors, are a batch
pub singly_batch : {r old : List ℕ} {fs : List SectorFate} {s : List ℕ} → Singly r old fs s → 1 ≤ length fs → length fs ≤ 16
    → RepairsMany r old (done (length fs ∷ [])) (sixteen fs) s
singly_batch {fs = fs} {s = s} p h k =
    let b = one_by_one p in
    taken {fates = sixteen fs} {new = s}
    (record {
      some = record { some = h; sixteen = k; long = b.in_long };
      room = b.old_long ∙ sym b.in_long;
      as_long = b.out_long ∙ sym b.old_long;
      each = λ i l. rw (fate_sixteen i fs k) (b.each i l);
      past = λ i l. fate_sixteen i fs k ∙ get_or-eq_default fs no_sector l;
      sixteen = length-sixteen fs;
    })
