-- Sector after Sector: each turn fills one more part of the buffer, and one more fate.
-- Assumes nothing.
use mathlib.Core.Path.{◌≡◌, refl, sym, ap, ◌∙◌, subst}
use mathlib.Core.List.{List, ◌++◌}
use mathlib.Core.Logic.{◌⊎◌, inl, inr}
use Prim.Native.Nat.{ℕ, ◌+◌, ◌-◌, ◌*◌, ◌≤◌, ◌<◌}
use native.Mathlib.Omega.{arith}
use borrow.Rule.Slice.PartMut.{mid_of, post_of, put_mid, same_len_mid, take_put, drop_put, mid_len}
use lib.ListN.{length, take, drop, set, replicate, length-set}
use lib.Seq.{drop-drop, length-take-le, take_at, drop_at, get_or-set_same, get_or-set_other}
use Rattle.outcome.specs.First.Found.{lt-or-le}
use Rattle.repair.specs.Repair as single
use Rattle.repair.specs.Repair.{Repairs}
use Rattle.batch.specs.Sectors.{Sectors, sector_at}
use Rattle.batch.specs.Sectors.Apart.{sector_before}
use Rattle.batch.specs.Batch.{SectorFate, no_sector, fate_at, say_at, Taken}
use Rattle.batch.specs.Batch.Fates.{no_fate}

-- i of n Sectors are repaired, and the rest of the buffer is as it was
pub record Repairing (n : ℕ) (r old : List ℕ) (i : ℕ) (fates : List SectorFate) (out : List ℕ) : Type 0 where
  pub upto : i ≤ n
  pub as_long : length out ≡ length old
  pub each : (k : ℕ) → k < i → Repairs (sector_at k r) (sector_at k old) (say_at k fates) (sector_at k out)
  pub past : (k : ℕ) → i ≤ k → fate_at k fates ≡ no_sector
  pub sixteen : length fates ≡ 16
  pub rest : drop (2352 * i) out ≡ drop (2352 * i) old

pub repairing_none : (n : ℕ) (r old : List ℕ) (fates : List SectorFate) → fates ≡ replicate 16 no_sector → Repairing n r old 0 fates old
repairing_none n r old fates e =
    record {
      upto = omega arith;
      as_long = refl;
      each = λ k h. absurd (omega arith);
      past = λ k h. ap (fate_at k) e ∙ no_fate k;
      sixteen = ap length e;
      rest = refl;
    }

-- the part of Sector i as it is lent, and the buffer when it is back
abbrev lent : ℕ → List ℕ → List ℕ
lent i w = mid_of (2352 * i) (2352 * i + 2352 - 2352 * i) w

abbrev back : ℕ → List ℕ → List ℕ → List ℕ
back i w part = put_mid (2352 * i) (2352 * i + 2352 - 2352 * i) w part

lent_is : (i : ℕ) (w : List ℕ) → lent i w ≡ sector_at i w
lent_is i w = let e : 2352 * i + 2352 - 2352 * i ≡ 2352 = omega arith in ap (λ (k : ℕ). take k (drop (2352 * i) w)) e

module _ {n : ℕ} {r old : List ℕ} {i : ℕ} {fates : List SectorFate} {out : List ℕ} (g : Repairing n r old i fates out)
    (some : Sectors n r × (length old ≡ length r)) where
  pub repairing_long : length out ≡ 2352 * n
  repairing_long = g.as_long ∙ some.1 ∙ some.0.long

  -- all of them are repaired
  pub repairing_all : n ≤ i → Taken n r old fates out
  repairing_all h =
      let e : i ≡ n = omega (arith, g.upto) in
      record {
        some = some.0;
        room = some.1;
        as_long = g.as_long;
        each = λ k l. g.each k (omega arith);
        past = λ k l. g.past k (omega arith);
        sixteen = g.sixteen;
      }

  -- one more is repaired
  module _ (h : i < n) (q : SectorFate) (part : List ℕ) (answer : Repairs (lent i r) (lent i out) (single.say_of q) part)
      (long : length part ≡ length (lent i out)) where
    abbrev after : List SectorFate
    after = set fates i (q)

    ends : 2352 * i + 2352 ≤ length out
    ends = omega (arith, repairing_long)

    fits : length part ≡ 2352 * i + 2352 - 2352 * i
    fits = long ∙ mid_len (2352 * i) (2352 * i + 2352) out ends

    front : take (2352 * i) (back i out part) ≡ take (2352 * i) out
    front = take_put (2352 * i) (2352 * i + 2352 - 2352 * i) out part (omega (arith, ends))

    behind : drop (2352 * (i + 1)) (back i out part) ≡ drop (2352 * (i + 1)) old
    behind =
        let e : 2352 * i + 2352 ≡ 2352 * (i + 1) = omega arith in
        subst (λ (a : ℕ). drop a (back i out part) ≡ drop a old) e
        (drop_put (2352 * i) (2352 * i + 2352) out part (omega arith) ends fits
        ∙ sym (drop-drop 2352 (2352 * i) out)
        ∙ ap (drop 2352) g.rest
        ∙ drop-drop 2352 (2352 * i) old)

    here : sector_at i (back i out part) ≡ part
    here =
        ap (take 2352) (drop_at (take (2352 * i) out) (part ++ post_of (2352 * i) (2352 * i + 2352 - 2352 * i) out) (2352 * i) (length-take-le (2352 * i) out (omega (arith, ends))))
        ∙ take_at part (post_of (2352 * i) (2352 * i + 2352 - 2352 * i) out) 2352 (omega (arith, fits))

    this : Repairs (sector_at i r) (sector_at i old) (say_at i after) (sector_at i (back i out part))
    this =
        rw (here, get_or-set_same fates i (q) no_sector (omega (arith, g.sixteen, some.0.sixteen)), ← lent_is i r, ← g.rest, ← lent_is i out) answer

    pub repairing_more : Repairing n r old (i + 1) after (back i out part)
    repairing_more =
        record {
          upto = omega arith;
          as_long = same_len_mid (2352 * i) (2352 * i + 2352 - 2352 * i) out part long ∙ g.as_long;
          each = λ k l. each k (lt-or-le k i) l;
          past = λ k l. get_or-set_other fates i k (q) no_sector (λ e. omega arith) ∙ g.past k (omega arith);
          sixteen = length-set fates i (q) ∙ g.sixteen;
          rest = behind;
        }
      where
        each : (k : ℕ) → (k < i) ⊎ (i ≤ k) → k < i + 1 → Repairs (sector_at k r) (sector_at k old) (say_at k after) (sector_at k (back i out part))
        each k (inl b) l =
            rw (get_or-set_other fates i k (q) no_sector (λ e. omega arith), sector_before k i (back i out part) out b front)
            (g.each k b)
        each k (inr b) l = let e : i ≡ k = omega arith in subst (λ (j : ℕ). Repairs (sector_at j r) (sector_at j old) (say_at j after) (sector_at j (back i out part))) e this
