-- The Sectors that a run's counts are about.
-- Assumes nothing.
use Rattle.std.specs.Prelude.{◌≡◌, refl, List, [], ◌∷◌, ◌++◌, ℕ, ◌+◌, ◌<◌, length}
use Rattle.std.proofs.Common.{arith, length-append}
use Rattle.fate_counts.specs.declared.Counts.{Counts}
use Rattle.fate_counts.specs.declared.Fate.{Fate}
use Rattle.fate_counts.specs.Counting.{largest, none_counted, counted_with}
use Rattle.text.specs.Report.Room.{Room, counted-right}
use Rattle.text.specs.Report.{is_clean, is_repaired, is_refused, how_many}
use Rattle.text.specs.Report.Counts.{counts_add_up}
use Rattle.fate.specs.Fated.{Fated}

-- whole Sectors, in the order in which they came, and the fate of each
pub data Fates : List (List ℕ) → List Fate → Type 0 where
  none : Fates [] []
  one_more : {sectors : List (List ℕ)} {fates : List Fate} {fate : Fate} (sector : List ℕ) → Fates sectors fates → length sector ≡ 2352
      → Fated sector fate → Fates (sectors ++ (sector ∷ [])) (fates ++ (fate ∷ []))

-- the counts are about whole Sectors with these fates
pub record Seen (fates : List Fate) (c : Counts) : Type 0 where
  pub sectors : List (List ℕ)
  pub fated : Fates sectors fates
  pub all : c.sectors ≡ length fates
  pub clean : c.clean ≡ how_many is_clean fates
  pub repaired : c.repaired ≡ how_many is_repaired fates
  pub refused : c.refused ≡ how_many is_refused fates

-- ---- laws

more_of : (is : Fate → ℕ) (fates : List Fate) (fate : Fate) → how_many is (fates ++ (fate ∷ [])) ≡ how_many is fates + is fate
more_of is [] fate = omega arith
more_of is (f ∷ fates) fate = omega (arith, more_of is fates fate)

pub see_none : Seen [] none_counted
see_none =
    record {
      sectors = [];
      fated = none;
      all = refl;
      clean = refl;
      repaired = refl;
      refused = refl;
    }

-- a Sector that is counted is one more of them
pub see : {c : Counts} {fates : List Fate} {fate : Fate} (sector : List ℕ) → Seen fates c → length sector ≡ 2352 → Fated sector fate
    → c.sectors < largest → Seen (fates ++ (fate ∷ [])) (counted_with c fate)
see {c} {fates} {fate} sector s l f h =
    let sum = counts_add_up fates in
    let room : Room c =
    record {
      sectors = omega arith;
      clean = omega (arith, s.all, s.clean, sum);
      repaired = omega (arith, s.all, s.repaired, sum);
      refused = omega (arith, s.all, s.refused, sum);
    } in
    let o = counted-right c room fate in
    let longer : length (fates ++ (fate ∷ [])) ≡ length fates + 1 = length-append fates (fate ∷ []) in
    record {
      sectors = s.sectors ++ (sector ∷ []);
      fated = one_more sector s.fated l f;
      all = omega (arith, o.sectors, s.all, longer);
      clean = omega (arith, o.clean, s.clean, more_of is_clean fates fate);
      repaired = omega (arith, o.repaired, s.repaired, more_of is_repaired fates fate);
      refused = omega (arith, o.refused, s.refused, more_of is_refused fates fate);
    }

-- the counts of the last line add up to the Sectors seen
pub seen_add_up : {fates : List Fate} {c : Counts} → Seen fates c → c.clean + c.repaired + c.refused ≡ c.sectors
seen_add_up {fates} s = omega (arith, counts_add_up fates, s.all, s.clean, s.repaired, s.refused)
