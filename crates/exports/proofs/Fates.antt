-- The fates of a batch are told one by one.
-- Assumes nothing.
use mathlib.Core.Path.{◌≡◌, sym, ◌∙◌}
use mathlib.Core.List.{List}
use Prim.Native.Nat.{ℕ, ◌+◌, ◌<◌, ◌≤◌}
use native.Mathlib.Omega.{arith}
use lib.ListN.{length, get_or, set, length-map, get_or-map}
use Rattle.std.specs.Prelude.{Ok}
use Rattle.outcome.specs.Buffer.{Filling}
use Rattle.outcome.specs.Buffer.Filled.{filling-none, filling_more, filling_all}
use Rattle.repair.specs.Repair as single
use Rattle.batch.specs.Batch.{SectorFate}
use Rattle.told.specs.Told.{number_of}
use Rattle.exports.specs.Batches.{changed_in, numbers_of, changed_of}

-- what the code's rules take for a fate behind the end
abbrev behind : SectorFate
behind = Ok 0

abbrev number_in : SectorFate → ℕ
number_in f = number_of (single.say_of f)

abbrev changes_in : SectorFate → ℕ
changes_in f = changed_in (single.say_of f)

-- i of them are told
pub record Telling (fates : List SectorFate) (m c : List ℕ) (i : ℕ) (numbers changed : List ℕ) : Type 0 where
  pub long : length fates ≡ 16
  pub of_numbers : Filling m (numbers_of fates) i numbers
  pub of_changed : Filling c (changed_of fates) i changed

pub telling_none : (fates : List SectorFate) (m c : List ℕ) → length fates ≡ 16 → length m ≡ 16 → length c ≡ 16 → Telling fates m c 0 m c
telling_none fates m c l p q =
    record {
      long = l;
      of_numbers = filling-none m (numbers_of fates) (p ∙ sym (length-map fates number_in ∙ l));
      of_changed = filling-none c (changed_of fates) (q ∙ sym (length-map fates changes_in ∙ l));
    }

module _ {fates : List SectorFate} {m c : List ℕ} {i : ℕ} {numbers changed : List ℕ} (g : Telling fates m c i numbers changed) where
  pub telling_more : i < 16 → (x y : ℕ) → x ≡ number_in (get_or fates i behind) → y ≡ changes_in (get_or fates i behind)
      → Telling fates m c (i + 1) (set numbers i x) (set changed i y)
  telling_more h x y p q =
      record {
        long = g.long;
        of_numbers = filling_more g.of_numbers x (omega (arith, length-map fates number_in, g.long)) (p ∙ sym (get_or-map number_in fates i behind));
        of_changed = filling_more g.of_changed y (omega (arith, length-map fates changes_in, g.long)) (q ∙ sym (get_or-map changes_in fates i behind));
      }

  pub telling_all : 16 ≤ i → (numbers ≡ numbers_of fates) × (changed ≡ changed_of fates)
  telling_all h = (
    filling_all g.of_numbers (omega (arith, length-map fates number_in, g.long)),
    filling_all g.of_changed (omega (arith, length-map fates changes_in, g.long)),
  )
