-- The ways out of `fate_of` with a Sector that is handed out.
-- Assumes nothing.
use mathlib.Core.Path.{◌≡◌, sym, ap, ◌∙◌}
use mathlib.Core.List.{List}
use Prim.Native.Nat.{ℕ}
use borrow.Author.Tests.{eq-eqb, ne_eqb}
use lib.ListN.{get_or}
use Rattle.std.specs.Prelude.{Result, Ok}
use Rattle.address.specs.declared.HeaderTime.{HeaderTime}
use Rattle.sector.specs.Layout.{time_of}
use Rattle.repair.specs.Repair.{say_of}
use Rattle.repair.specs.declared.RepairError.{RepairError}
use Rattle.fate_counts.specs.declared.Fate.TheVariants as fates
use Rattle.fate.specs.Fated.{fate_from}

module _ (s : List ℕ) (a : Result ℕ RepairError) (x y z : ℕ) (p : x ≡ get_or s 12 0) (q : y ≡ get_or s 13 0) (r : z ≡ get_or s 14 0)
    (t : HeaderTime) (made : t ≡ record { 0 = x; 1 = y; 2 = z }) (n : ℕ) (e : a ≡ Ok n) where
  time : t ≡ time_of s
  time = made ∙ (λ i. record { 0 = p i; 1 = q i; 2 = r i })

  answered : fate_from (say_of (Ok n)) s ≡ fate_from (say_of a) s
  answered = ap (λ (b : Result ℕ RepairError). fate_from (say_of b) s) (sym e)

  pub on_clean : n ≡ 0 → fates.Clean t ≡ fate_from (say_of a) s
  on_clean m =
      let c : fates.Clean (time_of s) ≡ fate_from (say_of (Ok n)) s = simp (eq-eqb n 0 m) in
      ap (λ (u : HeaderTime). fates.Clean u) time ∙ c ∙ answered

  pub on_repaired : (n ≡ 0 → ⊥) → fates.Repaired t n ≡ fate_from (say_of a) s
  on_repaired m =
      let c : fates.Repaired (time_of s) n ≡ fate_from (say_of (Ok n)) s = simp (ne_eqb n 0 m) in
      ap (λ (u : HeaderTime). fates.Repaired u n) time ∙ c ∙ answered
