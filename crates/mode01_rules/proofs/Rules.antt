-- The ways out of the test of the rules that no parity settles.
-- Assumes nothing.
use mathlib.Core.Path.{◌≡◌, refl, sym, ap, ◌∙◌}
use mathlib.Core.Bool.{Bool, true, false, not}
use mathlib.Core.List.{List}
use Prim.Native.Nat.{ℕ}
use borrow.Author.Tests.{eq-eqb, ne_eqb, not-true, not-false}
use lib.ListN.{length, take}
use Rattle.edc.specs.Bits.{bits}
use Rattle.edc.specs.Edc.{remainder, is_zero}
use Rattle.address.specs.Address.{in_range}
use Rattle.address.specs.declared.HeaderTime.{HeaderTime}
use Rattle.sector.specs.Layout.{bytes_from, time_of, mode_of, zeros}
use Rattle.lists.specs.Same.{same}
use Rattle.mode01_rules.specs.Rules.{rules, Tests}

pub on_length : (s : List ℕ) → (length s ≡ 2352 → ⊥) → Tests s false
on_length s n = record { sector = λ l. absurd (n l); other = λ _. refl }

module _ (s : List ℕ) (l : length s ≡ 2352) where
  tested : {r : Bool} → r ≡ rules s → Tests s r
  tested e = record { sector = λ _. e; other = λ n. absurd (n l) }

  pub on_mode : (mode_of s ≡ 1 → ⊥) → Tests s false
  unfolding rules
  on_mode n = tested (simp (ne_eqb (mode_of s) 1 n))

  module _ (m : mode_of s ≡ 1) (t : HeaderTime) (ht : t ≡ time_of s) (a : Bool) (ha : a ≡ in_range t) where
    ranged : in_range (time_of s) ≡ a
    ranged = ap in_range (sym ht) ∙ sym ha

    pub on_address : not a ≡ true → Tests s false
    unfolding rules
    on_address n = let d = ranged ∙ not-true a n in tested (simp (eq-eqb (mode_of s) 1 m, d))

    module _ (na : not a ≡ false) (e : Bool) (he : e ≡ is_zero (remainder (bits (take 2068 s)))) where
      pub on_edc : not e ≡ true → Tests s false
      unfolding rules
      on_edc n = let d = ranged ∙ not-false a na in let f = sym he ∙ not-true e n in tested (simp (eq-eqb (mode_of s) 1 m, d, f))

      pub on_intermediate : not e ≡ false → (i : Bool) → i ≡ same (bytes_from 2068 8 s) (zeros 8) → Tests s i
      unfolding rules
      on_intermediate n i hi =
          let d = ranged ∙ not-false a na in
          let f = sym he ∙ not-false e n in
          tested (simp (eq-eqb (mode_of s) 1 m, d, f, hi))
