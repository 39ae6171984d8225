-- The ways out of salvage, each with what leads to it: the order 1, 2, 22, 5.
-- Assumes nothing.
use mathlib.Core.Path.{◌≡◌, sym, ap, ◌∙◌, subst}
use mathlib.Core.Bool.{Bool, true, cond}
use mathlib.Core.List.{List, [], ◌∷◌}
use Prim.Native.Nat.{ℕ, ◌≤◌}
use native.Mathlib.Decide.{ℕ_discrete}
use native.Mathlib.Omega.{arith}
use borrow.Author.Tests.{eq-eqb}
use lib.ListN.{length, length-replicate}
use Rattle.std.specs.Prelude.{Option, Some, None}
use Rattle.outcome.specs.Say.{Say, done, refused, cleared}
use Rattle.outcome.specs.Say.Refusals.{cleared-right, cleared-wrong}
use Rattle.codeword.specs.Code.{changes}
use Rattle.sector.specs.Layout.{zeros}
use Rattle.sector.specs.Layout.Zeros.{length-zeros}
use Rattle.listing.specs.Listed.{listing, fitting, Lists}
use Rattle.salvaging.specs.Salvage.{ResultOf, InRange, Room, Salvages, wrong_incoming, wrong-outgoing, wrong-passes, none_found, handed_out}
use Rattle.salvage_search.specs.Search.{Finds, Searched}
use Rattle.salvage.specs.Inner.Works.{Works, nothing, something}

-- ---- what comes of the search

module _ (r s b u t : List ℕ) (allowed : ℕ) (f : Option ℕ) (long : length r ≡ 2352) (copy : s ≡ r) (blank : b ≡ zeros 2352) (search : Searched s b allowed f u t) where
  found : Finds s allowed f t
  found = (search.sectors (ap length copy ∙ long) (ap length blank ∙ length-zeros 2352)).finds

  found_for_lem : (g : Option ℕ) → f ≡ g → Finds r allowed g t
  found_for_lem g e = subst (λ (x : List ℕ). Finds x allowed g t) copy (subst (λ (h : Option ℕ). Finds s allowed h t) e found)

  pub worked_none : (old changed : List ℕ) → f ≡ None → Works r allowed old changed (refused 5 []) old changed
  worked_none old changed e = nothing (found_for_lem None e)

  -- the Sector is copied out, and its changes are listed
  pub worked_some : (k n : ℕ) {old changed new list : List ℕ} → f ≡ Some k → Room old changed → new ≡ t → Lists r t changed n list
      → Works r allowed old changed (done (k ∷ n ∷ [])) new list
  worked_some k n {old} {changed} {new} {list} e room out l =
      subst (λ (x : List ℕ). Works r allowed old changed (done (k ∷ n ∷ [])) x list) (sym out)
      (subst (λ (x : List ℕ). Works r allowed old changed (done (k ∷ n ∷ [])) t x) (sym is_list)
      (subst (λ (x : ℕ). Works r allowed old changed (done (k ∷ x ∷ [])) t (listing r t)) (sym is_count) (something result)))
    where
      result : ResultOf r allowed k t
      result = found_for_lem (Some k) e

      sector : length t ≡ 2352
      sector = result.found.trial.long

      fits : fitting r t changed ≡ true
      fits = simp (eq-eqb (length r) 2352 long, eq-eqb (length t) 2352 sector, eq-eqb (length changed) 9408 room.list)

      is_count : n ≡ changes r t
      is_count = l.count ∙ ap (λ (x : Bool). cond x (changes r t) 0) fits

      is_list : list ≡ listing r t
      is_list = l.list ∙ ap (λ (x : Bool). cond x (listing r t) changed) fits

-- ---- the ways out of salvage

pub in_range_lem : {allowed : ℕ} → (allowed ≡ 0 → ⊥) → allowed ≤ 32 → InRange allowed
in_range_lem {allowed} n h = record { low = go (ℕ_discrete allowed 0); high = h }
  where
    go : Dec (allowed ≡ 0) → 1 ≤ allowed
    go (yes e) = absurd (n e)
    go (no m) = omega arith

-- a refusal leaves a buffer's length as it was
cleared_long : (right : ℕ) (old : List ℕ) → length (cleared right old) ≡ length old
cleared_long right old = go (ℕ_discrete (length old) right)
  where
    go : Dec (length old ≡ right) → length (cleared right old) ≡ length old
    go (yes e) = ap length (cleared-right right old e) ∙ length-replicate {A = ℕ} right 0 ∙ sym e
    go (no n) = ap length (cleared-wrong right old n)

module _ (r : List ℕ) (allowed : ℕ) (old changed new list : List ℕ) (is-new : new ≡ cleared 2352 old) (is_list : list ≡ cleared 9408 changed) where
  leaves : (n : ℕ) → Salvages r allowed old changed (refused n []) (cleared 2352 old) (cleared 9408 changed) → Salvages r allowed old changed (refused n []) new list
  leaves n h =
      subst (λ (x : List ℕ). Salvages r allowed old changed (refused n []) x list) (sym is-new)
      (subst (λ (x : List ℕ). Salvages r allowed old changed (refused n []) (cleared 2352 old) x) (sym is_list) h)

  long_new : length new ≡ length old
  long_new = ap length is-new ∙ cleared_long 2352 old

  long_list : length list ≡ length changed
  long_list = ap length is_list ∙ cleared_long 9408 changed

  pub on_incoming : (length r ≡ 2352 → ⊥) → Salvages r allowed old changed (refused 1 []) new list
  on_incoming n = leaves 1 (wrong_incoming n)

  module _ (long : length r ≡ 2352) where
    pub on_sector : (length new ≡ 2352 → ⊥) → Salvages r allowed old changed (refused 2 []) new list
    on_sector n = leaves 2 (wrong-outgoing long (λ o. n (long_new ∙ o.sector)))

    pub on_list : (length list ≡ 9408 → ⊥) → Salvages r allowed old changed (refused 2 []) new list
    on_list n = leaves 2 (wrong-outgoing long (λ o. n (long_list ∙ o.list)))

    module _ (sector : length new ≡ 2352) (room : length list ≡ 9408) where
      there : Room old changed
      there = record { sector = sym long_new ∙ sector; list = sym long_list ∙ room }

      pub on_passes : (InRange allowed → ⊥) → Salvages r allowed old changed (refused 22 []) new list
      on_passes n = leaves 22 (wrong-passes long there n)

      pub on_work : InRange allowed → {a : Say} {s l : List ℕ} → Works r allowed new list a s l → Salvages r allowed old changed a s l
      on_work i (nothing n) = leaves 5 (none_found long there i n)
      on_work i (something g) = handed_out long there i g
