-- The bits that are read at an edge, and the search for the first run that is not legal.
-- Assumes nothing.
use mathlib.Core.Path.{◌≡◌, refl, sym, ap, ◌∙◌}
use mathlib.Core.Bool.{Bool, true, false, cond, not}
use mathlib.Core.Logic.{◌⊎◌, inl, inr}
use mathlib.Core.List.{List}
use Prim.Native.Nat.{ℕ, ◌+◌, ◌-◌, ◌/◌, ◌<◌, ◌≤◌}
use native.Mathlib.Omega.{arith}
use borrow.Author.Tests.{lt-leb, le-leb}
use lib.Dec.{ltb}
use lib.ListN.{length, get_or}
use Rattle.outcome.specs.First.Found.{lt-or-le, found_first}
use Rattle.captures.specs.Counts.{bits_in, legal}
use Rattle.std.specs.Prelude.{Option, Some, None}
use Rattle.edges.specs.Steps.{step_at}
use Rattle.replaying.specs.Replay.{first_illegal}
use Rattle.legal_runs.specs.EdgeBits.{runs, edge_bits}
use Rattle.legal_runs.specs.EdgeBits.There.{runs_long, bits-there}

-- ---- the bits of an edge

module _ (w : List ℕ) (i : ℕ) (s : Option ℕ) (e : s ≡ step_at w i) where
  pub end_bits : s ≡ None → 1 ≡ edge_bits (runs w) i
  unfolding step_at edge_bits
  end_bits f = go (ltb i (length (runs w))) (sym f ∙ e)
    where
      go : (t : Bool) → None ≡ cond t (Some (get_or (runs w) i 0)) None → 1 ≡ cond t (bits_in (get_or (runs w) i 0)) 1
      go true p = let z : ◌≡◌ {A = ℕ} 0 1 = cc in absurd (omega arith)
      go false p = refl

  pub run-bits : (d : ℕ) → s ≡ Some d → (d + 4) / 8 ≡ edge_bits (runs w) i
  unfolding step_at edge_bits
  run-bits d f = go (ltb i (length (runs w))) (sym f ∙ e)
    where
      go : (t : Bool) → Some d ≡ cond t (Some (get_or (runs w) i 0)) None → (d + 4) / 8 ≡ cond t (bits_in (get_or (runs w) i 0)) 1
      go true p = let q : d ≡ get_or (runs w) i 0 = cc in ap bits_in q
      go false p = let z : ◌≡◌ {A = ℕ} 0 1 = cc in absurd (omega arith)

-- ---- the first run that is not legal

pub record Passed (w : List ℕ) (i : ℕ) : Type 0 where
  pub upto : i ≤ length (runs w)
  pub legal_so_far : (j : ℕ) → j < i → legal (get_or (runs w) j 0) ≡ true

pub passed_none : (w : List ℕ) → Passed w 0
passed_none w = record { upto = omega arith; legal_so_far = λ j h. absurd (omega arith) }

few_bits : (d : ℕ) → bits_in d < 3 → legal d ≡ false
few_bits d h = simp (lt-leb 3 (bits_in d) h)

many_bits : (d : ℕ) → 11 < bits_in d → legal d ≡ false
many_bits d h = let k : 3 ≤ bits_in d = omega arith in simp (le-leb 3 (bits_in d) k, lt-leb (bits_in d) 11 h)

legal-bits : (d : ℕ) → 3 ≤ bits_in d → bits_in d ≤ 11 → legal d ≡ true
legal-bits d h k = simp (le-leb 3 (bits_in d) h, le-leb (bits_in d) 11 k)

never : {b : Bool} → b ≡ true → not b ≡ true → ⊥
never p q = let e : false ≡ true = sym (ap not p) ∙ q in let z : ◌≡◌ {A = ℕ} 0 1 = cc in omega arith

module _ {w : List ℕ} {i : ℕ} (p : Passed w i) where
  illegal_is : i < length (runs w) → legal (get_or (runs w) i 0) ≡ false → i ≡ first_illegal (runs w)
  unfolding first_illegal
  illegal_is h e =
      found_first (λ j. not (legal (get_or (runs w) j 0))) (length (runs w)) i
      (record { within = omega arith; before = λ j k f. never (p.legal_so_far j k) f; holds = λ _. ap not e })

  module _ (h : i < length w / 2 - 1) (bits : ℕ) (e : bits ≡ edge_bits (runs w) i) where
    inside : i < length (runs w)
    inside = omega (arith, runs_long w)

    is : bits ≡ bits_in (get_or (runs w) i 0)
    is = e ∙ bits-there (runs w) i inside

    pub on_illegal : (bits < 3) ⊎ ((3 ≤ bits) × (11 < bits)) → i ≡ first_illegal (runs w)
    on_illegal (inl k) = illegal_is inside (few_bits (get_or (runs w) i 0) (omega (arith, is)))
    on_illegal (inr k) = illegal_is inside (many_bits (get_or (runs w) i 0) (omega (arith, is, k.1)))

    pub passed_more : 3 ≤ bits → bits ≤ 11 → Passed w (i + 1)
    passed_more k l =
        record { upto = omega (arith, inside); legal_so_far = λ j m. go j m }
      where
        here : legal (get_or (runs w) i 0) ≡ true
        here = legal-bits (get_or (runs w) i 0) (omega (arith, is)) (omega (arith, is))

        go : (j : ℕ) → j < i + 1 → legal (get_or (runs w) j 0) ≡ true
        go j m = by (lt-or-le j i)
          where
            by : (j < i) ⊎ (i ≤ j) → legal (get_or (runs w) j 0) ≡ true
            by (inl n) = p.legal_so_far j n
            by (inr n) = let s : j ≡ i = omega arith in ap (λ (k : ℕ). legal (get_or (runs w) k 0)) s ∙ here

  pub passed_all : (n : ℕ) → n ≡ length w / 2 - 1 → n ≤ i → n ≡ first_illegal (runs w)
  unfolding first_illegal
  passed_all n e h =
      let s : n ≡ i = omega (arith, p.upto, runs_long w) in
      s ∙ found_first (λ j. not (legal (get_or (runs w) j 0))) (length (runs w)) i
      (record {
        within = p.upto;
        before = λ j k f. never (p.legal_so_far j k) f;
        holds = λ k. absurd (omega (arith, runs_long w));
      })
