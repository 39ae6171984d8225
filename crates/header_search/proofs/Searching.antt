-- The search for the first Sync Header edge by edge.
-- Assumes nothing.
use mathlib.Core.Path.{◌≡◌, sym, ap, ◌∙◌}
use mathlib.Core.Bool.{Bool, true, false}
use mathlib.Core.Logic.{◌⊎◌, inl, inr}
use mathlib.Core.List.{List}
use Prim.Native.Nat.{ℕ, ◌+◌, ◌-◌, ◌/◌, ◌<◌, ◌≤◌, max}
use native.Mathlib.Omega.{arith}
use lib.Dec.{eqb}
use borrow.Author.Tests.{eq-eqb, ne_eqb, lt-ltb}
use lib.ListN.{length}
use Rattle.outcome.specs.First.Found.{lt-or-le, found_first}
use Rattle.legal_runs.specs.EdgeBits.{runs, edge_bits}
use Rattle.legal_runs.specs.EdgeBits.There.{runs_long}
use Rattle.header_search.specs.HeaderEdge.{begins, stands, header_edge}
use Rattle.header_search.specs.HeaderEdge.Stands.{too_few}

module _ (ds : List ℕ) (k b : ℕ) (e : b ≡ edge_bits ds k) where
  pub on_first : (b ≡ 11 → ⊥) → false ≡ begins ds k
  unfolding begins
  on_first n = simp (ne_eqb (edge_bits ds k) 11 (λ f. n (e ∙ f)))

  pub on_second : b ≡ 11 → (c : ℕ) → c ≡ edge_bits ds (k + 1) → eqb c 11 ≡ begins ds k
  unfolding begins
  on_second g c f = ap (λ (n : ℕ). eqb n 11) f ∙ simp (eq-eqb (edge_bits ds k) 11 (sym e ∙ g))

-- ---- whether one stands at an edge

pub stands_short : (w : List ℕ) (k : ℕ) → length w / 2 - 3 ≤ k → false ≡ stands (runs w) k
stands_short w k h = sym (too_few (runs w) k (omega (arith, runs_long w)))

pub stands-begins : (w : List ℕ) (k : ℕ) (t : Bool) → k < length w / 2 - 3 → t ≡ begins (runs w) k → t ≡ stands (runs w) k
unfolding stands
stands-begins w k t h e = let l : k + 2 < length (runs w) = omega (arith, runs_long w) in e ∙ simp (lt-ltb (k + 2) (length (runs w)) l)

-- ---- the search

-- at the edges from `from` to before k none begins
pub record Searched (w : List ℕ) (from k : ℕ) : Type 0 where
  pub after : from ≤ k
  pub upto : k - from ≤ length (runs w) - 2 - from
  pub none : (i : ℕ) → i < k - from → begins (runs w) (from + i) ≡ true → ⊥

pub searched_none : (w : List ℕ) (from : ℕ) → Searched w from from
searched_none w from = record { after = omega arith; upto = omega arith; none = λ i m. absurd (omega arith) }

module _ {w : List ℕ} {from k : ℕ} (s : Searched w from k) where
  back : from + (k - from) ≡ k
  back = omega (arith, s.after)

  -- the edge at which the search ends is the one that is looked for
  ends : (k - from < length (runs w) - 2 - from → begins (runs w) k ≡ true) → k ≡ header_edge (runs w) from
  unfolding header_edge
  ends h =
      sym back
      ∙ ap (λ (x : ℕ). from + x)
      (found_first (λ i. begins (runs w) (from + i)) (length (runs w) - 2 - from) (k - from)
      (record { within = s.upto; before = s.none; holds = λ m. ap (begins (runs w)) back ∙ h m }))

  module _ (h : k < length w / 2 - 3) (t : Bool) (e : t ≡ begins (runs w) k) where
    pub on_begins : t ≡ true → k ≡ header_edge (runs w) from
    on_begins f = ends (λ _. sym e ∙ f)

    pub searched_more : t ≡ false → Searched w from (k + 1)
    searched_more f =
        record {
          after = omega (arith, s.after);
          upto = omega (arith, runs_long w);
          none = λ i m. go i (lt-or-le i (k - from)) m;
        }
      where
        go : (i : ℕ) → (i < k - from) ⊎ (k - from ≤ i) → i < k + 1 - from → begins (runs w) (from + i) ≡ true → ⊥
        go i (inl n) m p = s.none i n p
        go i (inr n) m p =
            let g : from + i ≡ k = omega (arith, s.after) in
            let q : begins (runs w) k ≡ true = sym (ap (begins (runs w)) g) ∙ p in
            let z : ◌≡◌ {A = ℕ} 0 1 = cc in omega arith

  -- the search ends at the last edge with three runs behind it, or where it began
  pub on_end : (n last : ℕ) → n ≡ length w / 2 - 3 → n ≤ k → last ≡ max from n → last ≡ header_edge (runs w) from
  on_end n last e h m =
      let at : last ≡ k = omega (arith, s.after, s.upto, runs_long w) in
      at ∙ ends (λ m. absurd (omega (arith, runs_long w)))
