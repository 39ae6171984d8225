-- An edge with its ZEROs, in front of further edges.
-- Assumes nothing.
use mathlib.Core.Path.{◌≡◌, sym, ap, ◌∙◌}
use mathlib.Core.Logic.{◌⊎◌, inl, inr}
use mathlib.Core.List.{List, [], ◌∷◌}
use Prim.Native.Nat.{ℕ, ◌<◌, ◌≤◌}
use native.Mathlib.Omega.{arith}
use borrow.Author.Tests.{le-ltb}
use lib.ListN.{length, get_or, drop, drop_of_length-le}
use lib.Seq.{drop-cons}
use Rattle.outcome.specs.First.Found.{lt-or-le}
use Rattle.captures.specs.Counts.{bits_in}
use Rattle.replaying.specs.Replay.{channel}
use Rattle.replaying.specs.Replay.Sizes.{Legal}
use Rattle.replaying.specs.Replay.Headers.{run-zero}
use Rattle.replaying.specs.Replay.Edges.{drop_edge}
use Rattle.legal_runs.specs.EdgeBits.{edge_bits}
use Rattle.legal_runs.specs.EdgeBits.There.{bits-there}

-- the bits that the edge in front of these runs takes
pub front : List ℕ → ℕ
front [] = 1
front (d ∷ ds) = bits_in d

pub front_is : (ds : List ℕ) (j : ℕ) → edge_bits ds j ≡ front (drop j ds)
unfolding edge_bits front
front_is ds j = go (lt-or-le j (length ds))
  where
    go : (j < length ds) ⊎ (length ds ≤ j) → edge_bits ds j ≡ front (drop j ds)
    go (inl h) = bits-there ds j h ∙ ap front (sym (drop-cons ds j 0 h))
    go (inr h) =
        let e : edge_bits ds j ≡ 1 = simp (le-ltb j (length ds) h) in
        e ∙ ap front (sym (drop_of_length-le ds h))

pub front-some : (es : List ℕ) → Legal es → (1 ≤ front es) × (front es ≤ 11)
unfolding front
front-some [] l = (omega arith, omega arith)
front-some (d ∷ es) l = (omega (arith, l.0), l.1)

pub front-zeros : (es : List ℕ) (p : ℕ) → 0 < p → p < front es → get_or (channel es) p 0 ≡ 0
unfolding front channel
front-zeros [] p h k = absurd (omega arith)
front-zeros (d ∷ es) p h k = run-zero (bits_in d) p (channel es) h k

pub front-next : (es : List ℕ) → Legal es → front es < length (channel es) → drop (front es) (channel es) ≡ channel (drop 1 es)
unfolding front channel
front-next [] l h = absurd (omega arith)
front-next (d ∷ es) l h = drop_edge d es l
