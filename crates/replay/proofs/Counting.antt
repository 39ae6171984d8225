-- How many bits there are from an edge on.
-- Assumes nothing.
use mathlib.Core.Path.{◌≡◌, ap, ◌∙◌, subst}
use mathlib.Core.List.{List, ◌∷◌}
use Prim.Native.Nat.{ℕ, suc, ◌+◌, ◌-◌, ◌*◌, ◌/◌, ◌<◌, ◌≤◌}
use native.Mathlib.Numerals.{add-one}
use native.Mathlib.Omega.{arith}
use lib.ListN.{length, get_or, drop, drop_of_length-le}
use lib.Seq.{drop-cons}
use Rattle.captures.specs.Counts.{bits_in}
use Rattle.replaying.specs.Replay.{channel}
use Rattle.replaying.specs.Replay.Sizes.{Legal, bits_of_runs, length-channel}
use Rattle.replaying.specs.Replay.Edges.{legal-drop}
use Rattle.legal_runs.specs.EdgeBits.{runs, edge_bits}
use Rattle.legal_runs.specs.EdgeBits.There.{runs_long, bits-there}
use Rattle.replay.specs.Inner.Frames.{EdgeThere}

-- the bits before edge j are counted
pub record Counting (w : List ℕ) (k bits j : ℕ) : Type 0 where
  pub upto : j ≤ length (runs w)
  pub few : bits ≤ 11 * j + 1
  pub is : bits + bits_of_runs (drop j (runs w)) ≡ length (channel (drop k (runs w)))

module _ {w : List ℕ} {k : ℕ} (t : EdgeThere w k) where
  pub counting_none : Counting w k 1 k
  counting_none =
      record {
        upto = t.within;
        few = omega arith;
        is = omega (arith, length-channel (drop k (runs w)) (legal-drop k (runs w) t.legal));
      }

  module _ {bits j : ℕ} (s : Counting w k bits j) where
    module _ (h : j < length w / 2 - 1) (b : ℕ) (e : b ≡ edge_bits (runs w) j) where
      inside : j < length (runs w)
      inside = omega (arith, runs_long w)

      rest : drop j (runs w) ≡ get_or (runs w) j 0 ∷ drop (suc j) (runs w)
      rest = drop-cons (runs w) j 0 inside

      here : Legal (get_or (runs w) j 0 ∷ drop (suc j) (runs w))
      here = subst Legal rest (legal-drop j (runs w) t.legal)

      b_is : b ≡ bits_in (get_or (runs w) j 0)
      b_is = e ∙ bits-there (runs w) j inside

      pub bits_few : bits + b ≤ 360449
      bits_few = omega (arith, s.few, here.1, b_is, runs_long w, t.short, inside)

      pub counting_more : Counting w k (bits + b) (j + 1)
      unfolding bits_of_runs
      counting_more =
          record {
            upto = omega (arith, inside);
            few = omega (arith, s.few, here.1, b_is);
            is =
                let m : bits_of_runs (drop j (runs w)) ≡ bits_in (get_or (runs w) j 0) + bits_of_runs (drop (suc j) (runs w)) = ap bits_of_runs rest in
                let n : bits_of_runs (drop (j + 1) (runs w)) ≡ bits_of_runs (drop (suc j) (runs w)) = ap (λ (i : ℕ). bits_of_runs (drop i (runs w))) (add-one j) in
                omega (arith, s.is, b_is, m, n);
          }

    pub counting_all : length w / 2 - 1 ≤ j → bits / 588 ≡ length (channel (drop k (runs w))) / 588
    unfolding bits_of_runs
    counting_all h =
        let l : length (runs w) ≤ j = omega (arith, runs_long w) in
        let m : bits_of_runs (drop j (runs w)) ≡ 0 = ap bits_of_runs (drop_of_length-le (runs w) l) in
        let n : bits ≡ length (channel (drop k (runs w))) = omega (arith, s.is, m) in
        ap (λ (x : ℕ). x / 588) n
