-- The steps of freshening: Sync copied over the first twelve bytes, Q parity put in.
-- Assumes nothing.
use mathlib.Core.Path.{◌≡◌, refl, sym, ap, ◌∙◌}
use mathlib.Core.Bool.{Bool, true, cond}
use mathlib.Core.List.{List, ◌++◌}
use Prim.Native.Nat.{ℕ}
use native.Mathlib.Omega.{arith}
use lib.Dec.{eqb}
use lib.ListN.{length, take, drop, length-append, length-drop}
use lib.Seq.{length-take-le, take_at, take-take, drop_at}
use Rattle.outcome.specs.Bytes.{Bytes}
use Rattle.outcome.specs.Buffer.Lengths.{same_lengths}
use Rattle.lists.specs.Agree.{same-front, same_back}
use Rattle.rspc.specs.Place.One.{of_sector}
use Rattle.rspc.specs.Put.{QPut, PutQ}
use Rattle.sector.specs.Layout.{sync}
use Rattle.trial.specs.Freshen.{Freshen}

module _ (s y p : List ℕ) (k : Bool) (long : length s ≡ 2352) (e : y ≡ sync)
    (c : (k ≡ eqb (length y) (length (take 12 s))) × (p ≡ cond k y (take 12 s))) where
  synced : p ≡ sync
  synced = same_lengths k (length y) (length (take 12 s)) p y (take 12 s) c (ap length e ∙ sym (length-take-le 12 s (omega arith))) ∙ e

  pub synced_long : length (p ++ drop 12 s) ≡ 2352
  synced_long = omega (arith, length-append p (drop 12 s), ap length synced, length-drop 12 s)

  pub freshened : (t : List ℕ) (r : Bool) → Bytes t → PutQ (p ++ drop 12 s) r t → Freshen s true t
  freshened t r bytes put =
      of_sector long (
        refl,
        record {
          long = whole.long ∙ synced_long;
          bytes = bytes;
          synced =
              sym (take-take 12 2248 t (omega arith)) ∙ ap (take 12) whole.before ∙ take-take 12 2248 (p ++ drop 12 s) (omega arith)
              ∙ take_at p (drop 12 s) 12 (ap length synced) ∙ synced;
          covered = λ i a b.
              same-front 2248 t (p ++ drop 12 s) whole.before i b ∙ same_back 12 (p ++ drop 12 s) s (drop_at p (drop 12 s) 12 (ap length synced)) i a;
          q = whole.words;
        },
      )
    where
      whole : QPut (p ++ drop 12 s) t
      whole = (put.sector synced_long).1
