-- The search over the passes: what the passes made so far have left, and that none of them yielded a correct trial.
-- Assumes nothing.
use mathlib.Core.Path.{◌≡◌, refl, sym, ap, ◌∙◌, subst}
use mathlib.Core.Bool.{Bool, true, false}
use mathlib.Core.Logic.{◌⊎◌, inl, inr}
use mathlib.Core.List.{List}
use Prim.Native.Nat.{ℕ, suc, ◌+◌, ◌-◌, ◌<◌, ◌≤◌}
use native.Mathlib.Omega.{arith}
use lib.ListN.{length}
use Rattle.std.specs.Prelude.{Option, Some, None}
use Rattle.outcome.specs.First.Found.{lt-or-le}
use Rattle.rspc.specs.Pass.{Passed}
use Rattle.sector.specs.Correct.{CorrectMode01}
use Rattle.trial.specs.Tried.{Tried}
use Rattle.trial.specs.Tried.One.{tried_one}
use Rattle.salvaging.specs.Turns.{turn, After, unpassed, passed}
use Rattle.salvaging.specs.Turns.One.{after_one}
use Rattle.salvaging.specs.Salvage.{Yields}
use Rattle.salvage_passes.specs.Passes.{Passes}
use Rattle.salvage_passes.specs.Tries.{Tries}
use Rattle.salvage_search.specs.Search.{Left, Search, Searched}

-- ---- the lengths

pub on_other : (r old : List ℕ) (allowed : ℕ) → ((length r ≡ 2352) × (length old ≡ 2352) → ⊥) → Searched r old allowed None r old
on_other r old allowed n = record { sectors = λ l m. absurd (n (l, m)); other = λ _. (refl, refl, refl) }

pub searched : {r old s t : List ℕ} {allowed : ℕ} {f : Option ℕ} → length r ≡ 2352 → length old ≡ 2352 → Search r old allowed f s t
    → Searched r old allowed f s t
searched l m g = record { sectors = λ _ _. g; other = λ n. absurd (n (l, m)) }

-- ---- the passes

-- before pass k
pub record Searching (r old : List ℕ) (k : ℕ) (s t : List ℕ) : Type 0 where
  pub one : 1 ≤ k
  pub left : Left r old (k - 1) s t
  pub none : (j : ℕ) → 1 ≤ j → j < k → (x : List ℕ) → Yields r j x → ⊥
  pub long : length s ≡ 2352
  pub room : length t ≡ 2352

pub searching_none : (r t : List ℕ) → length r ≡ 2352 → length t ≡ 2352 → Searching r t 1 r t
searching_none r t l m =
    record {
      one = omega arith;
      left = record { after = unpassed; tried = λ h. absurd (omega arith); untried = λ _. refl };
      none = λ k a b. absurd (omega arith);
      long = l;
      room = m;
    }

module _ {r old s t : List ℕ} {k : ℕ} (g : Searching r old k s t) (u v w : List ℕ) (b : Bool) (pass : Passes k s u) (copy : v ≡ u)
    (try : Tries v b w) where
  next : suc (k - 1) ≡ k
  next = omega (arith, g.one)

  went : Passed (turn k) s u
  went = (pass.pass.sector g.long).1

  reached : After r k u
  reached = subst (λ (n : ℕ). After r n u) next (passed g.left.after (subst (λ (n : ℕ). Passed (turn n) s u) (sym next) went))

  pub long_u : length u ≡ 2352
  long_u = went.long ∙ g.long

  pub trial : Tried u w
  trial = subst (λ (x : List ℕ). Tried x w) copy (try.fresh.sector (ap length copy ∙ long_u)).1

  now_left : Left r old k u w
  now_left = record { after = reached; tried = λ _. trial; untried = λ e. absurd (omega (arith, g.one)) }

  -- whatever this pass yields is the trial
  yielded : (x : List ℕ) → Yields r k x → CorrectMode01 w
  yielded x y =
      subst CorrectMode01 (tried_one u x w (subst (λ (z : List ℕ). Tried z x) (after_one y.after reached) y.trial) trial) y.correct

  pub searching_more : b ≡ false → Searching r old (k + 1) u w
  searching_more e =
      record {
        one = omega arith;
        left = subst (λ (n : ℕ). Left r old n u w) (omega arith) now_left;
        none = λ j l h. at j l (lt-or-le j k) h;
        long = long_u;
        room = trial.long;
      }
    where
      at : (j : ℕ) → 1 ≤ j → (j < k) ⊎ (k ≤ j) → j < k + 1 → (x : List ℕ) → Yields r j x → ⊥
      at j l (inl m) h x y = g.none j l m x y
      at j l (inr m) h x y =
          let q : j ≡ k = omega arith in try.decides.wrong e (yielded x (subst (λ (n : ℕ). Yields r n x) q y))

  pub searching_found : b ≡ true → (allowed : ℕ) → k ≤ allowed → Search r old allowed (Some k) u w
  searching_found e allowed h =
      record {
        finds = record {
          one = g.one;
          within = h;
          found = record { left = u; after = reached; trial = trial; correct = try.decides.right e };
          first = g.none;
        };
        left = now_left;
      }

pub searching_all : {r old s t : List ℕ} {k : ℕ} (allowed : ℕ) → Searching r old k s t → k ≡ allowed + 1 → Search r old allowed None s t
searching_all {r} {old} {s} {t} {k} allowed g e =
    record {
      finds = λ j a m. g.none j a (omega arith);
      left = subst (λ (n : ℕ). Left r old n s t) (omega arith) g.left;
    }
