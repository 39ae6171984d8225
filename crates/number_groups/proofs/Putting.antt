-- The stores of a number's groups are its shortest form.
-- Assumes nothing.
use mathlib.Core.Path.{◌≡◌, refl, sym, ap, ap₂, ◌∙◌}
use mathlib.Core.List.{List, [], ◌∷◌, ◌++◌, append_assoc}
use Prim.Native.Nat.{ℕ, suc, ◌+◌, ◌-◌, ◌/◌, ◌%◌, ◌<◌, ◌≤◌}
use native.Mathlib.Omega.{arith}
use lib.ListN.{length, set, take, drop, length-set}
use lib.Seq.{sets, sets-eq}
use Rattle.captures.specs.Number.{shortest}
use Rattle.captures.specs.Number.Shortest.{shortest_1, shortest_2, shortest_3}
use Rattle.number_groups.specs.Put.{Puts}
use Rattle.number_groups.specs.Put.There.{puts, puts_none}

stored : (used n r : ℕ) (list new p : List ℕ) → used + 3 ≤ length list → r ≡ used + length p → r ≤ length list → shortest n ≡ p → new ≡ sets list used p
    → Puts used n list r new
stored used n r list new p room e h f g =
    puts room
    (record {
      next = e ∙ ap (λ (q : List ℕ). used + length q) (sym f);
      is =
          g ∙ sets-eq p list used (omega arith) ∙ append_assoc (take used list) p (drop (used + length p) list)
          ∙ ap₂ (λ (q : List ℕ) (k : ℕ). take used list ++ (q ++ drop k list)) (sym f) (sym e);
    })

-- there is no room
pub put_short : (used n : ℕ) (list : List ℕ) → length list < 3 → Puts used n list used list
put_short used n list h = puts_none used n list (omega arith)

pub put_full : (used n : ℕ) (list : List ℕ) → 3 ≤ length list → length list - 3 < used → Puts used n list used list
put_full used n list h k = puts_none used n list (omega arith)

-- there is still room behind a store
pub room_2 : (l : List ℕ) (used v : ℕ) → 3 ≤ length l → used ≤ length l - 3 → used + 1 < length (set l used v)
room_2 l used v t h = omega (arith, length-set l used v)

pub room_3 : (l : List ℕ) (used v w : ℕ) → 3 ≤ length l → used ≤ length l - 3 → used + 2 < length (set (set l used v) (used + 1) w)
room_3 l used v w t h = omega (arith, length-set l used v, length-set (set l used v) (used + 1) w)

suc_1 : (u : ℕ) → u + 1 ≡ suc u
suc_1 u = omega arith

suc_2 : (u : ℕ) → u + 2 ≡ suc (suc u)
suc_2 u = omega arith

module _ (used n : ℕ) (list : List ℕ) (three : 3 ≤ length list) (room : used ≤ length list - 3) where
  pub put_1 : n < 128 → Puts used n list (used + 1) (set list used n)
  put_1 h = stored used n (used + 1) list (set list used n) (n ∷ []) (omega arith) refl (omega arith) (shortest_1 n h) refl

  pub put_2 : 128 ≤ n → n < 16384 → Puts used n list (used + 2) (set (set list used (128 + n % 128)) (used + 1) (n / 128))
  put_2 h k =
      stored used n (used + 2) list (set (set list used (128 + n % 128)) (used + 1) (n / 128)) ((128 + n % 128) ∷ n / 128 ∷ []) (omega arith) refl (omega arith) (shortest_2 n h k)
      (ap (λ (i : ℕ). set (set list used (128 + n % 128)) i (n / 128)) (suc_1 used))

  pub put_3 : 16384 ≤ n
      → Puts used n list (used + 3) (set (set (set list used (128 + n % 128)) (used + 1) (128 + n / 128 % 128)) (used + 2) (n / 16384))
  put_3 h =
      stored used n (used + 3) list (set (set (set list used (128 + n % 128)) (used + 1) (128 + n / 128 % 128)) (used + 2) (n / 16384))
      ((128 + n % 128) ∷ (128 + n / 128 % 128) ∷ n / 16384 ∷ []) (omega arith) refl (omega arith) (shortest_3 n h)
      (ap₂ (λ (i j : ℕ). set (set (set list used (128 + n % 128)) i (128 + n / 128 % 128)) j (n / 16384)) (suc_1 used) (suc_2 used))
