-- Every number below 65,536 has exactly one shortest form.
-- Assumes nothing.
use Rattle.std.specs.Prelude.{◌≡◌, refl, Bool, true, false, List, [], ◌∷◌, ℕ, ◌+◌, ◌/◌, ◌%◌, ◌<◌, ◌≤◌, ltb, length}
use Rattle.std.proofs.Common.{sym, ap, ap₂, ◌∙◌, subst, arith, ltb-true, ltb-false, lt-ltb, le-ltb}
use Rattle.captures.specs.Number.{Grouped, value, ShortestForm, shortest}

-- ---- how many groups it has

pub shortest_1 : (n : ℕ) → n < 128 → shortest n ≡ n ∷ []
unfolding shortest
shortest_1 n h = simp (lt-ltb n 128 h)

pub shortest_2 : (n : ℕ) → 128 ≤ n → n < 16384 → shortest n ≡ (128 + n % 128) ∷ n / 128 ∷ []
unfolding shortest
shortest_2 n h k = simp (le-ltb n 128 h, lt-ltb n 16384 k)

pub shortest_3 : (n : ℕ) → 16384 ≤ n → shortest n ≡ (128 + n % 128) ∷ (128 + n / 128 % 128) ∷ n / 16384 ∷ []
unfolding shortest
shortest_3 n h = let k : 128 ≤ n = omega arith in simp (le-ltb n 128 k, le-ltb n 16384 h)

pub data Size (n : ℕ) : Type 0 where
  one : n < 128 → shortest n ≡ n ∷ [] → Size n
  two : 128 ≤ n → n < 16384 → shortest n ≡ (128 + n % 128) ∷ n / 128 ∷ [] → Size n
  three : 16384 ≤ n → shortest n ≡ (128 + n % 128) ∷ (128 + n / 128 % 128) ∷ n / 16384 ∷ [] → Size n

pub sized : (n : ℕ) → Size n
sized n = go (ltb n 128) (ltb n 16384) refl refl
  where
    go : (s t : Bool) → ltb n 128 ≡ s → ltb n 16384 ≡ t → Size n
    go true t p q = let h : n < 128 = ltb-true n 128 p in one h (shortest_1 n h)
    go false true p q =
        let h : 128 ≤ n = ltb-false n 128 p in
        let k : n < 16384 = ltb-true n 16384 q in
        two h k (shortest_2 n h k)
    go false false p q = let k : 16384 ≤ n = ltb-false n 16384 q in three k (shortest_3 n k)

-- ---- it is one

grouped_long : (cs : List ℕ) → Grouped cs → 1 ≤ length cs
grouped_long [] g = absurd g
grouped_long (b ∷ cs) g = omega arith

grouped_two : (cs : List ℕ) → Grouped cs → 128 ≤ value cs → 2 ≤ length cs
grouped_two [] g h = absurd g
grouped_two (b ∷ []) g h = absurd (omega arith)
grouped_two (b ∷ c ∷ cs) g h = omega arith

grouped_three : (cs : List ℕ) → Grouped cs → 16384 ≤ value cs → 3 ≤ length cs
grouped_three [] g h = absurd g
grouped_three (b ∷ []) g h = absurd (omega arith)
grouped_three (b ∷ c ∷ []) g h = absurd (omega arith)
grouped_three (b ∷ c ∷ d ∷ cs) g h = omega arith

pub shortest_is : (n : ℕ) → n < 65536 → ShortestForm (shortest n) n
shortest_is n small = go (sized n)
  where
    go : Size n → ShortestForm (shortest n) n
    go (one h e) =
        subst (λ (l : List ℕ). ShortestForm l n) (sym e)
        (record { grouped = h; is = omega arith; least = λ cs g v. grouped_long cs g })
    go (two h k e) =
        subst (λ (l : List ℕ). ShortestForm l n) (sym e)
        (record { grouped = (omega arith, omega arith, omega arith); is = omega arith; least = λ cs g v. grouped_two cs g (omega arith) })
    go (three h e) =
        subst (λ (l : List ℕ). ShortestForm l n) (sym e)
        (record {
          grouped = (omega arith, omega arith, (omega arith, omega arith, omega arith));
          is = omega arith;
          least = λ cs g v. grouped_three cs g (omega arith);
        })

-- ---- and the only one

-- groups of one number, as many of them, are the same
pub groups_one : (a b : List ℕ) → Grouped a → Grouped b → length a ≡ length b → value a ≡ value b → a ≡ b
groups_one [] b g h l e = absurd g
groups_one (x ∷ a) [] g h l e = absurd h
groups_one (x ∷ []) (y ∷ []) g h l e = let s : x ≡ y = omega arith in ap (λ (z : ℕ). z ∷ []) s
groups_one (x ∷ []) (y ∷ z ∷ b) g h l e = absurd (omega arith)
groups_one (x ∷ w ∷ a) (y ∷ []) g h l e = absurd (omega arith)
groups_one (x ∷ w ∷ a) (y ∷ z ∷ b) (g0, g1, g2) (h0, h1, h2) l e =
    let s : x ≡ y = omega arith in
    ap₂ ◌∷◌ s (groups_one (w ∷ a) (z ∷ b) g2 h2 (omega arith) (omega arith))

pub shortest-one : (n : ℕ) (bs : List ℕ) → n < 65536 → ShortestForm bs n → bs ≡ shortest n
shortest-one n bs small f =
    let s = shortest_is n small in
    groups_one bs (shortest n) f.grouped s.grouped
    (omega (arith, f.least (shortest n) s.grouped s.is, s.least bs f.grouped f.is))
    (f.is ∙ sym s.is)
