-- How many marks are not 0, by where they stand.
-- Assumes nothing.
use Rattle.std.specs.Prelude.{◌≡◌, refl, ◌⊎◌, List, [], ◌∷◌, ℕ, zero, suc, ◌+◌, ◌-◌, ◌*◌, ◌/◌, ◌≤◌, ◌<◌, get_or, drop}
use Rattle.std.proofs.Common.{sym, ap, ◌∙◌, inl, inr, arith, get_or-drop}
use Rattle.codeword.specs.Code.{weight}
use Rattle.codeword.specs.Code.Changes.{unlike_same, unlike_other, unlike_le}

-- ---- at most so many

-- all stand in the c places from b on
pub weight-within : (m : List ℕ) (b c : ℕ) → ((i : ℕ) → (i < b) ⊎ (b + c ≤ i) → get_or m i 0 ≡ 0) → weight m ≤ c
unfolding weight
weight-within [] b c h = omega arith
weight-within (x ∷ m) (suc b) c h =
    omega (arith, unlike_same x 0 (h 0 (inl (omega arith))), weight-within m b c (λ i o. h (suc i) (on o)))
  where
    on : {i : ℕ} → (i < b) ⊎ (b + c ≤ i) → (suc i < suc b) ⊎ (suc b + c ≤ suc i)
    on (inl l) = inl (omega arith)
    on (inr l) = inr (omega arith)
weight-within (x ∷ m) zero zero h =
    omega (arith, unlike_same x 0 (h 0 (inr (omega arith))), weight-within m zero zero (λ i o. h (suc i) (inr (omega arith))))
weight-within (x ∷ m) zero (suc c) h =
    omega (arith, unlike_le x 0, weight-within m zero c (λ i o. h (suc i) (on o)))
  where
    on : {i : ℕ} → (i < zero) ⊎ (zero + c ≤ i) → (suc i < zero) ⊎ (zero + suc c ≤ suc i)
    on (inl l) = absurd (omega arith)
    on (inr l) = inr (omega arith)

-- of the numbers n, n + 4, n + 8 and so on, those among the w numbers from s on are a quarter of w in a row, rounded up
quarter : (n s w i : ℕ) → (i < (s + 3 - n) / 4) ⊎ ((s + 3 - n) / 4 + (w + 3) / 4 ≤ i) → (n + 4 * i < s) ⊎ (s + w ≤ n + 4 * i)
quarter n s w i (inl l) = inl (omega arith)
quarter n s w i (inr l) = inr (omega arith)

-- so many marks are not 0, where mark i is 0 if n + 4i is not among them
pub weight_quarter : (m : List ℕ) (n s w : ℕ) → ((i : ℕ) → (n + 4 * i < s) ⊎ (s + w ≤ n + 4 * i) → get_or m i 0 ≡ 0) → weight m ≤ (w + 3) / 4
weight_quarter m n s w h = weight-within m ((s + 3 - n) / 4) ((w + 3) / 4) (λ i o. h i (quarter n s w i o))

-- ---- at least so many

-- the first c
pub weight-front : (m : List ℕ) (c : ℕ) → ((i : ℕ) → i < c → get_or m i 0 ≡ 0 → ⊥) → c ≤ weight m
unfolding weight
weight-front m zero h = omega arith
weight-front [] (suc c) h = absurd (h 0 (omega arith) refl)
weight-front (x ∷ m) (suc c) h = omega (arith, unlike_other x 0 (h 0 (omega arith)), weight-front m c (λ i l. h (suc i) (omega arith)))

weight-at : (m : List ℕ) (i : ℕ) → (get_or m i 0 ≡ 0 → ⊥) → suc (weight (drop (suc i) m)) ≤ weight m
unfolding weight
weight-at [] i n = absurd (n refl)
weight-at (x ∷ m) zero n = omega (arith, unlike_other x 0 n)
weight-at (x ∷ m) (suc i) n = omega (arith, weight-at m i n)

-- places p, p + 2 and p + 4
pub weight-three : (m : List ℕ) (p : ℕ) → (get_or m p 0 ≡ 0 → ⊥) → (get_or m (p + 2) 0 ≡ 0 → ⊥) → (get_or m (p + 4) 0 ≡ 0 → ⊥) → 3 ≤ weight m
weight-three m p a b c =
    let second : get_or (drop (suc p) m) 1 0 ≡ get_or m (p + 2) 0 = get_or-drop (suc p) m 1 0 ∙ ap (λ (i : ℕ). get_or m i 0) (omega arith) in
    let third : get_or (drop 2 (drop (suc p) m)) 1 0 ≡ get_or m (p + 4) 0 =
    get_or-drop 2 (drop (suc p) m) 1 0 ∙ get_or-drop (suc p) m 3 0 ∙ ap (λ (i : ℕ). get_or m i 0) (omega arith) in
    omega (
      arith,
      weight-at m p a,
      weight-at (drop (suc p) m) 1 (λ e. b (sym second ∙ e)),
      weight-at (drop 2 (drop (suc p) m)) 1 (λ e. c (sym third ∙ e)),
    )
