-- Two tests over the first 255 powers of α, each computed once: none but the first is 1, and every byte but 0 is among them.
-- A means of proof: what they show of `power` is said in `Powers`.
-- Assumes nothing.
use Rattle.std.specs.Prelude.{◌≡◌, refl, Bool, true, false, not, ◌&&◌, ◌||◌, List, [], ◌∷◌, ℕ, zero, suc, ◌+◌, ◌<◌, T, eqb}
use Rattle.std.proofs.Common.{sym, ap, ◌∙◌, add-zero, zero-add, suc-add, add-suc, arith, T_not, eqb→eq}
use Rattle.std.proofs.Math.Dec.{eqb_refl}
use Rattle.outcome.specs.Table.{all_below}
use Rattle.outcome.specs.Table.Entries.{below, and_left, and_right}
use Rattle.field.specs.Field.{times_alpha, power}

-- the power k places after the next one is that k + 1 places on
later : (i k : ℕ) → suc i + k ≡ i + suc k
later i k = suc-add i k ∙ sym (add-suc i k)

-- ---- the order of α

-- none of the n powers from x on is 1
none_one : ℕ → ℕ → Bool
none_one zero x = true
none_one (suc n) x = not (eqb x 1) && none_one n (times_alpha x)

none-one : (n i : ℕ) → T (none_one n (power i)) → (k : ℕ) → k < n → power (i + k) ≡ 1 → ⊥
unfolding none_one power
none-one zero i t k h e = omega arith
none-one (suc n) i t zero h e =
    T_not (eqb (power i) 1) (and_left (not (eqb (power i) 1)) (none_one n (times_alpha (power i))) t)
    (rw (sym (ap power (add-zero i)) ∙ e) (eqb_refl 1))
none-one (suc n) i t (suc k) h e =
    none-one n (suc i) (and_right (not (eqb (power i) 1)) (none_one n (times_alpha (power i))) t) k (omega arith)
    (ap power (later i k) ∙ e)

-- no power of α from the first to the 254th is 1
pub order : (k : ℕ) → k < 254 → power (suc k) ≡ 1 → ⊥
unfolding none_one power times_alpha
order k h e = none-one 254 1 tt k h (ap power (suc-add 0 k ∙ ap suc (zero-add k)) ∙ e)

-- ---- the bytes that are powers

-- the n powers from x on
powers_from : ℕ → ℕ → List ℕ
powers_from zero x = []
powers_from (suc n) x = x ∷ powers_from n (times_alpha x)

-- x is one of them
among : List ℕ → ℕ → Bool
among [] x = false
among (y ∷ ys) x = eqb y x || among ys x

found : (n i x : ℕ) → T (among (powers_from n (power i)) x) → (k : ℕ) × (k < n) × (power (i + k) ≡ x)
unfolding powers_from among power
found zero i x t = absurd t
found (suc n) i x t = pick (eqb (power i) x) (among (powers_from n (times_alpha (power i))) x) refl t (found n (suc i) x)
  where
    pick : (b rest : Bool) → eqb (power i) x ≡ b → T (b || rest) → (T rest → (k : ℕ) × (k < n) × (power (suc i + k) ≡ x))
        → (k : ℕ) × (k < suc n) × (power (i + k) ≡ x)
    pick true rest e s further = (0, omega arith, ap power (add-zero i) ∙ eqb→eq (power i) x (rw e tt))
    pick false rest e s further = let l = further s in (suc l.0, omega arith, ap power (sym (later i l.0)) ∙ l.2)

-- the byte after x is one of the first 255
among_first : ℕ → Bool
among_first x = among (powers_from 255 (power 0)) (suc x)

all_among : T (all_below among_first 255)
unfolding among_first powers_from among power times_alpha
all_among = tt

is_among : (x : ℕ) → x < 255 → T (among (powers_from 255 (power 0)) (suc x))
unfolding among_first
is_among = below among_first 255 all_among

-- every byte but 0 has an exponent below 255
pub exponent : (x : ℕ) → x < 255 → (n : ℕ) × (n < 255) × (power n ≡ suc x)
exponent x h = let l = found 255 0 (suc x) (is_among x h) in (l.0, l.1, ap power (sym (zero-add l.0)) ∙ l.2)
