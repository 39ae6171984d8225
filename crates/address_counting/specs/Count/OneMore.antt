-- The next address comes right behind, in the same area.
-- Assumes nothing.
use Rattle.std.specs.Prelude.{◌≡◌, Bool, ◌&&◌, ◌||◌, leb}
use Rattle.std.proofs.Math.Path.{refl, sym, ap}
use Rattle.std.proofs.Common.{subst, ◌∙◌, arith}
use Rattle.std.proofs.Math.Bool.{true, false, cond}
use Prim.Native.Nat.{ℕ, zero, suc, ◌+◌, ◌-◌, ◌*◌, ◌/◌, ◌%◌, ◌<◌, ◌≤◌}
use borrow.Author.Tests.{eqb-true, eqb-false, leb-true, le-leb, lt-leb, ltb-true, lt-ltb}
use Rattle.std.proofs.Math.Dec.{eqb}
use Rattle.address.specs.declared.HeaderTime.{HeaderTime}
use Rattle.digits.specs.Digits.{value_of_digits, two_digits}
use Rattle.address.specs.Address.{in_user_data_or_lead_out, in_lead_in, in_range}
use Rattle.address.specs.Order.{minutes_before, rank, earlier}
use Rattle.address_counting.specs.Count.{last_of, left, room, next_digits, has_next, next, following, after}
use Rattle.address_counting.specs.Count.Bytes.{value, and_both, Digits, digits_of_lem, of_digits, digits_more}

-- what an address in range is made of
pub record Ranged (t : HeaderTime) : Type 0 where
  pub area : (in_user_data_or_lead_out t || in_lead_in t) ≡ true
  pub second : Digits 59 t.1
  pub frame : Digits 74 t.2

pub ranged : (t : HeaderTime) → in_range t ≡ true → Ranged t
unfolding in_range
ranged t e =
    let p = and_both (in_user_data_or_lead_out t || in_lead_in t) (two_digits 59 t.1 && two_digits 74 t.2) e in
    let q = and_both (two_digits 59 t.1) (two_digits 74 t.2) p.1 in
    record { area = p.0; second = digits_of_lem 59 t.1 q.0; frame = digits_of_lem 74 t.2 q.1 }

in_range_lem : (t : HeaderTime) → Ranged t → in_range t ≡ true
unfolding in_range
in_range_lem t r = simp (r.area, of_digits 59 t.1 r.second, of_digits 74 t.2 r.frame)

-- the minute in its area
unfoldable pub minute : HeaderTime → ℕ
minute t = cond (in_lead_in t) (t.0 - 0xA0) t.0

unfoldable pub top : HeaderTime → ℕ
top t = cond (in_lead_in t) 59 99

pub minute-digits : (t : HeaderTime) → Ranged t → Digits (top t) (minute t)
unfolding minute top in_lead_in in_user_data_or_lead_out
minute-digits t r = by (in_lead_in t) refl
  where
    program : (b : Bool) → (b || false) ≡ true → b ≡ true
    program true e = refl
    program false e = e

    by : (b : Bool) → in_lead_in t ≡ b → Digits (cond b 59 99) (cond b (t.0 - 0xA0) t.0)
    by true e = digits_of_lem 59 (t.0 - 0xA0) (and_both (leb 0xA0 t.0) (two_digits 59 (t.0 - 0xA0)) e).1
    by false e = digits_of_lem 99 t.0 (program (in_user_data_or_lead_out t) (subst (λ (b : Bool). (in_user_data_or_lead_out t || b) ≡ true) e r.area))

-- how many addresses of its area come before it, and how many of another
unfoldable place_of : HeaderTime → ℕ
place_of t = value (minute t) * 4500 + (value t.1 * 75 + value t.2)

unfoldable from : HeaderTime → ℕ
from t = cond (in_lead_in t) 0 (60 * 60 * 75)

rank_is : (t : HeaderTime) → rank t ≡ from t + place_of t
unfolding rank minutes_before from place_of minute value
rank_is t = by (in_lead_in t)
  where
    by : (b : Bool) → (cond b (value_of_digits (t.0 - 0xA0)) (60 + value_of_digits t.0) * 60 + value_of_digits t.1) * 75 + value_of_digits t.2
        ≡ cond b 0 (60 * 60 * 75) + (value_of_digits (cond b (t.0 - 0xA0) t.0) * 4500 + (value_of_digits t.1 * 75 + value_of_digits t.2))
    by true = omega arith
    by false = omega arith

last_is : (t : HeaderTime) → rank (last_of t) + 1 ≡ from t + (top t * 4500 + 4500)
unfolding from top rank minutes_before in_lead_in two_digits
last_is t = by (in_lead_in t)
  where
    by : (b : Bool) → rank (cond b (record { 0 = 0xF9; 1 = 0x59; 2 = 0x74 }) (record { 0 = 0x99; 1 = 0x59; 2 = 0x74 })) + 1
        ≡ cond b 0 (60 * 60 * 75) + (cond b 59 99 * 4500 + 4500)
    by true = refl
    by false = refl

-- an address does not lie behind the last of its area
pub before_last : (t : HeaderTime) → in_range t ≡ true → rank t ≤ rank (last_of t)
unfolding place_of
before_last t e =
    let r : Ranged t = ranged t e in
    omega (arith, rank_is t, last_is t, (minute-digits t r).most, r.second.most, r.frame.most)

-- ---- the three cases

-- u is the address after t
pub record Next (t u : HeaderTime) : Type 0 where
  pub in_range_lem : in_range u ≡ true
  pub same_area : in_lead_in u ≡ in_lead_in t
  pub one_more : rank u ≡ rank t + 1

next_as : (t u : HeaderTime) → in_range u ≡ true → in_lead_in u ≡ in_lead_in t → place_of u ≡ place_of t + 1 → Next t u
unfolding from
next_as t u r a p = record { in_range_lem = r; same_area = a; one_more = omega (arith, rank_is t, rank_is u, ap (λ (b : Bool). cond {A = ℕ} b 0 (60 * 60 * 75)) a) }

value_59 : value 0x59 ≡ 59
unfolding value
value_59 = refl

value_74 : value 0x74 ≡ 74
unfolding value
value_74 = refl

or_right : (a : Bool) {b : Bool} → b ≡ true → (a || b) ≡ true
or_right true e = refl
or_right false e = e

or_left : {a : Bool} (b : Bool) → a ≡ true → (a || b) ≡ true
or_left b e = rw e

-- (A0) stays added
next-behind : (m : ℕ) → 0xA0 ≤ m → (next_digits m - 0xA0 ≡ next_digits (m - 0xA0)) × (0xA0 ≤ next_digits m)
unfolding next_digits
next-behind m h = by (eqb (m % 16) 9) (ap (λ (x : ℕ). eqb x 9) same)
  where
    same : (m - 0xA0) % 16 ≡ m % 16
    same = omega arith

    by : (b : Bool) → eqb ((m - 0xA0) % 16) 9 ≡ b
        → (cond b (m + 7) (m + 1) - 0xA0 ≡ cond (eqb ((m - 0xA0) % 16) 9) (m - 0xA0 + 7) (m - 0xA0 + 1)) × (0xA0 ≤ cond b (m + 7) (m + 1))
    by true e = (rw e (omega arith), omega arith)
    by false e = (rw e (omega arith), omega arith)

value-zero : value 0 ≡ 0
unfolding value
value-zero = refl

-- the last second, and the last frame, by their numbers
pub not_last : (top last b : ℕ) → Digits top b → (b ≡ last → ⊥) → last ≡ top / 10 * 16 + top % 10 → value b < top
unfolding value
not_last top last b d h e =
    let z : value b ≡ top → b ≡ last = λ v. omega (arith, d.tens, d.ones) in
    let n : value b ≡ top → ⊥ = λ v. h (z v) in
    omega (arith, d.most)

module _ (t : HeaderTime) (r : Ranged t) where
  -- the minute and the area are as they were
  module _ (s f : ℕ) where
    abbrev with : HeaderTime
    with = record { 0 = t.0; 1 = s; 2 = f }

    kept : Digits 59 s → Digits 74 f → value s * 75 + value f ≡ value t.1 * 75 + value t.2 + 1 → Next t with
    unfolding place_of minute in_lead_in in_user_data_or_lead_out
    kept ds df e = next_as t with (in_range_lem with (record { area = r.area; second = ds; frame = df })) refl (omega (arith, e))

  -- one minute more
  abbrev later : HeaderTime
  later = record { 0 = next_digits t.0; 1 = 0; 2 = 0 }

  none_59 : Digits 59 0
  unfolding two_digits
  none_59 = digits_of_lem 59 0 refl

  none_74 : Digits 74 0
  unfolding two_digits
  none_74 = digits_of_lem 74 0 refl

  place-later : (m : ℕ) → cond (in_lead_in later) (next_digits t.0 - 0xA0) (next_digits t.0) ≡ m → place_of later ≡ value m * 4500
  unfolding place_of minute
  place-later m e = omega (arith, ap value e, value-zero)

  place_is : place_of t ≡ value (minute t) * 4500 + (value t.1 * 75 + value t.2)
  unfolding place_of
  place_is = refl

  module _ (s : value t.1 ≡ 59) (f : value t.2 ≡ 74) where
    lead_on : in_lead_in t ≡ true → Digits 59 (t.0 - 0xA0) → value (t.0 - 0xA0) < 59 → place_of t ≡ value (t.0 - 0xA0) * 4500 + (value t.1 * 75 + value t.2)
        → Next t later
    unfolding in_lead_in
    lead_on e d h p =
        let m : ℕ = t.0 in
        let a : 0xA0 ≤ m = leb-true 0xA0 m (and_both (leb 0xA0 m) (two_digits 59 (m - 0xA0)) e).0 in
        let w = digits_more 59 (m - 0xA0) (omega arith) d h in
        let c = next-behind m a in
        let lead : in_lead_in later ≡ true
        = simp (le-leb 0xA0 (next_digits m) c.1, c.0, of_digits 59 (next_digits (m - 0xA0)) w.digits) in
        next_as
        t
        later
        (in_range_lem later (record { area = or_right (in_user_data_or_lead_out later) lead; second = none_59; frame = none_74 }))
        (lead ∙ sym e)
        (place-later (next_digits (m - 0xA0)) (ap (λ (b : Bool). cond b (next_digits m - 0xA0) (next_digits m)) lead ∙ c.0) ∙ omega (arith, w.more, p))

    program_on : in_lead_in t ≡ false → Digits 99 t.0 → value t.0 < 99 → place_of t ≡ value t.0 * 4500 + (value t.1 * 75 + value t.2) → Next t later
    unfolding in_lead_in in_user_data_or_lead_out
    program_on e d h p =
        let m : ℕ = t.0 in
        let w = digits_more 99 m (omega arith) d h in
        let lead : in_lead_in later ≡ false = simp (lt-leb 0xA0 (next_digits m) (omega (arith, w.digits.tens))) in
        next_as
        t
        later
        (in_range_lem later (record { area = or_left (in_lead_in later) (of_digits 99 (next_digits m) w.digits); second = none_59; frame = none_74 }))
        (lead ∙ sym e)
        (place-later (next_digits m) (ap (λ (b : Bool). cond b (next_digits m - 0xA0) (next_digits m)) lead) ∙ omega (arith, w.more, p))

    minute_on : value (minute t) < top t → Next t later
    unfolding minute top
    minute_on l = by (in_lead_in t) refl l (minute-digits t r) place_is
      where
        by : (b : Bool) → in_lead_in t ≡ b → value (cond b (t.0 - 0xA0) t.0) < cond b 59 99 → Digits (cond b 59 99) (cond b (t.0 - 0xA0) t.0)
            → place_of t ≡ value (cond b (t.0 - 0xA0) t.0) * 4500 + (value t.1 * 75 + value t.2) → Next t later
        by true e h d p = lead_on e d h p
        by false e h d p = program_on e d h p

-- ---- the next address

-- where an area goes on, this is not the last address of its last minute
module _ (t : HeaderTime) (e : in_range t ≡ true) (h : rank t < rank (last_of t)) where
  r : Ranged t
  r = ranged t e

  pub not_last_minute : value t.1 ≡ 59 → value t.2 ≡ 74 → value (minute t) < top t
  not_last_minute s f =
      omega (arith, last_is t, rank_is t, place_is t r)

  -- the next one comes right behind, in range and in the same area
  pub next_is : Next t (next t)
  unfolding next
  next_is = by (eqb t.2 0x74) refl (eqb t.1 0x59) refl
    where
      by : (a : Bool) → eqb t.2 0x74 ≡ a → (b : Bool) → eqb t.1 0x59 ≡ b
          → Next t (cond a (cond b (record { 0 = next_digits t.0; 1 = 0; 2 = 0 }) (record { 0 = t.0; 1 = next_digits t.1; 2 = 0 })) (record { 0 = t.0; 1 = t.1; 2 = next_digits t.2 }))
      by false p b q =
          let w = digits_more 74 t.2 (omega arith) r.frame (not_last 74 0x74 t.2 r.frame (eqb-false t.2 0x74 p) refl) in
          kept t r t.1 (next_digits t.2) r.second w.digits (omega (arith, w.more))
      by true p false q =
          let w = digits_more 59 t.1 (omega arith) r.second (not_last 59 0x59 t.1 r.second (eqb-false t.1 0x59 q) refl) in
          kept t r (next_digits t.1) 0 w.digits (none_74 t r) (omega (arith, w.more, value-zero, value_74, ap value (eqb-true t.2 0x74 p)))
      by true p true q =
          let s : value t.1 ≡ 59 = ap value (eqb-true t.1 0x59 q) ∙ value_59 in
          let f : value t.2 ≡ 74 = ap value (eqb-true t.2 0x74 p) ∙ value_74 in
          minute_on t r s f (not_last_minute s f)

-- what it is for an area to go on
pub has_next_lem : (t : HeaderTime) → has_next t ≡ true → (in_range t ≡ true) × (rank t < rank (last_of t))
unfolding has_next
has_next_lem t e =
    let p = and_both (in_range t) (earlier t (last_of t)) e in (p.0, ltb-true (rank t) (rank (last_of t)) p.1)

-- ---- the address i places behind

pub following-next : (t : HeaderTime) → in_range t ≡ true → rank t < rank (last_of t) → following t ≡ next t
unfolding following has_next
following-next t e h = simp (e, lt-ltb (rank t) (rank (last_of t)) h)

-- i Sectors later, in range and in the same area
pub record Counted (t : HeaderTime) (i : ℕ) (u : HeaderTime) : Type 0 where
  pub in_range_lem : in_range u ≡ true
  pub same_area : in_lead_in u ≡ in_lead_in t
  pub later : rank u ≡ rank t + i

-- where there is room for k Sectors, each of their addresses is so
pub counted : (k : ℕ) (t : HeaderTime) → in_range t ≡ true → room k t ≡ true → (i : ℕ) → i < k → Counted t i (after i t)
unfolding after room left
counted k t e h zero l = record { in_range_lem = e; same_area = refl; later = omega arith }
counted k t e h (suc i) l =
    let u : HeaderTime = after i t in
    let c : Counted t i u = counted k t e h i (omega arith) in
    let m : rank u < rank (last_of u) = goes_on u c.same_area c.later in
    let n : Next u (next u) = next_is u c.in_range_lem m in
    subst (λ (v : HeaderTime). Counted t (suc i) v) (sym (following-next u c.in_range_lem m))
    (record { in_range_lem = n.in_range_lem; same_area = n.same_area ∙ c.same_area; later = n.one_more ∙ omega (arith, c.later) })
  where
    same_last : (u : HeaderTime) → in_lead_in u ≡ in_lead_in t → rank (last_of u) ≡ rank (last_of t)
    same_last u a =
        ap (λ (b : Bool). rank (cond b (record { 0 = 0xF9; 1 = 0x59; 2 = 0x74 }) (record { 0 = 0x99; 1 = 0x59; 2 = 0x74 }))) a

    goes_on : (u : HeaderTime) → in_lead_in u ≡ in_lead_in t → rank u ≡ rank t + i → rank u < rank (last_of u)
    goes_on u a p = omega (arith, leb-true k (left t) h, same_last u a, p)
