-- An address in range is known by how many come before it, so that of two of them one lies before the other or they are the same.
-- Assumes nothing.
use Rattle.std.specs.Prelude.{◌≡◌, Bool, ◌&&◌, ◌||◌, ◌+◌, ◌-◌, ◌≤◌, leb}
use Rattle.std.proofs.Math.Path.{refl, sym}
use Rattle.std.proofs.Math.Bool.{true, false}
use Rattle.std.proofs.Common.{arith, leb-true, ltb-false}
use Rattle.std.proofs.Math.Dec.{T}
use Rattle.outcome.specs.Table.Entries.{and_left, and_right, true_of, of_true}
use Rattle.digits.specs.Digits.{value_of_digits, two_digits}
use Rattle.digits.specs.Digits.One.{within, decimal-one}
use Rattle.address.specs.declared.HeaderTime.{HeaderTime}
use Rattle.address.specs.Address.{in_user_data_or_lead_out, in_lead_in, in_range}
use Rattle.address.specs.Order.{minutes_before, rank, earlier}

-- a minute of the Lead-in Area, and the minutes before it
pub lead_in : (t : HeaderTime) → in_lead_in t ≡ true → (0xA0 ≤ t.0) × (two_digits 59 (t.0 - 0xA0) ≡ true) × (minutes_before t ≡ value_of_digits (t.0 - 0xA0))
unfolding in_lead_in minutes_before
lead_in t e =
    let both = of_true (leb 0xA0 t.0 && two_digits 59 (t.0 - 0xA0)) e in (
      leb-true 0xA0 t.0 (true_of (leb 0xA0 t.0) (and_left (leb 0xA0 t.0) (two_digits 59 (t.0 - 0xA0)) both)),
      true_of (two_digits 59 (t.0 - 0xA0)) (and_right (leb 0xA0 t.0) (two_digits 59 (t.0 - 0xA0)) both),
      rw e,
    )

module _ (t : HeaderTime) (h : in_range t ≡ true) where
  parts : T ((in_user_data_or_lead_out t || in_lead_in t) && (two_digits 59 t.1 && two_digits 74 t.2))
  unfolding in_range
  parts = of_true ((in_user_data_or_lead_out t || in_lead_in t) && (two_digits 59 t.1 && two_digits 74 t.2)) h

  rest : T (two_digits 59 t.1 && two_digits 74 t.2)
  rest = and_right (in_user_data_or_lead_out t || in_lead_in t) (two_digits 59 t.1 && two_digits 74 t.2) parts

  second-right : two_digits 59 t.1 ≡ true
  second-right = true_of (two_digits 59 t.1) (and_left (two_digits 59 t.1) (two_digits 74 t.2) rest)

  frame_right : two_digits 74 t.2 ≡ true
  frame_right = true_of (two_digits 74 t.2) (and_right (two_digits 59 t.1) (two_digits 74 t.2) rest)

  minute-right : T (in_user_data_or_lead_out t || in_lead_in t)
  minute-right = and_left (in_user_data_or_lead_out t || in_lead_in t) (two_digits 59 t.1 && two_digits 74 t.2) parts

  -- any other minute
  behind : in_lead_in t ≡ false → (two_digits 99 t.0 ≡ true) × (minutes_before t ≡ 60 + value_of_digits t.0)
  unfolding in_user_data_or_lead_out minutes_before
  behind e = (other (two_digits 99 t.0) (in_lead_in t) e minute-right, rw e)
    where
      other : (a b : Bool) → b ≡ false → T (a || b) → a ≡ true
      other true b e t = refl
      other false true e t = sym e
      other false false e t = absurd t

-- two addresses in range with as many before them are the same
pub rank-one : (a b : HeaderTime) → in_range a ≡ true → in_range b ≡ true → rank a ≡ rank b → a ≡ b
unfolding rank
rank-one a b h k e = go (in_lead_in a) refl (in_lead_in b) refl
  where
    seconds : value_of_digits a.1 ≡ value_of_digits b.1 → a.1 ≡ b.1
    seconds = decimal-one 59 59 a.1 b.1 (second-right a h) (second-right b k)

    frames : value_of_digits a.2 ≡ value_of_digits b.2 → a.2 ≡ b.2
    frames = decimal-one 74 74 a.2 b.2 (frame_right a h) (frame_right b k)

    -- seconds and frames are below their bounds
    small : (value_of_digits a.1 ≤ 59) × (value_of_digits b.1 ≤ 59) × (value_of_digits a.2 ≤ 74) × (value_of_digits b.2 ≤ 74)
    small = (within 59 a.1 (second-right a h), within 59 b.1 (second-right b k), within 74 a.2 (frame_right a h), within 74 b.2 (frame_right b k))

    all : a.0 ≡ b.0 → a.1 ≡ b.1 → a.2 ≡ b.2 → a ≡ b
    all p q r = λ i. record { 0 = p i; 1 = q i; 2 = r i }

    go : (x : Bool) → in_lead_in a ≡ x → (y : Bool) → in_lead_in b ≡ y → a ≡ b
    go true p true q =
        let bounds = small in
        let (la, da, ma) = lead_in a p in
        let (lb, db, mb) = lead_in b q in
        let m : value_of_digits (a.0 - 0xA0) ≡ value_of_digits (b.0 - 0xA0) = omega arith in
        let s : value_of_digits a.1 ≡ value_of_digits b.1 = omega arith in
        let f : value_of_digits a.2 ≡ value_of_digits b.2 = omega arith in
        let n : a.0 - 0xA0 ≡ b.0 - 0xA0 = decimal-one 59 59 (a.0 - 0xA0) (b.0 - 0xA0) da db m in
        all (omega arith) (seconds s) (frames f)
    go true p false q =
        let bounds = small in
        let (la, da, ma) = lead_in a p in
        let (db, mb) = behind b k q in
        absurd (omega (arith, within 59 (a.0 - 0xA0) da))
    go false p true q =
        let bounds = small in
        let (da, ma) = behind a h p in
        let (lb, db, mb) = lead_in b q in
        absurd (omega (arith, within 59 (b.0 - 0xA0) db))
    go false p false q =
        let bounds = small in
        let (da, ma) = behind a h p in
        let (db, mb) = behind b k q in
        let m : value_of_digits a.0 ≡ value_of_digits b.0 = omega arith in
        let s : value_of_digits a.1 ≡ value_of_digits b.1 = omega arith in
        let f : value_of_digits a.2 ≡ value_of_digits b.2 = omega arith in
        all (decimal-one 99 99 a.0 b.0 da db m) (seconds s) (frames f)

-- of two addresses in range one is earlier, or they are the same
pub neither_earlier : (a b : HeaderTime) → in_range a ≡ true → in_range b ≡ true → earlier a b ≡ false → earlier b a ≡ false → a ≡ b
neither_earlier a b h k p q =
    rank-one a b h k (omega (arith, ltb-false (rank a) (rank b) p, ltb-false (rank b) (rank a) q))
