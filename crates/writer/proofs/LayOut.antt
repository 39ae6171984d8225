-- What two copies into a blank Sector make of it.
-- Assumes nothing.
use mathlib.Core.Path.{◌≡◌, refl, sym, ap, ap₂, ◌∙◌}
use mathlib.Core.Bool.{Bool, cond}
use mathlib.Core.List.{List, ◌++◌}
use Prim.Native.Nat.{ℕ, ◌+◌, ◌-◌, ◌≤◌}
use native.Mathlib.Omega.{arith}
use lib.Dec.{eqb}
use lib.ListN.{length, take, drop, length-append, length-drop}
use lib.Seq.{take_at, drop-append-add, length-take-le}
use borrow.Rule.Slice.PartMut.{put_mid, mid_of, mid_len}
use Rattle.outcome.specs.Buffer.Lengths.{same_lengths}
use Rattle.outcome.specs.Buffer.Part.{part-back}
use Rattle.address.specs.declared.HeaderTime.{HeaderTime}
use Rattle.sector.specs.Layout.{zeros}
use Rattle.sector.specs.Layout.Zeros.{length-zeros, drop-zeros}
use Rattle.sector_fields.specs.Front.{front}
use Rattle.writer.specs.Inner.Laid.{laid}

pub laid_out : (mode : ℕ) (time : HeaderTime) (user : List ℕ) {old p q : List ℕ} → old ≡ zeros 2352 → p ≡ front mode time → q ≡ user
    → put_mid 16 (16 + length user - 16) (p ++ drop 16 old) q ≡ laid mode time user
laid_out mode time user {old} {p} {q} e f g =
    part-back 16 (16 + length user) (p ++ drop 16 old) q (omega arith)
    ∙ ap₂ {C = List ℕ} (λ (a b : List ℕ). a ++ b) (take_at p (drop 16 old) 16 long ∙ f) (ap₂ {C = List ℕ} (λ (a b : List ℕ). a ++ b) g behind)
  where
    long : length p ≡ 16
    long = ap length f ∙ (unfold front in refl)

    behind : drop (16 + length user) (p ++ drop 16 old) ≡ zeros (2336 - length user)
    behind =
        ap (λ (n : ℕ). drop (n + length user) (p ++ drop 16 old)) (sym long) ∙ drop-append-add p (drop 16 old) (length user)
        ∙ ap (drop (length user)) (ap (drop 16) e ∙ drop-zeros 16 2352) ∙ drop-zeros (length user) 2336

-- ---- what each copy leaves: it is as long as the part that it goes into

module _ (mode : ℕ) (time : HeaderTime) {b f : List ℕ} (blank : b ≡ zeros 2352) (first : f ≡ front mode time) where
  length-first : length f ≡ 16
  length-first = ap length first ∙ (unfold front in refl)

  length-blank : length b ≡ 2352
  length-blank = ap length blank ∙ length-zeros 2352

  pub first_copied : (r : Bool) (p : List ℕ) → (r ≡ eqb (length f) (length (take 16 b))) × (p ≡ cond r f (take 16 b)) → p ≡ f
  first_copied r p e =
      same_lengths r (length f) (length (take 16 b)) p f (take 16 b) e (length-first ∙ sym (length-take-le 16 b (omega (arith, length-blank))))

  pub user_fits : (p user : List ℕ) → p ≡ f → length user ≤ 2336 → 16 + length user ≤ length (p ++ drop 16 b)
  user_fits p user e h =
      omega (arith, ap length e, length-first, length-blank, length-append p (drop 16 b), length-drop 16 b)

  pub user_copied : (r : Bool) (p q user : List ℕ) → p ≡ f → length user ≤ 2336
      → (r ≡ eqb (length user) (length (mid_of 16 (16 + length user - 16) (p ++ drop 16 b))))
      × (q ≡ cond r user (mid_of 16 (16 + length user - 16) (p ++ drop 16 b)))
      → q ≡ user
  user_copied r p q user e h g =
      same_lengths r (length user) (length (mid_of 16 (16 + length user - 16) (p ++ drop 16 b))) q user (mid_of 16 (16 + length user - 16) (p ++ drop 16 b)) g
      (omega (arith, mid_len 16 (16 + length user) (p ++ drop 16 b) (user_fits p user e h)))
