-- `nearest` finds the codeword near a word exactly where there is one.
-- Assumes nothing.
use Rattle.std.proofs.Math.Path.{◌≡◌, subst}
use Rattle.std.specs.Prelude.{refl, Bool, true, cond, ◌⊎◌, ℕ, ◌≤◌, ◌<◌, ltb, length}
use Rattle.std.proofs.Common.{sym, ap, inl, inr, lt-ltb, le-ltb, ltb-true}
use Rattle.std.proofs.Math.Bool.{false}
use mathlib.Core.List.{List}
use Rattle.std.proofs.Math.Option.{Option, none, some}
use native.Mathlib.Omega.{arith}
use Rattle.outcome.specs.Bytes.{Bytes}
use Rattle.outcome.specs.First.{First}
use Rattle.outcome.specs.First.Found.{lt-or-le, first_below_lem}
use Rattle.codeword.specs.Code.{Codeword, Near}
use Rattle.codeword.specs.Nearest.{is_codeword, place_before, new_byte, changed, change, bytes_after, verdict, mended, nearest}
use Rattle.codeword.specs.declared.Verdict.TheVariants.{Clean, Change, Lost}
use Rattle.codeword.specs.Code.NearOne.{near-one, code_of_test, test_of_code, self_near, changed-near, near_cases}

module _ (J : ℕ) (w : List ℕ) (hb : Bytes w) where
  -- the search over the places, from the end
  abbrev Found : ℕ → Type 0
  Found r = First (λ m. is_codeword J (changed w m) ≡ true) (length w) r

  found : Found (bytes_after J w)
  found = first_below_lem (λ m. is_codeword J (changed w m)) (length w)

  -- what is found is near
  pub nearest_sound : (c : List ℕ) → nearest J w ≡ some c → Near J w c
  unfolding nearest verdict
  nearest_sound c e = short (ltb 255 (length w)) e
    where
      not_lost : ◌≡◌ {A = Option (List ℕ)} none (some c) → ⊥
      not_lost e = let z : ◌≡◌ {A = ℕ} 0 1 = cc in omega arith

      place : (r : ℕ) → Found r → (b : Bool) → ltb r (length w) ≡ b
          → mended w (cond b (Change (place_before r (length w)) (new_byte w r)) Lost) ≡ some c → Near J w c
      place r f true t e =
          let q : changed w r ≡ c = unfold changed in cc in
          subst (λ (x : List ℕ). Near J w x) q (changed-near J w hb r (code_of_test J (changed w r) (f.holds (ltb-true r (length w) t))))
      place r f false t e = absurd (not_lost e)

      code : (b : Bool) → is_codeword J w ≡ b
          → mended w (cond b Clean (change w (bytes_after J w))) ≡ some c → Near J w c
      code true t e = let q : w ≡ c = cc in subst (λ (x : List ℕ). Near J w x) q (self_near J w hb (code_of_test J w t))
      code false t e =
          place (bytes_after J w) found
          (ltb (bytes_after J w) (length w)) refl e

      short : (b : Bool)
          → mended w (cond b Lost (cond (is_codeword J w) Clean (change w (bytes_after J w)))) ≡ some c
          → Near J w c
      short true e = absurd (not_lost e)
      short false e = code (is_codeword J w) refl e

  -- what is near is found
  pub nearest_complete : 2 ≤ J → length w ≤ 255 → (c : List ℕ) → Near J w c → nearest J w ≡ some c
  unfolding nearest verdict
  nearest_complete hj k c n = rw (le-ltb 255 (length w) k) (code (is_codeword J w) refl)
    where
      one : (a : List ℕ) → Near J w a → a ≡ c
      one a na = near-one J w a c hj k na n

      place : (r : ℕ) → Found r → (w ≡ c) ⊎ ((m : ℕ) × (m < length w) × (changed w m ≡ c)) → (Codeword J w → ⊥) → (r < length w) ⊎ (length w ≤ r)
          → mended w (change w r) ≡ some c
      place r f d nc (inl l) =
          rw (lt-ltb r (length w) l)
          (ap {B = Option (List ℕ)} some (unfold changed in one (changed w r) (changed-near J w hb r (code_of_test J (changed w r) (f.holds l)))))
      place r f (inl e) nc (inr l) = absurd (nc (subst (λ (x : List ℕ). Codeword J x) (sym e) n.code))
      place r f (inr p) nc (inr l) =
          absurd (f.before p.0 (omega (arith, p.1)) (test_of_code J (changed w p.0) (subst (λ (x : List ℕ). Codeword J x) (sym p.2) n.code)))

      code : (b : Bool) → is_codeword J w ≡ b
          → mended w (cond b Clean (change w (bytes_after J w))) ≡ some c
      code true t = ap {B = Option (List ℕ)} some (one w (self_near J w hb (code_of_test J w t)))
      code false t =
          place (bytes_after J w) found (near_cases J w hb c (omega arith) n)
          (λ h. not-both (test_of_code J w h)) (lt-or-le (bytes_after J w) (length w))
        where
          not-both : is_codeword J w ≡ true → ⊥
          not-both s = let z : ◌≡◌ {A = ℕ} 0 1 = cc in omega arith

  -- so nothing is found only where nothing is near
  pub nearest-none : 2 ≤ J → length w ≤ 255 → nearest J w ≡ none → (c : List ℕ) → Near J w c → ⊥
  nearest-none hj k e c n =
      let p : nearest J w ≡ some c = nearest_complete hj k c n in
      let z : ◌≡◌ {A = ℕ} 0 1 = cc in omega arith
  -- and where nothing is near, nothing is found

-- ---- the verdict

-- a codeword is clean
pub verdict_code : (J : ℕ) (w : List ℕ) → length w ≤ 255 → Codeword J w → verdict J w ≡ Clean
unfolding verdict
verdict_code J w k c = rw (le-ltb 255 (length w) k, test_of_code J w c)

-- so a codeword comes back as it is
pub nearest_code : (J : ℕ) (w : List ℕ) → length w ≤ 255 → Codeword J w → nearest J w ≡ some w
unfolding nearest
nearest_code J w k c = ap (mended w) (verdict_code J w k c)
