-- A field compared with the bytes of a Sector in its place.
-- Assumes nothing.
use mathlib.Core.Path.{◌≡◌, sym, ap, ◌∙◌}
use mathlib.Core.Bool.{Bool, true, false}
use mathlib.Core.List.{List}
use Prim.Native.Nat.{ℕ, ◌+◌, ◌-◌, ◌<◌}
use native.Mathlib.Omega.{arith}
use lib.ListN.{length, take, drop, length-take, length-drop}
use lib.Seq.{take_all}
use Rattle.sector.specs.Layout.{sync, bytes_from, zeros}
use Rattle.sector.specs.Layout.Zeros.{length-zeros}
use Rattle.lists.specs.Same.{same}
use Rattle.lists.proofs.Same.Equal.{same_is, unlike_lengths}

module _ (s field : List ℕ) (from : ℕ) where
  -- bytes that are too few are not the field
  pub too_short : 0 < length field → length s < from + length field → false ≡ same (bytes_from from (length field) s) field
  too_short p l =
      sym
      (unlike_lengths (bytes_from from (length field) s) field
      (λ e. omega (arith, length-take (length field) (drop from s), length-drop from s)))

  pub compared : (r : Bool) → (r ≡ true → take (from + length field - from) (drop from s) ≡ field)
      → (take (from + length field - from) (drop from s) ≡ field → r ≡ true) → r ≡ same (bytes_from from (length field) s) field
  compared r p q =
      let e : from + length field - from ≡ length field = omega arith in
      let part = ap (λ (n : ℕ). take n (drop from s)) e in
      same_is (bytes_from from (length field) s) field r (λ t. sym part ∙ p t) (λ d. q (part ∙ d))

-- ---- Sync stands at the front

pub sync-first : (s field : List ℕ) (r : Bool) → field ≡ sync → r ≡ same (bytes_from 0 (length field) s) field → r ≡ same (take 12 s) sync
sync-first s field r h e = e ∙ ap (λ (w : List ℕ). same (take (length w) s) w) h

-- ---- the filler of Mode 00 is all that there is from byte 16 on

pub no_filler : (s : List ℕ) → (length s ≡ 2352 → ⊥) → false ≡ same (drop 16 s) (zeros 2336)
no_filler s n = sym (unlike_lengths (drop 16 s) (zeros 2336) (λ e. n (omega (arith, length-drop 16 s, length-zeros 2336))))

pub whole_filler : (s : List ℕ) (r : Bool) → length s ≡ 2352 → r ≡ same (bytes_from 16 2336 s) (zeros 2336) → r ≡ same (drop 16 s) (zeros 2336)
whole_filler s r l e = e ∙ ap (λ (w : List ℕ). same w (zeros 2336)) (take_all 2336 (drop 16 s) (omega (arith, length-drop 16 s)))
