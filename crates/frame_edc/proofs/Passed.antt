-- The invariant of a division that has come as far as the byte i, and how one byte more keeps it.
-- Assumes nothing.
use mathlib.Core.Path.{◌≡◌, refl, sym, ap, ◌∙◌}
use mathlib.Core.List.{List, [], ◌∷◌, ◌++◌, append-nil}
use Prim.Native.Nat.{ℕ, ◌+◌, ◌≤◌, ◌<◌}
use native.Mathlib.Numerals.{add-one}
use native.Mathlib.Omega.{arith}
use lib.ListN.{length, take, get_or}
use lib.Seq.{take_all, take-suc}
use Rattle.bits.specs.Bits.{bits_of, number, unpack}
use Rattle.bits.proofs.Bits.Packed.{unpack-append}
use Rattle.division.specs.Division as by
use Rattle.division.specs.Division.{divided}
use Rattle.division.specs.Division.Register.{register_more}
use Rattle.frame_edc.specs.FrameEdc.{divisor, remainder}
use Rattle.frame_edc.specs.FrameEdc.Right.{length-divisor}
use Rattle.frame_edc.specs.Inner.Rows.{taken}

-- a byte more
pub taken_more : (bytes : List ℕ) (r b : ℕ) → r ≡ number 0 (remainder bytes) → taken r b ≡ number 0 (remainder (bytes ++ (b ∷ [])))
unfolding remainder unpack
taken_more bytes r b e =
    ap (λ (x : ℕ). taken x b) e ∙ register_more divisor 32 8 length-divisor (unpack bytes) b
    ∙ ap (λ (t : List ℕ). number 0 (by.remainder divisor t))
    (ap (λ (t : List ℕ). unpack bytes ++ t) (sym (append-nil (bits_of 8 b))) ∙ sym (unpack-append bytes (b ∷ [])))

-- the register r holds the remainder of the bytes before the byte i
pub record Passed (bytes : List ℕ) (i r : ℕ) : Type 0 where
  pub upto : i ≤ length bytes
  pub is : r ≡ number 0 (remainder (take i bytes))

pub passed_none : (bytes : List ℕ) → Passed bytes 0 0
unfolding remainder by.remainder divided divisor unpack
passed_none bytes = record { upto = omega arith; is = refl }

module _ {bytes : List ℕ} {i r : ℕ} (p : Passed bytes i r) where
  pub passed_byte : (s : ℕ) → i < length bytes → s ≡ taken r (get_or bytes i 0) → Passed bytes (i + 1) s
  passed_byte s h e =
      record {
        upto = omega arith;
        is =
            e ∙ taken_more (take i bytes) r (get_or bytes i 0) p.is
            ∙ ap (λ (t : List ℕ). number 0 (remainder t)) (sym (ap (λ (n : ℕ). take n bytes) (add-one i) ∙ take-suc bytes i 0 h));
      }

  pub passed_all : length bytes ≤ i → r ≡ number 0 (remainder bytes)
  passed_all h = p.is ∙ ap (λ (t : List ℕ). number 0 (remainder t)) (take_all i bytes h)
