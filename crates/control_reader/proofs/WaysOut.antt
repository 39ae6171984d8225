-- The ways out of reading, each with the tests that lead to it: 1, 16, 17, 18, done.
-- Assumes nothing.
use mathlib.Core.Path.{◌≡◌, refl, sym, ap, subst, ◌∙◌}
use mathlib.Core.Bool.{Bool, true, false, not, ◌||◌}
use mathlib.Core.List.{List, []}
use Prim.Native.Nat.{ℕ, ◌/◌, ◌%◌}
use borrow.Author.Tests.{eq-eqb, not-true, not-false}
use lib.Dec.{eqb}
use lib.ListN.{length, get_or, take, drop}
use Rattle.outcome.specs.Say.{done, refused}
use Rattle.bits.specs.Bits.{number, pack}
use Rattle.control.specs.declared.Control.{Control}
use Rattle.control.specs.Values.{values_of}
use Rattle.control_fields.specs.Found.{fields_in}
use Rattle.control_reader.specs.Reading.{q_of, crc_holds, known_mode, Reads, wrong-crc, unknown_mode}
use Rattle.control_reader.specs.Inner.Bits.{length-q_of, binary_q_of, mode_half}
use Rattle.control_reader.specs.Inner.Saying.{fields_read, is_written, saying, said_reads}

not-not : (b : Bool) → not (not b) ≡ b
not-not true = refl
not-not false = refl

module _ (bytes : List ℕ) (l : length bytes ≡ 96) (r : Bool) (hr : r ≡ crc_holds bytes) where
  pub on_crc : not r ≡ true → Reads bytes (refused 16 [])
  on_crc n = wrong-crc l (sym hr ∙ not-true r n)

  module _ (n : not r ≡ false) (q : List ℕ) (hq : q ≡ pack 10 (q_of bytes)) where
    right : crc_holds bytes ≡ true
    right = sym hr ∙ not-false r n

    mode : get_or q 0 0 % 16 ≡ number 0 (take 4 (drop 4 (q_of bytes)))
    unfolding pack
    mode = ap (λ (t : List ℕ). get_or t 0 0 % 16) hq ∙ mode_half (q_of bytes) (length-q_of bytes ∙ l) (binary_q_of bytes)

    module _ (u : Bool) (hu : u ≡ not (eqb (get_or q 0 0 % 16) 1 || eqb (get_or q 0 0 % 16) 2)) where
      test_mode : not u ≡ known_mode bytes
      unfolding known_mode
      test_mode = ap not hu ∙ not-not (eqb (get_or q 0 0 % 16) 1 || eqb (get_or q 0 0 % 16) 2) ∙ ap (λ (m : ℕ). eqb m 1 || eqb m 2) mode

      pub on_mode : u ≡ true → Reads bytes (refused 17 [])
      on_mode e = unknown_mode l right (sym test_mode ∙ ap not e)

      module _ (e : u ≡ false) (f : Control) (hf : f ≡ fields_in (eqb (get_or bytes 0 0 / 128) 1) q) (w : Bool) (hw : w ≡ is_written f bytes) where
        mode_right : known_mode bytes ≡ true
        mode_right = sym test_mode ∙ ap not e

        fields : f ≡ fields_read bytes
        fields = hf ∙ ap (fields_in (eqb (get_or bytes 0 0 / 128) 1)) hq

        test : w ≡ is_written (fields_read bytes) bytes
        test = hw ∙ ap (λ (g : Control). is_written g bytes) fields

        pub on_fields : not w ≡ true → Reads bytes (refused 18 [])
        unfolding saying
        on_fields n =
            let s : saying bytes ≡ refused 18 [] = simp (eq-eqb (length bytes) 96 l, right, mode_right, sym test ∙ not-true w n) in
            subst (Reads bytes) s (said_reads bytes)

        pub on_read : not w ≡ false → Reads bytes (done (values_of f))
        unfolding saying
        on_read n =
            let s : saying bytes ≡ done (values_of (fields_read bytes)) = simp (eq-eqb (length bytes) 96 l, right, mode_right, sym test ∙ not-false w n) in
            subst (Reads bytes) (s ∙ ap (λ (g : Control). done (values_of g)) (sym fields)) (said_reads bytes)

-- 16 and 17 by the tests before them
pub ruleset ways = (on_crc, on_mode)
