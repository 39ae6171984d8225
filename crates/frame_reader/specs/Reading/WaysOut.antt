-- The ways out of reading a frame, each with what leads to it.
-- Assumes nothing.
use Rattle.std.specs.Prelude.{◌≡◌, true, false, List, [], ℕ, length, take, get_or}
use borrow.Author.Tests.{eq-eqb, ne_eqb}
use Rattle.outcome.specs.Say.{done, refused, cleared, outcome}
use Rattle.codeword.specs.Nearest.{is_codeword}
use Rattle.division.specs.Polynomial.{is_zero}
use Rattle.frame_edc.specs.FrameEdc.{remainder}
use Rattle.data_frame.specs.DataFrame.{main_data, reserved_are_zero, fields_of, values}
use Rattle.frame_reader.specs.Reading.{reading}

module _ (frame old new : List ℕ) where
  pub on_incoming : (length frame ≡ 2064 → ⊥) → new ≡ cleared 2048 old → outcome (refused 1 []) new ≡ reading frame old
  unfolding reading
  on_incoming h e = simp (ne_eqb (length frame) 2064 h, e)

  pub on_outgoing : length frame ≡ 2064 → (length old ≡ 2048 → ⊥) → new ≡ old → outcome (refused 2 []) new ≡ reading frame old
  unfolding reading
  on_outgoing l h e = simp (eq-eqb (length frame) 2064 l, ne_eqb (length old) 2048 h, e)

  module _ (l : length frame ≡ 2064) (m : length old ≡ 2048) where
    pub on_identification : is_codeword 2 (take 6 frame) ≡ false → new ≡ cleared 2048 old → outcome (refused 28 []) new ≡ reading frame old
    unfolding reading
    on_identification p e = simp (eq-eqb (length frame) 2064 l, eq-eqb (length old) 2048 m, p, e)

    module _ (p : is_codeword 2 (take 6 frame) ≡ true) where
      pub on_edc : is_zero (remainder frame) ≡ false → new ≡ cleared 2048 old → outcome (refused 29 []) new ≡ reading frame old
      unfolding reading
      on_edc q e = simp (eq-eqb (length frame) 2064 l, eq-eqb (length old) 2048 m, p, q, e)

      module _ (q : is_zero (remainder frame) ≡ true) where
        pub on_reserved : reserved_are_zero (get_or frame 0 0) ≡ false → new ≡ cleared 2048 old → outcome (refused 30 []) new ≡ reading frame old
        unfolding reading
        on_reserved u e = simp (eq-eqb (length frame) 2064 l, eq-eqb (length old) 2048 m, p, q, u, e)

        pub on_done : reserved_are_zero (get_or frame 0 0) ≡ true → new ≡ main_data frame → outcome (done (values (fields_of frame))) new ≡ reading frame old
        unfolding reading
        on_done u e = simp (eq-eqb (length frame) 2064 l, eq-eqb (length old) 2048 m, p, q, u, e)
