-- The ways out of reading a frame, each with the answers that lead to it: the order 1, 2, 28, 29, 30.
-- Assumes nothing.
use mathlib.Core.Path.{◌≡◌, sym, ap, ◌∙◌}
use mathlib.Core.Bool.{Bool, true, false, not}
use mathlib.Core.List.{List, []}
use Prim.Native.Nat.{ℕ}
use borrow.Author.Tests.{not-true, not-false}
use lib.ListN.{length, take, get_or}
use Rattle.outcome.specs.Say.{done, refused, cleared, outcome}
use Rattle.codeword.specs.Nearest.{is_codeword}
use Rattle.division.specs.Polynomial.{is_zero}
use Rattle.frame_edc.specs.FrameEdc.{remainder}
use Rattle.data_frame.specs.declared.Fields.{Fields}
use Rattle.data_frame.specs.DataFrame.{main_data, reserved_are_zero, fields_of, values}
use Rattle.frame_reader.specs.Reading.{reading}
use Rattle.frame_reader.specs.Reading.WaysOut as law

module _ (frame old new : List ℕ) where
  pub on_incoming : (length frame ≡ 2064 → ⊥) → new ≡ cleared 2048 old → outcome (refused 1 []) new ≡ reading frame old
  on_incoming = law.on_incoming frame old new

  module _ (l : length frame ≡ 2064) (m : length old ≡ 2048) (a : Bool) (ha : a ≡ is_codeword 2 (take 6 frame)) where
    pub on_identification : not a ≡ true → new ≡ cleared 2048 old → outcome (refused 28 []) new ≡ reading frame old
    on_identification n = law.on_identification frame old new l m (sym ha ∙ not-true a n)

    module _ (na : not a ≡ false) (b : Bool) (hb : b ≡ is_zero (remainder frame)) where
      pub on_edc : not b ≡ true → new ≡ cleared 2048 old → outcome (refused 29 []) new ≡ reading frame old
      on_edc n = law.on_edc frame old new l m (sym ha ∙ not-false a na) (sym hb ∙ not-true b n)

      module _ (nb : not b ≡ false) (u : Bool) (hu : u ≡ reserved_are_zero (get_or frame 0 0)) where
        pub on_reserved : not u ≡ true → new ≡ cleared 2048 old → outcome (refused 30 []) new ≡ reading frame old
        on_reserved n = law.on_reserved frame old new l m (sym ha ∙ not-false a na) (sym hb ∙ not-false b nb) (sym hu ∙ not-true u n)

        pub on_done : not u ≡ false → new ≡ main_data frame → (fields : Fields) → fields ≡ fields_of frame → outcome (done (values fields)) new ≡ reading frame old
        on_done n e fields f =
            ap (λ (x : Fields). outcome (done (values x)) new) f
            ∙ law.on_done frame old new l m (sym ha ∙ not-false a na) (sym hb ∙ not-false b nb) (sym hu ∙ not-false u n) e

pub on_outgoing : (frame old : List ℕ) → length frame ≡ 2064 → (length old ≡ 2048 → ⊥) → outcome (refused 2 []) old ≡ reading frame old
on_outgoing frame old l h = law.on_outgoing frame old old l h (λ _. old)

pub ruleset ways = (on_incoming, on_outgoing, on_identification, on_edc, on_reserved)
