-- What `find` does on each of its ways.
-- Assumes nothing.
use Rattle.std.specs.Prelude.{◌≡◌, refl, true, false, List, [], ℕ, ◌/◌, ◌≤◌, ◌<◌, length, replicate}
use Rattle.std.proofs.Common.{sym}
use borrow.Author.Tests.{eq-eqb, ne_eqb, lt-ltb, le-ltb}
use Rattle.outcome.specs.Say.{refused, cleared, outcome}
use Rattle.alignment.specs.Row.{is_row}
use Rattle.alignment.specs.Found.{room, place, n_of, frame_of, sectors_from, found_at, finding}

pub room_is : room ≡ 63504
unfolding room
room_is = refl

module _ (frames old : List ℕ) where
  pub on_incoming : (new : List ℕ) → is_row 24 2730 (length frames) ≡ false → new ≡ cleared room old → outcome (refused 1 []) new ≡ finding frames old
  unfolding finding
  on_incoming new h e = simp (h, e)

  pub on_outgoing : is_row 24 2730 (length frames) ≡ true → (length old ≡ room → ⊥) → outcome (refused 2 []) old ≡ finding frames old
  unfolding finding
  on_outgoing h l = simp (h, ne_eqb (length old) room l)

  pub on_none : (new : List ℕ) → is_row 24 2730 (length frames) ≡ true → length old ≡ room → length frames / 24 ≤ frame_of frames
      → new ≡ replicate room 0 → outcome (refused 24 []) new ≡ finding frames old
  unfolding finding
  on_none new h l m e = simp (h, eq-eqb (length old) room l, le-ltb (frame_of frames) (length frames / 24) m, e)

  there : is_row 24 2730 (length frames) ≡ true → length old ≡ room → frame_of frames < length frames / 24
      → outcome (found_at frames (frame_of frames) (n_of frames (frame_of frames))) (sectors_from (place (frame_of frames) (n_of frames (frame_of frames))) frames)
      ≡ finding frames old
  unfolding finding
  there h l m = simp (h, eq-eqb (length old) room l, lt-ltb (frame_of frames) (length frames / 24) m)

  pub on_found : (f n : ℕ) (new : List ℕ) → is_row 24 2730 (length frames) ≡ true → length old ≡ room → f ≡ frame_of frames
      → f < length frames / 24 → n ≡ n_of frames f → new ≡ sectors_from (place f n) frames → outcome (found_at frames f n) new ≡ finding frames old
  on_found f n new h l ef m en e =
      let k : frame_of frames < length frames / 24 = rw (sym ef) m in
      rw (e, en, ef) (there h l k)
