-- Sectors and back: the F1-frames of Sectors in a row, 98 to each, give these Sectors again.
-- Assumes nothing.
use Rattle.std.specs.Prelude.{◌≡◌, refl, ℕ, ◌*◌, length, take, drop}
use Rattle.std.proofs.Math.Path.{ap}
use Rattle.std.proofs.Common.{ap₂, ◌∙◌, arith, length-append, take_at, drop_at}
use mathlib.Core.List.{List, [], ◌∷◌, ◌++◌, flatten, flat_map, append_assoc}
use Rattle.std.proofs.Math.Seq.{take_all}
use Rattle.outcome.specs.Bytes.{Bytes}
use Rattle.outcome.specs.Bytes.Kept.{bytes_take, bytes_drop}
use Rattle.calls.specs.Calls.Firsts.{length-firsts}
use Rattle.scrambling.specs.Scramble.{scrambled}
use Rattle.scrambling.specs.Scramble.Twice.{bytes_scrambled, length-scrambled, scrambled-twice}
use Rattle.f1_frames.specs.Frames.{frame, cut, join}
use Rattle.f1_frames.specs.Frames.Placed.{length-f1, of_f1, length-frame, bytes_cut}
use Rattle.road.specs.Road.{OfBytes, frames_of, sectors_of}
use Rattle.road.specs.Inner.Lists.{of_append, of_firsts, flatten_frames}

-- ---- one Sector

module _ (s : List ℕ) (long : length s ≡ 2352) (bytes : Bytes s) where
  abbrev placed : List ℕ
  placed = cut (scrambled s)

  length-placed : length placed ≡ 2352
  length-placed = length-f1 98 (scrambled s) (length-scrambled s long)

  frames_of_lem : OfBytes 24 (frames_of s)
  unfolding frames_of
  frames_of_lem =
      of_firsts 24 (λ f. frame f placed) 0 98
      (λ f l. (
        length-frame f placed (omega (arith, length-placed)),
        bytes_take 24 (drop (24 * f) placed) (bytes_drop (24 * f) placed (bytes_cut (scrambled s) (length-scrambled s long) (bytes_scrambled s bytes))),
      ))

  -- its frames give it back
  sector_back : scrambled (join (flatten (frames_of s))) ≡ s
  unfolding frames_of
  sector_back =
      ap (λ (w : List ℕ). scrambled (join w)) (flatten_frames placed 0 98 ∙ take_all 2352 placed (omega (arith, length-placed)))
      ∙ ap scrambled (of_f1 98 (scrambled s) (length-scrambled s long))
      ∙ scrambled-twice s long

many_frames : (s : List ℕ) → length (frames_of s) ≡ 98
unfolding frames_of
many_frames s = length-firsts (λ f. frame f (cut (scrambled s))) 0 98

-- ---- Sectors in a row

pub all_frames_of : (ss : List (List ℕ)) → OfBytes 2352 ss → OfBytes 24 (flat_map frames_of ss)
unfolding flat_map
all_frames_of [] h = tt
all_frames_of (s ∷ ss) h = of_append 24 (frames_of s) (flat_map frames_of ss) (frames_of_lem s h.0 h.1.0) (all_frames_of ss h.1.1)

pub length_all_frames : (ss : List (List ℕ)) → length (flat_map frames_of ss) ≡ 98 * length ss
unfolding flat_map
length_all_frames [] = refl
length_all_frames (s ∷ ss) = omega (arith, length-append (frames_of s) (flat_map frames_of ss), many_frames s, length_all_frames ss)

-- THEIR FRAMES give them back, whatever stands behind these
pub sectors_back : (ss rest : List (List ℕ)) → OfBytes 2352 ss → sectors_of (length ss) (flat_map frames_of ss ++ rest) ≡ ss
unfolding flat_map sectors_of
sectors_back [] rest h = refl
sectors_back (s ∷ ss) rest h =
    let f = frames_of s in
    let e = append_assoc f (flat_map frames_of ss) rest in
    ap₂ ◌∷◌
    (ap (λ (w : List (List ℕ)). scrambled (join (flatten w))) (ap (take 98) e ∙ take_at f (flat_map frames_of ss ++ rest) 98 (many_frames s)) ∙ sector_back s h.0 h.1.0)
    (ap (sectors_of (length ss)) (ap (drop 98) e ∙ drop_at f (flat_map frames_of ss ++ rest) 98 (many_frames s)) ∙ sectors_back ss rest h.1.1)
