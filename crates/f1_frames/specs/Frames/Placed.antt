-- Laws of F1-frames: where each byte stands, and that the bytes come back from their frames.
-- Assumes nothing.
use Rattle.std.specs.Prelude.{◌≡◌, refl, ℕ, zero, suc, ◌+◌, ◌*◌, ◌/◌, ◌%◌, ◌≤◌, ◌<◌, length, take, drop}
use Rattle.std.proofs.Math.Path.{sym, ap}
use Rattle.std.proofs.Common.{subst, ◌∙◌, arith, take-append-drop, length-drop, length-take-le, take_at, drop-drop, get_or-take, get_or-drop, ext_get_or}
use mathlib.Core.List.{List, [], ◌∷◌, ◌++◌}
use Rattle.std.proofs.Math.ListN.{get_or}
use Rattle.std.proofs.Math.Seq.{drop-append-add}
use Rattle.outcome.specs.Bytes.{Bytes}
use Rattle.outcome.specs.Say.{done, outcome}
use Rattle.outcome.specs.Table.Entries.{length-tabulated, tabulated-at}
use Rattle.entry.specs.Entry.WaysOut.{taken_back}
use Rattle.pair_exchange.specs.Exchange.{exchanged, other}
use Rattle.pair_exchange.specs.Exchange.Pairs.{length_exchanged, exchanged-twice, exchanged-at, exchanged-append, bytes_exchanged}
use Rattle.f1_frames.specs.Frames.{f1_frames, frame, byte_in, bytes_of, cut, join, cutting, joining}

-- a frame has whole pairs, so that the frames together are exchanged as one
pub f1-exchanged : (n : ℕ) (s : List ℕ) → length s ≡ 24 * n → f1_frames n s ≡ exchanged s
unfolding f1_frames
f1-exchanged zero [] h = refl
f1-exchanged zero (b ∷ s) h = absurd (omega arith)
f1-exchanged (suc n) s h =
    ap (λ (t : List ℕ). exchanged (take 24 s) ++ t) (f1-exchanged n (drop 24 s) (omega (arith, length-drop 24 s)))
    ∙ sym (exchanged-append 12 (take 24 s) (drop 24 s) (length-take-le 24 s (omega arith)))
    ∙ ap exchanged (take-append-drop 24 s)

-- the other place of a pair in its frame is its other place among all the bytes
in_exchanged : (s : List ℕ) (i : ℕ) → i / 2 * 2 + 1 < length s → byte_in s i ≡ get_or (exchanged s) i 0
in_exchanged s i h =
    get_or-take 24 (drop (24 * (i / 24)) s) (other (i % 24)) 0 (omega arith)
    ∙ get_or-drop (24 * (i / 24)) s (other (i % 24)) 0
    ∙ ap (λ (j : ℕ). get_or s j 0) (omega arith)
    ∙ sym (exchanged-at s i h)

-- and so the bytes come out of all frames as of one
pub of_exchanged : (n : ℕ) (s : List ℕ) → length s ≡ 24 * n → bytes_of n s ≡ exchanged s
unfolding bytes_of
of_exchanged n s h =
    let e : length (bytes_of n s) ≡ 24 * n = length-tabulated (byte_in s) 0 (24 * n) in
    ext_get_or 0 (bytes_of n s) (exchanged s) (e ∙ sym h ∙ sym (length_exchanged s))
    (λ i l. tabulated-at (byte_in s) (24 * n) i (omega arith) ∙ in_exchanged s i (omega arith))

module _ (n : ℕ) (s : List ℕ) (whole : length s ≡ 24 * n) where
  pub length-f1 : length (f1_frames n s) ≡ 24 * n
  length-f1 = ap length (f1-exchanged n s whole) ∙ length_exchanged s ∙ whole

  pub length_of : length (bytes_of n s) ≡ 24 * n
  length_of = ap length (of_exchanged n s whole) ∙ length_exchanged s ∙ whole

  -- the bytes come back from their frames
  pub of_f1 : bytes_of n (f1_frames n s) ≡ s
  of_f1 = of_exchanged n (f1_frames n s) length-f1 ∙ ap exchanged (f1-exchanged n s whole) ∙ exchanged-twice s

  pub f1_of : f1_frames n (bytes_of n s) ≡ s
  f1_of = f1-exchanged n (bytes_of n s) length_of ∙ ap exchanged (of_exchanged n s whole) ∙ exchanged-twice s

  -- byte i stands in frame i / 24, at the other place of its pair
  pub stands : (i : ℕ) → i < 24 * n → get_or (frame (i / 24) (f1_frames n s)) (other (i % 24)) 0 ≡ get_or s i 0
  unfolding bytes_of
  stands i h = sym (tabulated-at (byte_in (f1_frames n s)) (24 * n) i h) ∙ ap (λ (t : List ℕ). get_or t i 0) of_f1

pub length-frame : (f : ℕ) (s : List ℕ) → 24 * f + 24 ≤ length s → length (frame f s) ≡ 24
length-frame f s h = length-take-le 24 (drop (24 * f) s) (omega (arith, length-drop (24 * f) s))

-- frame f of the F1-frames is frame f of the bytes, with its pairs exchanged
pub frame-f1 : (n : ℕ) (s : List ℕ) (f : ℕ) → length s ≡ 24 * n → f < n → frame f (f1_frames n s) ≡ exchanged (frame f s)
unfolding f1_frames
frame-f1 zero s f h l = absurd (omega arith)
frame-f1 (suc n) s zero h l =
    take_at (exchanged (take 24 s)) (f1_frames n (drop 24 s)) 24 (length_exchanged (take 24 s) ∙ length-take-le 24 s (omega arith))
frame-f1 (suc n) s (suc f) h l =
    let e : length (exchanged (take 24 s)) + 24 * f ≡ 24 * suc f = omega (arith, length_exchanged (take 24 s), length-take-le 24 s (omega arith)) in
    let g : 24 + 24 * f ≡ 24 * suc f = omega arith in
    ap (λ (k : ℕ). take 24 (drop k (f1_frames (suc n) s))) (sym e)
    ∙ ap (take 24) (drop-append-add (exchanged (take 24 s)) (f1_frames n (drop 24 s)) (24 * f))
    ∙ frame-f1 n (drop 24 s) f (omega (arith, length-drop 24 s)) (omega arith)
    ∙ ap (λ (t : List ℕ). exchanged (take 24 t)) (drop-drop (24 * f) 24 s ∙ ap (λ (k : ℕ). drop k s) g)

-- ---- laws of a Sector's 98 frames

pub bytes_cut : (s : List ℕ) → length s ≡ 2352 → Bytes s → Bytes (cut s)
bytes_cut s h b = subst Bytes (sym (f1-exchanged 98 s h)) (bytes_exchanged s b)

pub bytes_join : (s : List ℕ) → length s ≡ 2352 → Bytes s → Bytes (join s)
bytes_join s h b = subst Bytes (sym (of_exchanged 98 s h)) (bytes_exchanged s b)

-- what `cut` made, `join` takes back, and the other way round
module _ (s a b : List ℕ) (hs : length s ≡ 2352) (ha : length a ≡ 2352) (hb : length b ≡ 2352) where
  pub cut_then_join : joining (cutting s a).out b ≡ outcome (done []) s
  cut_then_join = taken_back cut join (length-f1 98) (of_f1 98) s a b hs ha hb

  pub join_then_cut : cutting (joining s a).out b ≡ outcome (done []) s
  join_then_cut = taken_back join cut (length_of 98) (f1_of 98) s a b hs ha hb
