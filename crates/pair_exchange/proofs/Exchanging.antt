-- Loops that write a list with its pairs exchanged: a pair a turn, and a frame a turn.
-- Assumes nothing.
use mathlib.Core.Path.{◌≡◌, sym, ap, subst, ◌∙◌}
use mathlib.Core.List.{List}
use Prim.Native.Nat.{ℕ, ◌+◌, ◌-◌, ◌*◌, ◌/◌, ◌%◌, ◌<◌, ◌≤◌}
use native.Mathlib.Omega.{arith}
use borrow.Rule.Slice.PartMut.{put_mid}
use lib.ListN.{length, get_or, set, take, drop, length-drop}
use lib.Seq.{length-take-le}
use Rattle.outcome.specs.Buffer.{Filling}
use Rattle.outcome.specs.Buffer.Filled.{filling_more, filling-part}
use Rattle.outcome.specs.Buffer.Part.{part-back}
use Rattle.pair_exchange.specs.Exchange.{exchanged}
use Rattle.pair_exchange.specs.Exchange.Pairs.{length_exchanged, exchanged-at, exchanged-part}

pub pair_more : (d s out : List ℕ) (k : ℕ) → Filling d (exchanged s) (2 * k) out → 2 * k + 1 < length s
    → Filling d (exchanged s) (2 * (k + 1)) (set (set out (2 * k) (get_or s (2 * k + 1) 0)) (2 * k + 1) (get_or s (2 * k) 0))
pair_more d s out k f h =
    let long : length (exchanged s) ≡ length s = length_exchanged s in
    let first : get_or (exchanged s) (2 * k) 0 ≡ get_or s (2 * k + 1) 0 = exchanged-at s (2 * k) (omega arith) ∙ at s (omega arith) in
    let second : get_or (exchanged s) (2 * k + 1) 0 ≡ get_or s (2 * k) 0 = exchanged-at s (2 * k + 1) (omega arith) ∙ at s (omega arith) in
    subst (λ (m : ℕ). Filling d (exchanged s) m (set (set out (2 * k) (get_or s (2 * k + 1) 0)) (2 * k + 1) (get_or s (2 * k) 0))) (two_on k)
    (filling_more (filling_more f (get_or s (2 * k + 1) 0) (omega arith) (sym first)) (get_or s (2 * k) 0) (omega arith) (sym second))
  where
    at : (s : List ℕ) {i j : ℕ} → i ≡ j → get_or s i 0 ≡ get_or s j 0
    at s e = ap (λ (i : ℕ). get_or s i 0) e

    two_on : (k : ℕ) → 2 * k + 1 + 1 ≡ 2 * (k + 1)
    two_on k = omega arith

-- frame f of frames one after the other
abbrev frame : ℕ → List ℕ → List ℕ
frame f frames = take 24 (drop (24 * f) frames)

length-frame : (i : ℕ) (l : List ℕ) → 24 * i + 24 ≤ length l → length (frame i l) ≡ 24
length-frame i l h = length-take-le 24 (drop (24 * i) l) (omega (arith, length-drop (24 * i) l))

-- what is lent from a frame's start to its end is the frame
lent-frame : (i : ℕ) (l : List ℕ) → take (24 * i + 24 - 24 * i) (drop (24 * i) l) ≡ frame i l
lent-frame i l =
    let width : 24 * i + 24 - 24 * i ≡ 24 = omega arith in ap (λ (n : ℕ). take n (drop (24 * i) l)) width

frame-exchanged : (s : List ℕ) (i : ℕ) → 24 * i + 24 ≤ length s → exchanged (frame i s) ≡ frame i (exchanged s)
frame-exchanged s i h =
    let e : 2 * (12 * i) ≡ 24 * i = omega arith in
    sym
    (ap (λ (k : ℕ). take 24 (drop k (exchanged s))) (sym e) ∙ exchanged-part (12 * i) 12 s (omega arith)
    ∙ ap (λ (k : ℕ). exchanged (take 24 (drop k s))) e)

module _ (d s out part made : List ℕ) (i : ℕ) where
  abbrev lent : List ℕ → List ℕ
  lent l = take (24 * i + 24 - 24 * i) (drop (24 * i) l)

  -- a frame that is made of the lent bytes, and then copied into the lent part of the buffer
  pub frame_more : Filling d (exchanged s) (24 * i) out → length s % 24 ≡ 0 → i < length s / 24 → made ≡ exchanged (lent s)
      → part ≡ made
      → Filling d (exchanged s) (24 * (i + 1)) (put_mid (24 * i) (24 * i + 24 - 24 * i) out part)
  frame_more f h l m copied =
      let long : length (exchanged s) ≡ length s = length_exchanged s in
      let right : made ≡ exchanged (frame i s) = m ∙ ap exchanged (lent-frame i s) in
      let back = part-back (24 * i) (24 * i + 24) out part (omega arith) in
      let on : 24 * i + 24 ≡ 24 * (i + 1) = omega arith in
      subst (λ (n : ℕ). Filling d (exchanged s) n (put_mid (24 * i) (24 * i + 24 - 24 * i) out part)) on
      (subst (Filling d (exchanged s) (24 * i + 24)) (sym back)
      (filling-part f 24 part (omega arith) (copied ∙ right ∙ frame-exchanged s i (omega arith))))
