-- Marks become those that are kept, place by place; and a frame's rows with their marks behind them.
-- Assumes nothing.
use Prim.Native.Nat.{ℕ, ◌+◌, ◌≤◌, ◌<◌}
use mathlib.Core.Path.{◌≡◌, sym, ap, ap₂, ◌∙◌}
use mathlib.Core.List.{List, ◌++◌, append-nil}
use native.Mathlib.Omega.{arith}
use lib.ListN.{length, get_or, set, replicate, length-append, drop_of_length-le}
use lib.Seq.{take_at, drop_at}
use borrow.Rule.Slice.PartMut.{put_mid}
use Rattle.outcome.specs.Buffer.Part.{part-back}
use Rattle.outcome.specs.Buffer.{Filling}
use Rattle.outcome.specs.Buffer.Filled.{filling-none, filling_long, filling_more, filling_all, filling_rest}
use Rattle.circ.specs.Rows.{inverted}
use Rattle.circ.specs.Marks.{lost_by, lost_marks}
use Rattle.circ.specs.Marks.Lost.{length_lost, lost_at}
use Rattle.circ.specs.Marked.{entering}

-- the marks of the first i places are those that are kept
abbrev pub Kept : List ℕ → ℕ → List ℕ → Type 0
Kept m i out = Filling m (lost_marks m) i out

pub kept-none : (m : List ℕ) → Kept m 0 m
kept-none m = filling-none m (lost_marks m) (sym (length_lost m))

pub kept_more : {m out : List ℕ} {i : ℕ} → Kept m i out → {v : ℕ} → i < length out → v ≡ lost_by (get_or out i 0) → Kept m (i + 1) (set out i v)
kept_more {m} {out} {i} k {v} h e =
    filling_more k v (omega (arith, filling_long k, length_lost m)) (e ∙ ap lost_by (filling_rest k i (omega arith)) ∙ sym (lost_at m i))

pub kept_all : {m out : List ℕ} {i : ℕ} → Kept m i out → length out ≤ i → out ≡ lost_marks m
kept_all {m} k h = filling_all k (omega (arith, filling_long k, length_lost m))

-- ---- what comes in

pub enters : (frame marks : List ℕ) → length frame ≡ 32 → (rows lost r : List ℕ) → rows ≡ inverted frame → lost ≡ lost_marks marks → r ≡ rows ++ lost
    → r ≡ entering (frame ++ marks)
unfolding entering
enters frame marks l rows lost r p q e =
    e ∙ ap₂ ◌++◌ p q
    ∙ sym (ap₂ (λ (a b : List ℕ). inverted a ++ lost_marks b) (take_at frame marks 32 l) (drop_at frame marks 32 l))

-- the second half is put behind the first
pub put_behind : (a b front behind : List ℕ) → a ≡ front → b ≡ behind → length front ≡ 32 → put_mid 32 32 (a ++ replicate 32 0) b ≡ front ++ behind
put_behind a b front behind p q l =
    ap₂ (λ (x y : List ℕ). put_mid 32 32 (x ++ replicate 32 0) y) p q
    ∙ part-back 32 64 (front ++ replicate 32 0) behind (omega arith)
    ∙ ap₂ (λ (x y : List ℕ). x ++ (behind ++ y)) (take_at front (replicate 32 0) 32 l)
    (drop_of_length-le (front ++ replicate 32 0) {i = 64} (omega (arith, length-append front (replicate 32 0))))
    ∙ ap (λ (x : List ℕ). front ++ x) (append-nil behind)
