-- The bits of the frames edge by edge: a ONE for each edge into a buffer of zeros gives the Channel bits as far as `end`.
-- Assumes nothing.
use mathlib.Core.Path.{◌≡◌, refl, sym, ap, ◌∙◌}
use mathlib.Core.Logic.{◌⊎◌, inl, inr}
use mathlib.Core.List.{List, ◌++◌}
use Prim.Native.Nat.{ℕ, ◌+◌, ◌-◌, ◌*◌, ◌<◌, ◌≤◌}
use native.Mathlib.Omega.{arith}
use lib.ListN.{length, get_or, set, take, drop, replicate, length-set, length-drop, length-replicate, length-append, get_or-replicate, get_or-append, get_or-eq_default}
use lib.Seq.{drop-drop, get_or-drop, get_or-take, get_or-set_same, get_or-set_other, get_or-append-add, length-take-le, ext_get_or}
use Rattle.outcome.specs.First.Found.{lt-or-le}
use Rattle.bits.specs.Bits.{unpack}
use Rattle.bits.proofs.Bits.Packed.{length-unpack}
use Rattle.replaying.specs.Replay.{channel}
use Rattle.replaying.specs.Replay.Sizes.{Legal}
use Rattle.replaying.specs.Replay.Headers.{channel-one}
use Rattle.replaying.specs.Replay.Edges.{legal-drop}
use Rattle.legal_runs.specs.EdgeBits.{runs, edge_bits}
use Rattle.replay.specs.Inner.Frames.{EdgeThere, FramesDue, FramesPut}
use Rattle.legal_runs.specs.EdgeBits.There.{runs_long}
use Rattle.replay.proofs.Front.{front, front_is, front-some, front-zeros, front-next}
use Rattle.replay.proofs.Packing.{unpack-zeros}

-- the bits before bit q are in the buffer as far as `end`; edge j stands at bit q
pub record Drawing (ds bits : List ℕ) (k end : ℕ) (out : List ℕ) (q j : ℕ) : Type 0 where
  pub long : length out ≡ 65536
  pub near : q ≤ end + 11
  pub few : j ≤ q + k
  pub place : q < end → drop q bits ≡ channel (drop j ds)
  pub below : (p : ℕ) → p < q → p < end → get_or (unpack out) p 0 ≡ get_or bits p 0
  pub above : (p : ℕ) → q ≤ p → get_or (unpack out) p 0 ≡ 0
  pub beyond : (p : ℕ) → end ≤ p → get_or (unpack out) p 0 ≡ 0

zero-at : (n p : ℕ) → get_or {A = ℕ} (replicate n 0) p 0 ≡ 0
zero-at n p = go (lt-or-le p n)
  where
    go : (p < n) ⊎ (n ≤ p) → get_or {A = ℕ} (replicate n 0) p 0 ≡ 0
    go (inl h) = get_or-replicate {A = ℕ} n p 0 0 h
    go (inr h) = let l : length {A = ℕ} (replicate n 0) ≤ p = omega (arith, length-replicate {A = ℕ} n 0) in get_or-eq_default (replicate n 0) 0 l

pub drawing_none : {w out : List ℕ} {k end : ℕ} → FramesDue w k end out → Drawing (runs w) (channel (drop k (runs w))) k end out 0 k
drawing_none {w} {out} {k} {end} d =
    record {
      long = ap length d.zeros ∙ length-replicate {A = ℕ} 65536 0;
      near = omega arith;
      few = omega arith;
      place = λ h. refl;
      below = λ p h. absurd (omega arith);
      above = λ p h. all p;
      beyond = λ p h. all p;
    }
  where
    all : (p : ℕ) → get_or (unpack out) p 0 ≡ 0
    all p = ap (λ (l : List ℕ). get_or (unpack l) p 0) d.zeros ∙ ap (λ (l : List ℕ). get_or l p 0) (unpack-zeros 65536) ∙ zero-at (8 * 65536) p

pub few_edges : {w : List ℕ} {k : ℕ} → EdgeThere w k → k ≤ 32768
few_edges {w} t = omega (arith, t.within, t.short, runs_long w)

module _ {ds bits out : List ℕ} {k end q j : ℕ} (l : Legal ds) (within : end ≤ length bits) (room : end ≤ 524288) (d : Drawing ds bits k end out q j)
    (h : q < end) where
  es : List ℕ
  es = drop j ds

  legal_es : Legal es
  unfolding es
  legal_es = legal-drop j ds l

  at : drop q bits ≡ channel es
  unfolding es
  at = d.place h

  pub drawing_room : q < 8 * length out
  drawing_room = omega (arith, d.long)

  module _ (b : ℕ) (e : b ≡ edge_bits ds j) where
    b_is : b ≡ front es
    unfolding es
    b_is = e ∙ front_is ds j

    pub b_some : (1 ≤ b) × (b ≤ 11)
    b_some = let f = front-some es legal_es in (omega (arith, b_is, f.0), omega (arith, b_is, f.1))

    -- bit p of the Channel bits, from bit q on
    bit : (p : ℕ) → get_or bits (q + p) 0 ≡ get_or (channel es) p 0
    bit p = sym (get_or-drop q bits p 0) ∙ ap (λ (t : List ℕ). get_or t p 0) at

    next_place : q + b < end → drop (q + b) bits ≡ channel (drop (j + 1) ds)
    unfolding es
    next_place m =
        let n : front es < length (channel es) = omega (arith, b_is, ap length at, length-drop q bits) in
        sym (drop-drop b q bits) ∙ ap (drop b) at ∙ ap (λ (x : ℕ). drop x (channel es)) b_is ∙ front-next es legal_es n ∙ ap channel (drop-drop 1 j ds)

    module _ (new : List ℕ) (f : unpack new ≡ set (unpack out) q 1) where
      same_long : length new ≡ 65536
      same_long = omega (arith, d.long, ap length f, length-set (unpack out) q 1, length-unpack new, length-unpack out)

      other : (p : ℕ) → (p ≡ q → ⊥) → get_or (unpack new) p 0 ≡ get_or (unpack out) p 0
      other p n = ap (λ (t : List ℕ). get_or t p 0) f ∙ get_or-set_other (unpack out) q p 1 0 n

      here : get_or (unpack new) q 0 ≡ 1
      here = ap (λ (t : List ℕ). get_or t q 0) f ∙ get_or-set_same (unpack out) q 1 0 (omega (arith, d.long, length-unpack out))

      under : (p : ℕ) → p < q + b → p < end → get_or (unpack new) p 0 ≡ get_or bits p 0
      under p m n = go (lt-or-le p q) (lt-or-le q p)
        where
          go : (p < q) ⊎ (q ≤ p) → (q < p) ⊎ (p ≤ q) → get_or (unpack new) p 0 ≡ get_or bits p 0
          go (inl a) c = other p (λ x. omega arith) ∙ d.below p a n
          go (inr a) (inl c) =
              let s : q + (p - q) ≡ p = omega arith in
              other p (λ x. omega arith) ∙ d.above p a
              ∙ sym (ap (λ (i : ℕ). get_or bits i 0) (sym s) ∙ bit (p - q) ∙ front-zeros es (p - q) (omega arith) (omega (arith, b_is)))
          go (inr a) (inr c) =
              let s : p ≡ q = omega arith in
              let t : q + 0 ≡ q = omega arith in
              ap (λ (i : ℕ). get_or (unpack new) i 0) s ∙ here
              ∙ sym (ap (λ (i : ℕ). get_or bits i 0) (s ∙ sym t) ∙ bit 0 ∙ channel-one es)

      pub drawing_more : Drawing ds bits k end new (q + b) (j + 1)
      drawing_more =
          record {
            long = same_long;
            near = omega (arith, b_some.1);
            few = omega (arith, b_some.0, d.few);
            place = next_place;
            below = under;
            above = λ p m. other p (λ x. omega (arith, b_some.0)) ∙ d.above p (omega (arith, b_some.0));
            beyond = λ p m. other p (λ x. omega arith) ∙ d.beyond p m;
          }

pub drawing_all : {w out : List ℕ} {k end q j : ℕ} → end ≤ length (channel (drop k (runs w))) → end ≤ 524288
    → Drawing (runs w) (channel (drop k (runs w))) k end out q j → end ≤ q → FramesPut w k end out
drawing_all {w} {out} {k} {end} {q} {j} within room d h =
    record { long = d.long; is = ext_get_or 0 (unpack out) (take end bits ++ zeros) lengths (λ p m. go p (lt-or-le p end)) }
  where
    bits : List ℕ
    bits = channel (drop k (runs w))

    zeros : List ℕ
    zeros = replicate (524288 - end) 0

    cut : length (take end bits) ≡ end
    cut = length-take-le end bits within

    lengths : length (unpack out) ≡ length (take end bits ++ zeros)
    lengths = omega (arith, d.long, length-unpack out, length-append (take end bits) zeros, cut, length-replicate {A = ℕ} (524288 - end) 0)

    go : (p : ℕ) → (p < end) ⊎ (end ≤ p) → get_or (unpack out) p 0 ≡ get_or (take end bits ++ zeros) p 0
    go p (inl a) =
        d.below p (omega arith) a ∙ sym (get_or-append (take end bits) zeros 0 p (omega (arith, cut)) ∙ get_or-take end bits p 0 a)
    go p (inr a) =
        let s : p ≡ length (take end bits) + (p - end) = omega (arith, cut) in
        d.beyond p a
        ∙ sym (ap (λ (i : ℕ). get_or (take end bits ++ zeros) i 0) s ∙ get_or-append-add (take end bits) zeros (p - end) 0 ∙ zero-at (524288 - end) (p - end))
