-- The Channel bits of such edges are the bits that were turned into them, and a ONE for the edge behind; where the run rule holds the runs are legal.
-- Assumes nothing.
use Rattle.std.specs.Prelude.{◌≡◌, refl, Bool, true, false, ◌&&◌, List, [], ◌∷◌, ◌++◌, ℕ, zero, suc, ◌+◌, ◌-◌, ◌*◌, ◌<◌, ◌≤◌, leb, replicate}
use Rattle.std.proofs.Common.{sym, ap, ap₂, ◌∙◌, arith, leb-true}
use Rattle.bits.specs.Binary.{Binary}
use Rattle.words.specs.RunRule.{gaps}
use Rattle.captures.specs.Counts.{Counts, bits_in}
use Rattle.replaying.specs.Replay.{channel}
use Rattle.replaying.specs.Replay.Sizes.{Legal}
use Rattle.section_edges.specs.Edges.{gaps_from, Ticks, eight_ticks}

-- so many ticks are so many bits
pub ticks_bits : (d g : ℕ) → 8 * g ≤ d + 4 → d < 8 * g + 4 → bits_in d ≡ g
ticks_bits d g h k = omega arith

-- eight ticks a bit are within the rounding
pub eight_ticks_lem : (gs : List ℕ) → Ticks (eight_ticks gs) gs
eight_ticks_lem [] = tt
eight_ticks_lem (g ∷ gs) = (omega arith, omega arith, eight_ticks_lem gs)

-- a ZERO before or behind others
one-zero_more : (z : ℕ) (bs : List ℕ) → replicate z 0 ++ (0 ∷ bs) ≡ replicate (suc z) 0 ++ bs
one-zero_more zero bs = refl
one-zero_more (suc z) bs = ap (λ (t : List ℕ). 0 ∷ t) (one-zero_more z bs)

-- the bits come back
pub gaps-channel : (z : ℕ) (bs ds : List ℕ) → Binary bs → Ticks ds (gaps_from z bs) → channel ds ≡ 1 ∷ (replicate z 0 ++ (bs ++ (1 ∷ [])))
unfolding gaps_from channel
gaps-channel z [] [] b t = absurd t
gaps-channel z [] (d ∷ []) b t = let e : bits_in d - 1 ≡ z = omega (arith, ticks_bits d (suc z) t.0 t.1) in ap (λ (k : ℕ). 1 ∷ (replicate k 0 ++ (1 ∷ []))) e
gaps-channel z [] (d ∷ e ∷ ds) b t = absurd t.2
gaps-channel z (zero ∷ bs) ds b t =
    gaps-channel (suc z) bs ds b.1 t ∙ ap (λ (l : List ℕ). 1 ∷ l) (sym (one-zero_more z (bs ++ (1 ∷ []))))
gaps-channel z (suc zero ∷ bs) [] b t = absurd t
gaps-channel z (suc zero ∷ bs) (d ∷ ds) b t =
    let e : bits_in d - 1 ≡ z = omega (arith, ticks_bits d (suc z) t.0 t.1) in
    ap₂ (λ (k : ℕ) (l : List ℕ). 1 ∷ (replicate k 0 ++ l)) e (gaps-channel 0 bs ds b.1 t.2)
gaps-channel z (suc (suc x) ∷ bs) ds b t = absurd (omega (arith, b.0))

-- ---- legal runs

both : (a b : Bool) → a && b ≡ true → (a ≡ true) × (b ≡ true)
both true true e = (refl, refl)
both true false e = let z : ◌≡◌ {A = ℕ} 0 1 = cc in absurd (omega arith)
both false b e = let z : ◌≡◌ {A = ℕ} 0 1 = cc in absurd (omega arith)

-- two to ten ZEROs before a ONE are a run of three to eleven bits
legal-run : (z d : ℕ) (rest : Bool) → (leb 2 z && leb z 10) && rest ≡ true → 8 * suc z ≤ d + 4 → d < 8 * suc z + 4
    → (3 ≤ bits_in d) × (bits_in d ≤ 11) × (rest ≡ true)
legal-run z d rest e h k =
    let p = both (leb 2 z && leb z 10) rest e in
    let q = both (leb 2 z) (leb z 10) p.0 in
    (omega (arith, leb-true 2 z q.0, ticks_bits d (suc z) h k), omega (arith, leb-true z 10 q.1, ticks_bits d (suc z) h k), p.1)

pub gaps-legal : (z : ℕ) (bs ds rest : List ℕ) → gaps z (bs ++ (1 ∷ rest)) ≡ true → Ticks ds (gaps_from z bs) → Legal ds
unfolding gaps_from
gaps-legal z [] [] rest e t = absurd t
gaps-legal z [] (d ∷ []) rest e t = let l = legal-run z d (gaps 0 rest) e t.0 t.1 in (l.0, l.1, tt)
gaps-legal z [] (d ∷ f ∷ ds) rest e t = absurd t.2
gaps-legal z (zero ∷ bs) ds rest e t = gaps-legal (suc z) bs ds rest e t
gaps-legal z (suc b ∷ bs) [] rest e t = absurd t
gaps-legal z (suc b ∷ bs) (d ∷ ds) rest e t =
    let l = legal-run z d (gaps 0 (bs ++ (1 ∷ rest))) e t.0 t.1 in
    (l.0, l.1, gaps-legal 0 bs ds rest l.2 t.2)

-- and are told apart by 16 bits
pub legal_counts : (ds : List ℕ) → Legal ds → Counts ds
legal_counts [] l = tt
legal_counts (d ∷ ds) l = (omega (arith, l.1), legal_counts ds l.2)
