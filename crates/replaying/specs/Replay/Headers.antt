-- Where a Sync Header begins in the Channel bits of legal runs: at an edge from which two runs of 11 bits follow, and a further edge.
-- Assumes nothing.
use Rattle.std.specs.Prelude.{◌≡◌, refl, Bool, true, false, List, [], ◌∷◌, ◌++◌, ℕ, zero, suc, ◌+◌, ◌-◌, ◌<◌, ◌≤◌, T, eqb, length, get_or, drop, replicate}
use Rattle.std.proofs.Common.{sym, ap, ◌∙◌, subst, arith, eqb-true, eqb→eq, length-drop, drop_at, get_or-drop}
use Rattle.std.proofs.lemmas.List.{length-replicate, get_or-replicate}
use Rattle.std.proofs.Math.ListN.{get_or-append}
use Rattle.outcome.specs.Table.{all_below}
use Rattle.outcome.specs.Table.Entries.{and_right, below}
use Rattle.merging.specs.Rule.{sync_header_bits, starts}
use Rattle.merging.specs.Rule.Headers.{starts_short}
use Rattle.replaying.specs.Replay.{channel}
use Rattle.replaying.specs.Replay.Sizes.{Legal, bits_of_runs, length-channel}

-- an edge, the ZEROs of its run, and what follows
abbrev pub run : ℕ → List ℕ → List ℕ
run b rest = 1 ∷ (replicate (b - 1) 0 ++ rest)

-- ---- where the ONEs are

-- bits of a run behind its edge are ZERO
pub run-zero : (b p : ℕ) (rest : List ℕ) → 0 < p → p < b → get_or (run b rest) p 0 ≡ 0
run-zero b zero rest h k = absurd (omega arith)
run-zero b (suc p) rest h k =
    let l : p < length {A = ℕ} (replicate (b - 1) 0) = omega (arith, length-replicate {A = ℕ} (b - 1) 0) in
    get_or-append (replicate (b - 1) 0) rest 0 p l ∙ get_or-replicate {A = ℕ} (b - 1) p 0 0 (omega arith)

-- behind the run stands what follows
pub run_rest : (b : ℕ) (rest : List ℕ) → 1 ≤ b → drop b (run b rest) ≡ rest
run_rest zero rest h = absurd (omega arith)
run_rest (suc b) rest h = drop_at (replicate (suc b - 1) 0) rest b (length-replicate {A = ℕ} (suc b - 1) 0 ∙ less b)
  where
    less : (b : ℕ) → suc b - 1 ≡ b
    less b = omega arith

pub run-next : (b p : ℕ) (rest : List ℕ) → 1 ≤ b → get_or (run b rest) (b + p) 0 ≡ get_or rest p 0
run-next b p rest h = sym (get_or-drop b (run b rest) p 0) ∙ ap (λ (l : List ℕ). get_or l p 0) (run_rest b rest h)

pub channel-one : (ds : List ℕ) → get_or (channel ds) 0 0 ≡ 1
unfolding channel
channel-one [] = refl
channel-one (d ∷ ds) = refl

-- ---- what a Sync Header has at its places

starts_like : (ps bs : List ℕ) → T (starts ps bs) → (i : ℕ) → i < length ps → get_or bs i 0 ≡ get_or ps i 0
starts_like [] bs t i h = absurd (omega arith)
starts_like (p ∷ ps) [] t i h = absurd t
starts_like (p ∷ ps) (b ∷ bs) t zero h = sym (head (eqb p b) refl t)
  where
    head : (s : Bool) → eqb p b ≡ s → T (starts (p ∷ ps) (b ∷ bs)) → p ≡ b
    head true e u = eqb-true p b e
    head false e u = absurd (rw e at u)
starts_like (p ∷ ps) (b ∷ bs) t (suc i) h = starts_like ps bs (and_right (eqb p b) (starts ps bs) t) i (omega arith)

header_like : (bs : List ℕ) → starts sync_header_bits bs ≡ true → (i : ℕ) → i < 24 → get_or bs i 0 ≡ get_or sync_header_bits i 0
header_like bs e i h = starts_like sync_header_bits bs (subst T (sym e) tt) i h

-- bits that differ from the Sync Header at a place are none
no_header : (bs : List ℕ) (i : ℕ) → i < 24 → (get_or bs i 0 ≡ get_or sync_header_bits i 0 → ⊥) → starts sync_header_bits bs ≡ false
no_header bs i h n = go (starts sync_header_bits bs) refl
  where
    go : (t : Bool) → starts sync_header_bits bs ≡ t → t ≡ false
    go true e = absurd (n (header_like bs e i h))
    go false e = refl

-- ---- the two runs

differs : {x y : ℕ} → x ≡ 1 → y ≡ 0 → x ≡ y → ⊥
differs p q e = omega arith

-- eight ZEROs of its first run, and of its second
zeros-from : ℕ → ℕ → Bool
zeros-from k i = eqb (get_or sync_header_bits (i + k) 0) 0

first-zeros : T (all_below (zeros-from 3) 8)
unfolding zeros-from
first-zeros = tt

second-zeros : T (all_below (zeros-from 14) 8)
unfolding zeros-from
second-zeros = tt

zero_in_first : (b : ℕ) → 3 ≤ b → b ≤ 10 → get_or sync_header_bits b 0 ≡ 0
unfolding zeros-from
zero_in_first b h k =
    let e : b ≡ b - 3 + 3 = omega arith in
    ap (λ (i : ℕ). get_or sync_header_bits i 0) e ∙ eqb→eq (get_or sync_header_bits (b - 3 + 3) 0) 0 (below (zeros-from 3) 8 first-zeros (b - 3) (omega arith))

zero_in_second : (b : ℕ) → 3 ≤ b → b ≤ 10 → get_or sync_header_bits (11 + b) 0 ≡ 0
unfolding zeros-from
zero_in_second b h k =
    let e : 11 + b ≡ b - 3 + 14 = omega arith in
    ap (λ (i : ℕ). get_or sync_header_bits i 0) e ∙ eqb→eq (get_or sync_header_bits (b - 3 + 14) 0) 0 (below (zeros-from 14) 8 second-zeros (b - 3) (omega arith))

-- a first run of fewer than 11 bits
pub first_short : (b : ℕ) (ds : List ℕ) → 3 ≤ b → b ≤ 10 → starts sync_header_bits (run b (channel ds)) ≡ false
first_short b ds h k =
    no_header (run b (channel ds)) b (omega arith)
    (differs (ap (λ (i : ℕ). get_or (run b (channel ds)) i 0) (plus b) ∙ run-next b 0 (channel ds) (omega arith) ∙ channel-one ds) (zero_in_first b h k))
  where
    plus : (b : ℕ) → b ≡ b + 0
    plus b = omega arith

-- a second run of fewer than 11 bits
pub second_short : (b : ℕ) (ds : List ℕ) → 3 ≤ b → b ≤ 10 → starts sync_header_bits (run 11 (run b (channel ds))) ≡ false
second_short b ds h k =
    no_header (run 11 (run b (channel ds))) (11 + b) (omega arith)
    (differs
    (run-next 11 b (run b (channel ds)) (omega arith)
    ∙ ap (λ (i : ℕ). get_or (run b (channel ds)) i 0) (plus b) ∙ run-next b 0 (channel ds) (omega arith) ∙ channel-one ds)
    (zero_in_second b h k))
  where
    plus : (b : ℕ) → b ≡ b + 0
    plus b = omega arith

-- two runs of 11 bits and a further edge
pub both_long : (b : ℕ) (rest : List ℕ) → 3 ≤ b → starts sync_header_bits (run 11 (run 11 (run b rest))) ≡ true
both_long zero rest h = absurd (omega arith)
both_long (suc zero) rest h = absurd (omega arith)
both_long (suc (suc b)) rest h = ap (λ (k : ℕ). starts sync_header_bits (run 11 (run 11 (1 ∷ (replicate k 0 ++ rest))))) (less b)
  where
    less : (b : ℕ) → suc (suc b) - 1 ≡ suc b
    less b = omega arith

-- fewer than three runs hold none
pub few_runs : (ds : List ℕ) → Legal ds → length ds ≤ 2 → (p : ℕ) → starts sync_header_bits (drop p (channel ds)) ≡ false
unfolding bits_of_runs
few_runs [] l h p = starts_short (drop p (channel [])) (omega (arith, length-channel [] l, length-drop p (channel [])))
few_runs (d ∷ []) l h p =
    starts_short (drop p (channel (d ∷ []))) (omega (arith, length-channel (d ∷ []) l, l.1, length-drop p (channel (d ∷ []))))
few_runs (d ∷ e ∷ []) l h p =
    starts_short (drop p (channel (d ∷ e ∷ [])))
    (omega (arith, length-channel (d ∷ e ∷ []) l, l.1, l.2.1, length-drop p (channel (d ∷ e ∷ []))))
few_runs (d ∷ e ∷ f ∷ ds) l h p = absurd (omega arith)

-- within a run none begins
pub within-run : (b p : ℕ) (rest : List ℕ) → 0 < p → p < b → starts sync_header_bits (drop p (run b rest)) ≡ false
within-run b p rest h k =
    no_header (drop p (run b rest)) 0 (omega arith)
    (λ e. let z : get_or (drop p (run b rest)) 0 0 ≡ 0 = get_or-drop p (run b rest) 0 0 ∙ ap (λ (i : ℕ). get_or (run b rest) i 0) (plus p) ∙ run-zero b p rest h k in
    differs e z refl)
  where
    plus : (p : ℕ) → p + 0 ≡ p
    plus p = omega arith
