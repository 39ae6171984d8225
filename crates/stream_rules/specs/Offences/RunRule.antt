-- The run rule bit by bit: no run offends at any bit of a stream that ends with a Sync Header exactly if between two ONEs there are two to ten ZEROs.
-- Assumes nothing.
use Rattle.std.specs.Prelude.{◌≡◌, refl, Bool, true, false, not, ◌&&◌, ◌||◌, List, [], ◌∷◌, ◌++◌, ◌⊎◌, ℕ, zero, suc, ◌+◌, ◌-◌, ◌<◌, ◌≤◌, T, eqb, leb, length, drop}
use Rattle.std.proofs.Common.{sym, ap, ◌∙◌, inl, inr, suc-le-suc, arith, le-leb, length-drop, drop_at}
use Rattle.std.proofs.lemmas.Bool.{not-true}
use Rattle.std.proofs.Math.ListN.{replicate}
use Rattle.std.proofs.lemmas.List.{drop-append-le}
use Rattle.std.proofs.Math.Seq.{drop-nil}
use Rattle.outcome.specs.First.Found.{lt-or-le}
use Rattle.outcome.specs.Table.Entries.{and_left, and_right, of_true, true_of}
use Rattle.bits.specs.Binary.{Binary}
use Rattle.words.specs.RunRule.{runs}
use Rattle.merging.specs.Rule.{sync_header_bits, starts}
use Rattle.stream_rules.specs.Offences.{back, run_offends}
use Rattle.stream_rules.specs.Offences.Runs.{near, close, far, wrong, clear, clear-runs}

pub or_left : (a b : Bool) → (a || b) ≡ false → a ≡ false
or_left true b e = e
or_left false b e = refl

pub or_right : (a b : Bool) → (a || b) ≡ false → b ≡ false
or_right true b e = let z : ◌≡◌ {A = ℕ} 0 1 = cc in absurd (omega arith)
or_right false b e = e

pub or-none : (a b : Bool) → a ≡ false → b ≡ false → (a || b) ≡ false
or-none a b p q = rw (p, q)

pub and-none-right : (a b : Bool) → b ≡ false → (a && b) ≡ false
and-none-right true b e = e
and-none-right false b e = refl

pub and_rest : (a b : Bool) → a ≡ true → (a && b) ≡ false → b ≡ false
and_rest true b p e = e
and_rest false b p e = let z : ◌≡◌ {A = ℕ} 0 1 = cc in absurd (omega arith)

back_none : (n : ℕ) (ps B : List ℕ) (q : ℕ) → back n ps B (q + n) ≡ false → starts ps (drop q B) ≡ false
back_none n ps B q e =
    let m : q + n - n ≡ q = omega arith in
    ap (λ (k : ℕ). starts ps (drop k B)) (sym m) ∙ and_rest (leb n (q + n)) (starts ps (drop (q + n - n) B)) (le-leb n (q + n) (omega arith)) e

-- what stands before a Sync Header cannot reach far into it
pub close_short : (c : List ℕ) → length c < 2 → close (c ++ sync_header_bits) ≡ false
close_short [] h = refl
close_short (x ∷ []) h = and-none-right (eqb 1 x) false refl
close_short (x ∷ y ∷ c) h = absurd (omega arith)

zeros_stop : (k : ℕ) (c : List ℕ) → length c < k → starts (replicate k 0) (c ++ sync_header_bits) ≡ false
zeros_stop zero c h = absurd (omega arith)
zeros_stop (suc k) [] h = refl
zeros_stop (suc k) (x ∷ c) h = and-none-right (eqb 0 x) (starts (replicate k 0) (c ++ sync_header_bits)) (zeros_stop k c (omega arith))

pub far_short : (c : List ℕ) → length c < 11 → far (c ++ sync_header_bits) ≡ false
far_short [] h = refl
far_short (x ∷ c) h = and-none-right (eqb 1 x) (starts (replicate 11 0) (c ++ sync_header_bits)) (zeros_stop 11 c (omega arith))

module _ (bs : List ℕ) (clean : (p : ℕ) → p ≤ length bs → run_offends (bs ++ sync_header_bits) p ≡ false) where
  all_near : (p : ℕ) → p ≤ length bs → back 1 (1 ∷ 1 ∷ []) (bs ++ sync_header_bits) p ≡ false
  unfolding run_offends
  all_near p h = or_left (back 1 (1 ∷ 1 ∷ []) (bs ++ sync_header_bits) p) (back 2 (1 ∷ 0 ∷ 1 ∷ []) (bs ++ sync_header_bits) p || back 11 (1 ∷ replicate 11 0) (bs ++ sync_header_bits) p) (clean p h)

  later : (p : ℕ) → p ≤ length bs → (back 2 (1 ∷ 0 ∷ 1 ∷ []) (bs ++ sync_header_bits) p || back 11 (1 ∷ replicate 11 0) (bs ++ sync_header_bits) p) ≡ false
  unfolding run_offends
  later p h = or_right (back 1 (1 ∷ 1 ∷ []) (bs ++ sync_header_bits) p) (back 2 (1 ∷ 0 ∷ 1 ∷ []) (bs ++ sync_header_bits) p || back 11 (1 ∷ replicate 11 0) (bs ++ sync_header_bits) p) (clean p h)

  all_close : (p : ℕ) → p ≤ length bs → back 2 (1 ∷ 0 ∷ 1 ∷ []) (bs ++ sync_header_bits) p ≡ false
  all_close p h = or_left (back 2 (1 ∷ 0 ∷ 1 ∷ []) (bs ++ sync_header_bits) p) (back 11 (1 ∷ replicate 11 0) (bs ++ sync_header_bits) p) (later p h)

  all_far : (p : ℕ) → p ≤ length bs → back 11 (1 ∷ replicate 11 0) (bs ++ sync_header_bits) p ≡ false
  all_far p h = or_right (back 2 (1 ∷ 0 ∷ 1 ∷ []) (bs ++ sync_header_bits) p) (back 11 (1 ∷ replicate 11 0) (bs ++ sync_header_bits) p) (later p h)

  none-near : (q : ℕ) → q ≤ length bs → near (drop q (bs ++ sync_header_bits)) ≡ false
  none-near q h = go (lt-or-le (length bs) (q + 1))
    where
      go : (length bs < q + 1) ⊎ (q + 1 ≤ length bs) → near (drop q (bs ++ sync_header_bits)) ≡ false
      go (inl l) =
          let e : length bs ≡ q = omega arith in
          ap near (drop_at bs sync_header_bits q e)
      go (inr l) = back_none 1 (1 ∷ 1 ∷ []) (bs ++ sync_header_bits) q (all_near (q + 1) l)

  none-close : (q : ℕ) → q ≤ length bs → close (drop q (bs ++ sync_header_bits)) ≡ false
  none-close q h = go (lt-or-le (length bs) (q + 2))
    where
      go : (length bs < q + 2) ⊎ (q + 2 ≤ length bs) → close (drop q (bs ++ sync_header_bits)) ≡ false
      go (inl l) = ap close (drop-append-le q bs sync_header_bits h) ∙ close_short (drop q bs) (omega (arith, length-drop q bs))
      go (inr l) = back_none 2 (1 ∷ 0 ∷ 1 ∷ []) (bs ++ sync_header_bits) q (all_close (q + 2) l)

  none-far : (q : ℕ) → q ≤ length bs → far (drop q (bs ++ sync_header_bits)) ≡ false
  none-far q h = go (lt-or-le (length bs) (q + 11))
    where
      go : (length bs < q + 11) ⊎ (q + 11 ≤ length bs) → far (drop q (bs ++ sync_header_bits)) ≡ false
      go (inl l) = ap far (drop-append-le q bs sync_header_bits h) ∙ far_short (drop q bs) (omega (arith, length-drop q bs))
      go (inr l) = back_none 11 (1 ∷ replicate 11 0) (bs ++ sync_header_bits) q (all_far (q + 11) l)

  none-wrong : (q : ℕ) → q ≤ length bs → wrong (drop q (bs ++ sync_header_bits)) ≡ false
  unfolding wrong
  none-wrong q h =
      or-none (near (drop q (bs ++ sync_header_bits))) (close (drop q (bs ++ sync_header_bits)) || far (drop q (bs ++ sync_header_bits))) (none-near q h)
      (or-none (close (drop q (bs ++ sync_header_bits))) (far (drop q (bs ++ sync_header_bits))) (none-close q h) (none-far q h))

not-and : (a b : Bool) → a ≡ false → b ≡ true → (not a && b) ≡ true
not-and a b p q = rw (p, q)

pub clear_header : clear sync_header_bits ≡ true
unfolding clear wrong
clear_header = refl

clear-from : (bs : List ℕ) → ((q : ℕ) → q ≤ length bs → wrong (drop q (bs ++ sync_header_bits)) ≡ false) → clear (bs ++ sync_header_bits) ≡ true
unfolding clear
clear-from [] g = clear_header
clear-from (b ∷ bs) g = not-and (wrong (b ∷ (bs ++ sync_header_bits))) (clear (bs ++ sync_header_bits)) (g 0 (omega arith)) (clear-from bs (λ q h. g (suc q) (suc-le-suc h)))

-- no offence 25 up to the Sync Header at the end: the run rule holds throughout
pub runs_if_clean : (bs : List ℕ) → Binary bs → ((p : ℕ) → p ≤ length bs → run_offends (bs ++ sync_header_bits) p ≡ false) → runs (bs ++ sync_header_bits) ≡ true
runs_if_clean bs b clean = sym (clear-runs bs b) ∙ clear-from bs (none-wrong bs clean)

-- ---- and back

wrong-none : wrong [] ≡ false
unfolding wrong
wrong-none = refl

pub clear_at : (bs : List ℕ) → T (clear bs) → (q : ℕ) → wrong (drop q bs) ≡ false
unfolding clear
clear_at [] c q = ap wrong (drop-nil q) ∙ wrong-none
clear_at (b ∷ bs) c zero = not-true (wrong (b ∷ bs)) (true_of (not (wrong (b ∷ bs))) (and_left (not (wrong (b ∷ bs))) (clear bs) c))
clear_at (b ∷ bs) c (suc q) = clear_at bs (and_right (not (wrong (b ∷ bs))) (clear bs) c) q

pub clean_if_runs : (bs : List ℕ) → Binary bs → runs (bs ++ sync_header_bits) ≡ true → (p : ℕ) → run_offends (bs ++ sync_header_bits) p ≡ false
unfolding run_offends wrong
clean_if_runs bs b r p =
    let B = bs ++ sync_header_bits in
    let at : (q : ℕ) → wrong (drop q B) ≡ false = clear_at B (of_true (clear B) (clear-runs bs b ∙ r)) in
    let n : near (drop (p - 1) B) ≡ false = or_left (near (drop (p - 1) B)) (close (drop (p - 1) B) || far (drop (p - 1) B)) (at (p - 1)) in
    let c : close (drop (p - 2) B) ≡ false = or_left (close (drop (p - 2) B)) (far (drop (p - 2) B)) (or_right (near (drop (p - 2) B)) (close (drop (p - 2) B) || far (drop (p - 2) B)) (at (p - 2))) in
    let f : far (drop (p - 11) B) ≡ false = or_right (close (drop (p - 11) B)) (far (drop (p - 11) B)) (or_right (near (drop (p - 11) B)) (close (drop (p - 11) B) || far (drop (p - 11) B)) (at (p - 11))) in
    or-none (back 1 (1 ∷ 1 ∷ []) B p) (back 2 (1 ∷ 0 ∷ 1 ∷ []) B p || back 11 (1 ∷ replicate 11 0) B p) (and-none-right (leb 1 p) (near (drop (p - 1) B)) n)
    (or-none (back 2 (1 ∷ 0 ∷ 1 ∷ []) B p) (back 11 (1 ∷ replicate 11 0) B p) (and-none-right (leb 2 p) (close (drop (p - 2) B)) c) (and-none-right (leb 11 p) (far (drop (p - 11) B)) f))
