-- The Channel bits of legal runs edge by edge: what stands from an edge on, and where the first Sync Header begins.
-- Assumes nothing.
use Rattle.std.specs.Prelude.{◌≡◌, refl, Bool, false, ◌⊎◌, length, get_or, take, drop}
use Rattle.std.proofs.Math.Path.{sym, ap, ap₂}
use Rattle.std.proofs.Common.{◌∙◌, subst, inl, inr, drop-drop}
use Rattle.std.proofs.Math.Bool.{true}
use mathlib.Core.List.{List, [], ◌∷◌}
use Prim.Native.Nat.{ℕ, zero, suc, ◌+◌, ◌-◌, ◌<◌, ◌≤◌}
use native.Mathlib.Omega.{arith}
use Rattle.outcome.specs.First.{First, first_below}
use Rattle.outcome.specs.First.Found.{lt-or-le, first_below_lem, found_first}
use Rattle.merging.specs.Rule.{sync_header_bits, starts}
use Rattle.captures.specs.Counts.{bits_in}
use Rattle.replaying.specs.Replay.{channel, first_header}
use Rattle.replaying.specs.Replay.Sizes.{Legal, bits_of_runs, length-channel}
use Rattle.replaying.specs.Replay.Headers.{run, run_rest, first_short, second_short, both_long, within-run}

-- ---- behind an edge and its ZEROs stands the next edge

module _ (d : ℕ) (ds : List ℕ) (l : Legal (d ∷ ds)) where
  pub drop_edge : drop (bits_in d) (channel (d ∷ ds)) ≡ channel ds
  unfolding channel
  drop_edge = run_rest (bits_in d) (channel ds) (omega (arith, l.0))

  drop_more : (p : ℕ) → drop (bits_in d + p) (channel (d ∷ ds)) ≡ drop p (channel ds)
  drop_more p = sym (drop-drop p (bits_in d) (channel (d ∷ ds))) ∙ ap (drop p) drop_edge

-- the Channel bits from edge k on
pub drop-runs : (k : ℕ) (ds : List ℕ) → Legal ds → k ≤ length ds → drop (bits_of_runs (take k ds)) (channel ds) ≡ channel (drop k ds)
unfolding bits_of_runs
drop-runs zero ds l h = refl
drop-runs (suc k) [] l h = absurd (omega arith)
drop-runs (suc k) (d ∷ ds) l h = drop_more d ds l (bits_of_runs (take k ds)) ∙ drop-runs k ds l.2 (omega arith)

pub bits_parted : (k : ℕ) (ds : List ℕ) → bits_of_runs (take k ds) + bits_of_runs (drop k ds) ≡ bits_of_runs ds
unfolding bits_of_runs
bits_parted zero ds = omega arith
bits_parted (suc k) [] = refl
bits_parted (suc k) (d ∷ ds) = omega (arith, bits_parted k ds)

pub legal-drop : (k : ℕ) (ds : List ℕ) → Legal ds → Legal (drop k ds)
legal-drop zero ds l = l
legal-drop (suc k) [] l = tt
legal-drop (suc k) (d ∷ ds) l = legal-drop k ds l.2

-- ---- the first Sync Header

never : {b : Bool} → b ≡ true → b ≡ false → ⊥
never p q = let z : ◌≡◌ {A = ℕ} 0 1 = cc in omega arith

pub header_here : (bits : List ℕ) → starts sync_header_bits bits ≡ true → first_header bits ≡ 0
unfolding first_header
header_here bits e =
    sym (found_first (λ p. starts sync_header_bits (drop p bits)) (length bits) 0
    (record { within = omega arith; before = λ p h. absurd (omega arith); holds = λ h. e }))

pub header_nowhere : (bits : List ℕ) → ((p : ℕ) → starts sync_header_bits (drop p bits) ≡ false) → first_header bits ≡ length bits
unfolding first_header
header_nowhere bits n =
    sym (found_first (λ p. starts sync_header_bits (drop p bits)) (length bits) (length bits)
    (record { within = omega arith; before = λ p h e. never e (n p); holds = λ h. absurd (omega arith) }))

module _ (d : ℕ) (ds : List ℕ) (l : Legal (d ∷ ds)) (n : starts sync_header_bits (channel (d ∷ ds)) ≡ false) where
  -- none begins before the next edge
  none_in_run : (p : ℕ) → p < bits_in d → starts sync_header_bits (drop p (channel (d ∷ ds))) ≡ false
  unfolding channel
  none_in_run zero h = n
  none_in_run (suc p) h = within-run (bits_in d) (suc p) (channel ds) (omega arith) h

  later : (r : ℕ) → First (λ p. starts sync_header_bits (drop p (channel ds)) ≡ true) (length (channel ds)) r
      → First (λ p. starts sync_header_bits (drop p (channel (d ∷ ds))) ≡ true) (length (channel (d ∷ ds))) (bits_in d + r)
  unfolding bits_of_runs
  later r f =
      record {
        within = omega (arith, f.within, length-channel ds l.2, length-channel (d ∷ ds) l);
        before = λ p h e. go p h e (lt-or-le p (bits_in d));
        holds =
            λ h. ap (starts sync_header_bits) (drop_more d ds l r) ∙ f.holds (omega (arith, length-channel ds l.2, length-channel (d ∷ ds) l));
      }
    where
      go : (p : ℕ) → p < bits_in d + r → starts sync_header_bits (drop p (channel (d ∷ ds))) ≡ true → (p < bits_in d) ⊎ (bits_in d ≤ p) → ⊥
      go p h e (inl i) = never e (none_in_run p i)
      go p h e (inr i) =
          let s : p ≡ bits_in d + (p - bits_in d) = omega arith in
          f.before (p - bits_in d) (omega arith)
          (ap (starts sync_header_bits) (sym (drop_more d ds l (p - bits_in d))) ∙ ap (λ (q : ℕ). starts sync_header_bits (drop q (channel (d ∷ ds)))) (sym s) ∙ e)

  pub header_later : first_header (channel (d ∷ ds)) ≡ bits_in d + first_header (channel ds)
  unfolding first_header
  header_later =
      sym (found_first (λ p. starts sync_header_bits (drop p (channel (d ∷ ds)))) (length (channel (d ∷ ds)))
      (bits_in d + first_below (λ p. starts sync_header_bits (drop p (channel ds))) (length (channel ds)))
      (later (first_below (λ p. starts sync_header_bits (drop p (channel ds))) (length (channel ds)))
      (first_below_lem (λ p. starts sync_header_bits (drop p (channel ds))) (length (channel ds)))))

-- where none begins at the first k edges, the first is that of the bits from edge k on
pub header_from : (k : ℕ) (ds : List ℕ) → Legal ds → k ≤ length ds → ((i : ℕ) → i < k → starts sync_header_bits (channel (drop i ds)) ≡ false)
    → first_header (channel ds) ≡ bits_of_runs (take k ds) + first_header (channel (drop k ds))
unfolding bits_of_runs
header_from zero ds l h n = omega arith
header_from (suc k) [] l h n = absurd (omega arith)
header_from (suc k) (d ∷ ds) l h n =
    omega (arith, header_later d ds l (n 0 (omega arith)), header_from k ds l.2 (omega arith) (λ i j. n (suc i) (omega arith)))

-- ---- at edge k, from which two more runs follow

-- the runs from edge k on
pub record Three (ds : List ℕ) (k : ℕ) : Type 0 where
  pub first : ℕ
  pub second : ℕ
  pub third : ℕ
  pub rest : List ℕ
  pub is : drop k ds ≡ first ∷ second ∷ third ∷ rest
  pub first_is : get_or ds k 0 ≡ first
  pub second_is : get_or ds (suc k) 0 ≡ second

three : (k : ℕ) (ds : List ℕ) → k + 2 < length ds → Three ds k
three zero [] h = absurd (omega arith)
three zero (d ∷ []) h = absurd (omega arith)
three zero (d ∷ e ∷ []) h = absurd (omega arith)
three zero (d ∷ e ∷ f ∷ ds) h = record { first = d; second = e; third = f; rest = ds; is = refl; first_is = refl; second_is = refl }
three (suc k) [] h = absurd (omega arith)
three (suc k) (d ∷ ds) h =
    let t = three k ds (omega arith) in
    record { first = t.first; second = t.second; third = t.third; rest = t.rest; is = t.is; first_is = t.first_is; second_is = t.second_is }

module _ (ds : List ℕ) (l : Legal ds) (k : ℕ) (h : k + 2 < length ds) where
  t : Three ds k
  t = three k ds h

  some : Legal (t.first ∷ t.second ∷ t.third ∷ t.rest)
  some = subst Legal t.is (legal-drop k ds l)

  -- a Sync Header begins there if both runs are of 11 bits
  pub header_at : bits_in (get_or ds k 0) ≡ 11 → bits_in (get_or ds (suc k) 0) ≡ 11 → starts sync_header_bits (channel (drop k ds)) ≡ true
  unfolding channel t
  header_at e f =
      ap (λ (es : List ℕ). starts sync_header_bits (channel es)) t.is
      ∙ ap₂ (λ (b c : ℕ). starts sync_header_bits (run b (run c (channel (t.third ∷ t.rest)))))
      (ap bits_in (sym t.first_is) ∙ e) (ap bits_in (sym t.second_is) ∙ f)
      ∙ both_long (bits_in t.third) (channel t.rest) some.2.2.0

  -- and else none does
  pub no_header_first : (bits_in (get_or ds k 0) ≡ 11 → ⊥) → starts sync_header_bits (channel (drop k ds)) ≡ false
  unfolding channel
  no_header_first n =
      ap (λ (es : List ℕ). starts sync_header_bits (channel es)) t.is
      ∙ first_short (bits_in t.first) (t.second ∷ t.third ∷ t.rest) some.0 (short some.1 (λ e. n (ap bits_in t.first_is ∙ e)))
    where
      short : {b : ℕ} → b ≤ 11 → (b ≡ 11 → ⊥) → b ≤ 10
      short p q = omega arith

  pub no_header_second : bits_in (get_or ds k 0) ≡ 11 → (bits_in (get_or ds (suc k) 0) ≡ 11 → ⊥) → starts sync_header_bits (channel (drop k ds)) ≡ false
  unfolding channel
  no_header_second e n =
      ap (λ (es : List ℕ). starts sync_header_bits (channel es)) t.is
      ∙ ap (λ (b : ℕ). starts sync_header_bits (run b (run (bits_in t.second) (channel (t.third ∷ t.rest))))) (ap bits_in (sym t.first_is) ∙ e)
      ∙ second_short (bits_in t.second) (t.third ∷ t.rest) some.2.0 (short some.2.1 (λ f. n (ap bits_in t.second_is ∙ f)))
    where
      short : {b : ℕ} → b ≤ 11 → (b ≡ 11 → ⊥) → b ≤ 10
      short p q = omega arith
