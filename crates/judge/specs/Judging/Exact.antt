-- Judging passes exactly the correct Sectors, each with its mode and address.
-- Assumes nothing.
use Rattle.std.specs.Prelude.{◌≡◌, refl, List, ℕ, zero, suc, ◌≤◌, eqb, leb, length, take, drop}
use Rattle.std.proofs.Common.{sym, ◌∙◌, arith, eq-eqb, eqb-true, le-leb, leb-true}
use Rattle.outcome.specs.Say.{done}
use Rattle.outcome.specs.Say.Refusals.{demand_met}
use Rattle.outcome.specs.Bytes.{Bytes}
use Rattle.edc.specs.Bits.{bits}
use Rattle.edc.specs.Edc.{remainder, is_zero}
use Rattle.edc.specs.Edc.Zero.{test_divisible, divisible_test}
use Rattle.rspc.specs.Words.{p_word, q_word}
use Rattle.address.specs.Address.{in_range}
use Rattle.sector.specs.Layout.{sync, bytes_from, time_of, mode_of, zeros}
use Rattle.sector.specs.Correct.{Empty, Protected, Correct}
use Rattle.lists.specs.Same.{same}
use Rattle.lists.proofs.Same.Equal.{same_equal, equal_same}
use Rattle.rspc.specs.declared.Parity.TheVariants.{P, Q}
use Rattle.judge.specs.Judging.{passing, judging_mode01, judging_mode00, by_mode, judging}
use Rattle.judge.specs.Judging.Demanded.{demanded, demanded_each, met_each, code_of, of_code}

-- ---- Mode 01

mode01_sound : (s : List ℕ) {v : List ℕ} → judging_mode01 s ≡ done v → Protected s × (done v ≡ passing 1 (time_of s))
unfolding judging_mode01
mode01_sound s e =
    let a = demanded (is_zero (remainder (bits (take 2068 s)))) 11 _ e in
    let b = demanded (same (bytes_from 2068 8 s) (zeros 8)) 12 _ a.1 in
    let p = demanded_each P s 13 _ b.1 in
    let q = demanded_each Q s 14 _ p.1 in (
      record {
        edc = test_divisible (take 2068 s) a.0;
        intermediate = same_equal (bytes_from 2068 8 s) (zeros 8) b.0;
        p = λ n h. code_of (p_word s n) (p.0 n h);
        q = λ n h. code_of (q_word s n) (q.0 n h);
      },
      sym q.1,
    )

mode01_complete : (s : List ℕ) → Protected s → judging_mode01 s ≡ passing 1 (time_of s)
unfolding judging_mode01
mode01_complete s g =
    demand_met (is_zero (remainder (bits (take 2068 s)))) 11 _ (divisible_test (take 2068 s) g.edc)
    ∙ demand_met (same (bytes_from 2068 8 s) (zeros 8)) 12 _ (equal_same (bytes_from 2068 8 s) (zeros 8) g.intermediate)
    ∙ met_each P s 13 _ (λ n h. of_code (p_word s n) (g.p n h))
    ∙ met_each Q s 14 _ (λ n h. of_code (q_word s n) (g.q n h))

-- ---- any mode

mode_sound : (s : List ℕ) (mode : ℕ) {v : List ℕ} → mode ≤ 2 → by_mode mode s ≡ done v
    → (mode ≡ 0 → Empty s) × (mode ≡ 1 → Protected s) × (done v ≡ passing mode (time_of s))
unfolding by_mode judging_mode00
mode_sound s zero h e =
    let a = demanded (same (drop 16 s) (zeros 2336)) 15 _ e in
    (λ _. same_equal (drop 16 s) (zeros 2336) a.0, λ q. absurd (omega arith), sym a.1)
mode_sound s (suc zero) h e = let a = mode01_sound s e in (λ q. absurd (omega arith), λ _. a.0, a.1)
mode_sound s (suc (suc zero)) h e = (λ q. absurd (omega arith), λ q. absurd (omega arith), sym e)
mode_sound s (suc (suc (suc m))) h e = absurd (omega arith)

mode_complete : (s : List ℕ) (mode : ℕ) → mode ≤ 2 → (mode ≡ 0 → Empty s) → (mode ≡ 1 → Protected s) → by_mode mode s ≡ passing mode (time_of s)
unfolding by_mode judging_mode00
mode_complete s zero h e p = demand_met (same (drop 16 s) (zeros 2336)) 15 _ (equal_same (drop 16 s) (zeros 2336) (e refl))
mode_complete s (suc zero) h e p = mode01_complete s (p refl)
mode_complete s (suc (suc zero)) h e p = refl
mode_complete s (suc (suc (suc m))) h e p = absurd (omega arith)

-- what passes is correct, and comes with its mode and address
pub judge_sound : (s : List ℕ) {v : List ℕ} → Bytes s → judging s ≡ done v → Correct s × (done v ≡ passing (mode_of s) (time_of s))
unfolding judging
judge_sound s h e =
    let a = demanded (eqb (length s) 2352) 1 _ e in
    let b = demanded (same (take 12 s) sync) 10 _ a.1 in
    let c = demanded (leb (mode_of s) 2) 3 _ b.1 in
    let d = demanded (in_range (time_of s)) 4 _ c.1 in
    let k : mode_of s ≤ 2 = leb-true (mode_of s) 2 c.0 in
    let m = mode_sound s (mode_of s) k d.1 in (
      record {
        head = record {
          long = eqb-true (length s) 2352 a.0;
          bytes = h;
          synced = same_equal (take 12 s) sync b.0;
          addressed = d.0;
        };
        known = k;
        mode00 = m.0;
        mode01 = m.1;
      },
      m.2,
    )

-- what is correct passes
pub judge_complete : (s : List ℕ) → Correct s → judging s ≡ passing (mode_of s) (time_of s)
unfolding judging
judge_complete s c =
    demand_met (eqb (length s) 2352) 1 _ (eq-eqb (length s) 2352 c.head.long)
    ∙ demand_met (same (take 12 s) sync) 10 _ (equal_same (take 12 s) sync c.head.synced)
    ∙ demand_met (leb (mode_of s) 2) 3 _ (le-leb (mode_of s) 2 c.known)
    ∙ demand_met (in_range (time_of s)) 4 _ c.head.addressed
    ∙ mode_complete s (mode_of s) c.known c.mode00 c.mode01
