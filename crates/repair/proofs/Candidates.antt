-- The candidate is sought where it keeps the rules that no parity settles, and else nothing is.
-- Assumes nothing.
use mathlib.Core.Path.{◌≡◌, sym, ◌∙◌, subst}
use mathlib.Core.Bool.{true, false, ◌&&◌}
use mathlib.Core.List.{List}
use Prim.Native.Nat.{ℕ}
use native.Mathlib.Omega.{arith}
use borrow.Author.Tests.{eq-eqb, eqb-true}
use lib.Dec.{T, eqb}
use lib.ListN.{take}
use Rattle.outcome.specs.Table.Entries.{and_left, and_right, true_of, of_true}
use Rattle.codeword.specs.Code.NearOne.{near-one}
use Rattle.edc.specs.Bits.{bits}
use Rattle.edc.specs.Edc.{remainder, is_zero}
use Rattle.edc.specs.Edc.Zero.{test_divisible, divisible_test}
use Rattle.rspc.specs.Words.{p_word}
use Rattle.rspc.specs.declared.Parity.TheVariants.{P}
use Rattle.rspc.specs.Words.P.{length_p}
use Rattle.rspc.proofs.Either.Bytewise.{covers}
use Rattle.rspc.proofs.Words.Parity.{q_one}
use Rattle.address.specs.Address.{in_range}
use Rattle.sector.specs.Layout.{bytes_from, time_of, mode_of, zeros}
use Rattle.lists.specs.Same.{same}
use Rattle.lists.proofs.Same.Equal.{same_equal, equal_same}
use Rattle.sector.specs.Correct.Whole.{whole}
use Rattle.candidates.specs.Candidate.{Candidate}
use Rattle.mode01_rules.specs.Rules.{rules}
use Rattle.repair.specs.Repair.{Sought}
use Rattle.repair.specs.Repair.One.{sought_near}

-- the four rules, one by one
pub record Ruled (s : List ℕ) : Type 0 where
  pub mode : mode_of s ≡ 1
  pub addressed : in_range (time_of s) ≡ true
  pub edc : is_zero (remainder (bits (take 2068 s))) ≡ true
  pub intermediate : same (bytes_from 2068 8 s) (zeros 8) ≡ true

pub rules-right : (s : List ℕ) → Ruled s → rules s ≡ true
unfolding rules
rules-right s g = simp (eq-eqb (mode_of s) 1 g.mode, g.addressed, g.edc, g.intermediate)

pub right-rules : (s : List ℕ) → rules s ≡ true → Ruled s
unfolding rules
right-rules s e =
    let a = eqb (mode_of s) 1 in
    let b = in_range (time_of s) in
    let c = is_zero (remainder (bits (take 2068 s))) in
    let d = same (bytes_from 2068 8 s) (zeros 8) in
    let t : T (a && (b && (c && d))) = of_true (a && (b && (c && d))) e in
    let u : T (b && (c && d)) = and_right a (b && (c && d)) t in
    let v : T (c && d) = and_right b (c && d) u in
    record {
      mode = eqb-true (mode_of s) 1 (true_of a (and_left a (b && (c && d)) t));
      addressed = true_of b (and_left b (c && d) u);
      edc = true_of c (and_left c d v);
      intermediate = true_of d (and_right c d v);
    }

-- a candidate that keeps these rules is sought
pub candidate_sought : (r s : List ℕ) → Candidate r s → rules s ≡ true → Sought r s
candidate_sought r s c e =
    let g = right-rules s e in
    record {
      correct = record {
        correct = record {
          head = record { long = c.long; bytes = c.bytes; synced = c.synced; addressed = g.addressed };
          known = omega (arith, g.mode);
          mode00 = λ z. absurd (omega (arith, g.mode));
          mode01 = λ _. record {
            edc = test_divisible (take 2068 s) g.edc;
            intermediate = same_equal (bytes_from 2068 8 s) (zeros 8) g.intermediate;
            p = λ n h. (c.p n h).code;
            q = c.q;
          };
        };
        mode = g.mode;
      };
      near = λ n h. (c.p n h).close;
    }

-- and whatever is sought is the candidate
pub sought_candidate : (r s t : List ℕ) → Candidate r s → Sought r t → t ≡ s
sought_candidate r s t c g =
    let h = g.correct.correct.head in
    let covered =
    covers P t s
    (λ n l. near-one 2 (p_word r n) (p_word t n) (p_word s n) (omega arith) (omega (arith, length_p r n)) (sought_near r t g n l) (c.p n l)) in
    whole t s h.long c.long (h.synced ∙ sym c.synced) covered
    (q_one t s h.bytes c.bytes covered (g.correct.correct.mode01 g.correct.mode).q c.q)

sought_rules : (r t : List ℕ) → Sought r t → rules t ≡ true
sought_rules r t g =
    let p = g.correct.correct.mode01 g.correct.mode in
    rules-right t
    (record {
      mode = g.correct.mode;
      addressed = g.correct.correct.head.addressed;
      edc = divisible_test (take 2068 t) p.edc;
      intermediate = equal_same (bytes_from 2068 8 t) (zeros 8) p.intermediate;
    })

-- so where the candidate breaks one of these rules nothing is sought
pub candidate_alone : (r s : List ℕ) → Candidate r s → rules s ≡ false → (t : List ℕ) → Sought r t → ⊥
candidate_alone r s c e t g =
    let q : rules s ≡ true = subst (λ (x : List ℕ). rules x ≡ true) (sought_candidate r s t c g) (sought_rules r t g) in
    let z : ◌≡◌ {A = ℕ} 0 1 = cc in omega arith
