-- At most one Sector is sought, so repair has one outcome.
-- Assumes nothing.
use Rattle.std.specs.Prelude.{◌≡◌, refl, List, [], ◌∷◌, ℕ, ◌<◌}
use Rattle.std.proofs.Common.{sym, ap, ◌∙◌, arith}
use Rattle.outcome.specs.Say.{Say, done}
use Rattle.codeword.specs.Code.{changes, Near}
use Rattle.codeword.specs.Code.NearOne.{near-one}
use Rattle.rspc.specs.Words.{p_words, p_word}
use Rattle.rspc.specs.declared.Parity.TheVariants.{P}
use Rattle.rspc.specs.Words.P.{length_p, bytes_p}
use Rattle.rspc.proofs.Either.Bytewise.{covers}
use Rattle.sector.specs.Correct.Whole.{covered_one}
use Rattle.repair.specs.Repair.{Sought, Repairs, wrong_incoming, wrong-outgoing, none-near, handed_out}

-- each P codeword of the Sector that is sought is the one near what came in
pub sought_near : (r s : List ℕ) → Sought r s → (n : ℕ) → n < p_words → Near 2 (p_word r n) (p_word s n)
sought_near r s g n h =
    record {
      long = length_p s n ∙ sym (length_p r n);
      bytes = bytes_p s n g.correct.correct.head.bytes;
      close = g.near n h;
      code = (g.correct.correct.mode01 g.correct.mode).p n h;
    }

-- at most one Sector is sought
pub sought_one : (r s t : List ℕ) → Sought r s → Sought r t → s ≡ t
sought_one r s t g h =
    covered_one s t g.correct h.correct
    (covers P s t
    (λ n l. near-one 2 (p_word r n) (p_word s n) (p_word t n) (omega arith) (omega (arith, length_p r n)) (sought_near r s g n l) (sought_near r t h n l)))

-- two outcomes that the promise allows coincide, the buffer included
pub repair_one : (r old : List ℕ) {a b : Say} {s t : List ℕ} → Repairs r old a s → Repairs r old b t → (a ≡ b) × (s ≡ t)
repair_one r old (wrong_incoming n) (wrong_incoming m) = (refl, refl)
repair_one r old (wrong_incoming n) (wrong-outgoing l m) = absurd (n l)
repair_one r old (wrong_incoming n) (none-near l k m) = absurd (n l)
repair_one r old (wrong_incoming n) (handed_out l k g) = absurd (n l)
repair_one r old (wrong-outgoing l n) (wrong_incoming m) = absurd (m l)
repair_one r old (wrong-outgoing l n) (wrong-outgoing k m) = (refl, refl)
repair_one r old (wrong-outgoing l n) (none-near j k m) = absurd (n k)
repair_one r old (wrong-outgoing l n) (handed_out j k g) = absurd (n k)
repair_one r old (none-near l k n) (wrong_incoming m) = absurd (m l)
repair_one r old (none-near l k n) (wrong-outgoing j m) = absurd (m k)
repair_one r old (none-near l k n) (none-near j i m) = (refl, refl)
repair_one r old (none-near l k n) (handed_out {s = t} j i g) = absurd (n t g)
repair_one r old (handed_out l k g) (wrong_incoming m) = absurd (m l)
repair_one r old (handed_out l k g) (wrong-outgoing j m) = absurd (m k)
repair_one r old (handed_out {s = s} l k g) (none-near j i m) = absurd (m s g)
repair_one r old (handed_out {s = s} l k g) (handed_out {s = t} j i h) =
    let e : s ≡ t = sought_one r s t g h in (ap (λ (x : List ℕ). done (changes r x ∷ [])) e, e)
