-- The certificate: the count is 0 exactly when what came in is itself a correct Sector of Mode 01.
-- Assumes nothing.
use Rattle.std.specs.Prelude.{◌≡◌, List, [], ◌∷◌, ℕ, length}
use Rattle.std.proofs.Common.{sym, ap, ◌∙◌, subst, arith}
use Rattle.outcome.specs.Say.{Say, done}
use Rattle.outcome.specs.Say.Refusals.{never}
use Rattle.codeword.specs.Code.{changes}
use Rattle.codeword.specs.Code.Changes.{changes_self, changes-none}
use Rattle.rspc.specs.Words.{p_word}
use Rattle.sector.specs.Correct.{CorrectMode01}
use Rattle.repair.specs.Repair.{Sought, Repairs, wrong_incoming, wrong-outgoing, none-near, handed_out}
use Rattle.repair.specs.Repair.Exact.{repair_finds, repair_gives}

head_same : {m n : ℕ} → ◌≡◌ {A = List ℕ} (m ∷ []) (n ∷ []) → m ≡ n
head_same e = cc

lengths : {r old v : List ℕ} {a : Say} {new : List ℕ} → Repairs r old a new → a ≡ done v → length r ≡ 2352
lengths (wrong_incoming n) e = never e
lengths (wrong-outgoing l n) e = l
lengths (none-near l k n) e = l
lengths (handed_out l k g) e = l

-- a correct Sector of Mode 01 is the one that is sought for it
pub sought_self : (s : List ℕ) → CorrectMode01 s → Sought s s
sought_self s c = record { correct = c; near = λ n h. omega (arith, changes_self (p_word s n)) }

-- what is correct comes back with the count 0
pub certificate_given : (r old : List ℕ) {a : Say} {new : List ℕ} → CorrectMode01 r → length old ≡ 2352 → Repairs r old a new
    → (a ≡ done (0 ∷ [])) × (new ≡ r)
certificate_given r old c lo h =
    let e = repair_finds r old c.correct.head.long lo r (sought_self r c) h in
    (e.0 ∙ ap (λ (k : ℕ). done (k ∷ [])) (changes_self r), e.1)

-- what comes back with the count 0 was correct
pub certificate_true : (r old : List ℕ) {a : Say} {new : List ℕ} → Repairs r old a new → a ≡ done (0 ∷ []) → CorrectMode01 r × (new ≡ r)
certificate_true r old {a} {new} h e =
    let g = repair_gives r old h e in
    let z : 0 ≡ changes r new = head_same g.1 in
    let same : r ≡ new = changes-none r new (lengths h e ∙ sym g.0.correct.correct.head.long) (sym z) in
    (subst (λ (x : List ℕ). CorrectMode01 x) (sym same) g.0.correct, sym same)

-- repairing what was handed out changes nothing
pub settled : (r old later : List ℕ) {a b : Say} {s t v : List ℕ} → Repairs r old a s → a ≡ done v → length later ≡ 2352 → Repairs s later b t
    → (b ≡ done (0 ∷ [])) × (t ≡ s)
settled r old later {s = s} h e l k = certificate_given s later (repair_gives r old h e).0.correct l k
