-- Repair beside judging and writing: the certificate is what judging says, and what was written comes back.
-- Assumes nothing.
use Rattle.std.specs.Prelude.{◌≡◌, List, [], ◌∷◌, ℕ, length}
use Rattle.std.proofs.Common.{sym, ap, ◌∙◌, subst}
use Rattle.outcome.specs.Say.{Say, done}
use Rattle.outcome.specs.Bytes.{Bytes}
use Rattle.address.specs.declared.HeaderTime.{HeaderTime}
use Rattle.sector.specs.Layout.{time_of, mode_of}
use Rattle.sector.specs.Correct.{CorrectMode01}
use Rattle.judge.specs.Judging.{passing, judging}
use Rattle.judge.specs.Judging.Exact.{judge_sound, judge_complete}
use Rattle.judge.specs.Judging.Told.{passing-one}
use Rattle.writer.specs.Write.{Writes}
use Rattle.writer.specs.Write.Judged.{written-asked}
use Rattle.repair.specs.Repair.{Repairs}
use Rattle.repair.specs.Repair.Clean.{certificate_given, certificate_true}

-- ---- judging passes with mode 01 exactly the correct Sectors of Mode 01

pub judged-passes : (r : List ℕ) → CorrectMode01 r → judging r ≡ passing 1 (time_of r)
judged-passes r c = judge_complete r c.correct ∙ ap (λ (m : ℕ). passing m (time_of r)) c.mode

pub passes-judged : (r : List ℕ) (t : HeaderTime) → Bytes r → judging r ≡ passing 1 t → CorrectMode01 r
passes-judged r t h e =
    let g = judge_sound r h e in
    record { correct = g.0; mode = sym (passing-one 1 (mode_of r) t (time_of r) g.1).0 }

-- ---- so a changed count of 0 is exactly what judging certifies

pub certified : (r old : List ℕ) {a : Say} {new : List ℕ} → Repairs r old a new → a ≡ done (0 ∷ []) → (judging r ≡ passing 1 (time_of r)) × (new ≡ r)
certified r old h e = let g = certificate_true r old h e in (judged-passes r g.0, g.1)

pub certifies : (r old : List ℕ) (t : HeaderTime) {a : Say} {new : List ℕ} → Bytes r → judging r ≡ passing 1 t → length old ≡ 2352 → Repairs r old a new
    → (a ≡ done (0 ∷ [])) × (new ≡ r)
certifies r old t b e l h = certificate_given r old (passes-judged r t b e) l h

-- ---- what was written in Mode 01 comes back, with a changed count of 0

written_correct : (time : HeaderTime) (user old : List ℕ) {a : Say} {s : List ℕ} → Writes 1 time user old a s → a ≡ done [] → CorrectMode01 s
written_correct time user old {s = s} w p =
    let g = (written-asked (subst (λ (a : Say). Writes 1 time user old a s) p w)).1 in record { correct = g.correct; mode = g.has_mode }

pub written_comes_back : (time : HeaderTime) (user old later : List ℕ) {a b : Say} {s t : List ℕ} → Writes 1 time user old a s → a ≡ done [] → length later ≡ 2352
    → Repairs s later b t → (b ≡ done (0 ∷ [])) × (t ≡ s)
written_comes_back time user old later {s = s} w e l h = certificate_given s later (written_correct time user old w e) l h
