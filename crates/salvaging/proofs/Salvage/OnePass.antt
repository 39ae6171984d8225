-- With one pass the answer is repair's.
-- Assumes nothing.
use Rattle.std.specs.Prelude.{◌≡◌, refl, List, ◌∷◌, ℕ, ◌≤◌, length}
use Rattle.std.proofs.Common.{sym, ap, ◌∙◌, subst, arith}
use Rattle.std.proofs.Math.Option.{Option, none, some}
use Rattle.outcome.specs.Bytes.{Bytes}
use Rattle.outcome.specs.Say.{Say, done, refused}
use Rattle.codeword.specs.Code.{changes, Near}
use Rattle.codeword.specs.Code.Changes.{changes_self}
use Rattle.codeword.specs.Nearest.{nearest, found_or}
use Rattle.codeword.specs.Nearest.Finds.{nearest_sound, nearest_complete}
use Rattle.rspc.specs.declared.Parity.TheVariants.{P}
use Rattle.rspc.specs.Words.{p_word}
use Rattle.rspc.specs.Words.P.{length_p, bytes_p, p_same}
use Rattle.rspc.proofs.Either.Bytewise.{covers}
use Rattle.rspc.specs.Pass.{after_pass, Passed}
use Rattle.rspc.proofs.Pass.Exists.{passed_some}
use Rattle.trial.specs.Tried.{Tried}
use Rattle.trial.specs.Tried.One.{correct_tried}
use Rattle.repair.specs.Repair as repair
use Rattle.repair.specs.Repair.{Sought, Repairs}
use Rattle.repair.specs.Repair.One.{sought_near}
use Rattle.salvaging.specs.Turns.{unpassed, passed}
use Rattle.salvaging.specs.Turns.One.{first-over_p}
use Rattle.salvaging.specs.Salvage.{Yields, InRange, Salvages, wrong_incoming, wrong-outgoing, none_found, handed_out}
use Rattle.salvaging.proofs.Salvage.One.{salvages_one}

-- ---- a word that is handed on

handed-close : (w : List ℕ) → Bytes w → changes w (after_pass w) ≤ 1
handed-close w h = go (nearest 2 w) refl
  where
    go : (o : Option (List ℕ)) → nearest 2 w ≡ o → changes w (found_or w o) ≤ 1
    go none e = omega (arith, changes_self w)
    go (some c) e = (nearest_sound 2 w h c e).close

near-handed : (w c : List ℕ) → Bytes w → length w ≡ 26 → Near 2 w c → after_pass w ≡ c
near-handed w c h l n = ap (found_or w) (nearest_complete 2 w h (omega arith) (omega arith) c n)

-- ---- what one pass over P leaves

module _ (r : List ℕ) (bytes : Bytes r) where
  -- a Sector that one pass yields is the one that repair seeks
  yields_sought : (s : List ℕ) → Yields r 1 s → Sought r s
  yields_sought s y =
      record {
        correct = y.correct;
        near = λ n h.
            subst (λ (w : List ℕ). changes (p_word r n) w ≤ 1)
            (sym (p_same s y.left n h y.trial.covered ∙ (first-over_p y.after).words n h)) (handed-close (p_word r n) (bytes_p r n bytes));
      }

  -- and the one that repair seeks is tried after one pass
  sought_tried : (s t : List ℕ) → Sought r s → Passed P r t → Tried t s
  sought_tried s t g p =
      correct_tried t s g.correct
      (covers P s t (λ n h. sym (p.words n h ∙ near-handed (p_word r n) (p_word s n) (bytes_p r n bytes) (length_p r n) (sought_near r s g n h))))

  sought_yields : (s : List ℕ) → length r ≡ 2352 → Sought r s → Yields r 1 s
  sought_yields s long g =
      let there = passed_some P r long in
      record { left = there.0; after = passed unpassed there.1; trial = sought_tried s there.0 g there.1; correct = g.correct }

-- ---- what is said

-- repair's answer, with the one pass before its count
abbrev pub with_one : Say → Say
with_one (done v) = done (1 ∷ v)
with_one (refused n v) = refused n v

module _ (r old changed : List ℕ) (bytes : Bytes r) (room : length changed ≡ 9408) where
  one : InRange 1
  one = record { low = omega arith; high = omega arith }

  from_repair : {a : Say} {s : List ℕ} → Repairs r old a s → (l : List ℕ) × Salvages r 1 old changed (with_one a) s l
  from_repair (repair.wrong_incoming n) = (_, wrong_incoming n)
  from_repair (repair.wrong-outgoing e n) = (_, wrong-outgoing e (λ q. n q.sector))
  from_repair (repair.none-near e k n) = (
    _,
    none_found e (record { sector = k; list = room }) one (λ j l h t y.
        let d : j ≡ 1 = omega arith in n t (yields_sought r bytes t (subst (λ (i : ℕ). Yields r i t) d y))),
  )
  from_repair (repair.handed_out {s = s} e k g) = (
    _,
    handed_out {k = 1} e (record { sector = k; list = room }) one
        (record { one = omega arith; within = omega arith; found = sought_yields r bytes s e g; first = λ j l h. absurd (omega arith) }),
  )

  -- the refusal, the count and the Sector are those of repair
  pub one_pass_is_repair : {a b : Say} {s t l : List ℕ} → Repairs r old a s → Salvages r 1 old changed b t l → (b ≡ with_one a) × (t ≡ s)
  one_pass_is_repair p q =
      let both = salvages_one r 1 old changed q (from_repair p).1 in (both.says, both.sector)
