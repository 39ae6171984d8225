-- What every call of a run from `new()` says: refusals 1 and 2 as its lengths ask, 7 exactly from the 450,001st accepted call on, and never 9.
-- Assumes nothing.
use Rattle.std.specs.Prelude.{◌≡◌, refl, Bool, true, false, cond, ◌&&◌, ℕ, ◌+◌, eqb, ltb, length}
use Rattle.std.proofs.Common.{ap, ap₂, ◌∙◌, subst, ⊎_elim, arith, ltb-true}
use mathlib.Core.List.Memᴰ
use mathlib.Core.List.{List, [], ◌∷◌, map, Memᴰ}
use Rattle.outcome.specs.Say.{Say, done, refused, demand}
use Rattle.outcome.specs.Say.Refusals.{never}
use Rattle.calls.specs.Step.{Step, is_done}
use Rattle.calls.specs.Calls.{run}
use Rattle.section_state.specs.Carried.{most_sections}
use Rattle.section_writer.specs.declared.SectionWriter.{SectionWriter}
use Rattle.section_writer.specs.State.{fresh, right}
use Rattle.section_writer.specs.WriteSay.{after_section, write_say, written}
use Rattle.sections.specs.Grown.StateStays.{state_stays_right, fresh-right}
use Rattle.sections.specs.Calls.{Call, writes, say_after, says}
use Rattle.sections.proofs.Calls.Streams.{when_done, made, refused_stays}

-- what a call leaves in a right state: a right state, with one Section more if the call is done
record Counted (s : SectionWriter) (c : Call) : Type 0 where
  pub state_right : right (writes s c).next ≡ true
  pub count : (writes s c).next.sections ≡ cond (is_done (writes s c).say) (s.sections + 1) s.sections

counted : (s : SectionWriter) (c : Call) → right s ≡ true → Counted s c
unfolding after_section
counted s c r = go (is_done (writes s c).say) refl
  where
    go : (t : Bool) → is_done (writes s c).say ≡ t → Counted s c
    go true e =
        let a = when_done s c e in
        let n = ap (λ (t : Step SectionWriter). t.next) (made s c a.says_done) in
        record {
          state_right = ap right n ∙ state_stays_right s c.part.frames c.part.control r (ltb-true s.sections most_sections a.not_full);
          count = ap (λ (u : SectionWriter). u.sections) n ∙ rw e;
        }
    go false e = record { state_right = ap right (refused_stays s c e) ∙ r; count = ap (λ (u : SectionWriter). u.sections) (refused_stays s c e) ∙ rw e }

-- in a right state the lengths and the count decide
said : (s : SectionWriter) (c : Call) → right s ≡ true → (writes s c).say ≡ say_after s.sections c
unfolding written write_say
said s c r = rw r

says-from : (cs : List Call) (s : SectionWriter) → right s ≡ true → map (λ t. t.say) (run writes s cs) ≡ says s.sections cs
unfolding run says
says-from [] s r = refl
says-from (c ∷ cs) s r =
    let k = counted s c r in
    ap₂ ◌∷◌ (said s c r)
    (says-from cs (writes s c).next k.state_right
    ∙ ap (λ (n : ℕ). says n cs) (k.count ∙ ap (λ (a : Say). cond (is_done a) (s.sections + 1) s.sections) (said s c r)))

-- WHAT EVERY CALL SAYS, from `new()` on
pub answers : (cs : List Call) → map (λ t. t.say) (run writes fresh cs) ≡ says 0 cs
answers cs = says-from cs fresh fresh-right

not-nine : (n : ℕ) (c : Call) (vs : List ℕ) → refused 9 vs ≡ say_after n c → ⊥
not-nine n c vs = go (eqb (length c.part.frames) 3136 && eqb (length c.part.control) 96) (eqb (length c.out) 7203) (ltb n most_sections)
  where
    go : (p q t : Bool) → refused 9 vs ≡ demand p 1 (demand q 2 (demand t 7 (done []))) → ⊥
    go true true true e = never e
    go true true false e = let z : ◌≡◌ {A = ℕ} 9 7 = cc in omega arith
    go true false t e = let z : ◌≡◌ {A = ℕ} 9 2 = cc in omega arith
    go false q t e = let z : ◌≡◌ {A = ℕ} 9 1 = cc in omega arith

nine_nowhere : (cs : List Call) (n : ℕ) (vs : List ℕ) → Memᴰ (refused 9 vs) (says n cs) → ⊥
unfolding says
nine_nowhere [] n vs m = Memᴰ.not-nil m
nine_nowhere (c ∷ cs) n vs m = ⊎_elim (not-nine n c vs) (nine_nowhere cs _ vs) (Memᴰ.cases_cons m)

-- FROM `new()` no call of any run says 9
pub never_nine : (cs : List Call) (vs : List ℕ) → Memᴰ (refused 9 vs) (map (λ t. t.say) (run writes fresh cs)) → ⊥
never_nine cs vs m = nine_nowhere cs 0 vs (subst (Memᴰ (refused 9 vs)) (answers cs) m)
