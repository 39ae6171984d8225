-- The automaton speaks for the rule: of the bits already written only the state matters to what may follow.
-- Assumes nothing.
use Rattle.std.specs.Prelude.{◌≡◌, refl, List, [], ◌∷◌, ◌++◌, ℕ, zero, suc, ◌+◌, ◌<◌, ◌%◌, T}
use Rattle.std.proofs.Common.{sym, ap, ap₂, ◌∙◌, subst, append_assoc, append-nil, add-zero, arith}
use Rattle.words.specs.RunRule.{gaps, runs}
use Rattle.merging.specs.Rule.{sync_header_bits, headers}
use Rattle.merging.specs.Automaton.{broken, headed, step, steps, live, shown, start22, StateOf}
use Rattle.bits.specs.Binary.{Binary}
use Rattle.lists.specs.Each.{Each}
use Rattle.lists.specs.Each.Case.{case}
use Rattle.merging.specs.Automaton.Steps.{step_state, live-first}

-- ---- one bit on, in each of its 22 states

abbrev Onward : ℕ → ℕ → Type 0
Onward b s =
    T (live (step s b)) → (x : List ℕ)
    → (gaps (s % 11) (b ∷ x) ≡ gaps (step s b % 11) x) × (headers (shown s ++ (b ∷ x)) ≡ headers (shown (step s b) ++ x))

zeros_on : Each (Onward 0) broken
unfolding step headers
zeros_on = (λ t x. absurd t, (λ t x. (refl, refl), (λ t x. (refl, refl), (λ t x. (refl, refl), (λ t x. (refl, refl), (λ t x. (refl, refl), (λ t x. (refl, refl), (λ t x. (refl, refl), (λ t x. (refl, refl), (λ t x. (refl, refl), (λ t x. (refl, refl), (λ t x. absurd t, (λ t x. (refl, refl), (λ t x. (refl, refl), (λ t x. (refl, refl), (λ t x. (refl, refl), (λ t x. (refl, refl), (λ t x. (refl, refl), (λ t x. (refl, refl), (λ t x. (refl, refl), (λ t x. (refl, refl), (λ t x. (refl, refl), tt))))))))))))))))))))))

ones_on : Each (Onward 1) broken
unfolding step headers
ones_on = (λ t x. absurd t, (λ t x. (refl, refl), (λ t x. (refl, refl), (λ t x. (refl, refl), (λ t x. (refl, refl), (λ t x. (refl, refl), (λ t x. (refl, refl), (λ t x. (refl, refl), (λ t x. (refl, refl), (λ t x. absurd t, (λ t x. absurd t, (λ t x. (refl, refl), (λ t x. (refl, refl), (λ t x. (refl, refl), (λ t x. (refl, refl), (λ t x. (refl, refl), (λ t x. (refl, refl), (λ t x. (refl, refl), (λ t x. (refl, refl), (λ t x. (refl, refl), (λ t x. absurd t, (λ t x. absurd t, tt))))))))))))))))))))))

-- one bit on, whatever the state
pub onward : (b s : ℕ) → b < 2 → s < broken → Onward b s
onward zero s h l = case (Onward 0) broken zeros_on s l
onward (suc zero) s h l = case (Onward 1) broken ones_on s l
onward (suc (suc b)) s h l = absurd (omega arith)

-- no Sync Header stands in what a state shows
pub shown-none : (s : ℕ) → s < broken → headers (shown s ++ []) ≡ 0
unfolding headers
shown-none s h = case (λ s. headers (shown s ++ []) ≡ 0) broken (refl, (refl, (refl, (refl, (refl, (refl, (refl, (refl, (refl, (refl, (refl, (refl, (refl, (refl, (refl, (refl, (refl, (refl, (refl, (refl, (refl, (refl, tt)))))))))))))))))))))) s h

-- ---- some bits on

-- a bit that does not break the rule makes no Sync Header
none-next : (past : List ℕ) (s b : ℕ) → StateOf past s → b < 2 → T (live (step s b)) → headers (past ++ (b ∷ [])) ≡ headers past
none-next past s b d h t =
    d.headers_on (b ∷ []) ∙ ap (λ (n : ℕ). headers past + n) ((onward b s h d.state t []).1 ∙ shown-none (step s b) (step_state s b t))
    ∙ add-zero (headers past)

state_next : (past : List ℕ) (s b : ℕ) → StateOf past s → b < 2 → T (live (step s b)) → StateOf (past ++ (b ∷ [])) (step s b)
state_next past s b d h t =
    let on : Onward b s = onward b s h d.state in
    record {
      state = step_state s b t;
      runs_on = λ x. ap runs (append_assoc past (b ∷ []) x) ∙ d.runs_on (b ∷ x) ∙ (on t x).0;
      headers_on = λ x.
          ap headers (append_assoc past (b ∷ []) x) ∙ d.headers_on (b ∷ x)
          ∙ ap₂ ◌+◌ (sym (none-next past s b d h t)) (on t x).1;
    }

-- bits that do not break the rule lead from state to state
pub state_more : (past : List ℕ) (s : ℕ) (bs : List ℕ) → StateOf past s → Binary bs → T (live (steps s bs)) → StateOf (past ++ bs) (steps s bs)
state_more past s [] d p t = subst (λ (l : List ℕ). StateOf l s) (sym (append-nil past)) d
state_more past s (b ∷ bs) d p t =
    subst (λ (l : List ℕ). StateOf l (steps (step s b) bs)) (append_assoc past (b ∷ []) bs)
    (state_more (past ++ (b ∷ [])) (step s b) bs (state_next past s b d p.0 (live-first (step s b) bs t)) p.1 t)

-- and make no Sync Header
pub none_more : (past : List ℕ) (s : ℕ) (bs : List ℕ) → StateOf past s → Binary bs → T (live (steps s bs)) → headers (past ++ bs) ≡ headers past
none_more past s [] d p t = ap headers (append-nil past)
none_more past s (b ∷ bs) d p t =
    let l = live-first (step s b) bs t in
    ap headers (sym (append_assoc past (b ∷ []) bs)) ∙ none_more (past ++ (b ∷ [])) (step s b) bs (state_next past s b d p.0 l) p.1 t
    ∙ none-next past s b d p.0 l

shown-runs : (s : ℕ) → s < broken → (x : List ℕ) → runs (shown s ++ x) ≡ gaps (s % 11) x
shown-runs s h = case (λ s. (x : List ℕ) → runs (shown s ++ x) ≡ gaps (s % 11) x) broken (λ x. refl, (λ x. refl, (λ x. refl, (λ x. refl, (λ x. refl, (λ x. refl, (λ x. refl, (λ x. refl, (λ x. refl, (λ x. refl, (λ x. refl, (λ x. refl, (λ x. refl, (λ x. refl, (λ x. refl, (λ x. refl, (λ x. refl, (λ x. refl, (λ x. refl, (λ x. refl, (λ x. refl, (λ x. refl, tt)))))))))))))))))))))) s h

-- what a state shows has that state
pub shown_state : (s : ℕ) → s < broken → StateOf (shown s) s
shown_state s h =
    record {
      state = h;
      runs_on = shown-runs s h;
      headers_on = λ x. none_first (headers (shown s)) (headers (shown s ++ x)) (ap headers (sym (append-nil (shown s))) ∙ shown-none s h);
    }
  where
    none_first : (n m : ℕ) → n ≡ 0 → m ≡ n + m
    none_first n m e = omega arith

-- ---- a Sync Header on

abbrev Headed : ℕ → Type 0
Headed s =
    T (live (steps s start22)) → (x : List ℕ)
    → (gaps (s % 11) (sync_header_bits ++ x) ≡ gaps 1 x) × (headers (shown s ++ (sync_header_bits ++ x)) ≡ suc (headers (shown headed ++ x)))

headers_follow : Each Headed broken
unfolding step headers
headers_follow = (λ t x. absurd t, (λ t x. (refl, refl), (λ t x. (refl, refl), (λ t x. (refl, refl), (λ t x. (refl, refl), (λ t x. (refl, refl), (λ t x. (refl, refl), (λ t x. (refl, refl), (λ t x. (refl, refl), (λ t x. absurd t, (λ t x. absurd t, (λ t x. absurd t, (λ t x. (refl, refl), (λ t x. (refl, refl), (λ t x. (refl, refl), (λ t x. (refl, refl), (λ t x. (refl, refl), (λ t x. (refl, refl), (λ t x. (refl, refl), (λ t x. (refl, refl), (λ t x. absurd t, (λ t x. absurd t, tt))))))))))))))))))))))

-- after a Sync Header at its place the state is always the same: one ZERO since a ONE with ten ZEROs before it
pub state_header : (past : List ℕ) (s : ℕ) → StateOf past s → T (live (steps s start22)) → StateOf (past ++ sync_header_bits) headed
state_header past s d t =
    let on : Headed s = case Headed broken headers_follow s d.state in
    let one : headers (past ++ sync_header_bits) ≡ headers past + 1 = d.headers_on sync_header_bits ∙ ap (λ (n : ℕ). headers past + n) (ap headers (ap (λ (l : List ℕ). shown s ++ l) (sym (append-nil sync_header_bits))) ∙ (on t []).1 ∙ ap suc (shown-none headed (omega arith))) in
    record {
      state = omega arith;
      runs_on = λ x. ap runs (append_assoc past sync_header_bits x) ∙ d.runs_on (sync_header_bits ++ x) ∙ (on t x).0;
      headers_on = λ x.
          let y = headers (shown headed ++ x) in
          let e : headers past + suc y ≡ headers past + 1 + y = omega arith in
          ap headers (append_assoc past sync_header_bits x) ∙ d.headers_on (sync_header_bits ++ x) ∙ ap (λ (n : ℕ). headers past + n) (on t x).1
          ∙ e ∙ ap (λ (n : ℕ). n + y) (sym one);
    }

-- the first Sync Header of all
pub state_first : StateOf sync_header_bits headed
unfolding headers
state_first = record { state = omega arith; runs_on = λ x. refl; headers_on = λ x. one_more (headers (shown headed ++ x)) }
  where
    one_more : (n : ℕ) → suc n ≡ 1 + n
    one_more n = omega arith
