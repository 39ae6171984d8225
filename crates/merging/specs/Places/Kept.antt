-- Bit by bit, and Sync Header by Sync Header, the places are kept.
-- Assumes nothing.
use Rattle.std.specs.Prelude.{◌≡◌, refl, true, List, [], ◌∷◌, ◌++◌, ℕ, zero, suc, ◌<◌, T, length}
use Rattle.std.proofs.Common.{sym, ap, ◌∙◌, subst, append_assoc, append-nil, arith}
use Rattle.merging.specs.Rule.{sync_header_bits}
use Rattle.merging.specs.Automaton.{broken, headed, step, steps, live, shown, start22}
use Rattle.bits.specs.Binary.{Binary}
use Rattle.lists.specs.Each.{Each}
use Rattle.lists.specs.Each.Case.{case}
use Rattle.merging.specs.Automaton.Steps.{live-first, step_state}
use Rattle.merging.specs.Places.{placed, earlier, Placed}

abbrev Onward : ℕ → ℕ → Type 0
Onward b s =
    T (live (step s b)) → (c : ℕ) (x : List ℕ)
    → placed (earlier (length (shown s)) (suc c)) (shown s ++ (b ∷ x)) ≡ placed (earlier (length (shown (step s b))) c) (shown (step s b) ++ x)

zeros_on : Each (Onward 0) broken
unfolding step placed
zeros_on = (λ t c x. absurd t, (λ t c x. refl, (λ t c x. refl, (λ t c x. refl, (λ t c x. refl, (λ t c x. refl, (λ t c x. refl, (λ t c x. refl, (λ t c x. refl, (λ t c x. refl, (λ t c x. refl, (λ t c x. absurd t, (λ t c x. refl, (λ t c x. refl, (λ t c x. refl, (λ t c x. refl, (λ t c x. refl, (λ t c x. refl, (λ t c x. refl, (λ t c x. refl, (λ t c x. refl, (λ t c x. refl, tt))))))))))))))))))))))

ones_on : Each (Onward 1) broken
unfolding step placed
ones_on = (λ t c x. absurd t, (λ t c x. refl, (λ t c x. refl, (λ t c x. refl, (λ t c x. refl, (λ t c x. refl, (λ t c x. refl, (λ t c x. refl, (λ t c x. refl, (λ t c x. absurd t, (λ t c x. absurd t, (λ t c x. refl, (λ t c x. refl, (λ t c x. refl, (λ t c x. refl, (λ t c x. refl, (λ t c x. refl, (λ t c x. refl, (λ t c x. refl, (λ t c x. refl, (λ t c x. absurd t, (λ t c x. absurd t, tt))))))))))))))))))))))

onward : (b s : ℕ) → b < 2 → s < broken → Onward b s
onward zero s h l = case (Onward 0) broken zeros_on s l
onward (suc zero) s h l = case (Onward 1) broken ones_on s l
onward (suc (suc b)) s h l = absurd (omega arith)

placed_one : (past : List ℕ) (s b c : ℕ) → Placed past s (suc c) → b < 2 → T (live (step s b)) → Placed (past ++ (b ∷ [])) (step s b) c
placed_one past s b c d h t =
    record {
      state = step_state s b t;
      placed_on = λ x. ap (placed 0) (append_assoc past (b ∷ []) x) ∙ d.placed_on (b ∷ x) ∙ onward b s h d.state t c x;
    }

-- some bits on
pub placed_more : (past : List ℕ) (s c : ℕ) (bs : List ℕ) → Placed past s (earlier (length bs) c) → Binary bs → T (live (steps s bs)) → Placed (past ++ bs) (steps s bs) c
placed_more past s c [] d p t = subst (λ (l : List ℕ). Placed l s c) (sym (append-nil past)) d
placed_more past s c (b ∷ bs) d p t =
    subst (λ (l : List ℕ). Placed l (steps (step s b) bs) c) (append_assoc past (b ∷ []) bs)
    (placed_more (past ++ (b ∷ [])) (step s b) c bs (placed_one past s b (earlier (length bs) c) d p.0 (live-first (step s b) bs t)) p.1 t)

-- ---- a Sync Header on, at its place

abbrev Headed : ℕ → Type 0
Headed s =
    T (live (steps s start22)) → (x : List ℕ)
    → placed (earlier (length (shown s)) 0) (shown s ++ (sync_header_bits ++ x)) ≡ placed (earlier (length (shown headed)) 564) (shown headed ++ x)

headers_follow : Each Headed broken
unfolding step placed
headers_follow = (λ t x. absurd t, (λ t x. refl, (λ t x. refl, (λ t x. refl, (λ t x. refl, (λ t x. refl, (λ t x. refl, (λ t x. refl, (λ t x. refl, (λ t x. absurd t, (λ t x. absurd t, (λ t x. absurd t, (λ t x. refl, (λ t x. refl, (λ t x. refl, (λ t x. refl, (λ t x. refl, (λ t x. refl, (λ t x. refl, (λ t x. refl, (λ t x. absurd t, (λ t x. absurd t, tt))))))))))))))))))))))

-- a Sync Header at its place leaves 564 bits to the next
pub placed_header : (past : List ℕ) (s : ℕ) → Placed past s 0 → T (live (steps s start22)) → Placed (past ++ sync_header_bits) headed 564
placed_header past s d t =
    record {
      state = omega arith;
      placed_on = λ x. ap (placed 0) (append_assoc past sync_header_bits x) ∙ d.placed_on (sync_header_bits ++ x) ∙ case Headed broken headers_follow s d.state t x;
    }

-- the first Sync Header of all
pub placed_first : Placed sync_header_bits headed 564
unfolding placed
placed_first = record { state = omega arith; placed_on = λ x. refl }

-- nothing is left open where whole frames are written
shown-placed : (s : ℕ) → s < broken → placed (earlier (length (shown s)) 0) (shown s ++ []) ≡ true
unfolding placed
shown-placed s h = case (λ s. placed (earlier (length (shown s)) 0) (shown s ++ []) ≡ true) broken (refl, (refl, (refl, (refl, (refl, (refl, (refl, (refl, (refl, (refl, (refl, (refl, (refl, (refl, (refl, (refl, (refl, (refl, (refl, (refl, (refl, (refl, tt)))))))))))))))))))))) s h

-- so all Sync Headers of whole frames are at their places
pub placed-whole : (past : List ℕ) (s : ℕ) → Placed past s 0 → placed 0 past ≡ true
placed-whole past s d = ap (placed 0) (sym (append-nil past)) ∙ d.placed_on [] ∙ shown-placed s d.state
