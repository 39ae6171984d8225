-- Where the rule and the automaton part: in one case of all, over all 22 states, all words and both SYNCs and all Merging bits. After Merging bits
-- that the automaton lets pass the rule goes on from its state, by the law that it speaks for it; what is left is computed: words after a state, and
-- Merging bits that the automaton stops.
-- Assumes nothing.
use Rattle.std.specs.Prelude.{◌≡◌, Bool, cond, List, [], ◌++◌}
use Rattle.std.proofs.Math.Path.{refl, sym, ap, ap₂, subst}
use Rattle.std.proofs.Common.{◌∙◌, append_assoc, append-nil, eqb-true, eqb→eq}
use Rattle.std.proofs.Math.Bool.{true, false, not, ◌&&◌}
use Prim.Native.Nat.{ℕ, ◌+◌, ◌<◌}
use Rattle.std.proofs.Math.Nat.{zero-add}
use Rattle.std.proofs.Math.Dec.{T, eqb}
use Rattle.std.proofs.Math.ListN.{get_or}
use Rattle.outcome.specs.Table.{all_below}
use Rattle.outcome.specs.Table.Entries.{below, and_left, and_right, of_true}
use Rattle.bits.specs.Binary.{Binary}
use Rattle.bits.specs.Binary.Parts.{binary_bits}
use Rattle.bits.specs.Bits.{bits_of}
use Rattle.words.specs.RunRule.{runs}
use Rattle.words.specs.Symbols.{symbols, bits_at}
use Rattle.words.specs.Words.{words, sync0}
use Rattle.merging.specs.Automaton.{broken, step, steps, live, shown, start22, StateOf}
use Rattle.merging.specs.Automaton.Speaks.{shown-none, shown_state, state_more, none_more}
use Rattle.merging.specs.Automaton.Steps.{steps-append, steps-broken, live-first}
use Rattle.merging.specs.Chosen.{m000}
use Rattle.merging.specs.Chosen.One.{for_word, for_header}
use Rattle.merging.proofs.Chosen.ThreeBits.{for_word_binary}
use Rattle.merging.specs.Ready.{ready, ruled, header_agrees}
use Rattle.merging.proofs.Ready.Agrees.{alike}
use Rattle.merging.specs.Rule.{sync_header_bits, headers}

-- ---- after bits that the automaton lets pass the rule goes on from its state

module _ (s : ℕ) (m : List ℕ) (h : s < broken) (p : Binary m) (t : T (live (steps s m))) where
  state_after : StateOf (shown s ++ m) (steps s m)
  state_after = state_more (shown s) s m (shown_state s h) p t

  ruled_on : (next : List ℕ) → ruled 0 s (m ++ next) ≡ ruled 0 (steps s m) next
  unfolding ruled
  ruled_on next =
      let e = state_after in
      let whole : shown s ++ (m ++ next) ≡ (shown s ++ m) ++ next = sym (append_assoc (shown s) m next) in
      let none : headers (shown s ++ m) ≡ 0 = none_more (shown s) s m (shown_state s h) p t ∙ ap headers (sym (append-nil (shown s))) ∙ shown-none s h in
      ap₂ ◌&&◌ (sym ((shown_state s h).runs_on (m ++ next)) ∙ ap runs whole ∙ e.runs_on next)
      (ap (λ (n : ℕ). eqb n 0)
      (ap headers whole ∙ e.headers_on next ∙ ap (λ (n : ℕ). n + headers (shown (steps s m) ++ next)) none ∙ zero-add (headers (shown (steps s m) ++ next))))

nothing-ruled : (s : ℕ) → s < broken → ruled 0 s [] ≡ true
unfolding ruled
nothing-ruled s h = ap (λ (n : ℕ). eqb n 0) (shown-none s h)

-- and what passes keeps it
live-ruled : (s : ℕ) (bs : List ℕ) → s < broken → Binary bs → T (live (steps s bs)) → ruled 0 s bs ≡ true
live-ruled s bs h p t =
    ap (ruled 0 s) (sym (append-nil bs)) ∙ ruled_on s bs h p t [] ∙ nothing-ruled (steps s bs) (state_after s bs h p t).state

-- ---- a word or a SYNC after a state: what passes ends where a writer stands, and what is stopped breaks the rule, but for SYNC 0 after eight ZEROs

ends : ℕ → ℕ → Bool
ends w s = cond (eqb w sync0 && eqb s 8) true (cond (live (steps s (bits_of 14 w))) (ready (steps s (bits_of 14 w))) (not (ruled 0 s (bits_of 14 w))))

all_end_lem : ℕ → Bool
all_end_lem w = all_below (ends w) broken

all_end : T (all_below (λ k. all_end_lem (get_or symbols k 0)) 258)
unfolding all_end_lem ends symbols words ruled ready step headers
all_end = tt

module _ (k s : ℕ) (hk : k < 258) (hs : s < broken) (other : get_or symbols k 0 ≡ sync0 → s ≡ 8 → ⊥) where
  end_of : T (cond (live (steps s (bits_at k))) (ready (steps s (bits_at k))) (not (ruled 0 s (bits_at k))))
  unfolding all_end_lem ends
  end_of = go (eqb w sync0) (eqb s 8) refl refl (below (ends w) broken (below (λ k. all_end_lem (get_or symbols k 0)) 258 all_end k hk) s hs)
    where
      w : ℕ
      w = get_or symbols k 0

      test : Bool
      test = cond (live (steps s (bits_at k))) (ready (steps s (bits_at k))) (not (ruled 0 s (bits_at k)))

      go : (x y : Bool) → eqb w sync0 ≡ x → eqb s 8 ≡ y → T (cond (x && y) true test) → T test
      go true true p q t = absurd (other (eqb-true w sync0 p) (eqb-true s 8 q))
      go true false p q t = t
      go false y p q t = t

  end_ready : T (live (steps s (bits_at k))) → T (ready (steps s (bits_at k)))
  end_ready l = go (live (steps s (bits_at k))) end_of l
    where
      go : (x : Bool) → T (cond x (ready (steps s (bits_at k))) (not (ruled 0 s (bits_at k)))) → T x → T (ready (steps s (bits_at k)))
      go true t u = t
      go false t u = absurd u

  end_ruled : ruled 0 s (bits_at k) ≡ live (steps s (bits_at k))
  end_ruled = go (live (steps s (bits_at k))) refl end_of
    where
      go : (x : Bool) → live (steps s (bits_at k)) ≡ x → T (cond x (ready (steps s (bits_at k))) (not (ruled 0 s (bits_at k)))) → ruled 0 s (bits_at k) ≡ x
      go true e t = live-ruled s (bits_at k) hs (binary_bits 14 (get_or symbols k 0)) (of_true (live (steps s (bits_at k))) e)
      go false e t = alike false (ruled 0 s (bits_at k)) t

-- ---- Merging bits that the automaton stops break the rule, whatever follows them

stopped : ℕ → ℕ → Bool
stopped s j = cond (eqb (steps s (get_or for_word j [])) broken) (all_below (λ k. not (ruled 0 s (get_or for_word j [] ++ bits_at k))) 258) true

all_stopped : T (all_below (λ s. all_below (stopped s) 4) broken)
unfolding stopped symbols words ruled step headers
all_stopped = tt

-- and only 000 after five ZEROs leads to eight
to_eight : ℕ → ℕ → Bool
to_eight s j = cond (eqb (steps s (get_or for_word j [])) 8) (eqb s 5 && eqb j 3) true

all_to_eight : T (all_below (λ s. all_below (to_eight s) 4) broken)
unfolding to_eight step
all_to_eight = tt

module _ (k s j : ℕ) (hk : k < 258) (hs : s < broken) (hj : j < 4) (other : get_or symbols k 0 ≡ sync0 → s ≡ 5 → j ≡ 3 → ⊥) where
  m : List ℕ
  m = get_or for_word j []

  -- so the case is that of SYNC 0 after eight ZEROs
  not_eight : get_or symbols k 0 ≡ sync0 → steps s m ≡ 8 → ⊥
  unfolding m to_eight
  not_eight w e =
      let t = rw e at (below (to_eight s) 4 (below (λ s. all_below (to_eight s) 4) broken all_to_eight s hs) j hj) in
      other w (eqb→eq s 5 (and_left (eqb s 5) (eqb j 3) t)) (eqb→eq j 3 (and_right (eqb s 5) (eqb j 3) t))

  passed : T (live (steps s m)) → steps s m < broken
  unfolding m
  passed t = (state_after s m hs (for_word_binary j hj) t).state

  -- THEY PART IN NO OTHER CASE
  pub apart_only : ruled 0 s (get_or for_word j [] ++ bits_at k) ≡ live (steps s (get_or for_word j [] ++ bits_at k))
  unfolding m stopped
  apart_only = go (eqb (steps s m) broken) refl (below (stopped s) 4 (below (λ s. all_below (stopped s) 4) broken all_stopped s hs) j hj)
    where
      go : (x : Bool) → eqb (steps s m) broken ≡ x → T (cond x (all_below (λ k. not (ruled 0 s (m ++ bits_at k))) 258) true) → ruled 0 s (m ++ bits_at k) ≡ live (steps s (m ++ bits_at k))
      go true e t =
          alike false (ruled 0 s (m ++ bits_at k)) (below (λ k. not (ruled 0 s (m ++ bits_at k))) 258 t k hk)
          ∙ sym (ap live (steps-append s m (bits_at k) ∙ ap (λ (n : ℕ). steps n (bits_at k)) (eqb-true (steps s m) broken e) ∙ steps-broken (bits_at k)))
      go false e t =
          let l : T (live (steps s m)) = subst (λ (x : Bool). T (not x)) (sym e) tt in
          ruled_on s m hs (for_word_binary j hj) l (bits_at k) ∙ end_ruled k (steps s m) hk (passed l) not_eight ∙ ap live (sym (steps-append s m (bits_at k)))

  -- and what passes ends where a writer stands
  pub ready-after : T (live (steps s (get_or for_word j [] ++ bits_at k))) → T (ready (steps s (get_or for_word j [] ++ bits_at k)))
  unfolding m
  ready-after t =
      let u : T (live (steps (steps s m) (bits_at k))) = subst (λ (n : ℕ). T (live n)) (steps-append s m (bits_at k)) t in
      let l = live-first (steps s m) (bits_at k) u in
      subst (λ (n : ℕ). T (ready n)) (sym (steps-append s m (bits_at k))) (end_ready k (steps s m) hk (passed l) not_eight u)

-- in that case the Sync Header's 23rd bit is SYNC 0's last: the automaton has seen enough, and the rule waits for the 24th. SYNC 0 only follows a
-- Sync Header, after which one ZERO stands since the last ONE: it never occurs
pub apart : (ruled 0 5 (m000 ++ bits_of 14 sync0) ≡ true) × (live (steps 5 (m000 ++ bits_of 14 sync0)) ≡ false)
unfolding ruled step headers
apart = (refl, refl)

-- ---- before a Sync Header they never part

agree_header : T (all_below (λ s. all_below (λ j. header_agrees s (get_or for_header j [])) 2) broken)
unfolding header_agrees ruled step headers
agree_header = tt

-- over all states and both Merging bits
pub never_before_header : (s j : ℕ) → s < broken → j < 2
    → ruled 1 s (get_or for_header j [] ++ sync_header_bits) ≡ live (steps s (get_or for_header j [] ++ start22))
unfolding header_agrees
never_before_header s j hs hj =
    alike (live (steps s (get_or for_header j [] ++ start22))) (ruled 1 s (get_or for_header j [] ++ sync_header_bits))
    (below (λ j. header_agrees s (get_or for_header j [])) 2 (below (λ s. all_below (λ j. header_agrees s (get_or for_header j [])) 2) broken agree_header s hs) j hj)
