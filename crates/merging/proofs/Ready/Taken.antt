-- Every word may come wherever a writer stands, and so may a Sync Header; SYNC 0 and SYNC 1 may come after a Sync Header.
-- Assumes nothing.
use Rattle.std.specs.Prelude.{◌≡◌, Bool, true, false, cond, not, ◌&&◌, ◌||◌, ℕ, ◌<◌, ◌%◌, T, leb, ltb}
use Rattle.std.proofs.Common.{sym, ◌∙◌, subst, ltb→lt}
use mathlib.Core.List.{List, [], ◌++◌}
use native.Mathlib.Omega.{arith}
use Rattle.std.proofs.Math.ListN.{get_or}
use Rattle.outcome.specs.Table.{all_below}
use Rattle.outcome.specs.Table.Entries.{below, and_left, and_both}
use Rattle.bits.specs.Bits.{bits_of}
use Rattle.words.specs.Symbols.{symbols, bits_at}
use Rattle.words.specs.Symbols.Which.{symbol_word}
use Rattle.words.specs.Words.{words, word_of, sync0, sync1}
use Rattle.words.specs.Words.Facts.{not-sync0}
use Rattle.merging.specs.Automaton.{broken, headed, step, steps, live, passes}
use Rattle.merging.specs.Chosen.{m100, m010, m001, m000}
use Rattle.merging.specs.Chosen.One.{for_word}
use Rattle.merging.specs.Ready.{ready, ruled, agrees, word_agrees, takes, header_agrees, takes_header}
use Rattle.merging.proofs.Ready.Apart.{apart_only, ready-after}
use Rattle.merging.specs.Rule.{headers}

-- where a writer stands no rule is broken
pub ready-lt : (s : ℕ) → T (ready s) → s < broken
unfolding ready
ready-lt s t = ltb→lt s broken (and_left (ltb s broken) (leb (s % 11) 8) t)

when : (t x : Bool) → T (cond t x true) → T t → T x
when true x a b = a
when false x a b = absurd b

-- ---- a word: rule and automaton agree on it, and a writer stands after it again; that some Merging bits pass is computed

some_pass : List ℕ → ℕ → Bool
some_pass bs s = cond (ready s) (passes s bs m100 || (passes s bs m010 || (passes s bs m001 || passes s bs m000))) true

all_some : T (all_below (λ b. all_below (some_pass (bits_of 14 (word_of b))) broken) 256)
unfolding some_pass words ready step
all_some = tt

agreeing : (e : ℕ) (rule : Bool) → rule ≡ live e → (T (live e) → T (ready e)) → T (agrees e rule)
unfolding agrees
agreeing e rule p f = subst (λ (r : Bool). T (agrees e r)) (sym p) (go (live e) f)
  where
    go : (l : Bool) → (T l → T (ready e)) → T (cond l (l && ready e) (not l))
    go true g = g tt
    go false g = tt

module _ (b s : ℕ) (h : b < 256) (t : T (ready s)) where
  symbol_agrees : (j : ℕ) → j < 4 → T (word_agrees (bits_at b) s (get_or for_word j []))
  unfolding word_agrees
  symbol_agrees j l =
      let bs = get_or for_word j [] ++ bits_at b in
      let low : b < 258 = omega arith in
      let no : get_or symbols b 0 ≡ sync0 → s ≡ 5 → j ≡ 3 → ⊥ = λ e p q. not-sync0 b h (sym (symbol_word b h) ∙ e) in
      agreeing (steps s bs) (ruled 0 s bs) (apart_only b s j low (ready-lt s t) l no) (ready-after b s j low (ready-lt s t) l no)

  word_ok : (j : ℕ) → j < 4 → T (word_agrees (bits_of 14 (word_of b)) s (get_or for_word j []))
  word_ok j l = subst (λ (w : ℕ). T (word_agrees (bits_of 14 w) s (get_or for_word j []))) (symbol_word b h) (symbol_agrees j l)

  -- every word may come wherever a writer stands
  pub word_taken : T (takes (bits_of 14 (word_of b)) s)
  unfolding takes some_pass
  word_taken =
      let bs = bits_of 14 (word_of b) in
      let some = passes s bs m100 || (passes s bs m010 || (passes s bs m001 || passes s bs m000)) in
      let A = word_agrees bs s m100 in
      let B = word_agrees bs s m010 in
      let C = word_agrees bs s m001 in
      let D = word_agrees bs s m000 in
      and_both (ready s && (A && (B && (C && D)))) some
      (and_both (ready s) (A && (B && (C && D))) t
      (and_both A (B && (C && D)) (word_ok 0 (omega arith)) (and_both B (C && D) (word_ok 1 (omega arith)) (and_both C D (word_ok 2 (omega arith)) (word_ok 3 (omega arith))))))
      (when (ready s) some (below (some_pass bs) broken (below (λ b. all_below (some_pass (bits_of 14 (word_of b))) broken) 256 all_some b h) s (ready-lt s t)) t)

-- SYNC 0 may come after a Sync Header
pub sync0-taken : T (takes (bits_of 14 sync0) headed)
unfolding takes word_agrees ruled agrees ready step headers
sync0-taken = tt

-- and so may SYNC 1
pub sync1-taken : T (takes (bits_of 14 sync1) headed)
unfolding takes word_agrees ruled agrees ready step headers
sync1-taken = tt

-- ---- a Sync Header

header_when_ready : ℕ → Bool
header_when_ready s = cond (ready s) (takes_header s) true

all_headers : T (all_below header_when_ready broken)
unfolding header_when_ready takes_header header_agrees ruled ready step headers
all_headers = tt

-- it may come wherever a writer stands
pub header_taken : (s : ℕ) → T (ready s) → T (takes_header s)
unfolding header_when_ready
header_taken s t = when (ready s) (takes_header s) (below header_when_ready broken all_headers s (ready-lt s t)) t
