-- Wherever a writer stands some Merging bits are allowed, so what it writes is document 01's choice.
-- Assumes nothing.
use Rattle.std.specs.Prelude.{◌≡◌, Bool, ◌&&◌, List, ℕ, ◌<◌, T, length}
use Rattle.std.proofs.Common.{sym, subst, arith}
use Rattle.outcome.specs.Table.Entries.{and_left, and_right}
use Rattle.merging.specs.Automaton.{passes, start22, StateOf}
use Rattle.merging.specs.Ready.{Takes, header_agrees, takes_header}
use Rattle.merging.specs.Chosen.Better.{word_keeps, header_keeps}
use Rattle.merging.proofs.Ready.Agrees.{one-agrees, word_agrees_lem, word_passes, head_agrees, header_agrees_lem, header_passes}
use Rattle.merging.specs.Chosen.{before_word, before_header, m100, m000}
use Rattle.merging.specs.Chosen.One.{Chosen, for_word, for_header}
use Rattle.merging.proofs.Chosen.Fold.{chosen_word_lem, chosen_header}
use Rattle.merging.specs.Rule.{sync_header_bits, allowed}

-- what the fold gives is chosen if it is allowed
word_if : (ok : List ℕ → Bool) (dsv : List ℕ → ℕ) → T (ok (before_word ok dsv)) → Chosen for_word ok dsv (before_word ok dsv)
word_if ok dsv =
    word_keeps ok dsv (λ m. T (ok m) → Chosen for_word ok dsv (before_word ok dsv)) (chosen_word_lem ok dsv 0 (omega arith)) (chosen_word_lem ok dsv 1 (omega arith))
    (chosen_word_lem ok dsv 2 (omega arith)) (chosen_word_lem ok dsv 3 (omega arith))

header_if : (ok : List ℕ → Bool) (dsv : List ℕ → ℕ) → T (ok (before_header ok dsv)) → Chosen for_header ok dsv (before_header ok dsv)
header_if ok dsv =
    header_keeps ok dsv (λ m. T (ok m) → Chosen for_header ok dsv (before_header ok dsv)) (chosen_header ok dsv 0 (omega arith))
    (chosen_header ok dsv 1 (omega arith))

-- what the rule gives is allowed, where the automaton gives the same and agrees on it
same-allowed : (rule auto : List ℕ → Bool) (m n : List ℕ) → m ≡ n → rule n ≡ auto n → T (auto n) → T (rule m)
same-allowed rule auto m n e a t = subst (λ (x : List ℕ). T (rule x)) (sym e) (subst T (sym a) t)

module _ (past : List ℕ) (s : ℕ) (d : StateOf past s) (dsv : List ℕ → ℕ) where
  -- before a word
  pub word_chosen : (bs : List ℕ) → length bs < 24 → Takes bs s → Chosen for_word (allowed past bs) dsv (before_word (allowed past bs) dsv)
  word_chosen bs short t =
      let agree = one-agrees past s d bs short t dsv in
      word_if (allowed past bs) dsv
      (same-allowed (allowed past bs) (passes s bs) (before_word (allowed past bs) dsv) (before_word (passes s bs) dsv) (word_agrees_lem past s d bs short t dsv)
      (word_keeps (passes s bs) dsv (λ m. allowed past bs m ≡ passes s bs m) (agree _ t.at100) (agree _ t.at010) (agree _ t.at001)
      (agree _ t.at000))
      (word_passes s bs t dsv))

  -- before a Sync Header
  pub header_chosen : T (takes_header s) → Chosen for_header (allowed past sync_header_bits) dsv (before_header (allowed past sync_header_bits) dsv)
  unfolding takes_header
  header_chosen t =
      let both = and_left (header_agrees s m100 && header_agrees s m000) _ t in
      let agree = head_agrees s t dsv past d in
      header_if (allowed past sync_header_bits) dsv
      (same-allowed (allowed past sync_header_bits) (passes s start22) (before_header (allowed past sync_header_bits) dsv) (before_header (passes s start22) dsv)
      (header_agrees_lem s t dsv past d)
      (header_keeps (passes s start22) dsv (λ m. allowed past sync_header_bits m ≡ passes s start22 m)
      (agree _ (and_left (header_agrees s m100) (header_agrees s m000) both)) (agree _ (and_right (header_agrees s m100) (header_agrees s m000) both)))
      (header_passes s t dsv))
