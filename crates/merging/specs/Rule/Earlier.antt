-- `allowed` is asked of the bits of one Section. That bits of earlier Sections change nothing: of what stands before a Sync Header it only matters
-- that the Sync Header may follow it.
-- Assumes nothing.
use Rattle.std.specs.Prelude.{◌≡◌, Bool, ◌&&◌, List, ◌++◌, ℕ, ◌+◌, ◌%◌, eqb}
use Rattle.std.proofs.Common.{sym, ap, ap₂, ◌∙◌, append_assoc, add_assoc}
use Rattle.words.specs.RunRule.{gaps, runs}
use Rattle.merging.specs.Rule.Headers.{eqb-plus}
use Rattle.merging.specs.Automaton.{headed, shown, StateOf}
use Rattle.merging.specs.Chosen.{before_word, before_header}
use Rattle.merging.specs.Rule.{sync_header_bits, headers, allowed}
use Rattle.merging.specs.Automaton.Speaks.{state_first}

-- the rule after a state and the bits `rest`
unfoldable after_state : ℕ → List ℕ → List ℕ → List ℕ → Bool
after_state s rest next m =
    gaps (s % 11) (rest ++ (m ++ next)) && eqb (headers (shown s ++ (rest ++ (m ++ next)))) (headers (shown s ++ rest) + headers next)

by_state : (past : List ℕ) (s : ℕ) → StateOf past s → (rest next m : List ℕ) → allowed (past ++ rest) next m ≡ after_state s rest next m
unfolding allowed after_state
by_state past s d rest next m =
    let whole : (past ++ rest) ++ (m ++ next) ≡ past ++ (rest ++ (m ++ next)) = append_assoc past rest (m ++ next) in
    let x = headers (shown s ++ (rest ++ (m ++ next))) in
    let y = headers (shown s ++ rest) in
    ap₂ ◌&&◌ (ap runs whole ∙ d.runs_on (rest ++ (m ++ next)))
    (ap₂ eqb (ap headers whole ∙ d.headers_on (rest ++ (m ++ next)))
    (ap (λ (n : ℕ). n + headers next) (d.headers_on rest) ∙ add_assoc (headers past) y (headers next))
    ∙ eqb-plus (headers past) x (y + headers next))

-- bits with the same state allow the same, whatever follows them
pub allowed_same : (a b : List ℕ) (s : ℕ) → StateOf a s → StateOf b s → (rest next m : List ℕ) → allowed (a ++ rest) next m ≡ allowed (b ++ rest) next m
allowed_same a b s p q rest next m = by_state a s p rest next m ∙ sym (by_state b s q rest next m)

module _ (old : List ℕ) (follows : StateOf (old ++ sync_header_bits) headed) (rest next : List ℕ) where
  -- after a Sync Header, and any bits after it, the bits `old` before that Sync Header change nothing that is allowed
  pub earlier-allowed : (m : List ℕ) → allowed (old ++ (sync_header_bits ++ rest)) next m ≡ allowed (sync_header_bits ++ rest) next m
  earlier-allowed m =
      ap (λ (l : List ℕ). allowed l next m) (sym (append_assoc old sync_header_bits rest)) ∙ allowed_same (old ++ sync_header_bits) sync_header_bits headed follows state_first rest next m

  -- so the Merging bits chosen before a word are the same
  pub earlier_word : (dsv : List ℕ → ℕ) → before_word (allowed (old ++ (sync_header_bits ++ rest)) next) dsv ≡ before_word (allowed (sync_header_bits ++ rest) next) dsv
  earlier_word dsv = λ i. before_word (λ m. earlier-allowed m i) dsv

  -- and so are those chosen before a Sync Header
  pub earlier_header : (dsv : List ℕ → ℕ) → before_header (allowed (old ++ (sync_header_bits ++ rest)) next) dsv ≡ before_header (allowed (sync_header_bits ++ rest) next) dsv
  earlier_header dsv = λ i. before_header (λ m. earlier-allowed m i) dsv
