-- A Section is written the same whether or not the choice of its Merging bits sees the bits of earlier Sections.
-- Assumes nothing.
use Rattle.std.specs.Prelude.{◌≡◌, ◌⊎◌, ℕ}
use Rattle.std.proofs.Common.{sym, ◌∙◌, inl, inr}
use Rattle.std.proofs.Math.Path.{ap}
use mathlib.Core.List.{List, [], ◌++◌, append_assoc, append-nil}
use Rattle.merging.specs.Chosen.{SoFar, after, dsv_after, before_word, before_header, with_word, with_header, with_tail}
use Rattle.merging.specs.Rule.{sync_header_bits, allowed}
use Rattle.merging.specs.Rule.Earlier.{earlier_word, earlier_header}
use Rattle.merging.specs.Automaton.{headed, StateOf}

-- the same, with the bits of earlier Sections in front
abbrev pub behind : List ℕ → SoFar → SoFar
behind old w = record { bits = old ++ w.bits; level = w.level; plus = w.plus; minus = w.minus }

-- a Sync Header stands first, as it does wherever Merging bits are chosen
pub record Begun (w : SoFar) : Type 0 where
  pub rest : List ℕ
  pub begins : w.bits ≡ sync_header_bits ++ rest

begun_after : (w : SoFar) (bs : List ℕ) → Begun w → Begun (after w bs)
begun_after w bs b = record { rest = b.rest ++ bs; begins = ap (λ (l : List ℕ). l ++ bs) b.begins ∙ append_assoc sync_header_bits b.rest bs }

-- it does after the first Sync Header, and after whatever is written then
pub begun_header : (w : SoFar) → (w.bits ≡ []) ⊎ Begun w → Begun (with_header w)
unfolding with_header
begun_header w (inl e) = record { rest = []; begins = ap (λ (l : List ℕ). l ++ sync_header_bits) e ∙ sym (append-nil sync_header_bits) }
begun_header w (inr b) = begun_after w sync_header_bits b

-- a word
pub begun_word : (w : SoFar) (next : List ℕ) → Begun w → Begun (with_word w next)
unfolding with_word
begun_word w next b = begun_after w (before_word (allowed w.bits next) (dsv_after w.level w.plus w.minus next) ++ next) b

-- or Merging bits
pub begun_tail : (w : SoFar) → Begun w → Begun (with_tail w)
unfolding with_tail
begun_tail w b = begun_after w (before_header (allowed w.bits sync_header_bits) (dsv_after w.level w.plus w.minus sync_header_bits)) b

module _ (old : List ℕ) where
  after-behind : (w : SoFar) (bs : List ℕ) → after (behind old w) bs ≡ behind old (after w bs)
  after-behind w bs = λ i.
      record {
        bits = append_assoc old w.bits bs i;
        level = (after w bs).level;
        plus = (after w bs).plus;
        minus = (after w bs).minus;
      }

  -- a Sync Header
  pub header_behind : (w : SoFar) → with_header (behind old w) ≡ behind old (with_header w)
  unfolding with_header
  header_behind w = after-behind w sync_header_bits

  module _ (follows : StateOf (old ++ sync_header_bits) headed) (w : SoFar) (b : Begun w) where
    -- a word, after its Merging bits
    pub word_behind : (next : List ℕ) → with_word (behind old w) next ≡ behind old (with_word w next)
    unfolding with_word
    word_behind next =
        let dsv = dsv_after w.level w.plus w.minus next in
        let chosen : before_word (allowed (old ++ w.bits) next) dsv ≡ before_word (allowed w.bits next) dsv
        = rw b.begins (earlier_word old follows b.rest next dsv) in
        ap (λ (m : List ℕ). after (behind old w) (m ++ next)) chosen ∙ after-behind w (before_word (allowed w.bits next) dsv ++ next)

    -- the Merging bits before the next Sync Header
    pub tail_behind : with_tail (behind old w) ≡ behind old (with_tail w)
    unfolding with_tail
    tail_behind =
        let dsv = dsv_after w.level w.plus w.minus sync_header_bits in
        let chosen : before_header (allowed (old ++ w.bits) sync_header_bits) dsv ≡ before_header (allowed w.bits sync_header_bits) dsv
        = rw b.begins (earlier_header old follows b.rest sync_header_bits dsv) in
        ap (after (behind old w)) chosen ∙ after-behind w (before_header (allowed w.bits sync_header_bits) dsv)
