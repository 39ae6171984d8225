-- The invariant of the pass over the codewords of a parity, column after column.
-- Assumes nothing.
use mathlib.Core.Path.{◌≡◌, refl, sym, ap, ap₂, ◌∙◌}
use mathlib.Core.Logic.{◌⊎◌, inl, inr}
use mathlib.Core.Bool.{Bool, true, ◌&&◌}
use mathlib.Core.List.{List, [], ◌∷◌}
use Prim.Native.Nat.{ℕ, suc, ◌+◌, ◌<◌, ◌≤◌}
use native.Mathlib.Numerals.{add-one}
use native.Mathlib.Omega.{arith}
use lib.Bits.{bit_xor}
use lib.ListN.{length, get_or, set, take, drop, length-set}
use lib.Seq.{take-set-le, drop-set-lt}
use Rattle.outcome.specs.First.Found.{lt-or-le}
use Rattle.outcome.specs.Table.{all_below}
use Rattle.codeword.specs.Code.{sum}
use Rattle.codeword.specs.Nearest.{nearest, is_found}
use Rattle.codeword.specs.Fault.{fault}
use Rattle.codeword.specs.Fault.Decides.{fault_inside}
use Rattle.codeword.specs.declared.Fault.{Fault}
use Rattle.codeword.specs.declared.Fault.TheVariants.{Clean, At, Lost}
use Rattle.rspc.specs.declared.Parity.{Parity}
use Rattle.rspc.specs.Either.{words_of, rows_of, word_of, place_of, end_of}
use Rattle.rspc.specs.Either.Where.{place-from, place_to}
use Rattle.rspc.proofs.Either.Bytewise.{word_at}
use Rattle.rspc.specs.Columns.{column_of, in_column}
use Rattle.rspc.specs.Columns.Turned.{in_column_lt, column_of_word}
use Rattle.rspc.specs.Pass.{after_pass}
use Rattle.word_mending.specs.Mend.{explained, mended_at}
use Rattle.mending.specs.Inner.Mend.{SumsOf}
use Rattle.mending.proofs.Mending.{set_word, set_other, fault_of, cured, found_by_fault, handed_by_fault}

-- the codeword in column k
abbrev pub standing : Parity → List ℕ → ℕ → List ℕ
standing parity s k = word_of parity s (in_column parity k)

-- the codewords in the columns below k are handed on, the others are as they were
pub record Passing (parity : Parity) (s : List ℕ) (k : ℕ) (near : Bool) (t : List ℕ) : Type 0 where
  pub sector : length s ≡ 2352
  pub upto : k ≤ words_of parity
  pub long : length t ≡ length s
  pub before : take 12 t ≡ take 12 s
  pub after : drop (end_of parity) t ≡ drop (end_of parity) s
  pub passed : (j : ℕ) → j < k → standing parity t j ≡ after_pass (standing parity s j)
  pub waiting : (j : ℕ) → k ≤ j → j < words_of parity → standing parity t j ≡ standing parity s j
  pub found : near ≡ all_below (λ j. is_found (nearest 2 (standing parity s j))) k

pub passing-none : (parity : Parity) (s : List ℕ) → length s ≡ 2352 → Passing parity s 0 true s
passing-none parity s e =
    record {
      sector = e;
      upto = omega arith;
      long = refl;
      before = refl;
      after = refl;
      passed = λ j h. absurd (omega arith);
      waiting = λ j h l. refl;
      found = refl;
    }

module _ (parity : Parity) {s t : List ℕ} {k : ℕ} {near : Bool} (p : Passing parity s k near t) where
  -- the codeword in one column more, with the fault f
  more : k < words_of parity → (r : Bool) (f : Fault) → fault_of parity s (in_column parity k) ≡ f → ((i e : ℕ) → f ≡ At i e → i < rows_of parity)
      → r ≡ explained f && near → Passing parity s (suc k) r (mended_at parity t (in_column parity k) f)
  more h r f q inside g = go f q inside g
    where
      count : (f : Fault) → fault_of parity s (in_column parity k) ≡ f → r ≡ explained f && near
          → r ≡ all_below (λ j. is_found (nearest 2 (standing parity s j))) (suc k)
      count f q g = g ∙ ap₂ ◌&&◌ (ap explained (sym q) ∙ sym (found_by_fault parity s (in_column parity k))) p.found

      same : standing parity t k ≡ standing parity s k
      same = p.waiting k (omega arith) h

      -- where the word stays
      stays : (f : Fault) → fault_of parity s (in_column parity k) ≡ f → r ≡ explained f && near → cured (standing parity s k) f ≡ standing parity s k
          → Passing parity s (suc k) r t
      stays f q g c =
          record {
            sector = p.sector;
            upto = omega arith;
            long = p.long;
            before = p.before;
            after = p.after;
            passed = λ j l. at j (lt-or-le j k) l;
            waiting = λ j l b. p.waiting j (omega arith) b;
            found = count f q g;
          }
        where
          at : (j : ℕ) → (j < k) ⊎ (k ≤ j) → j < suc k → standing parity t j ≡ after_pass (standing parity s j)
          at j (inl a) l = p.passed j a
          at j (inr a) l =
              let e : j ≡ k = omega arith in
              ap (standing parity t) e ∙ same
              ∙ sym (handed_by_fault parity s (in_column parity k) ∙ ap (cured (standing parity s k)) q ∙ c)
              ∙ ap (λ (m : ℕ). after_pass (standing parity s m)) (sym e)

      go : (f : Fault) → fault_of parity s (in_column parity k) ≡ f → ((i e : ℕ) → f ≡ At i e → i < rows_of parity) → r ≡ explained f && near
          → Passing parity s (suc k) r (mended_at parity t (in_column parity k) f)
      go Clean q inside g = stays Clean q g refl
      go Lost q inside g = stays Lost q g refl
      go (At i e) q inside g =
          record {
            sector = p.sector;
            upto = omega arith;
            long = length-set t place v ∙ p.long;
            before = take-set-le 12 t place v (place-from parity (in_column parity k) i) ∙ p.before;
            after = drop-set-lt (end_of parity) t place v (place_to parity (in_column parity k) i hk hi) ∙ p.after;
            passed = λ j l. at j (lt-or-le j k) l;
            waiting = λ j l b. other j b (λ z. omega arith) ∙ p.waiting j (omega arith) b;
            found = count (At i e) q g;
          }
        where
          place : ℕ
          place = place_of parity (in_column parity k) i

          v : ℕ
          v = bit_xor (get_or t place 0) e

          long : length t ≡ 2352
          long = p.long ∙ p.sector

          hk : in_column parity k < words_of parity
          hk = in_column_lt parity k h

          hi : i < rows_of parity
          hi = inside i e refl

          other : (j : ℕ) → j < words_of parity → (j ≡ k → ⊥) → standing parity (set t place v) j ≡ standing parity t j
          other j b d =
              set_other parity t (in_column parity k) i v long hk hi (in_column parity j) (in_column_lt parity j b)
              (λ z. d (sym (column_of_word parity j b) ∙ ap (column_of parity) z ∙ column_of_word parity k h))

          at : (j : ℕ) → (j < k) ⊎ (k ≤ j) → j < suc k → standing parity (set t place v) j ≡ after_pass (standing parity s j)
          at j (inl a) b = other j (omega arith) (λ z. omega arith) ∙ p.passed j a
          at j (inr a) b =
              let d : j ≡ k = omega arith in
              ap (standing parity (set t place v)) d
              ∙ set_word parity t (in_column parity k) i v long hk hi
              ∙ ap (λ (x : ℕ). set (standing parity t k) i (bit_xor x e)) (sym (word_at parity t (in_column parity k) i hi))
              ∙ ap (λ (w : List ℕ). set w i (bit_xor (get_or w i 0) e)) same
              ∙ sym (handed_by_fault parity s (in_column parity k) ∙ ap (cured (standing parity s k)) q)
              ∙ ap (λ (m : ℕ). after_pass (standing parity s m)) (sym d)

  -- and with what `mend` says of it, given its sums
  pub passing_more : {s0 s1 : List ℕ} → SumsOf parity s s0 s1 → k < words_of parity → (r : Bool) (t' : List ℕ)
      → (r ≡ explained (fault (get_or s0 k 0 ∷ get_or s1 k 0 ∷ []) (rows_of parity)))
      × (t' ≡ mended_at parity t (in_column parity k) (fault (get_or s0 k 0 ∷ get_or s1 k 0 ∷ []) (rows_of parity)))
      → Passing parity s (k + 1) (r && near) t'
  passing_more {s0} {s1} x h r t' m =
      let f : fault (get_or s0 k 0 ∷ get_or s1 k 0 ∷ []) (rows_of parity) ≡ fault_of parity s (in_column parity k)
      = ap₂ (λ (a b : ℕ). fault (a ∷ b ∷ []) (rows_of parity)) (x.sum_0 k h) (x.sum_1 k h) in
      rw (add-one k, m.1, f)
      (more h (r && near) (fault_of parity s (in_column parity k)) refl
      (λ i v q. fault_inside (sum 0 (standing parity s k) ∷ sum 1 (standing parity s k) ∷ []) (rows_of parity) i v q)
      (ap (λ (b : Bool). b && near) (m.0 ∙ ap explained f)))
