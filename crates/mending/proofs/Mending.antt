-- A codeword mended in place: what its fault does to it and to the other codewords of its parity.
-- Assumes nothing.
use mathlib.Core.Path.{◌≡◌, refl, sym, ap, ◌∙◌}
use mathlib.Core.List.{List, [], ◌∷◌}
use Prim.Native.Nat.{ℕ, ◌<◌}
use native.Mathlib.Decide.{ℕ_discrete}
use native.Mathlib.Omega.{arith}
use lib.ListN.{length, get_or, set, length-set}
use lib.Seq.{ext_get_or, get_or-set_same, get_or-set_other}
use Rattle.codeword.specs.Code.{sum, sums}
use Rattle.codeword.specs.Nearest.{nearest, mended, found_or, is_found}
use Rattle.codeword.specs.Fault.{fault, cure}
use Rattle.codeword.specs.Fault.Decides.{nearest_by_sums}
use Rattle.codeword.specs.declared.Fault.{Fault}
use Rattle.codeword.specs.declared.Fault.TheVariants.{Clean, At, Lost}
use Rattle.rspc.specs.declared.Parity.{Parity}
use Rattle.rspc.specs.Either.{words_of, rows_of, word_of, place_of}
use Rattle.rspc.specs.Either.Where.{home_of, row_in, place_to, home_of_lem, row_in_lem}
use Rattle.rspc.proofs.Either.Bytewise.{end_le, word_long, word_at}
use Rattle.rspc.specs.Pass.{after_pass}
use Rattle.word_mending.specs.Mend.{explained}

-- ---- one byte of one word set

module _ (parity : Parity) (s : List ℕ) (n i v : ℕ) (long : length s ≡ 2352) (hn : n < words_of parity) (hi : i < rows_of parity) where
  pub set_word : word_of parity (set s (place_of parity n i) v) n ≡ set (word_of parity s n) i v
  set_word =
      ext_get_or 0 (word_of parity (set s (place_of parity n i) v) n) (set (word_of parity s n) i v)
      (word_long parity (set s (place_of parity n i) v) n ∙ sym (word_long parity s n) ∙ sym (length-set (word_of parity s n) i v))
      (λ r l. at r (omega (arith, word_long parity (set s (place_of parity n i) v) n)) (ℕ_discrete r i))
    where
      at : (r : ℕ) → r < rows_of parity → Dec (r ≡ i)
          → get_or (word_of parity (set s (place_of parity n i) v) n) r 0 ≡ get_or (set (word_of parity s n) i v) r 0
      at r l (yes e) =
          word_at parity (set s (place_of parity n i) v) n r l ∙ ap (λ (k : ℕ). get_or (set s (place_of parity n i) v) (place_of parity n k) 0) e
          ∙ get_or-set_same s (place_of parity n i) v 0 (omega (arith, place_to parity n i hn hi, end_le parity))
          ∙ sym (get_or-set_same (word_of parity s n) i v 0 (omega (arith, word_long parity s n)))
          ∙ ap (λ (k : ℕ). get_or (set (word_of parity s n) i v) k 0) (sym e)
      at r l (no d) =
          word_at parity (set s (place_of parity n i) v) n r l
          ∙ get_or-set_other s (place_of parity n i) (place_of parity n r) v 0
          (λ e. d (sym (row_in_lem parity n r hn l) ∙ ap (row_in parity) e ∙ row_in_lem parity n i hn hi))
          ∙ sym (word_at parity s n r l) ∙ sym (get_or-set_other (word_of parity s n) i r v 0 d)

  pub set_other : (m : ℕ) → m < words_of parity → (m ≡ n → ⊥) → word_of parity (set s (place_of parity n i) v) m ≡ word_of parity s m
  set_other m hm d =
      ext_get_or 0 (word_of parity (set s (place_of parity n i) v) m) (word_of parity s m)
      (word_long parity (set s (place_of parity n i) v) m ∙ sym (word_long parity s m))
      (λ r l.
      let k : r < rows_of parity = omega (arith, word_long parity (set s (place_of parity n i) v) m) in
      word_at parity (set s (place_of parity n i) v) m r k
      ∙ get_or-set_other s (place_of parity n i) (place_of parity m r) v 0
      (λ e. d (sym (home_of_lem parity m r hm k) ∙ ap (home_of parity) e ∙ home_of_lem parity n i hn hi)) ∙ sym (word_at parity s m r k))

-- ---- a fault

-- the fault of a codeword, by its sums
abbrev pub fault_of : Parity → List ℕ → ℕ → Fault
fault_of parity s n = fault (sum 0 (word_of parity s n) ∷ sum 1 (word_of parity s n) ∷ []) (rows_of parity)

pub found_by_fault : (parity : Parity) (s : List ℕ) (n : ℕ) → is_found (nearest 2 (word_of parity s n)) ≡ explained (fault_of parity s n)
found_by_fault parity s n =
    ap is_found (nearest_by_sums 2 (word_of parity s n) (omega arith))
    ∙ ap (λ (k : ℕ). is_found (mended (word_of parity s n) (cure (word_of parity s n) (fault (sums 2 (word_of parity s n)) k)))) (word_long parity s n)
    ∙ go (fault_of parity s n)
  where
    go : (f : Fault) → is_found (mended (word_of parity s n) (cure (word_of parity s n) f)) ≡ explained f
    go Clean = refl
    go (At i e) = refl
    go Lost = refl

-- a word as its fault has it mended
abbrev pub cured : List ℕ → Fault → List ℕ
cured w f = found_or w (mended w (cure w f))

pub handed_by_fault : (parity : Parity) (s : List ℕ) (n : ℕ) → after_pass (word_of parity s n) ≡ cured (word_of parity s n) (fault_of parity s n)
handed_by_fault parity s n =
    ap (found_or (word_of parity s n)) (nearest_by_sums 2 (word_of parity s n) (omega arith))
    ∙ ap (λ (k : ℕ). cured (word_of parity s n) (fault (sums 2 (word_of parity s n)) k)) (word_long parity s n)
