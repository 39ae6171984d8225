-- What a Sector is once its EDC and its parities are put in.
-- Assumes nothing.
use mathlib.Core.Path.{◌≡◌, sym, ap, ◌∙◌, subst}
use mathlib.Core.List.{List, ◌++◌}
use Prim.Native.Nat.{ℕ, ◌+◌}
use native.Mathlib.Omega.{arith}
use lib.ListN.{length, take, drop, length-append, length-drop}
use lib.Seq.{take-take, take_at, drop_at, take-append-add, drop-append-add, length-take-le}
use Rattle.codeword.specs.Code.{Codeword}
use Rattle.edc.specs.Edc.{Divisible, edc}
use Rattle.edc.specs.Edc.Right.{edc-right, length-edc}
use Rattle.rspc.specs.Words.{SameCovered}
use Rattle.rspc.specs.Words.P.{p_same}
use Rattle.lists.specs.Agree.{same-front, same-within}
use Rattle.rspc.specs.Put.{PPut, QPut}
use Rattle.sector_fields.specs.Protect.{Protects}

-- with the EDC in place
abbrev pub with_edc : List ℕ → List ℕ
with_edc l = take 2064 l ++ (edc (take 2064 l) ++ drop 2068 l)

module _ (l : List ℕ) (long : length l ≡ 2352) where
  length_before : length (take 2064 l) ≡ 2064
  length_before = length-take-le 2064 l (omega arith)

  pub length-with : length (with_edc l) ≡ 2352
  length-with =
      omega (
        arith,
        length_before,
        length-edc (take 2064 l),
        length-append (take 2064 l) (edc (take 2064 l) ++ drop 2068 l),
        length-append (edc (take 2064 l)) (drop 2068 l),
        length-drop 2068 l,
      )

  edc_in : take 2068 (with_edc l) ≡ take 2064 l ++ edc (take 2064 l)
  edc_in =
      ap (λ (n : ℕ). take (n + 4) (with_edc l)) (sym length_before) ∙ take-append-add (take 2064 l) (edc (take 2064 l) ++ drop 2068 l) 4
      ∙ ap (λ (w : List ℕ). take 2064 l ++ w) (take_at (edc (take 2064 l)) (drop 2068 l) 4 (length-edc (take 2064 l)))

  after-edc : drop 2068 (with_edc l) ≡ drop 2068 l
  after-edc =
      ap (λ (n : ℕ). drop (n + 4) (with_edc l)) (sym length_before) ∙ drop-append-add (take 2064 l) (edc (take 2064 l) ++ drop 2068 l) 4
      ∙ drop_at (edc (take 2064 l)) (drop 2068 l) 4 (length-edc (take 2064 l))

  -- with the P parity and then the Q parity put in
  pub protects : (u t : List ℕ) → PPut (with_edc l) u → QPut u t → Protects l t
  protects u t p q =
      record {
        long = q.long ∙ p.long ∙ length-with;
        before = sym (take-take 2064 2076 t (omega arith)) ∙ ap (take 2064) first ∙ take-take 2064 2076 (with_edc l) (omega arith)
            ∙ take_at (take 2064 l) (edc (take 2064 l) ++ drop 2068 l) 2064 length_before;
        between = same-within 2068 8 t (with_edc l) first ∙ ap (take 8) after-edc;
        edc = subst (λ (w : List ℕ). Divisible w) (sym edc-kept) (edc-right (take 2064 l));
        p = λ n h. subst (λ (w : List ℕ). Codeword 2 w) (p_same u t n h covered) (p.words n h);
        q = q.words;
      }
    where
      first : take 2076 t ≡ take 2076 (with_edc l)
      first = sym (take-take 2076 2248 t (omega arith)) ∙ ap (take 2076) q.before ∙ take-take 2076 2248 u (omega arith) ∙ p.before

      edc-kept : take 2068 t ≡ take 2064 l ++ edc (take 2064 l)
      edc-kept = sym (take-take 2068 2076 t (omega arith)) ∙ ap (take 2068) first ∙ take-take 2068 2076 (with_edc l) (omega arith) ∙ edc_in

      covered : SameCovered u t
      covered i a b = sym (same-front 2248 t u q.before i b)
