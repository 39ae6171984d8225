-- There is a Sector after the pass: each byte that the codewords run over is what the codeword in which it stands has there then.
-- Assumes nothing.
use Rattle.std.specs.Prelude.{◌≡◌, refl, cond, ◌⊎◌, List, ℕ, ◌<◌, ◌≤◌, ltb, length, get_or}
use Rattle.std.proofs.Math.Path.{sym}
use Rattle.std.proofs.Common.{ap₂, ◌∙◌, inl, inr, arith, length-set, ext_get_or}
use borrow.Author.Tests.{lt-ltb, le-ltb}
use Rattle.std.proofs.Math.ListN.{get_or-eq_default}
use Rattle.outcome.specs.First.Found.{lt-or-le}
use Rattle.outcome.specs.Table.{tabulated}
use Rattle.outcome.specs.Table.Entries.{length-tabulated, tabulated-at}
use Rattle.lists.specs.Agree.{same-take, same_drop}
use Rattle.codeword.specs.Nearest.{nearest, verdict, mended, found_or}
use Rattle.codeword.specs.declared.Verdict.{Verdict}
use Rattle.codeword.specs.declared.Verdict.TheVariants.{Clean, Change, Lost}
use Rattle.rspc.specs.declared.Parity.{Parity}
use Rattle.rspc.specs.Either.{words_of, rows_of, word_of, place_of, end_of}
use Rattle.rspc.specs.Either.Where.{home_of, row_in, place-from, place_to, home_of_lem, row_in_lem}
use Rattle.rspc.proofs.Either.Bytewise.{end_from, end_le, word_long, word_at}
use Rattle.rspc.specs.Pass.{after_pass, Passed}

length-handed : (w : List ℕ) → length (after_pass w) ≡ length w
unfolding nearest
length-handed w = go (verdict 2 w)
  where
    go : (v : Verdict) → length (found_or w (mended w v)) ≡ length w
    go Clean = refl
    go (Change i x) = length-set w i x
    go Lost = refl

module _ (parity : Parity) (s : List ℕ) (long : length s ≡ 2352) where
  -- byte i after the pass
  byte : ℕ → ℕ
  byte i = cond (ltb i 12) (get_or s i 0) (cond (ltb i (end_of parity)) (get_or (after_pass (word_of parity s (home_of parity i))) (row_in parity i) 0) (get_or s i 0))

  after : List ℕ
  after = tabulated byte 0 2352

  length-after : length after ≡ length s
  unfolding after
  length-after = length-tabulated byte 0 2352 ∙ sym long

  after-at : (i : ℕ) → i < 2352 → get_or after i 0 ≡ byte i
  unfolding after
  after-at i h = tabulated-at byte 2352 i h

  before_them : (i : ℕ) → i < 12 → get_or after i 0 ≡ get_or s i 0
  unfolding byte
  before_them i h = after-at i (omega arith) ∙ simp (lt-ltb i 12 h)

  behind_them : (i : ℕ) → end_of parity ≤ i → (i < 2352) ⊎ (2352 ≤ i) → get_or after i 0 ≡ get_or s i 0
  unfolding byte
  behind_them i h (inl l) =
      after-at i l ∙ simp (le-ltb i 12 (omega (arith, end_from parity)), le-ltb i (end_of parity) h)
  behind_them i h (inr l) =
      get_or-eq_default after 0 (omega (arith, length-after)) ∙ sym (get_or-eq_default s 0 (omega arith))

  byte_in_lem : (i : ℕ) → 12 ≤ i → i < end_of parity → byte i ≡ get_or (after_pass (word_of parity s (home_of parity i))) (row_in parity i) 0
  unfolding byte
  byte_in_lem i l h = simp (le-ltb i 12 l, lt-ltb i (end_of parity) h)

  in_them : (n m : ℕ) → n < words_of parity → m < rows_of parity → get_or after (place_of parity n m) 0 ≡ get_or (after_pass (word_of parity s n)) m 0
  in_them n m h k =
      after-at (place_of parity n m) (omega (arith, place_to parity n m h k, end_le parity))
      ∙ byte_in_lem (place_of parity n m) (place-from parity n m) (place_to parity n m h k)
      ∙ ap₂ (λ (a b : ℕ). get_or (after_pass (word_of parity s a)) b 0) (home_of_lem parity n m h k) (row_in_lem parity n m h k)

  pub passed_some : (t : List ℕ) × Passed parity s t
  passed_some = (
    after,
    record {
      long = length-after;
      before = same-take 12 after s length-after before_them;
      after = same_drop (end_of parity) after s length-after (λ i h. behind_them i h (lt-or-le i 2352));
      words = λ n h.
          ext_get_or 0 (word_of parity after n) (after_pass (word_of parity s n))
          (word_long parity after n ∙ sym (length-handed (word_of parity s n) ∙ word_long parity s n))
          (λ m l.
          let k : m < rows_of parity = omega (arith, word_long parity after n) in
          word_at parity after n m k ∙ in_them n m h k);
    },
  )
