-- The guide as a list: under each remainder the place of the word that leaves it, or 0. That each word is the only one with its remainder is one
-- test over all 256.
-- Assumes nothing.
use mathlib.Core.Path.{◌≡◌, refl, sym, ap, ◌∙◌}
use mathlib.Core.Bool.{cond}
use mathlib.Core.Logic.{◌⊎◌, inl, inr}
use mathlib.Core.List.{List, map}
use Prim.Native.Nat.{ℕ, ◌<◌, ◌≤◌, ◌%◌}
use native.Mathlib.Omega.{arith}
use borrow.Author.Tests.{lt-ltb}
use lib.Dec.{T, eqb, ltb, eqb→eq}
use lib.ListN.{length, get_or, length-map, get_or-map, get_or-eq_default}
use Rattle.outcome.specs.First.Found.{lt-or-le}
use Rattle.outcome.specs.Table.{tabulated, all_below}
use Rattle.outcome.specs.Table.Entries.{tabulated-at, length-tabulated, below}
use Rattle.words.specs.Words.{words, word_of, place_of}
use Rattle.words.specs.Words.Facts.{how_many_lem}
use Rattle.words.specs.Words.Different.{nowhere}
use Rattle.words.specs.LookUp.{Free, Guide}

unfoldable pub remainders : List ℕ
remainders = map (λ w. w % 1351) words

-- the byte whose word leaves the remainder i, and 0 where none does
unfoldable pub entry : ℕ → ℕ
entry i = cond (ltb (place_of i remainders) 256) (place_of i remainders) 0

abbrev pub table : List ℕ
table = tabulated entry 0 1351

how_many_remainders : length remainders ≡ 256
unfolding remainders
how_many_remainders = length-map words (λ w. w % 1351) ∙ how_many_lem

remainder-at : (b : ℕ) → get_or remainders b 0 ≡ word_of b % 1351
unfolding remainders
remainder-at b = get_or-map (λ w. w % 1351) words b 0

all_different : T (all_below (λ b. eqb (place_of (get_or remainders b 0) remainders) b) 256)
unfolding remainders words
all_different = tt

remainder-place : (b : ℕ) → b < 256 → place_of (word_of b % 1351) remainders ≡ b
remainder-place b h =
    ap (λ (r : ℕ). place_of r remainders) (sym (remainder-at b))
    ∙ eqb→eq (place_of (get_or remainders b 0) remainders) b (below (λ b. eqb (place_of (get_or remainders b 0) remainders) b) 256 all_different b h)

entry_of_word : (b : ℕ) → b < 256 → entry (word_of b % 1351) ≡ b
unfolding entry
entry_of_word b h = rw (remainder-place b h, lt-ltb b 256 h)

entry_free : (i : ℕ) → Free i → entry i ≡ 0
unfolding entry
entry_free i n =
    let e : place_of i remainders ≡ 256 = nowhere i remainders (λ k l p. n k (omega (arith, how_many_remainders)) (sym (remainder-at k) ∙ p)) ∙ how_many_remainders in
    rw e refl

pub guides : Guide table
guides =
    record {
      long = length-tabulated entry 0 1351;
      leads = λ b h. tabulated-at entry 1351 (word_of b % 1351) (omega arith) ∙ entry_of_word b h;
      free = λ i n. at i n (lt-or-le i 1351);
    }
  where
    at : (i : ℕ) → Free i → (i < 1351) ⊎ (1351 ≤ i) → get_or table i 0 ≡ 0
    at i n (inl l) = tabulated-at entry 1351 i l ∙ entry_free i n
    at i n (inr l) = get_or-eq_default table 0 {n = i} (omega (arith, length-tabulated entry 0 1351))
