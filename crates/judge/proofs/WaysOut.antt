-- The ways out of judging, each with the tests that lead to it: the order of document 01.
-- Assumes nothing.
use mathlib.Core.Path.{◌≡◌, sym, ap, ◌∙◌}
use mathlib.Core.Bool.{Bool, true, false, not}
use mathlib.Core.List.{List, [], ◌∷◌}
use Prim.Native.Nat.{ℕ, ◌≤◌, ◌<◌}
use borrow.Author.Tests.{eq-eqb, ne_eqb, lt-leb, le-leb, lt-ltb, le-ltb, not-true, not-false}
use native.Mathlib.Omega.{arith}
use lib.ListN.{length, take}
use lib.Seq.{length-take-le}
use Rattle.std.specs.Prelude.{Option, Some, None}
use Rattle.outcome.specs.Say.{Say, refused}
use Rattle.outcome.specs.First.{first_below}
use Rattle.edc.specs.Bits.{bits}
use Rattle.edc.specs.Edc.{remainder, is_zero}
use Rattle.rspc.specs.Words.{p_words, q_words}
use Rattle.address.specs.Address.{in_range}
use Rattle.address.specs.declared.HeaderTime.{HeaderTime}
use Rattle.sector.specs.Layout.{sync, bytes_from, time_of, mode_of, zeros}
use Rattle.lists.specs.Same.{same}
use Rattle.rspc.specs.declared.Parity.TheVariants.{P, Q}
use Rattle.failing.specs.Failing.{failing, first_failing}
use Rattle.failing.specs.Failing.First.{some_fails, none_fails}
use Rattle.judge.specs.Judging.{passing, judging_mode01, judging_mode00, by_mode, judging}

-- ---- Mode 01: 11, 12, 13, 14

-- the bytes that the EDC covers are there
pub covered_long : (s : List ℕ) → length s ≡ 2352 → 2068 ≡ length (take 2068 s)
covered_long s l = sym (length-take-le 2068 s (omega arith))

module _ (s : List ℕ) (e : Bool) (he : e ≡ is_zero (remainder (bits (take 2068 s)))) where
  pub on_edc : not e ≡ true → refused 11 [] ≡ judging_mode01 s
  unfolding judging_mode01
  on_edc n = let d = sym he ∙ not-true e n in simp d

  module _ (ne : not e ≡ false) (i : Bool) (hi : i ≡ same (bytes_from 2068 8 s) (zeros 8)) where
    pub on_intermediate : not i ≡ true → refused 12 [] ≡ judging_mode01 s
    unfolding judging_mode01
    on_intermediate n = let d = sym he ∙ not-false e ne in let m = sym hi ∙ not-true i n in simp (d, m)

    module _ (ni : not i ≡ false) (po : Option ℕ) (hp : po ≡ first_failing P s) where
      pub on_p : (p : ℕ) → po ≡ Some p → refused 13 (p ∷ []) ≡ judging_mode01 s
      unfolding judging_mode01
      on_p p k =
          let d = sym he ∙ not-false e ne in
          let m = sym hi ∙ not-false i ni in
          let f = some_fails P s (sym hp ∙ k) in
          simp (d, m, sym f.0, lt-ltb p p_words f.1)

      module _ (np : po ≡ None) (qo : Option ℕ) (hq : qo ≡ first_failing Q s) where
        none-p : p_words ≤ first_below (failing P s) p_words
        none-p = none_fails P s (sym hp ∙ np)

        pub on_q : (q : ℕ) → qo ≡ Some q → refused 14 (q ∷ []) ≡ judging_mode01 s
        unfolding judging_mode01
        on_q q k =
            let d = sym he ∙ not-false e ne in
            let m = sym hi ∙ not-false i ni in
            let g = some_fails Q s (sym hq ∙ k) in
            simp (d, m, le-ltb (first_below (failing P s) p_words) p_words none-p, sym g.0, lt-ltb q q_words g.1)

        pub on_pass : qo ≡ None → (t : HeaderTime) → t ≡ time_of s → passing 1 t ≡ judging_mode01 s
        unfolding judging_mode01
        on_pass nq t ht =
            let d = sym he ∙ not-false e ne in
            let m = sym hi ∙ not-false i ni in
            let none-q : q_words ≤ first_below (failing Q s) q_words = none_fails Q s (sym hq ∙ nq) in
            ap (passing 1) ht
            ∙ simp (d, m, le-ltb (first_below (failing P s) p_words) p_words none-p, le-ltb (first_below (failing Q s) q_words) q_words none-q)

pub ruleset ways01 = (on_edc, on_intermediate, on_p, on_q, on_pass)

-- ---- by mode

pub in_mode00 : (m : ℕ) (s : List ℕ) (a : Say) → m ≡ 0 → a ≡ judging_mode00 s → a ≡ by_mode m s
unfolding by_mode
in_mode00 m s a e h = h ∙ simp (eq-eqb m 0 e)

pub in_mode01 : (m : ℕ) (s : List ℕ) (a : Say) → m ≡ 1 → a ≡ judging_mode01 s → a ≡ by_mode m s
unfolding by_mode
in_mode01 m s a e h = h ∙ simp (ne_eqb m 0 (λ z. omega arith), eq-eqb m 1 e)

pub in_mode02 : (m : ℕ) (s : List ℕ) (t : HeaderTime) → (m ≡ 0 → ⊥) → (m ≡ 1 → ⊥) → t ≡ time_of s → passing m t ≡ by_mode m s
unfolding by_mode
in_mode02 m s t n o ht = ap (passing m) ht ∙ simp (ne_eqb m 0 n, ne_eqb m 1 o)

-- ---- any Sector: 1, 10, 3, 4

module _ (s : List ℕ) where
  pub on_length : (length s ≡ 2352 → ⊥) → refused 1 [] ≡ judging s
  unfolding judging
  on_length n = simp (ne_eqb (length s) 2352 n)

  module _ (l : length s ≡ 2352) (y : Bool) (hy : y ≡ same (take 12 s) sync) where
    pub on_sync : not y ≡ true → refused 10 [] ≡ judging s
    unfolding judging
    on_sync n = let d = sym hy ∙ not-true y n in simp (eq-eqb (length s) 2352 l, d)

    module _ (ny : not y ≡ false) where
      pub on_mode : 2 < mode_of s → refused 3 [] ≡ judging s
      unfolding judging
      on_mode m = let d = sym hy ∙ not-false y ny in simp (eq-eqb (length s) 2352 l, d, lt-leb (mode_of s) 2 m)

      module _ (m : mode_of s ≤ 2) (t : HeaderTime) (ht : t ≡ time_of s) (r : Bool) (hr : r ≡ in_range t) where
        ranged : in_range (time_of s) ≡ r
        ranged = ap in_range (sym ht) ∙ sym hr

        pub on_address : not r ≡ true → refused 4 [] ≡ judging s
        unfolding judging
        on_address n =
            let d = sym hy ∙ not-false y ny in
            let a = ranged ∙ not-true r n in
            simp (eq-eqb (length s) 2352 l, d, le-leb (mode_of s) 2 m, a)

        pub by_mode_lem : not r ≡ false → (say : Say) → say ≡ by_mode (mode_of s) s → say ≡ judging s
        unfolding judging
        by_mode_lem n say h =
            let d = sym hy ∙ not-false y ny in
            let a = ranged ∙ not-false r n in
            h ∙ simp (eq-eqb (length s) 2352 l, d, le-leb (mode_of s) 2 m, a)

pub ruleset ways = (on_length, on_sync, on_mode, on_address, by_mode_lem)
