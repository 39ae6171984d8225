-- Where each P codeword has one near, what is made is a candidate; where one has none, nothing is near at all.
-- Assumes nothing.
use Rattle.std.proofs.Math.Path.{◌≡◌, subst}
use Rattle.std.specs.Prelude.{refl, false, ℕ, ◌<◌, ◌≤◌, T, length}
use Rattle.std.proofs.Common.{sym}
use Rattle.std.proofs.Math.Bool.{true}
use mathlib.Core.List.{List}
use Rattle.std.proofs.Math.Option.{Option, none, some}
use native.Mathlib.Omega.{arith}
use Rattle.outcome.specs.Bytes.{Bytes}
use Rattle.outcome.specs.Table.Entries.{below, all_below_lem, true_of, of_true}
use Rattle.codeword.specs.Code.{Near}
use Rattle.codeword.specs.Nearest.{nearest, found_or, is_found}
use Rattle.codeword.specs.Nearest.Finds.{nearest_sound, nearest_complete}
use Rattle.rspc.specs.Words.{p_word}
use Rattle.rspc.specs.Words.P.{length_p, p_same, bytes_p}
use Rattle.rspc.specs.declared.Parity.TheVariants.{P}
use Rattle.rspc.specs.Pass.{after_pass, Passed}
use Rattle.rspc.specs.PassInPlace.{each_near}
use Rattle.candidates.specs.Candidate.{Made, Candidate}

-- ---- a codeword that was found is near, and one that is near is found

found-near : (w : List ℕ) → Bytes w → T (is_found (nearest 2 w)) → Near 2 w (after_pass w)
found-near w h t = go (nearest 2 w) refl t
  where
    go : (o : Option (List ℕ)) → nearest 2 w ≡ o → T (is_found o) → Near 2 w (found_or w o)
    go none e t = absurd t
    go (some c) e t = nearest_sound 2 w h c e

near-found : (w c : List ℕ) → Bytes w → length w ≤ 255 → Near 2 w c → T (is_found (nearest 2 w))
near-found w c h l n = subst (λ (o : Option (List ℕ)). T (is_found o)) (sym (nearest_complete 2 w h (omega arith) l c n)) tt

module _ (r : List ℕ) (bytes : Bytes r) where
  -- the pass found all: then each P codeword is the near one
  passed_near : (t : List ℕ) → Passed P r t → each_near P r ≡ true → (n : ℕ) → n < 86 → Near 2 (p_word r n) (p_word t n)
  unfolding each_near
  passed_near t p e n h =
      subst (λ (w : List ℕ). Near 2 (p_word r n) w) (sym (p.words n h))
      (found-near (p_word r n) (bytes_p r n bytes) (below (λ n. is_found (nearest 2 (p_word r n))) 86 (of_true _ e) n h))

  -- it did not find all: then no Sector has each of its P codewords near
  pub not_all : each_near P r ≡ false → (s : List ℕ) → ((n : ℕ) → n < 86 → Near 2 (p_word r n) (p_word s n)) → ⊥
  unfolding each_near
  not_all e s g =
      let t : each_near P r ≡ true =
      true_of _ (all_below_lem (λ n. is_found (nearest 2 (p_word r n))) 86
      (λ n h. near-found (p_word r n) (p_word s n) (bytes_p r n bytes) (omega (arith, length_p r n)) (g n h))) in
      let z : ◌≡◌ {A = ℕ} 0 1 = cc in omega arith

  -- so what is made where each had one near is a candidate
  pub made_candidate : (s : List ℕ) → Made r s → each_near P r ≡ true → Candidate r s
  made_candidate s m e =
      record {
        long = m.tried.long;
        bytes = m.tried.bytes;
        synced = m.tried.synced;
        p = λ n h.
            subst (λ (w : List ℕ). Near 2 (p_word r n) w) (sym (p_same s m.mended n h m.tried.covered))
            (passed_near m.mended m.passed e n h);
        q = m.tried.q;
      }
