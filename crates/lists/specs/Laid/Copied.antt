-- A list that stands between the first places of another and its last ones is laid into it, as a copy into a lent part leaves it.
-- Assumes nothing.
use Rattle.std.specs.Prelude.{◌≡◌, List, ◌++◌, ℕ, ◌+◌, ◌-◌, ◌≤◌, length, get_or, take, drop}
use Rattle.std.proofs.Common.{sym, ap, ap₂, ◌∙◌, arith, length-append, length-drop, get_or-take, get_or-drop, get_or-append-add, length-take-le}
use Rattle.std.proofs.Math.ListN.{get_or-append}
use Rattle.lists.specs.Laid.{Laid}

-- q between a list's first a places and those from e on
pub laid : (a e : ℕ) (q s : List ℕ) → a + length q ≡ e → e ≤ length s → Laid a q s (take a s ++ (q ++ drop e s))
laid a e q s g h =
    let front : length (take a s) ≡ a = length-take-le a s (omega arith) in
    record {
      long =
          length-append (take a s) (q ++ drop e s) ∙ ap₂ (λ (m n : ℕ). m + n) front (length-append q (drop e s))
          ∙ omega (arith, length-drop e s);
      before = λ i l. get_or-append (take a s) (q ++ drop e s) 0 i (omega arith) ∙ get_or-take a s i 0 l;
      inside = λ k l.
          ap (λ (n : ℕ). get_or (take a s ++ (q ++ drop e s)) (n + k) 0) (sym front) ∙ get_or-append-add (take a s) (q ++ drop e s) k 0
          ∙ get_or-append q (drop e s) 0 k l;
      after = λ i l.
          let there : i ≡ length (take a s) + (length q + (i - e)) = omega arith in
          let back : e + (i - e) ≡ i = omega arith in
          ap (λ (n : ℕ). get_or (take a s ++ (q ++ drop e s)) n 0) there ∙ get_or-append-add (take a s) (q ++ drop e s) (length q + (i - e)) 0
          ∙ get_or-append-add q (drop e s) (i - e) 0 ∙ get_or-drop e s (i - e) 0 ∙ ap (λ (n : ℕ). get_or s n 0) back;
    }
