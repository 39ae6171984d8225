-- The invariant of the loop over all counts, and the ways out of keeping a capture.
-- Assumes nothing.
use mathlib.Core.Path.{◌≡◌, refl, sym, ap, ap₂, ◌∙◌}
use mathlib.Core.Bool.{true, false}
use mathlib.Core.List.{List, [], ◌∷◌, ◌++◌, append_assoc, append-nil}
use Prim.Native.Nat.{ℕ, ◌+◌, ◌*◌, ◌/◌, ◌<◌, ◌≤◌}
use native.Mathlib.Numerals.{add-one}
use native.Mathlib.Omega.{arith}
use borrow.Author.Tests.{eq-eqb, ne_eqb}
use lib.ListN.{length, get_or, take, drop, length-append, drop_of_length-le}
use lib.Seq.{drop-cons}
use Rattle.outcome.specs.Bytes.{Bytes}
use Rattle.outcome.specs.Say.{done, refused, outcome, cleared}
use Rattle.captures.specs.Counts.{counts_of, distance, distances}
use Rattle.captures.specs.Counts.Bytes.{counts_small, length_counts}
use Rattle.captures.specs.Number.{shortest}
use Rattle.captures.specs.Kept.{written, run_list, filled, right_capture, keeping}
use Rattle.captures.specs.Kept.Lengths.{right_short}
use Rattle.captures.specs.Kept.One.{some_bytes}
use Rattle.captures.specs.Kept.Filled.{length-filled, wiped_length, filled_more, kept-from_0}
use Rattle.number_groups.specs.Put.{Puts}
use Rattle.number_groups.specs.Put.There.{PutThere, there}
use Rattle.keeping.specs.Inner.Wrote.{Ready, Wrote}

-- the numbers of counts after one with count a
unfoldable pub numbers_from : ℕ → List ℕ → List ℕ
numbers_from a cs = written (distances a cs)

-- the numbers of the first i counts are in the list, `used` bytes of it, and those of the others make up the rest
pub record Writing (capture list : List ℕ) (last used i : ℕ) : Type 0 where
  pub upto : i ≤ length capture / 2
  pub room : used ≤ 3 * i
  pub front : List ℕ
  pub count : used ≡ length front
  pub is : list ≡ filled 98304 front
  pub ahead : front ++ numbers_from last (drop i (counts_of capture)) ≡ numbers_from 0 (counts_of capture)

pub writing-none : (capture list : List ℕ) → Ready capture list → Writing capture list 0 0 0
writing-none capture list r = record { upto = omega arith; room = omega arith; front = []; count = refl; is = r.zeros; ahead = refl }

module _ {capture list : List ℕ} {last used i : ℕ} (short : length capture ≤ 65536) (w : Writing capture list last used i) where
  pub writing_long : length list ≡ 98304
  writing_long = ap length w.is ∙ length-filled 98304 w.front (omega (arith, w.room, w.upto, w.count))

  writing-room : i < length capture / 2 → used + 3 ≤ length list
  writing-room h = omega (arith, w.room, writing_long)

  pub writing_more : (count d next : ℕ) (new : List ℕ) → i < length capture / 2 → count ≡ get_or (counts_of capture) i 0
      → d ≡ distance last count → Puts used d list next new → Writing capture new count next (i + 1)
  unfolding numbers_from distances written
  writing_more count d next new h e f q =
      let p : PutThere used d list next new = there (writing-room h) q in
      let l : i < length (counts_of capture) = omega (arith, length_counts capture) in
      record {
        upto = omega arith;
        room = omega (arith, w.room, p.next, (some_bytes d).1);
        front = w.front ++ shortest d;
        count = omega (arith, w.count, p.next, length-append w.front (shortest d));
        is =
            p.is ∙ ap (λ (l : List ℕ). take used l ++ (shortest d ++ drop next l)) w.is
            ∙ filled_more 98304 w.front (shortest d) used next w.count p.next
            (omega (arith, w.room, p.next, (some_bytes d).1));
        ahead =
            append_assoc w.front (shortest d) (numbers_from count (drop (i + 1) (counts_of capture)))
            ∙ ap (λ (l : List ℕ). w.front ++ l)
            (ap₂ (λ (k c : ℕ). shortest k ++ numbers_from c (drop (i + 1) (counts_of capture))) (f ∙ ap (distance last) e) e
            ∙ ap (λ (k : ℕ). shortest (distance last (get_or (counts_of capture) i 0)) ++ numbers_from (get_or (counts_of capture) i 0) (drop k (counts_of capture))) (add-one i)
            ∙ ap (numbers_from last) (sym (drop-cons (counts_of capture) i 0 l)))
            ∙ w.ahead;
      }

  pub writing_all : Bytes capture → length capture / 2 ≤ i → Wrote capture used list
  unfolding numbers_from distances written run_list
  writing_all b h =
      let l : length (counts_of capture) ≤ i = omega (arith, length_counts capture) in
      let e : w.front ≡ run_list capture =
      sym (append-nil w.front) ∙ ap (λ (t : List ℕ). w.front ++ numbers_from last t) (sym (drop_of_length-le (counts_of capture) l)) ∙ w.ahead
      ∙ ap written (kept-from_0 (counts_of capture) (counts_small capture b)) in
      record { used = w.count ∙ ap length e; is = w.is ∙ ap (filled 98304) e }

-- ---- the ways out: the list is wiped first, and its length stays

module _ (capture old list : List ℕ) (wiped : list ≡ cleared 98304 old) where
  same : length list ≡ length old
  same = ap length wiped ∙ wiped_length 98304 old

  pub on_incoming : right_capture capture ≡ false → outcome (refused 1 []) list ≡ keeping capture old
  unfolding keeping
  on_incoming w = ap (outcome (refused 1 [])) wiped ∙ simp w

  pub on_room : right_capture capture ≡ true → (length list ≡ 98304 → ⊥) → outcome (refused 2 []) list ≡ keeping capture old
  unfolding keeping
  on_room r n = ap (outcome (refused 2 [])) wiped ∙ simp (r, ne_eqb (length old) 98304 (λ l. n (same ∙ l)))

  pub is_ready : right_capture capture ≡ true → length list ≡ 98304 → Ready capture list
  is_ready r n = record { short = right_short capture r; zeros = wiped ∙ simp (eq-eqb (length old) 98304 (sym same ∙ n)) }

  pub on_done : right_capture capture ≡ true → length list ≡ 98304 → (used : ℕ) (new : List ℕ) → Wrote capture used new
      → outcome (done (used ∷ [])) new ≡ keeping capture old
  unfolding keeping
  on_done r n used new w =
      ap₂ (λ (k : ℕ) (l : List ℕ). outcome (done (k ∷ [])) l) w.used w.is ∙ simp (r, eq-eqb (length old) 98304 (sym same ∙ n))
