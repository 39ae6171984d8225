-- Sector after Sector: each turn writes one more into its own part of the buffer, at the next address.
-- Assumes nothing.
use mathlib.Core.Path.{◌≡◌, refl, sym, ap, subst, ◌∙◌}
use mathlib.Core.Bool.{true}
use mathlib.Core.List.{List, [], ◌++◌}
use mathlib.Core.Logic.{◌⊎◌, inl, inr}
use Prim.Native.Nat.{ℕ, ◌+◌, ◌-◌, ◌*◌, ◌≤◌, ◌<◌}
use native.Mathlib.Numerals.{add-one}
use native.Mathlib.Omega.{arith}
use borrow.Author.Tests.{eq-eqb}
use borrow.Rule.Slice.PartMut.{mid_of, post_of, put_mid, same_len_mid, take_put, mid_len}
use lib.ListN.{length, take, drop, length-drop}
use lib.Seq.{drop-drop, length-take-le, take-take, take_at, drop_at}
use Rattle.outcome.specs.First.Found.{lt-or-le}
use Rattle.outcome.specs.Say.{Say}
use Rattle.outcome.specs.Say.Refusals.{never}
use Rattle.lists.specs.Agree.{drop-take}
use Rattle.address.specs.declared.HeaderTime.{HeaderTime}
use Rattle.address.specs.Address.{in_range}
use Rattle.address_counting.specs.Count.{room, following, after}
use Rattle.address_counting.specs.Count.OneMore.{counted}
use Rattle.data_frame.specs.DataFrame.{main_data}
use Rattle.modes.specs.Modes.{is_written}
use Rattle.writer.specs.Write.{Asked, Writes, refuses, writes}
use Rattle.batch.specs.Sectors.{sector_at}
use Rattle.batch.specs.Sectors.Apart.{sector_before}
use Rattle.carrying.specs.Carry.{DataFrames, frame_at, Carried}

-- i of n Sectors are written, and `time` is the next address
pub record Writing (n : ℕ) (w : List ℕ) (start : HeaderTime) (i : ℕ) (time : HeaderTime) (out : List ℕ) : Type 0 where
  pub upto : i ≤ n
  pub time_is : time ≡ after i start
  pub as_long : length out ≡ 2352 * n
  pub each : (k : ℕ) → k < i → Asked 1 (after k start) (main_data (frame_at k w)) (sector_at k out)

pub writing-none : (n : ℕ) (w : List ℕ) (start : HeaderTime) (old : List ℕ) → length old ≡ 2352 * n → Writing n w start 0 start old
unfolding after
writing-none n w start old l = record { upto = omega arith; time_is = refl; as_long = l; each = λ k h. absurd (omega arith) }

-- where its demands are met the writer writes what is asked for
asked_of : (time : HeaderTime) (user old : List ℕ) {a : Say} {s : List ℕ} → length old ≡ 2352 → length user ≡ 2048 → in_range time ≡ true → Writes 1 time user old a s
    → Asked 1 time user s
unfolding is_written
asked_of time user old l m r (refuses e) = never {v = []} (sym e ∙ simp (eq-eqb (length old) 2352 l, eq-eqb (length user) 2048 m, r))
asked_of time user old l m r (writes e g) = g

-- the Main Data of frame i, as it is lent
main_is : (i : ℕ) (w : List ℕ) → take (2064 * i + 12 + 2048 - (2064 * i + 12)) (drop (2064 * i + 12) w) ≡ main_data (frame_at i w)
main_is i w =
    let e : 2064 * i + 12 + 2048 - (2064 * i + 12) ≡ 2048 = omega arith in
    ap (λ (k : ℕ). take k (drop (2064 * i + 12) w)) e
    ∙ sym (ap (take 2048) (drop-take 12 2052 (drop (2064 * i) w)) ∙ take-take 2048 2052 (drop 12 (drop (2064 * i) w)) (omega arith)
    ∙ ap (take 2048) (drop-drop 12 (2064 * i) w))

main_long : (n i : ℕ) (w : List ℕ) → length w ≡ 2064 * n → i < n → length (main_data (frame_at i w)) ≡ 2048
main_long n i w l h =
    ap length (sym (main_is i w))
    ∙ length-take-le (2064 * i + 12 + 2048 - (2064 * i + 12)) (drop (2064 * i + 12) w) (omega (arith, length-drop (2064 * i + 12) w))
    ∙ omega arith

-- the part of Sector i as it is lent, and the buffer when it is back
abbrev lent : ℕ → List ℕ → List ℕ
lent i w = mid_of (2352 * i) (2352 * i + 2352 - 2352 * i) w

abbrev back : ℕ → List ℕ → List ℕ → List ℕ
back i w part = put_mid (2352 * i) (2352 * i + 2352 - 2352 * i) w part

module _ {n : ℕ} {w : List ℕ} {start : HeaderTime} (frames : DataFrames n w) (ranged : in_range start ≡ true) (fits : room n start ≡ true) {i : ℕ} {time : HeaderTime} {out : List ℕ}
    (g : Writing n w start i time out) where
  pub writing_all : n ≤ i → Carried n w start out
  writing_all h = record { as_long = g.as_long; each = λ k l. g.each k (omega (arith, g.upto)) }

  module _ (h : i < n) {a : Say} (part : List ℕ)
      (answer : Writes 1 time (take (2064 * i + 12 + 2048 - (2064 * i + 12)) (drop (2064 * i + 12) w)) (lent i out) a part)
      (long : length part ≡ length (lent i out)) where
    ends : 2352 * i + 2352 ≤ length out
    ends = omega (arith, g.as_long)

    lent_long : length (lent i out) ≡ 2352
    lent_long = mid_len (2352 * i) (2352 * i + 2352) out ends ∙ omega arith

    this : Asked 1 (after i start) (main_data (frame_at i w)) part
    this =
        subst (λ (t : HeaderTime). Asked 1 t (main_data (frame_at i w)) part) g.time_is
        (asked_of time (main_data (frame_at i w)) (lent i out) lent_long (main_long n i w frames.long h)
        (ap in_range g.time_is ∙ (counted n start ranged fits i h).in_range_lem)
        (subst (λ (u : List ℕ). Writes 1 time u (lent i out) a part) (main_is i w) answer))

    front : take (2352 * i) (back i out part) ≡ take (2352 * i) out
    front = take_put (2352 * i) (2352 * i + 2352 - 2352 * i) out part (omega (arith, ends))

    here : sector_at i (back i out part) ≡ part
    here =
        ap (take 2352) (drop_at (take (2352 * i) out) (part ++ post_of (2352 * i) (2352 * i + 2352 - 2352 * i) out) (2352 * i) (length-take-le (2352 * i) out (omega (arith, ends))))
        ∙ take_at part (post_of (2352 * i) (2352 * i + 2352 - 2352 * i) out) 2352 (long ∙ lent_long)

    pub writing_more : (next : HeaderTime) → next ≡ following time → Writing n w start (i + 1) next (back i out part)
    unfolding after
    writing_more next e =
        record {
          upto = omega arith;
          time_is = e ∙ ap following g.time_is ∙ ap (λ (k : ℕ). after k start) (sym (add-one i));
          as_long = same_len_mid (2352 * i) (2352 * i + 2352 - 2352 * i) out part long ∙ g.as_long;
          each = λ k l. each k (lt-or-le k i) l;
        }
      where
        each : (k : ℕ) → (k < i) ⊎ (i ≤ k) → k < i + 1 → Asked 1 (after k start) (main_data (frame_at k w)) (sector_at k (back i out part))
        each k (inl b) l =
            subst (λ (s : List ℕ). Asked 1 (after k start) (main_data (frame_at k w)) s) (sym (sector_before k i (back i out part) out b front)) (g.each k b)
        each k (inr b) l =
            let e : i ≡ k = omega arith in
            subst (λ (j : ℕ). Asked 1 (after j start) (main_data (frame_at j w)) (sector_at j (back i out part))) e
            (subst (λ (s : List ℕ). Asked 1 (after i start) (main_data (frame_at i w)) s) (sym here) this)
