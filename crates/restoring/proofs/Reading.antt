-- The invariant of the loop over all numbers, and the ways out of it.
-- Assumes nothing.
use Rattle.std.proofs.Common.{◌≡◌, ℕ, ◌+◌, ◌*◌, ◌/◌, ◌%◌, ◌<◌, ◌≤◌, List, [], ◌∷◌, ◌++◌, length, take, drop, sym, refl, ap, ◌∙◌, ap₂, append_assoc, append-nil, arith, length-append, length-drop, drop_of_length-le}
use Rattle.captures.specs.Counts.{bytes_of, Counts, onward, edges}
use Rattle.captures.specs.Number.{shortest}
use Rattle.captures.specs.Number.Leading.{leading_one, rest_one}
use Rattle.captures.specs.Kept.{written, capture_of, ListOf, filled}
use Rattle.captures.specs.Kept.One.{some_bytes}
use Rattle.captures.specs.Kept.Filled.{length-filled, filled_more, restored-from_0}
use Rattle.number_reader.specs.Leads.{Stands, NoneStands}
use Rattle.restoring.specs.Inner.Count.{Counted}
use Rattle.restoring.specs.Inner.Read.{Ready, Restored, NoList}

-- ---- numbers in front of others

counts_more : (ns : List ℕ) (n : ℕ) → Counts ns → n < 65536 → Counts (ns ++ (n ∷ []))
counts_more [] n s h = (h, tt)
counts_more (m ∷ ns) n s h = (s.0, counts_more ns n s.1 h)

written_more : (ns ms : List ℕ) → written (ns ++ ms) ≡ written ns ++ written ms
unfolding written
written_more [] ms = refl
written_more (n ∷ ns) ms = ap (λ (t : List ℕ). shortest n ++ t) (written_more ns ms) ∙ sym (append_assoc (shortest n) (written ns) (written ms))

-- what numbers are written as begins with: these numbers come first
pub record Behind (ns rest ms : List ℕ) : Type 0 where
  pub others : List ℕ
  pub all : ms ≡ ns ++ others
  pub is : rest ≡ written others

no_bytes : (n : ℕ) (l m : List ℕ) → (shortest n ++ l) ++ m ≡ [] → ⊥
no_bytes n l m e = omega (arith, ap length e, length-append (shortest n ++ l) m, length-append (shortest n) l, (some_bytes n).0)

behind : (ns rest ms : List ℕ) → written ns ++ rest ≡ written ms → Behind ns rest ms
unfolding written
behind [] rest ms e = record { others = ms; all = refl; is = e }
behind (n ∷ ns) rest [] e = absurd (no_bytes n (written ns) rest e)
behind (n ∷ ns) rest (m ∷ ms) e =
    let f = sym (append_assoc (shortest n) (written ns) rest) ∙ e in
    let b = behind ns rest ms (rest_one n m (written ns ++ rest) (written ms) f) in
    record {
      others = b.others;
      all = ap₂ ◌∷◌ (sym (leading_one n m (written ns ++ rest) (written ms) f)) b.all;
      is = b.is;
    }

-- ---- the loop

-- the numbers before place `at` are ns; their counts are in the capture, `used` bytes of it
pub record Reading (list capture : List ℕ) (last used at : ℕ) : Type 0 where
  pub upto : at ≤ length list
  pub numbers : List ℕ
  pub small : Counts numbers
  pub count : used ≡ 2 * length numbers
  pub few : used ≤ 65536
  pub is_list : list ≡ written numbers ++ drop at list
  pub front : List ℕ
  pub front_long : used ≡ length front
  pub is : capture ≡ filled 65536 front
  pub ahead : (ms : List ℕ) → bytes_of (edges 0 (numbers ++ ms)) ≡ front ++ bytes_of (edges last ms)

pub reading-none : (list capture : List ℕ) → Ready list capture → Reading list capture 0 0 0
unfolding written
reading-none list capture e =
    record {
      upto = omega arith;
      numbers = [];
      small = tt;
      count = refl;
      few = omega arith;
      is_list = refl;
      front = [];
      front_long = refl;
      is = e.zeros;
      ahead = λ ms. refl;
    }

module _ {list capture : List ℕ} {last used at : ℕ} (r : Reading list capture last used at) where
  pub reading_long : length capture ≡ 65536
  reading_long = ap length r.is ∙ length-filled 65536 r.front (omega (arith, r.few, r.front_long))

  -- the next number begins further on, and within the list
  pub reading_on : (n k : ℕ) → at < length list → Stands list at n k → (0 < k) × (at + k ≤ length list)
  reading_on n k h s = (
    omega (arith, s.taken, (some_bytes n).0),
    omega (arith, ap length s.is, length-append (shortest n) (drop (at + k) list), length-drop at list, s.taken, (some_bytes n).0),
  )

  pub reading-room : (used ≡ 65536 → ⊥) → used + 2 ≤ length capture
  reading-room n = omega (arith, r.count, r.few, reading_long)

  pub reading_more : (n k c : ℕ) (new : List ℕ) → Stands list at n k → (used ≡ 65536 → ⊥) → c ≡ onward last n → Counted used c capture new
      → Reading list new c (used + 2) (at + k)
  unfolding written edges bytes_of
  reading_more n k c new s room e w =
      record {
        upto = omega (arith, ap length s.is, length-append (shortest n) (drop (at + k) list), length-drop at list, s.taken, (some_bytes n).0);
        numbers = r.numbers ++ (n ∷ []);
        small = counts_more r.numbers n r.small s.small;
        count = omega (arith, r.count, length-append r.numbers (n ∷ []));
        few = omega (arith, r.count, r.few);
        is_list =
            r.is_list ∙ ap (λ (l : List ℕ). written r.numbers ++ l) s.is
            ∙ sym (append_assoc (written r.numbers) (shortest n) (drop (at + k) list))
            ∙ ap (λ (l : List ℕ). l ++ drop (at + k) list)
            (sym (written_more r.numbers (n ∷ []) ∙ ap (λ (l : List ℕ). written r.numbers ++ l) (append-nil (shortest n))));
        front = r.front ++ (c / 256 ∷ c % 256 ∷ []);
        front_long = omega (arith, r.front_long, length-append r.front (c / 256 ∷ c % 256 ∷ []));
        is =
            w ∙ ap (λ (l : List ℕ). take used l ++ ((c / 256 ∷ c % 256 ∷ []) ++ drop (used + 2) l)) r.is
            ∙ filled_more 65536 r.front (c / 256 ∷ c % 256 ∷ []) used (used + 2) r.front_long refl (omega (arith, r.count, r.few));
        ahead =
            λ ms.
            ap (λ (l : List ℕ). bytes_of (edges 0 l)) (append_assoc r.numbers (n ∷ []) ms) ∙ r.ahead (n ∷ ms)
            ∙ ap (λ (x : ℕ). r.front ++ (x / 256 ∷ x % 256 ∷ bytes_of (edges x ms))) (sym e)
            ∙ sym (append_assoc r.front (c / 256 ∷ c % 256 ∷ []) (bytes_of (edges c ms)));
      }

  -- what is left of the list, if it is one, is written numbers
  after : (ns : List ℕ) → ListOf ns list → Behind r.numbers (drop at list) ns
  after ns p = behind r.numbers (drop at list) ns (sym r.is_list ∙ p.is)

  all_small_lem : (ns ms os : List ℕ) → Counts ns → ns ≡ ms ++ os → Counts os
  all_small_lem ns [] os s e = transport_counts e s
    where
      transport_counts : {a b : List ℕ} → a ≡ b → Counts a → Counts b
      transport_counts p q = rw p at q
  all_small_lem [] (m ∷ ms) os s e = absurd (omega (arith, ap length e))
  all_small_lem (n ∷ ns) (m ∷ ms) os s e = all_small_lem ns ms os s.1 (ap (drop 1) e)

  pub on_malformed : at < length list → NoneStands list at → NoList list capture
  unfolding written
  on_malformed h none =
      record { none = λ ns p. let b = after ns p in go b.others b.is (all_small_lem ns r.numbers b.others p.small b.all); long = reading_long }
    where
      go : (os : List ℕ) → drop at list ≡ written os → Counts os → ⊥
      go [] e s = omega (arith, ap length e, length-drop at list)
      go (o ∷ os) e s = none o (written os) s.0 e

  pub on_many : at < length list → used ≡ 65536 → NoList list capture
  unfolding written
  on_many h e =
      record { none = λ ns p. let b = after ns p in go ns p b.others b.is b.all; long = reading_long }
    where
      go : (ns : List ℕ) → ListOf ns list → (os : List ℕ) → drop at list ≡ written os → ns ≡ r.numbers ++ os → ⊥
      go ns p [] q a = omega (arith, ap length q, length-drop at list)
      go ns p (o ∷ os) q a = omega (arith, p.few, ap length a, length-append r.numbers (o ∷ os), r.count)

  pub on_end : length list ≤ at → Restored list used capture
  unfolding capture_of edges bytes_of
  on_end h =
      let e : list ≡ written r.numbers =
      r.is_list ∙ ap (λ (l : List ℕ). written r.numbers ++ l) (drop_of_length-le list h) ∙ append-nil (written r.numbers) in
      let f : r.front ≡ capture_of r.numbers =
      sym (append-nil r.front) ∙ sym (r.ahead []) ∙ ap (λ (l : List ℕ). bytes_of (edges 0 l)) (append-nil r.numbers)
      ∙ ap bytes_of (restored-from_0 r.numbers r.small) in
      record {
        numbers = r.numbers;
        list = record { is = e; small = r.small; few = omega (arith, r.count, r.few) };
        length_is = r.front_long ∙ ap length f;
        is = r.is ∙ ap (filled 65536) f;
      }
