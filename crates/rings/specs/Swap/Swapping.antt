-- The loop that swaps, on all inputs: what is done stands in front, and the step that is left behind it; together they are the step.
-- Assumes nothing.
use Rattle.std.specs.Prelude.{◌≡◌, refl, ◌⊎◌, Bool, false, ◌&&◌, ℕ, ◌+◌, ◌-◌, ◌≤◌, ◌<◌, ltb, leb, length, drop, get_or, set}
use Rattle.std.proofs.Math.Path.{sym, ap}
use Rattle.std.proofs.Common.{ap₂, ◌∙◌, inl, inr, ⊎_elim, add-one, arith, le-ltb, length-drop, drop_of_length-le, take-append-drop, take-suc, take-suc-set, drop-set-lt, take-add}
use Rattle.std.proofs.Math.Bool.{and-false}
use mathlib.Core.List.{List, [], ◌∷◌, ◌++◌, append_assoc}
use Rattle.std.proofs.lemmas.Bool.{lt-leb}
use Rattle.std.proofs.Math.ListN.{take, length-set}
use Rattle.std.proofs.lemmas.List.{drop-set-add, take-set-le}
use Rattle.std.proofs.Math.Seq.{take-set-lt, append_snoc}
use Rattle.outcome.specs.First.Found.{lt-or-le}
use Rattle.rings.specs.Swap.{row_fits, rings_out, rings_next}
use Rattle.rings.specs.Swap.Rest.{first-left, out_still, next_still, out_ring, next_ring, out_stop, next_stop}

pub record Swapping (ds ps s₀ w₀ s w : List ℕ) (base at k : ℕ) : Type 0 where
  pub low : k ≤ length ds
  pub low_word : k ≤ length w₀
  pub few : at ≤ k
  pub inside : base ≤ length s
  pub store_len : length s ≡ length s₀
  pub word_len : length w ≡ length w₀
  pub next : rings_next ds ps s₀ w₀ ≡ take base s ++ rings_next (drop k ds) (drop at ps) (drop base s) (drop k w)
  pub out : rings_out ds ps s₀ w₀ ≡ take k w ++ rings_out (drop k ds) (drop at ps) (drop base s) (drop k w)

pub begin : (ds ps s w : List ℕ) → Swapping ds ps s w s w 0 0 0
begin ds ps s w =
    record {
      low = omega arith;
      low_word = omega arith;
      few = omega arith;
      inside = omega arith;
      store_len = refl;
      word_len = refl;
      next = refl;
      out = refl;
    }

module _ {ds ps s₀ w₀ s w : List ℕ} {base at k : ℕ} (g : Swapping ds ps s₀ w₀ s w base at k) (h : k < length ds) (hw : k < length w₀) where
  in_word : k < length w
  in_word = omega (arith, g.word_len)

  -- a row that does not wait goes on as it is
  pub pass : get_or ds k 0 ≡ 0 → Swapping ds ps s₀ w₀ s w base at (k + 1)
  pass z =
      record {
        low = omega arith;
        low_word = omega arith;
        few = omega (arith, g.few);
        inside = g.inside;
        store_len = g.store_len;
        word_len = g.word_len;
        next = g.next ∙ ap (λ (t : List ℕ). take base s ++ t) (next_still ds ps k at h z (drop base s) w in_word);
        out =
            g.out
            ∙ ap (λ (t : List ℕ). take k w ++ t) (out_still ds ps k at h z (drop base s) w in_word)
            ∙ sym (append_snoc (take k w) (get_or w k 0) (rings_out (drop (k + 1) ds) (drop at ps) (drop base s) (drop (k + 1) w)))
            ∙ ap (λ (t : List ℕ). t ++ rings_out (drop (k + 1) ds) (drop at ps) (drop base s) (drop (k + 1) w))
            (sym (take-suc w k 0 in_word) ∙ ap (λ (n : ℕ). take n w) (sym (add-one k)));
      }

  -- a row that waits d steps
  module _ (d p : ℕ) (is-d : d ≡ get_or ds k 0) (pos : 0 < d) (is-p : p ≡ get_or ps at 0) where
    -- it does not fit: the step ends here
    module _ (no : row_fits d (drop at ps) (drop base s) ≡ false) where
      stop_out : w ≡ rings_out ds ps s₀ w₀
      stop_out =
          sym (g.out ∙ ap (λ (t : List ℕ). take k w ++ t) (out_stop ds ps k at d h is-d pos base s w in_word no) ∙ take-append-drop k w)

      stop_next : s ≡ rings_next ds ps s₀ w₀
      stop_next =
          sym (g.next ∙ ap (λ (t : List ℕ). take base s ++ t) (next_stop ds ps k at d h is-d pos base s w in_word no) ∙ take-append-drop base s)

      stop : (w ≡ rings_out ds ps s₀ w₀) × (s ≡ rings_next ds ps s₀ w₀)
      stop = (stop_out, stop_next)

    pub no_place : length ps ≤ at → (w ≡ rings_out ds ps s₀ w₀) × (s ≡ rings_next ds ps s₀ w₀)
    no_place l =
        stop
        (ap (λ (b : Bool). b && (ltb (get_or (drop at ps) 0 0) d && leb d (length (drop base s))))
        (le-ltb 0 (length (drop at ps)) (omega (arith, length-drop at ps))))

    pub past_ring : d ≤ p → (w ≡ rings_out ds ps s₀ w₀) × (s ≡ rings_next ds ps s₀ w₀)
    past_ring l =
        stop
        (ap (λ (b : Bool). ltb 0 (length (drop at ps)) && (b && leb d (length (drop base s))))
        (le-ltb (get_or (drop at ps) 0 0) d (omega (arith, first-left at ps)))
        ∙ and-false (ltb 0 (length (drop at ps))))

    pub cut_ring : length s - base < d → (w ≡ rings_out ds ps s₀ w₀) × (s ≡ rings_next ds ps s₀ w₀)
    cut_ring l =
        stop
        (ap (λ (b : Bool). ltb 0 (length (drop at ps)) && (ltb (get_or (drop at ps) 0 0) d && b))
        (lt-leb d (length (drop base s)) (omega (arith, length-drop base s)))
        ∙ ap (λ (b : Bool). ltb 0 (length (drop at ps)) && b) (and-false (ltb (get_or (drop at ps) 0 0) d))
        ∙ and-false (ltb 0 (length (drop at ps))))

    -- it fits
    module _ (ha : at < length ps) (l : p < d) (hs : d ≤ length s - base) where
      room : base + d ≤ length s
      room = omega (arith, g.inside)

      abbrev x : ℕ
      x = get_or w k 0

      abbrev y : ℕ
      y = get_or s (base + p) 0

      left_out : List ℕ
      left_out = rings_out (drop (k + 1) ds) (drop (at + 1) ps) (drop (base + d) s) (drop (k + 1) w)

      left-next : List ℕ
      left-next = rings_next (drop (k + 1) ds) (drop (at + 1) ps) (drop (base + d) s) (drop (k + 1) w)

      out_more : rings_out ds ps s₀ w₀ ≡ take k w ++ (y ∷ left_out)
      unfolding left_out
      out_more =
          g.out
          ∙ ap (λ (t : List ℕ). take k w ++ t) (out_ring ds ps k at d h is-d pos base s w in_word ha (omega arith) room)
          ∙ ap (λ (n : ℕ). take k w ++ (get_or s (base + n) 0 ∷ rings_out (drop (k + 1) ds) (drop (at + 1) ps) (drop (base + d) s) (drop (k + 1) w))) (sym is-p)

      next_more : rings_next ds ps s₀ w₀ ≡ take base s ++ (set (take d (drop base s)) p x ++ left-next)
      unfolding left-next
      next_more =
          g.next
          ∙ ap (λ (t : List ℕ). take base s ++ t) (next_ring ds ps k at d h is-d pos base s w in_word ha (omega arith) room)
          ∙ ap (λ (n : ℕ). take base s ++ (set (take d (drop base s)) n x ++ rings_next (drop (k + 1) ds) (drop (at + 1) ps) (drop (base + d) s) (drop (k + 1) w)))
          (sym is-p)

      w_behind : drop (k + 1) (set w k y) ≡ drop (k + 1) w
      w_behind = drop-set-lt (k + 1) w k y (omega arith)

      w_front : take (k + 1) (set w k y) ≡ take k w ++ (y ∷ [])
      w_front = ap (λ (n : ℕ). take n (set w k y)) (add-one k) ∙ take-suc-set w k y in_word

      s-behind : drop (base + d) (set s (base + p) x) ≡ drop (base + d) s
      s-behind = drop-set-lt (base + d) s (base + p) x (omega arith)

      s-front : take (base + d) (set s (base + p) x) ≡ take base s ++ set (take d (drop base s)) p x
      s-front =
          take-add base d (set s (base + p) x)
          ∙ ap₂ (λ (t u : List ℕ). t ++ take d u) (take-set-le base s (base + p) x (omega arith)) (drop-set-add base s p x)
          ∙ ap (λ (t : List ℕ). take base s ++ t) (take-set-lt d (drop base s) p x l)

      pub hit : Swapping ds ps s₀ w₀ (set s (base + p) (get_or w k 0)) (set w k (get_or s (base + p) 0)) (base + d) (at + 1) (k + 1)
      unfolding left_out left-next
      hit =
          record {
            low = omega arith;
            low_word = omega arith;
            few = omega (arith, g.few);
            inside = omega (arith, room, length-set s (base + p) x);
            store_len = length-set s (base + p) x ∙ g.store_len;
            word_len = length-set w k y ∙ g.word_len;
            next =
                next_more
                ∙ sym (append_assoc (take base s) (set (take d (drop base s)) p x) left-next)
                ∙ sym (ap₂ (λ (t u : List ℕ). t ++ rings_next (drop (k + 1) ds) (drop (at + 1) ps) u (drop (k + 1) w)) s-front s-behind)
                ∙ ap (λ (t : List ℕ). take (base + d) (set s (base + p) x) ++ rings_next (drop (k + 1) ds) (drop (at + 1) ps) (drop (base + d) (set s (base + p) x)) t)
                (sym w_behind);
            out =
                out_more
                ∙ sym (append_snoc (take k w) y left_out)
                ∙ sym (ap₂ (λ (t u : List ℕ). t ++ rings_out (drop (k + 1) ds) (drop (at + 1) ps) (drop (base + d) s) u) w_front w_behind)
                ∙ ap (λ (t : List ℕ). take (k + 1) (set w k y) ++ rings_out (drop (k + 1) ds) (drop (at + 1) ps) t (drop (k + 1) (set w k y))) (sym s-behind);
          }

-- ---- the end

none_out : (ds ps s w : List ℕ) → (ds ≡ []) ⊎ (w ≡ []) → rings_out ds ps s w ≡ w
unfolding rings_out
none_out [] ps s w h = refl
none_out (d ∷ ds) ps s [] h = refl
none_out (d ∷ ds) ps s (x ∷ w) (inl e) = let z : ◌≡◌ {A = ℕ} 0 1 = cc in absurd (omega arith)
none_out (d ∷ ds) ps s (x ∷ w) (inr e) = let z : ◌≡◌ {A = ℕ} 0 1 = cc in absurd (omega arith)

none-next : (ds ps s w : List ℕ) → (ds ≡ []) ⊎ (w ≡ []) → rings_next ds ps s w ≡ s
unfolding rings_next
none-next [] ps s w h = refl
none-next (d ∷ ds) ps s [] h = refl
none-next (d ∷ ds) ps s (x ∷ w) (inl e) = let z : ◌≡◌ {A = ℕ} 0 1 = cc in absurd (omega arith)
none-next (d ∷ ds) ps s (x ∷ w) (inr e) = let z : ◌≡◌ {A = ℕ} 0 1 = cc in absurd (omega arith)

pub spent : (ds w : List ℕ) (k : ℕ) → length ds - (length ds - length w) ≤ k → (drop k ds ≡ []) ⊎ (drop k w ≡ [])
spent ds w k h = ⊎_elim
    (λ (l : k < length ds). inr (drop_of_length-le w {i = k} (omega arith)))
    (λ (l : length ds ≤ k). inl (drop_of_length-le ds l))
    (lt-or-le k (length ds))

module _ {ds ps s₀ w₀ s w : List ℕ} {base at k : ℕ} (g : Swapping ds ps s₀ w₀ s w base at k) (h : length ds - (length ds - length w₀) ≤ k) where
  over : (drop k ds ≡ []) ⊎ (drop k w ≡ [])
  over = spent ds w k (omega (arith, g.word_len))

  pub all_out : w ≡ rings_out ds ps s₀ w₀
  all_out = sym (g.out ∙ ap (λ (t : List ℕ). take k w ++ t) (none_out (drop k ds) (drop at ps) (drop base s) (drop k w) over) ∙ take-append-drop k w)

  pub all_next : s ≡ rings_next ds ps s₀ w₀
  all_next = sym (g.next ∙ ap (λ (t : List ℕ). take base s ++ t) (none-next (drop k ds) (drop at ps) (drop base s) (drop k w) over) ∙ take-append-drop base s)
