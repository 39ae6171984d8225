-- Where each place is below its row's wait, three turns with Q and P between them are a step of the writer on the lines that the rings stand for, once all places
-- go on.
-- Assumes nothing.
use Rattle.std.specs.Prelude.{ℕ, ◌≤◌, ◌≡◌, true, length, drop}
use Rattle.std.proofs.Math.Path.{refl, sym, ap, ap₂, subst}
use Rattle.std.proofs.Common.{◌∙◌, take-append-drop, drop-drop}
use mathlib.Core.List.{List, [], ◌++◌, append_assoc, append-nil}
use native.Mathlib.Omega.{arith}
use Rattle.std.proofs.Math.ListN.{take, length-append, length-drop}
use Rattle.std.proofs.Math.Seq.{length-take-le}
use Rattle.lines.specs.Delay.{total}
use Rattle.rings.specs.Rings.{waits, below, onward, unrolled_all}
use Rattle.rings.specs.Rings.Places.{InPlace, below_in_place, in_place_parts}
use Rattle.rings.specs.Swap.{rings_out, rings_next}
use Rattle.rings.specs.Swap.Lines.{length_rings_out}
use Rattle.rings.specs.Stage.{Stands, Turned}
use Rattle.rings.specs.Stage.Turn.{turned, turned-store}
use Rattle.rings.specs.Stage.Chain.{chain_out_lem, chain_next_lem}
use Rattle.circ.specs.Rows.{placed, before_c2, between, after_c1, inverted}
use Rattle.circ.specs.Chains.{with_q, with_p, writer_out, writer_next}
use Rattle.circ.specs.Codes.{parity_between, q_of, p_of}
use Rattle.circ.specs.Codes.Parities.{four_bytes}
use Rattle.circ.specs.Rings.{writer_waits}
use Rattle.circ_encoding.specs.Encoding.{c2_filled, store_at_c2, c1_filled, store_at_c1, encoded, store_after}

length-with_q : (w : List ℕ) → length w ≡ 28 → length (with_q q_of w) ≡ 28
unfolding with_q q_of
length-with_q w e =
    omega (
      arith,
      length-append (take 12 w) (parity_between (take 12 w) (drop 16 w) ++ drop 16 w),
      length-append (parity_between (take 12 w) (drop 16 w)) (drop 16 w),
      length-take-le 12 w (omega arith),
      four_bytes (take 12 w) (drop 16 w),
      length-drop 16 w,
    )

length-with_p : (w : List ℕ) → length w ≡ 28 → length (with_p p_of w) ≡ 32
unfolding with_p p_of
length-with_p w e = omega (arith, length-append w (parity_between w []), four_bytes w [])

module _ (ps s : List ℕ) (many : length ps ≡ 55) (long : length s ≡ 1552) (legal : below (waits writer_waits) ps ≡ true) where
  -- ---- the places and the parts of the store

  p₁ : List ℕ
  p₁ = take 12 ps

  p₂ : List ℕ
  p₂ = take 27 (drop 12 ps)

  p₃ : List ℕ
  p₃ = drop 39 ps

  s₁ : List ℕ
  s₁ = take 24 s

  s₂ : List ℕ
  s₂ = take 1512 (drop 24 s)

  s₃ : List ℕ
  s₃ = drop 1536 s

  all_places : ps ≡ p₁ ++ (p₂ ++ p₃)
  unfolding p₁ p₂ p₃
  all_places =
      sym (take-append-drop 12 ps)
      ∙ ap (λ (t : List ℕ). take 12 ps ++ t) (sym (take-append-drop 27 (drop 12 ps)) ∙ ap (λ (t : List ℕ). take 27 (drop 12 ps) ++ t) (drop-drop 27 12 ps))

  all_bytes : s ≡ s₁ ++ (s₂ ++ s₃)
  unfolding s₁ s₂ s₃
  all_bytes =
      sym (take-append-drop 24 s)
      ∙ ap (λ (t : List ℕ). take 24 s ++ t) (sym (take-append-drop 1512 (drop 24 s)) ∙ ap (λ (t : List ℕ). take 1512 (drop 24 s) ++ t) (drop-drop 1512 24 s))

  in_place : InPlace writer_waits ps
  unfolding waits writer_waits before_c2 between after_c1
  in_place = below_in_place writer_waits ps many legal

  legal₁ : InPlace before_c2 p₁
  unfolding p₁ waits writer_waits before_c2
  legal₁ = (in_place_parts before_c2 (between ++ after_c1) ps in_place).0

  behind : InPlace (between ++ after_c1) (drop 12 ps)
  unfolding waits writer_waits before_c2
  behind = (in_place_parts before_c2 (between ++ after_c1) ps in_place).1

  legal₂ : InPlace between p₂
  unfolding p₂ waits between
  legal₂ = (in_place_parts between after_c1 (drop 12 ps) behind).0

  legal₃ : InPlace after_c1 p₃
  unfolding p₃ waits between
  legal₃ = subst (λ (t : List ℕ). InPlace after_c1 t) (drop-drop 27 12 ps) (in_place_parts between after_c1 (drop 12 ps) behind).1

  -- ---- the three stages

  module _ (w₁ w₂ store₁ : List ℕ) (rows₁ : length w₁ ≡ 28)
      (out₁ : w₂ ≡ rings_out before_c2 (drop 0 ps) (drop 0 s) w₁) (next₁ : store₁ ≡ take 0 s ++ rings_next before_c2 (drop 0 ps) (drop 0 s) w₁) where
    stands₁ : Stands before_c2 ps s 0 0 [] p₁ (p₂ ++ p₃) [] s₁ (s₂ ++ s₃)
    unfolding s₁ before_c2 total
    stands₁ = record { places_are = all_places; store_is = all_bytes; at_place = refl; at_byte = refl; legal = legal₁; held = length-take-le 24 s (omega arith) }

    wide₁ : length before_c2 ≤ length w₁
    unfolding before_c2
    wide₁ = omega arith

    r₁ : List ℕ
    r₁ = rings_next before_c2 p₁ s₁ w₁

    turned₁ : Turned before_c2 p₁ s₁ w₁ w₂ r₁
    unfolding r₁
    turned₁ = turned w₁ w₂ store₁ stands₁ wide₁ out₁ next₁

    store_1 : store₁ ≡ r₁ ++ (s₂ ++ s₃)
    unfolding r₁
    store_1 = turned-store w₁ w₂ store₁ stands₁ wide₁ out₁ next₁

    module _ (w₃ w₄ store₂ : List ℕ) (rows₂ : length w₃ ≡ 28)
        (out₂ : w₄ ≡ rings_out between (drop 12 ps) (drop 24 store₁) w₃) (next₂ : store₂ ≡ take 24 store₁ ++ rings_next between (drop 12 ps) (drop 24 store₁) w₃) where
      left₁ : length r₁ ≡ 24
      unfolding before_c2 total
      left₁ = turned₁.left

      held₁ : length p₁ ≡ 12
      unfolding p₁
      held₁ = length-take-le 12 ps (omega arith)

      stands₂ : Stands between ps store₁ 12 24 p₁ p₂ p₃ r₁ s₂ s₃
      unfolding s₂ between total
      stands₂ =
          record {
            places_are = all_places;
            store_is = store_1;
            at_place = held₁;
            at_byte = left₁;
            legal = legal₂;
            held = length-take-le 1512 (drop 24 s) (omega (arith, length-drop 24 s));
          }

      wide₂ : length between ≤ length w₃
      unfolding between
      wide₂ = omega arith

      r₂ : List ℕ
      r₂ = rings_next between p₂ s₂ w₃

      turned₂ : Turned between p₂ s₂ w₃ w₄ r₂
      unfolding r₂
      turned₂ = turned w₃ w₄ store₂ stands₂ wide₂ out₂ next₂

      store_2 : store₂ ≡ (r₁ ++ r₂) ++ s₃
      unfolding r₂
      store_2 = turned-store w₃ w₄ store₂ stands₂ wide₂ out₂ next₂

      module _ (w₅ w₆ store₃ : List ℕ) (rows₃ : length w₅ ≡ 32)
          (out₃ : w₆ ≡ rings_out after_c1 (drop 39 ps) (drop 1536 store₂) w₅) (next₃ : store₃ ≡ take 1536 store₂ ++ rings_next after_c1 (drop 39 ps) (drop 1536 store₂) w₅) where
        left₂ : length r₂ ≡ 1512
        unfolding between total
        left₂ = turned₂.left

        held₂ : length p₂ ≡ 27
        unfolding p₂
        held₂ = length-take-le 27 (drop 12 ps) (omega (arith, length-drop 12 ps))

        stands₃ : Stands after_c1 ps store₂ 39 1536 (p₁ ++ p₂) p₃ [] (r₁ ++ r₂) s₃ []
        unfolding s₃ after_c1 total
        stands₃ =
            record {
              places_are = all_places ∙ sym (append_assoc p₁ p₂ p₃) ∙ ap (λ (t : List ℕ). (p₁ ++ p₂) ++ t) (sym (append-nil p₃));
              store_is = store_2 ∙ ap (λ (t : List ℕ). (r₁ ++ r₂) ++ t) (sym (append-nil (drop 1536 s)));
              at_place = omega (arith, length-append p₁ p₂, held₁, held₂);
              at_byte = omega (arith, length-append r₁ r₂, left₁, left₂);
              legal = legal₃;
              held = omega (arith, length-drop 1536 s);
            }

        wide₃ : length after_c1 ≤ length w₅
        unfolding after_c1
        wide₃ = omega arith

        r₃ : List ℕ
        r₃ = rings_next after_c1 p₃ s₃ w₅

        turned₃ : Turned after_c1 p₃ s₃ w₅ w₆ r₃
        unfolding r₃
        turned₃ = turned w₅ w₆ store₃ stands₃ wide₃ out₃ next₃

        store_3 : store₃ ≡ r₁ ++ (r₂ ++ r₃)
        unfolding r₃
        store_3 =
            turned-store w₅ w₆ store₃ stands₃ wide₃ out₃ next₃
            ∙ append-nil ((r₁ ++ r₂) ++ rings_next after_c1 p₃ s₃ w₅)
            ∙ append_assoc r₁ r₂ (rings_next after_c1 p₃ s₃ w₅)

        module _ (x : List ℕ) (e₁ : w₁ ≡ placed x) (e₂ : w₃ ≡ with_q q_of w₂) (e₃ : w₅ ≡ with_p p_of w₄) where
          line-back : unrolled_all writer_waits (p₁ ++ (p₂ ++ p₃)) (s₁ ++ (s₂ ++ s₃)) ≡ unrolled_all writer_waits ps s
          line-back = sym (ap₂ (unrolled_all writer_waits) all_places all_bytes)

          line_is : unrolled_all writer_waits (onward (waits writer_waits) ps) store₃ ≡ writer_next q_of p_of (unrolled_all writer_waits ps s) x
          unfolding writer_waits writer_next
          line_is =
              ap₂ (unrolled_all writer_waits) (ap (onward (waits writer_waits)) all_places) store_3
              ∙ chain_next_lem placed (with_q q_of) (with_p p_of) x e₁ turned₁ e₂ turned₂ e₃ turned₃
              ∙ ap (λ (l : List ℕ). writer_next q_of p_of l x) line-back

          frame_is : inverted w₆ ≡ writer_out q_of p_of (unrolled_all writer_waits ps s) x
          unfolding writer_waits writer_out
          frame_is =
              ap inverted (chain_out_lem placed (with_q q_of) (with_p p_of) x e₁ turned₁ e₂ turned₂ e₃ turned₃)
              ∙ ap (λ (l : List ℕ). writer_out q_of p_of l x) line-back

  -- ---- what three turns make of the frame x

  module _ (x : List ℕ) where
    abbrev w₂ : List ℕ
    w₂ = rings_out before_c2 ps s (placed x)

    abbrev w₄ : List ℕ
    w₄ = rings_out between (drop 12 ps) (drop 24 (store_at_c2 ps s x)) (c2_filled ps s x)

    abbrev w₆ : List ℕ
    w₆ = rings_out after_c1 (drop 39 ps) (drop 1536 (store_at_c1 ps s x)) (c1_filled ps s x)

    rows₂ : length (c2_filled ps s x) ≡ 28
    unfolding c2_filled
    rows₂ = length-with_q (rings_out before_c2 ps s (placed x)) (length_rings_out before_c2 ps s (placed x))

    rows₃ : length (c1_filled ps s x) ≡ 32
    unfolding c1_filled
    rows₃ =
        length-with_p (rings_out between (drop 12 ps) (drop 24 (store_at_c2 ps s x)) (c2_filled ps s x))
        (length_rings_out between (drop 12 ps) (drop 24 (store_at_c2 ps s x)) (c2_filled ps s x) ∙ rows₂)

    -- the lines a step later are those that the writer's step leaves, once all places go on
    pub encoded_lines : unrolled_all writer_waits (onward (waits writer_waits) ps) (store_after ps s x) ≡ writer_next q_of p_of (unrolled_all writer_waits ps s) x
    unfolding c2_filled store_at_c2 c1_filled store_at_c1 store_after
    encoded_lines =
        line_is (placed x) w₂ (store_at_c2 ps s x) refl refl refl
        (c2_filled ps s x) w₄ (store_at_c1 ps s x) rows₂ refl refl
        (c1_filled ps s x) w₆ (store_after ps s x) rows₃ refl refl
        x refl refl refl

    -- and the frame is the writer's
    pub encoded-frame : encoded ps s x ≡ writer_out q_of p_of (unrolled_all writer_waits ps s) x
    unfolding c2_filled store_at_c2 c1_filled store_at_c1 store_after encoded
    encoded-frame =
        frame_is (placed x) w₂ (store_at_c2 ps s x) refl refl refl
        (c2_filled ps s x) w₄ (store_at_c1 ps s x) rows₂ refl refl
        (c1_filled ps s x) w₆ (store_after ps s x) rows₃ refl refl
        x refl refl refl
