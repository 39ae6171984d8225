-- Where each place is below its row's wait, turns with C1 and C2 between them are a step of the reader on the lines that the rings stand for, once all places go on.
-- Marks stand at their bytes' places.
-- Assumes nothing.
use Rattle.std.specs.Prelude.{ℕ, ◌+◌, ◌≤◌, ◌≡◌, true, length, drop, replicate}
use Rattle.std.proofs.Math.Path.{refl, sym, ap, ap₂, subst}
use Rattle.std.proofs.Common.{◌∙◌, take-append-drop, drop-drop}
use mathlib.Core.List.{List, [], ◌∷◌, ◌++◌, append_assoc, append-nil}
use native.Mathlib.Omega.{arith}
use Rattle.std.proofs.Math.ListN.{take, length-append, length-drop}
use Rattle.std.proofs.lemmas.List.{length-replicate}
use Rattle.std.proofs.Math.Seq.{length-take-le}
use Rattle.xor.specs.Added.Places.{length-added}
use Rattle.lines.specs.Delay.{total}
use Rattle.rings.specs.Rings.{waits, below, onward, unrolled_all}
use Rattle.rings.specs.Swap.{rings_out, rings_next, half_next, both_out, both_next}
use Rattle.rings.specs.Swap.Lines.{length_rings_out}
use Rattle.rings.specs.Stage.{Stands, Turned}
use Rattle.rings.specs.Stage.Turn.{turned, turned-store}
use Rattle.rings.specs.Stage.Both.{both-turned, both-store}
use Rattle.rings.specs.Stage.Chain.{chain_out_lem, chain_next_lem}
use Rattle.circ.specs.Rows.{mask, inverted, reader_before_c1, reader_between, reader_after_c2}
use Rattle.circ.specs.Marks.{lost_marks}
use Rattle.circ.specs.Marks.Lost.{length_lost}
use Rattle.circ.specs.Codes.{treated, doubted}
use Rattle.circ.proofs.Codes.Treated.{length-treated}
use Rattle.circ.specs.Marked.{twice, entering, pass_c1, pass_c2, marked_next, marked_rows}
use Rattle.circ.specs.Rings.{reader_waits, marked_waits, shared}
use Rattle.circ_decoding.specs.Decoding.{from_c1, store_at_c1, from_c2, store_at_c2, decoded, store_after}
use Rattle.circ_decoding.specs.Decoding.Places as places

-- ---- how long the words are

length_parted : (n : ℕ) (w : List ℕ) → length (take n w) + length (drop n w) ≡ length w
length_parted n w = sym (length-append (take n w) (drop n w)) ∙ ap length (take-append-drop n w)

length_both : (ds ps s : List ℕ) (from marks : ℕ) (w : List ℕ) → length (both_out ds ps s from marks w) ≡ length w
unfolding both_out
length_both ds ps s from marks w =
    length-append (rings_out ds ps (drop from s) (take (length ds) w)) (rings_out ds ps (drop marks (half_next ds ps s from w)) (drop (length ds) w))
    ∙ ap₂ ◌+◌ (length_rings_out ds ps (drop from s) (take (length ds) w)) (length_rings_out ds ps (drop marks (half_next ds ps s from w)) (drop (length ds) w))
    ∙ length_parted (length ds) w

length-inverted : (w : List ℕ) → length w ≡ 32 → length (inverted w) ≡ 32
unfolding inverted mask
length-inverted w e = length-added w mask e ∙ e

length-entering : (x : List ℕ) → length x ≡ 64 → length (entering x) ≡ 64
unfolding entering
length-entering x e =
    omega (
      arith,
      length-append (inverted (take 32 x)) (lost_marks (drop 32 x)),
      length-inverted (take 32 x) (length-take-le 32 x (omega arith)),
      length_lost (drop 32 x),
      length-drop 32 x,
    )

length_pass_c1 : (w : List ℕ) → length w ≡ 64 → length (pass_c1 w) ≡ 56
unfolding pass_c1
length_pass_c1 w e =
    let t : length (treated 2 (drop 32 w) (take 32 w)) ≡ 32 = length-treated 2 (drop 32 w) (take 32 w) ∙ length-take-le 32 w (omega arith) in
    omega (
      arith,
      length-append (take 28 (treated 2 (drop 32 w) (take 32 w))) (replicate 28 (doubted 2 (drop 32 w) (take 32 w))),
      length-take-le 28 (treated 2 (drop 32 w) (take 32 w)) (omega (arith, t)),
      length-replicate {A = ℕ} 28 (doubted 2 (drop 32 w) (take 32 w)),
    )

length_pass_c2 : (w : List ℕ) → length w ≡ 56 → length (pass_c2 w) ≡ 30
unfolding pass_c2
length_pass_c2 w e =
    let m : ℕ = doubted 4 (drop 28 w) (take 28 w) in
    omega (
      arith,
      length-append (treated 4 (drop 28 w) (take 28 w)) (m ∷ m ∷ []),
      length-treated 4 (drop 28 w) (take 28 w),
      length-take-le 28 w (omega arith),
    )

module _ (ps s : List ℕ) (many : length ps ≡ 56) (long : length s ≡ 3082) (legal : below (waits reader_waits) ps ≡ true) where
  abbrev p₁ : List ℕ
  p₁ = places.p₁ ps many legal

  abbrev p₂ : List ℕ
  p₂ = places.p₂ ps many legal

  abbrev p₃ : List ℕ
  p₃ = places.p₃ ps many legal

  all_places : ps ≡ p₁ ++ (p₂ ++ p₃)
  all_places = places.all_places ps many legal

  -- ---- the parts of the store: bytes and marks before C1, bytes and marks between, and what stands after C2

  s₁ : List ℕ
  s₁ = take 16 s

  m₁ : List ℕ
  m₁ = take 16 (drop 16 s)

  s₂ : List ℕ
  s₂ = take 1512 (drop 32 s)

  m₂ : List ℕ
  m₂ = take 1512 (drop 1544 s)

  s₃ : List ℕ
  s₃ = drop 3056 s

  -- n bytes from a place on, and those behind them
  parted : (at n : ℕ) → drop at s ≡ take n (drop at s) ++ drop (at + n) s
  parted at n = sym (take-append-drop n (drop at s)) ∙ ap (λ (t : List ℕ). take n (drop at s) ++ t) (drop-drop n at s)

  all_bytes : s ≡ s₁ ++ (m₁ ++ (s₂ ++ (m₂ ++ s₃)))
  unfolding s₁ m₁ s₂ m₂ s₃
  all_bytes =
      sym (take-append-drop 16 s)
      ∙ ap (λ (t : List ℕ). take 16 s ++ t)
      (parted 16 16
      ∙ ap (λ (t : List ℕ). take 16 (drop 16 s) ++ t)
      (parted 32 1512 ∙ ap (λ (t : List ℕ). take 1512 (drop 32 s) ++ t) (parted 1544 1512)))

  all_grouped : s ≡ (s₁ ++ m₁) ++ ((s₂ ++ m₂) ++ s₃)
  all_grouped =
      all_bytes
      ∙ sym (append_assoc s₁ m₁ (s₂ ++ (m₂ ++ s₃)))
      ∙ ap (λ (t : List ℕ). (s₁ ++ m₁) ++ t) (sym (append_assoc s₂ m₂ s₃))

  -- so many bytes from a place on
  part_long : (at n : ℕ) → at + n ≤ 3082 → length (take n (drop at s)) ≡ n
  part_long at n h = length-take-le n (drop at s) (omega (arith, length-drop at s))

  -- ---- the three stages

  module _ (w₁ w₂ store₁ : List ℕ) (rows₁ : length w₁ ≡ 64)
      (out₁ : w₂ ≡ both_out reader_before_c1 (drop 0 ps) s 0 16 w₁) (next₁ : store₁ ≡ both_next reader_before_c1 (drop 0 ps) s 0 16 w₁) where
    stands₁ : Stands reader_before_c1 ps s 0 0 [] p₁ (p₂ ++ p₃) [] s₁ (m₁ ++ (s₂ ++ (m₂ ++ s₃)))
    unfolding s₁ reader_before_c1 total
    stands₁ =
        record { places_are = all_places; store_is = all_bytes; at_place = refl; at_byte = refl; legal = places.legal₁ ps many legal; held = length-take-le 16 s (omega arith) }

    marks₁ : length m₁ ≡ total reader_before_c1
    unfolding m₁ reader_before_c1 total
    marks₁ = part_long 16 16 (omega arith)

    wide₁ : length w₁ ≡ length reader_before_c1 + length reader_before_c1
    unfolding reader_before_c1
    wide₁ = rows₁

    there₁ : 0 + total reader_before_c1 ≡ 16
    unfolding reader_before_c1 total
    there₁ = refl

    r₁ : List ℕ
    r₁ = rings_next reader_before_c1 p₁ s₁ (take (length reader_before_c1) w₁) ++ rings_next reader_before_c1 p₁ m₁ (drop (length reader_before_c1) w₁)

    turned₁ : Turned (twice reader_before_c1) (twice p₁) (s₁ ++ m₁) w₁ w₂ r₁
    unfolding r₁
    turned₁ =
        subst (λ (w : List ℕ). Turned (twice reader_before_c1) (twice p₁) (s₁ ++ m₁) w₁ w r₁) (sym out₁)
        (both-turned m₁ (s₂ ++ (m₂ ++ s₃)) w₁ 16 stands₁ marks₁ wide₁ there₁)

    store_1 : store₁ ≡ r₁ ++ (s₂ ++ (m₂ ++ s₃))
    unfolding r₁
    store_1 = next₁ ∙ both-store m₁ (s₂ ++ (m₂ ++ s₃)) w₁ 16 stands₁ marks₁ wide₁ there₁

    left₁ : length r₁ ≡ 32
    unfolding reader_before_c1 total
    left₁ = turned₁.left

    module _ (w₃ w₄ store₂ : List ℕ) (rows₂ : length w₃ ≡ 56)
        (out₂ : w₄ ≡ both_out reader_between (drop 16 ps) store₁ 32 1544 w₃) (next₂ : store₂ ≡ both_next reader_between (drop 16 ps) store₁ 32 1544 w₃) where
      stands₂ : Stands reader_between ps store₁ 16 32 p₁ p₂ p₃ r₁ s₂ (m₂ ++ s₃)
      unfolding s₂ reader_between total
      stands₂ =
          record {
            places_are = all_places;
            store_is = store_1;
            at_place = places.held₁ ps many legal;
            at_byte = left₁;
            legal = places.legal₂ ps many legal;
            held = part_long 32 1512 (omega arith);
          }

      marks₂ : length m₂ ≡ total reader_between
      unfolding m₂ reader_between total
      marks₂ = part_long 1544 1512 (omega arith)

      wide₂ : length w₃ ≡ length reader_between + length reader_between
      unfolding reader_between
      wide₂ = rows₂

      there₂ : 32 + total reader_between ≡ 1544
      unfolding reader_between total
      there₂ = refl

      r₂ : List ℕ
      r₂ = rings_next reader_between p₂ s₂ (take (length reader_between) w₃) ++ rings_next reader_between p₂ m₂ (drop (length reader_between) w₃)

      turned₂ : Turned (twice reader_between) (twice p₂) (s₂ ++ m₂) w₃ w₄ r₂
      unfolding r₂
      turned₂ =
          subst (λ (w : List ℕ). Turned (twice reader_between) (twice p₂) (s₂ ++ m₂) w₃ w r₂) (sym out₂) (both-turned m₂ s₃ w₃ 1544 stands₂ marks₂ wide₂ there₂)

      store_2 : store₂ ≡ (r₁ ++ r₂) ++ s₃
      unfolding r₂
      store_2 = next₂ ∙ both-store m₂ s₃ w₃ 1544 stands₂ marks₂ wide₂ there₂

      left₂ : length r₂ ≡ 3024
      unfolding reader_between total
      left₂ = turned₂.left

      module _ (w₅ w₆ store₃ : List ℕ) (rows₃ : length w₅ ≡ 30)
          (out₃ : w₆ ≡ rings_out reader_after_c2 (drop 43 ps) (drop 3056 store₂) w₅) (next₃ : store₃ ≡ take 3056 store₂ ++ rings_next reader_after_c2 (drop 43 ps) (drop 3056 store₂) w₅) where
        stands₃ : Stands reader_after_c2 ps store₂ 43 3056 (p₁ ++ p₂) p₃ [] (r₁ ++ r₂) s₃ []
        unfolding s₃ reader_after_c2 total
        stands₃ =
            record {
              places_are = all_places ∙ sym (append_assoc p₁ p₂ p₃) ∙ ap (λ (t : List ℕ). (p₁ ++ p₂) ++ t) (sym (append-nil p₃));
              store_is = store_2 ∙ ap (λ (t : List ℕ). (r₁ ++ r₂) ++ t) (sym (append-nil (drop 3056 s)));
              at_place = omega (arith, length-append p₁ p₂, places.held₁ ps many legal, places.held₂ ps many legal);
              at_byte = omega (arith, length-append r₁ r₂, left₁, left₂);
              legal = places.legal₃ ps many legal;
              held = omega (arith, length-drop 3056 s);
            }

        wide₃ : length reader_after_c2 ≤ length w₅
        unfolding reader_after_c2
        wide₃ = omega arith

        r₃ : List ℕ
        r₃ = rings_next reader_after_c2 p₃ s₃ w₅

        turned₃ : Turned reader_after_c2 p₃ s₃ w₅ w₆ r₃
        unfolding r₃
        turned₃ = turned w₅ w₆ store₃ stands₃ wide₃ out₃ next₃

        store_3 : store₃ ≡ r₁ ++ (r₂ ++ r₃)
        unfolding r₃
        store_3 =
            turned-store w₅ w₆ store₃ stands₃ wide₃ out₃ next₃
            ∙ append-nil ((r₁ ++ r₂) ++ rings_next reader_after_c2 p₃ s₃ w₅)
            ∙ append_assoc r₁ r₂ (rings_next reader_after_c2 p₃ s₃ w₅)

        module _ (x : List ℕ) (e₁ : w₁ ≡ entering x) (e₂ : w₃ ≡ pass_c1 w₂) (e₃ : w₅ ≡ pass_c2 w₄) where
          line-back : unrolled_all marked_waits (twice p₁ ++ (twice p₂ ++ p₃)) ((s₁ ++ m₁) ++ ((s₂ ++ m₂) ++ s₃)) ≡ unrolled_all marked_waits (shared ps) s
          line-back = sym (ap₂ (unrolled_all marked_waits) (places.shared_is ps many legal) all_grouped)

          rows_are : w₆ ≡ marked_rows (unrolled_all marked_waits (shared ps) s) x
          unfolding marked_rows marked_waits
          rows_are = chain_out_lem entering pass_c1 pass_c2 x e₁ turned₁ e₂ turned₂ e₃ turned₃ ∙ ap (λ (l : List ℕ). marked_rows l x) line-back

          line_is : unrolled_all marked_waits (shared (onward (waits reader_waits) ps)) store₃ ≡ marked_next (unrolled_all marked_waits (shared ps) s) x
          unfolding marked_next marked_waits
          line_is =
              ap₂ (unrolled_all marked_waits) (sym (places.later-shared ps many legal)) store_3
              ∙ chain_next_lem entering pass_c1 pass_c2 x e₁ turned₁ e₂ turned₂ e₃ turned₃
              ∙ ap (λ (l : List ℕ). marked_next l x) line-back

  -- ---- what they make of the frame with its marks x

  module _ (x : List ℕ) (fits : length x ≡ 64) where
    abbrev w₂ : List ℕ
    w₂ = both_out reader_before_c1 ps s 0 16 (entering x)

    abbrev w₄ : List ℕ
    w₄ = both_out reader_between (drop 16 ps) (store_at_c1 ps s x) 32 1544 (from_c1 ps s x)

    rows₁ : length (entering x) ≡ 64
    rows₁ = length-entering x fits

    rows₂ : length (from_c1 ps s x) ≡ 56
    unfolding from_c1
    rows₂ = length_pass_c1 w₂ (length_both reader_before_c1 ps s 0 16 (entering x) ∙ rows₁)

    rows₃ : length (from_c2 ps s x) ≡ 30
    unfolding from_c2
    rows₃ = length_pass_c2 w₄ (length_both reader_between (drop 16 ps) (store_at_c1 ps s x) 32 1544 (from_c1 ps s x) ∙ rows₂)

    -- the lines a step later are those that the reader's step leaves, once all places go on
    pub decoded_lines : unrolled_all marked_waits (shared (onward (waits reader_waits) ps)) (store_after ps s x) ≡ marked_next (unrolled_all marked_waits (shared ps) s) x
    unfolding from_c1 store_at_c1 from_c2 store_at_c2 decoded store_after
    decoded_lines =
        line_is (entering x) w₂ (store_at_c1 ps s x) rows₁ refl refl
        (from_c1 ps s x) w₄ (store_at_c2 ps s x) rows₂ refl refl
        (from_c2 ps s x) (decoded ps s x) (store_after ps s x) rows₃ refl refl
        x refl refl refl

    -- and the rows are the reader's
    pub decoded-rows : decoded ps s x ≡ marked_rows (unrolled_all marked_waits (shared ps) s) x
    unfolding from_c1 store_at_c1 from_c2 store_at_c2 decoded store_after
    decoded-rows =
        rows_are (entering x) w₂ (store_at_c1 ps s x) rows₁ refl refl
        (from_c1 ps s x) w₄ (store_at_c2 ps s x) rows₂ refl refl
        (from_c2 ps s x) (decoded ps s x) (store_after ps s x) rows₃ refl refl
        x refl refl refl
