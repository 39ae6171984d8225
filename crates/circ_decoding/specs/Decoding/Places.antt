-- The places of the three stages, and of their marks, now and a step later.
-- Assumes nothing.
use Rattle.std.specs.Prelude.{ℕ, ◌≡◌, true, length, drop}
use Rattle.std.proofs.Math.Path.{refl, sym, ap, ap₂, subst}
use Rattle.std.proofs.Common.{◌∙◌, arith, take-append-drop, drop-drop, take_at, drop_at}
use mathlib.Core.List.{List, ◌++◌}
use Rattle.std.proofs.Math.ListN.{take, length-drop}
use Rattle.std.proofs.Math.Seq.{length-take-le}
use Rattle.rings.specs.Rings.{waits, below, onward}
use Rattle.rings.specs.Rings.Places.{InPlace, below_in_place, in_place_parts, in_place_joined, length-onward}
use Rattle.rings.specs.Stage.Beside.{later}
use Rattle.circ.specs.Rows.{reader_before_c1, reader_between, reader_after_c2}
use Rattle.circ.specs.Marked.{twice}
use Rattle.circ.specs.Rings.{reader_waits, marked_waits, shared}

-- three parts of places, shared
shared_joined : (a b c : List ℕ) → length a ≡ 16 → length b ≡ 27 → shared (a ++ (b ++ c)) ≡ twice a ++ (twice b ++ c)
unfolding shared waits reader_before_c1 reader_between
shared_joined a b c h k =
    let e : drop 16 (a ++ (b ++ c)) ≡ b ++ c = drop_at a (b ++ c) 16 h in
    ap₂ (λ (t u : List ℕ). twice t ++ (twice (take 27 u) ++ drop 43 (a ++ (b ++ c)))) (take_at a (b ++ c) 16 h) e
    ∙ ap₂ (λ (t u : List ℕ). twice a ++ (twice t ++ u)) (take_at b c 27 k) (sym (drop-drop 27 16 (a ++ (b ++ c))) ∙ ap (drop 27) e ∙ drop_at b c 27 k)

module _ (ps : List ℕ) (many : length ps ≡ 56) (legal : below (waits reader_waits) ps ≡ true) where
  unfoldable pub p₁ : List ℕ
  p₁ = take 16 ps

  unfoldable pub p₂ : List ℕ
  p₂ = take 27 (drop 16 ps)

  unfoldable pub p₃ : List ℕ
  p₃ = drop 43 ps

  pub all_places : ps ≡ p₁ ++ (p₂ ++ p₃)
  unfolding p₁ p₂ p₃
  all_places =
      sym (take-append-drop 16 ps)
      ∙ ap (λ (t : List ℕ). take 16 ps ++ t) (sym (take-append-drop 27 (drop 16 ps)) ∙ ap (λ (t : List ℕ). take 27 (drop 16 ps) ++ t) (drop-drop 27 16 ps))

  in_place : InPlace reader_waits ps
  unfolding waits reader_waits reader_before_c1 reader_between reader_after_c2
  in_place = below_in_place reader_waits ps many legal

  pub legal₁ : InPlace reader_before_c1 p₁
  unfolding p₁ waits reader_waits reader_before_c1
  legal₁ = (in_place_parts reader_before_c1 (reader_between ++ reader_after_c2) ps in_place).0

  behind : InPlace (reader_between ++ reader_after_c2) (drop 16 ps)
  unfolding waits reader_waits reader_before_c1
  behind = (in_place_parts reader_before_c1 (reader_between ++ reader_after_c2) ps in_place).1

  pub legal₂ : InPlace reader_between p₂
  unfolding p₂ waits reader_between
  legal₂ = (in_place_parts reader_between reader_after_c2 (drop 16 ps) behind).0

  pub legal₃ : InPlace reader_after_c2 p₃
  unfolding p₃ waits reader_between
  legal₃ = subst (λ (t : List ℕ). InPlace reader_after_c2 t) (drop-drop 27 16 ps) (in_place_parts reader_between reader_after_c2 (drop 16 ps) behind).1

  pub held₁ : length p₁ ≡ 16
  unfolding p₁
  held₁ = length-take-le 16 ps (omega arith)

  pub held₂ : length p₂ ≡ 27
  unfolding p₂
  held₂ = length-take-le 27 (drop 16 ps) (omega (arith, length-drop 16 ps))

  -- ---- the places of the marks too, now and a step later

  pub shared_is : shared ps ≡ twice p₁ ++ (twice p₂ ++ p₃)
  unfolding shared waits reader_before_c1 reader_between p₁ p₂ p₃
  shared_is = refl

  q₁ : List ℕ
  q₁ = onward (waits reader_before_c1) p₁

  q₂ : List ℕ
  q₂ = onward (waits reader_between) p₂

  q₃ : List ℕ
  q₃ = onward (waits reader_after_c2) p₃

  onward_is : onward (waits reader_waits) ps ≡ q₁ ++ (q₂ ++ q₃)
  unfolding reader_waits q₁ q₂ q₃
  onward_is =
      ap (onward (waits reader_waits)) all_places
      ∙ later reader_before_c1 (reader_between ++ reader_after_c2) p₁ (p₂ ++ p₃) legal₁
      ∙ ap (λ (t : List ℕ). onward (waits reader_before_c1) p₁ ++ t) (later reader_between reader_after_c2 p₂ p₃ legal₂)

  long₁ : length q₁ ≡ 16
  unfolding q₁
  long₁ = length-onward (waits reader_before_c1) p₁ ∙ held₁

  long₂ : length q₂ ≡ 27
  unfolding q₂
  long₂ = length-onward (waits reader_between) p₂ ∙ held₂

  twice-later : (d p : List ℕ) → InPlace d p → onward (waits (twice d)) (twice p) ≡ twice (onward (waits d) p)
  twice-later d p h = later d d p p h

  twice-legal : (d p : List ℕ) → InPlace d p → InPlace (twice d) (twice p)
  twice-legal d p h = in_place_joined d d p p h h

  pub later-shared : onward (waits marked_waits) (twice p₁ ++ (twice p₂ ++ p₃)) ≡ shared (onward (waits reader_waits) ps)
  unfolding marked_waits q₁ q₂ q₃
  later-shared =
      later (twice reader_before_c1) (twice reader_between ++ reader_after_c2) (twice p₁) (twice p₂ ++ p₃) (twice-legal reader_before_c1 p₁ legal₁)
      ∙ ap₂ ◌++◌ (twice-later reader_before_c1 p₁ legal₁)
      (later (twice reader_between) reader_after_c2 (twice p₂) p₃ (twice-legal reader_between p₂ legal₂)
      ∙ ap (λ (t : List ℕ). t ++ onward (waits reader_after_c2) p₃) (twice-later reader_between p₂ legal₂))
      ∙ sym (ap shared onward_is ∙ shared_joined q₁ q₂ q₃ long₁ long₂)
