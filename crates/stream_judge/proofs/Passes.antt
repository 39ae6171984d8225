-- The passes frame by frame and bit by bit, and each way out of a call.
-- Assumes nothing.
use mathlib.Core.Path.{◌≡◌, refl, sym, ap, ◌∙◌}
use mathlib.Core.Bool.{Bool, true, false, ◌&&◌}
use mathlib.Core.List.{List, [], ◌∷◌}
use Rattle.std.specs.Prelude.{Option, None, Some}
use Prim.Native.Nat.{ℕ, ◌+◌, ◌*◌, ◌/◌, ◌%◌, ◌^◌, ◌≤◌, ◌<◌}
use native.Mathlib.Omega.{arith}
use borrow.Author.Count.{below_more}
use borrow.Author.Tests.{eqb-true, leb-true}
use lib.Dec.{eqb, leb}
use lib.ListN.{length, get_or}
use lib.Pow.{pow-lt}
use Rattle.outcome.specs.Say.{Say, done, refused, demand}
use Rattle.offence_tests.specs.declared.Offence.{Offence}
use Rattle.offence_tests.specs.declared.Offence.TheVariants.{Run, Header, Word}
use Rattle.offence_tests.specs.Known.{number_of}
use Rattle.fields.specs.Fields.{field_at}
use Rattle.channel_frame.specs.ChannelFrame.{word_read}
use Rattle.fields.specs.Fields.Parts.{field_lt}
use Rattle.stream_rules.proofs.Accepted.Exactly.{word_clean}
use Rattle.stream_rules.specs.Offences.{judged, right_word}
use Rattle.stream_rules.specs.Offences.Stream.{binary_judged, length-judged}
use Rattle.stream_rules.specs.Judging.{verdict, right_length, judging}
use Rattle.stream_windows.specs.Window.{led, window}
use Rattle.stream_windows.specs.Window.Found.{none_of_three}
use Rattle.stream_windows.specs.Window.Lead.{binary_led, length-led}
use Rattle.stream_windows.specs.Window.Onward.{field_grows, whole-window}
use Rattle.stream_windows.specs.Calm.Until.{ClearBelow}
use Rattle.stream_judge.specs.Inner.{WordsRight, WordsClear, NoneBefore, Finds}

-- ---- a window bit by bit

-- v has the first k bits of the window at bit p
pub record Growing (xs : List ℕ) (p k v : ℕ) : Type 0 where
  pub upto : k ≤ 35
  pub is : v ≡ field_at (led (judged xs)) (p + 5) k

module _ (xs : List ℕ) (p : ℕ) (room : p ≤ 8 * length xs) where
  long : length (led (judged xs)) ≡ 8 * length xs + 40
  long = omega (arith, length-led (judged xs), length-judged xs)

  pub growing_start : Growing xs p 0 0
  growing_start = record { upto = omega arith; is = refl }

  pub growing_small : (k v : ℕ) → Growing xs p k v → k < 35 → v < 34359738368
  growing_small k v g h =
      let s : field_at (led (judged xs)) (p + 5) k < 2 ^ k = field_lt (led (judged xs)) (binary_led (judged xs) (binary_judged xs)) (p + 5) k (omega (arith, long)) in
      let m : 2 ^ k < 2 ^ 35 = pow-lt {i = k} {j = 35} h in
      omega (arith, s, m, g.is)

  pub growing_more : (k v b : ℕ) → Growing xs p k v → k < 35 → b ≡ get_or (led (judged xs)) (p + 5 + k) 0 → Growing xs p (k + 1) (2 * v + b)
  growing_more k v b g h e =
      record {
        upto = omega arith;
        is =
            let s = field_grows (judged xs) (binary_judged xs) (p + 5) k (omega (arith, long)) in
            sym (s ∙ (λ i. 2 * sym g.is i + sym e i));
      }

  pub growing_done : (k v : ℕ) → Growing xs p k v → 35 ≤ k → v ≡ window (judged xs) p
  growing_done k v g h =
      let e : k ≡ 35 = omega (arith, g.upto) in
      g.is ∙ ap (field_at (led (judged xs)) (p + 5)) e ∙ whole-window (judged xs) (binary_judged xs) p

-- ---- words, frame by frame

-- one word more
pub words_more : (xs : List ℕ) (f i w : ℕ) (r : Bool) → WordsRight xs f i → w ≡ word_read (judged xs) f i → r ≡ right_word (f % 98) i w → r ≡ true → WordsRight xs f (i + 1)
words_more xs f i w r g e q t =
    below_more (λ k. right_word (f % 98) k (word_read (judged xs) f k) ≡ true) i g (ap (right_word (f % 98) i) (sym e) ∙ sym q ∙ t)

-- f frames are right
pub FramesRight : List ℕ → ℕ → Type 0
FramesRight xs f = (g : ℕ) → g < f → WordsRight xs g 33

pub frames_none : (xs : List ℕ) → FramesRight xs 0
unfolding FramesRight
frames_none xs g h = absurd (omega arith)

pub frames_more : (xs : List ℕ) (f : ℕ) → FramesRight xs f → WordsRight xs f 33 → FramesRight xs (f + 1)
unfolding FramesRight
frames_more xs f g w = below_more (λ k. WordsRight xs k 33) f g w

pub frames_clear : (xs : List ℕ) (f : ℕ) → FramesRight xs f → WordsClear xs (588 * f)
unfolding FramesRight
frames_clear xs f g q h = word_clean (judged xs) f q (omega arith) (λ k i a b. g k a i b)

-- ---- where both passes find nothing, nothing is

pub none_before : (xs : List ℕ) (a b p : ℕ) → ClearBelow (judged xs) a → WordsClear xs b → p ≤ a → p ≤ b → NoneBefore xs p
none_before xs a b p c w h k q l =
    let r = c q (omega arith) in
    none_of_three (judged xs) q r.0 r.1 (w q (omega arith))

-- ---- a call

-- what is said of a first offence, or of none
abbrev pub found_say : Option (Offence × ℕ) → Say
found_say None = done []
found_say (Some f) = refused (number_of (Some f.0)) (f.1 ∷ [])

-- an offence has a number
pub some_number : (o : Offence) → number_of (Some o) ≡ 0 → ⊥
some_number Run e = omega (arith, e)
some_number Header e = omega (arith, e)
some_number Word e = omega (arith, e)

both : (a b : Bool) → (a && b) ≡ true → (a ≡ true) × (b ≡ true)
both true b e = (refl, e)
both false b e = absurd (let z : ◌≡◌ {A = ℕ} 0 1 = cc in omega arith)

-- a right length is that of one to nine Sections
pub right_is : (l : ℕ) → right_length l ≡ true → (l ≡ 7203 * (l / 7203)) × (1 ≤ l / 7203) × (l / 7203 ≤ 9)
unfolding right_length
right_is l e =
    let p = both (eqb (l % 7203) 0) (leb 1 (l / 7203) && leb (l / 7203) 9) e in
    let q = both (leb 1 (l / 7203)) (leb (l / 7203) 9) p.1 in
    let z : l % 7203 ≡ 0 = eqb-true (l % 7203) 0 p.0 in
    (omega arith, leb-true 1 (l / 7203) q.0, leb-true (l / 7203) 9 q.1)

module _ (xs : List ℕ) where
  pub says_wrong : right_length (length xs) ≡ false → refused 1 [] ≡ judging xs
  unfolding judging
  says_wrong h = sym (ap (λ (t : Bool). demand t 1 (verdict (judged xs))) h)

  module _ (h : right_length (length xs) ≡ true) where
    judging_is : judging xs ≡ verdict (judged xs)
    unfolding judging
    judging_is = ap (λ (t : Bool). demand t 1 (verdict (judged xs))) h

    pub says_found : (r : Option (Offence × ℕ)) → Finds xs r → found_say r ≡ judging xs
    says_found None f = f.1.says ∙ sym judging_is
    says_found (Some (Run, p)) f = f.says ∙ sym judging_is
    says_found (Some (Header, p)) f = f.says ∙ sym judging_is
    says_found (Some (Word, p)) f = f.says ∙ sym judging_is
