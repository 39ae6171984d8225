-- Each way out of the tests of a word, and what the tests of a window show together.
-- Assumes nothing.
use Rattle.std.specs.Prelude.{Option, Some, None, is_some}
use mathlib.Core.Path.{◌≡◌, refl, sym, ap, ◌∙◌}
use mathlib.Core.Bool.{Bool, true, false, cond}
use mathlib.Core.List.{List}
use Prim.Native.Nat.{ℕ}
use lib.Dec.{ltb}
use Rattle.words.specs.LookUp.{Guide, looked_up}
use Rattle.words.specs.LookUp.Finds.{looked_up_lem}
use Rattle.words.specs.Words.{words, place_of, byte_of}
use Rattle.stream_rules.specs.Offences.{listed}
use Rattle.stream_rules.specs.Judging.{lowest}
use Rattle.stream_windows.specs.Window.{run_in, head_wrong, word_wrong, offence_in}

-- ---- a word

module _ (g table : List ℕ) (w : ℕ) (guide : Guide g) (is : table ≡ words) (r : Option ℕ) (e : r ≡ looked_up table g w) where
  byte_is : byte_of w ≡ r
  byte_is = sym (looked_up_lem g guide w) ∙ sym (ap (λ (t : List ℕ). looked_up t g w) is) ∙ sym e

  pub listed_is : is_some r ≡ listed w
  unfolding listed byte_of
  listed_is = ap is_some (sym byte_is) ∙ go (ltb (place_of w words) 256)
    where
      go : (t : Bool) → is_some (cond t (Some (place_of w words)) None) ≡ t
      go true = refl
      go false = refl

-- ---- a window

module _ (p v : ℕ) (a b c : Bool) (e : a ≡ run_in v) (f : b ≡ head_wrong p v) (g : c ≡ word_wrong p v) where
  pub shows : lowest a b c ≡ offence_in p v
  unfolding offence_in
  shows = λ i. lowest (e i) (f i) (g i)
