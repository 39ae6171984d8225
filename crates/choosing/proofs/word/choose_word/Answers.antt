-- `choosing::word::choose_word` meets its contract: the profile of the symbol is right (`row_profile`, `profile_fits`), and what fits is chosen by it.
-- Assumes nothing.
use mathlib.Core.Path.{◌≡◌, sym, ap, ◌∙◌}
use mathlib.Core.Bool.{true, false}
use borrow.Author.Tests.{lt-ltb, le-ltb}
use Rattle.bits.specs.Bits.{bits_of}
use Rattle.profiles.specs.declared.Profile.{Profile}
use Rattle.choosing.specs.Choices.{chosen_word, word_choice}
use Rattle.traces.specs.Traces.{fits}
use Rattle.traces.specs.Traces.Room.{fits_fit}
use Rattle.profiles.specs.Profiles.Rows.{row_profile}
use Rattle.profiles.specs.Profiles.Hold.{profile_fits}
use Rattle.choosing.proofs.word.choose_word.Goals.{else-is_fit-via-then-is_fit+else-k-lt258, else-is_fit-via-else-is_fit}
use Rattle.choosing.proofs.word.choose_word.Goals as goal

pub best-requires : goal.best-requires
best-requires c =
    let right = row_profile _ _ c.requires c.if-k-lt258.true in
    (fits_fit _ (sym c.is_fit.ensures ∙ c.if-is_fit.true), profile_fits _ _ c.if-k-lt258.true (c.profile_of.ensures ∙ right))

pub returns-then-k-lt258 : goal.returns-then-k-lt258
unfolding word_choice
returns-then-k-lt258 c =
    let a = c.args in
    let low = c.if-k-lt258.true in
    let e : fits a.t ≡ true = sym c.is_fit.ensures ∙ c.if-is_fit.true in
    let right = c.profile_of.ensures ∙ row_profile _ a.k c.requires low in
    rw (e, lt-ltb a.k 258 low) (c.best.ensures ∙ ap (λ (p : Profile). chosen_word a.t (bits_of 14 p.word)) right)

pub returns : goal.returns
unfolding word_choice
returns c =
    let a = c.args in
    elim c.else-is_fit.branch [
      | else-is_fit-via-then-is_fit+else-k-lt258 w ↦
          (let e : fits a.t ≡ true = sym c.is_fit.ensures ∙ w.if-is_fit.true in rw (e, le-ltb a.k 258 w.if-k-lt258.false))
      | else-is_fit-via-else-is_fit w ↦ (let e : fits a.t ≡ false = sym c.is_fit.ensures ∙ w.if-is_fit.false in rw e)
    ]
