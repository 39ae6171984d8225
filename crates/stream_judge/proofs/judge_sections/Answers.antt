-- `judge_sections` meets its contract: each way out is a law of `Passes`.
-- Assumes nothing.
use mathlib.Core.Path.{sym, ap, ◌∙◌}
use Rattle.std.specs.Prelude.{Some}
use Rattle.offence_tests.specs.declared.Offence.{Offence}
use Rattle.stream_judge.proofs.Passes.{found_say, right_is, says_wrong, says_found}
use Rattle.stream_judge.proofs.judge_sections.Goals as goal

pub returns-then-not-is_right_length : goal.returns-then-not-is_right_length
returns-then-not-is_right_length c = says_wrong c.args.channel.now (sym c.is_right_length.ensures ∙ c.if-not-is_right_length.true)

pub first_offence-requires : goal.first_offence-requires
first_offence-requires c = right_is _ (sym c.is_right_length.ensures ∙ c.if-not-is_right_length.false)

pub returns-in_default : goal.returns-in_default
returns-in_default c =
    ap found_say (sym c.in_default.is)
    ∙ says_found c.args.channel.now (sym c.is_right_length.ensures ∙ c.if-not-is_right_length.false) _ c.first_offence.ensures

pub returns-in-Run : goal.returns-in-Run
returns-in-Run c =
    ap (λ (o : Offence). found_say (Some (o, c.in-Some.place))) (sym c.in-Run.is)
    ∙ ap found_say (sym c.in-Some.is)
    ∙ says_found c.args.channel.now (sym c.is_right_length.ensures ∙ c.if-not-is_right_length.false) _ c.first_offence.ensures

pub returns-in-Header : goal.returns-in-Header
returns-in-Header c =
    ap (λ (o : Offence). found_say (Some (o, c.in-Some.place))) (sym c.in-Header.is)
    ∙ ap found_say (sym c.in-Some.is)
    ∙ says_found c.args.channel.now (sym c.is_right_length.ensures ∙ c.if-not-is_right_length.false) _ c.first_offence.ensures

pub returns-in-Word : goal.returns-in-Word
returns-in-Word c =
    ap (λ (o : Offence). found_say (Some (o, c.in-Some.place))) (sym c.in-Word.is)
    ∙ ap found_say (sym c.in-Some.is)
    ∙ says_found c.args.channel.now (sym c.is_right_length.ensures ∙ c.if-not-is_right_length.false) _ c.first_offence.ensures
