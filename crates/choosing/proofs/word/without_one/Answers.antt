-- `choosing::word::without_one` meets its contract: the numbers that it hands to `spend` are those of 000 and the word (`zeros_stand`).
-- Assumes nothing.
use mathlib.Core.Path.{sym, ap, ◌∙◌, subst}
use Prim.Native.Nat.{ℕ}
use Rattle.bits.specs.Bits.{bits_of}
use Rattle.merging.specs.Chosen.{m000}
use Rattle.traces.specs.declared.Trace.{Trace}
use Rattle.choosing.specs.Inner.{WordStands}
use Rattle.automaton_states.specs.States.{after_word}
use Rattle.choosing.proofs.WordCandidates.{zeros_stand}
use Rattle.choosing.proofs.word.without_one.Goals as goal

pub returns : goal.returns
returns c =
    let a = c.args in
    let p = a.p in
    let run = c.after_word.ensures ∙ ap (λ (e : ℕ). after_word e p.lead p.plain p.ten) c.after_zeros-entry.ensures in
    subst (λ (x : Trace). WordStands a.t (bits_of 14 p.word) (record { bits = p.word; after = x }) m000)
    (sym (λ i. record { run = run i; tally = c.spend.ensures i }))
    (zeros_stand p c.requires.1 a.t c.requires.0)
