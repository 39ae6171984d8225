-- `choosing::word::with_one` meets its contract: the numbers that it hands to `spend` are those of the Merging bits and the word (`one-stands`).
-- Assumes nothing.
use mathlib.Core.Path.{sym, ap, ◌∙◌, subst}
use Prim.Native.Nat.{ℕ, ◌+◌, ◌*◌, ◌/◌, ◌^◌}
use Rattle.bits.specs.Bits.{bits_of}
use Rattle.traces.specs.declared.Trace.{Trace}
use Rattle.choosing.specs.Inner.{WordStands}
use Rattle.automaton_states.specs.States.{after_word, one_after}
use Rattle.choosing.proofs.WordCandidates.{one_bits, one-small, one-stands}
use Rattle.choosing.proofs.word.with_one.Goals as goal

pub returns : goal.returns
returns c =
    let a = c.args in
    let p = a.p in
    let run = c.after_word.ensures ∙ ap (λ (e : ℕ). after_word e p.lead p.plain p.ten) c.enter-entry.ensures in
    let tally = c.spend.ensures in
    subst (λ (x : Trace). WordStands a.t (bits_of 14 p.word) (record { bits = 4 / 2 ^ a.before * 16384 + p.word; after = x }) (one_after a.before))
    (sym (λ i. record { run = run i; tally = tally i }))
    (one-stands p c.requires.1 a.t c.requires.0 a.before (4 / 2 ^ a.before) c.requires.2 (one_bits a.before c.requires.2) (one-small a.before c.requires.2))
