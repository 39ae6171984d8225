-- `search::search_from` meets its contract: the invariant is that nothing offends before bit p, and v is the window there (`Passing`).
-- Assumes nothing.
use mathlib.Core.Path.{◌≡◌, sym, ap, subst, ◌∙◌}
use mathlib.Core.List.{List}
use Prim.Native.Nat.{ℕ, ◌*◌, ◌≤◌}
use Rattle.std.specs.Prelude.{Option, Some}
use native.Mathlib.Omega.{arith}
use lib.ListN.{length}
use Rattle.stream_windows.specs.Window.{offence_in}
use Rattle.stream_windows.specs.Window.Found.{Finding, Passing, passing-start, passing_more, passing-found, passing_all}
use Rattle.offence_tests.specs.declared.Offence.{Offence}
use Rattle.offence_tests.specs.Known.{number_of}
use Rattle.stream_judge.proofs.Passes.{some_number}
use Rattle.stream_judge.proofs.search.search_from.Goals as goal

-- what the last window shows
at_end : (xs : List ℕ) (n : ℕ) → length xs ≡ 7203 * n → n ≤ 9 → (p v : ℕ) → Passing xs n p v → (r o : Option Offence) → p ≡ 8 * length xs
    → number_of r ≡ offence_in (8 * length xs) v → r ≡ o → Finding xs (number_of o) p
at_end xs n l few p v g r o e s q =
    passing_all xs n l p v g (number_of o) (ap number_of (sym q) ∙ s ∙ ap (λ (k : ℕ). offence_in k v) (sym e)) few (omega arith)

pub overflow_mul-total : goal.overflow_mul-total
overflow_mul-total c = omega (arith, c.requires.0, c.requires.1)

pub window_at-v-requires : goal.window_at-v-requires
window_at-v-requires c = (omega (arith, c.requires.0, c.requires.1), omega (arith, c.requires.0, c.requires.2))

pub loop-p-init : goal.loop-p-init
loop-p-init c = passing-start c.args.channel.now c.args.n c.requires.0 _ _ c.requires.2 c.requires.3 c.window_at-v.ensures

pub offence_in-requires : goal.offence_in-requires
offence_in-requires c = (c.all_words-table.ensures, c.guide-guide.ensures)

pub returns-in-Some : goal.returns-in-Some
returns-in-Some c =
    passing-found _ _ c.requires.0 _ _ c.loop-p.invariant _ (ap number_of (sym c.in-Some.is) ∙ c.offence_in.ensures) c.requires.1 (some_number _)

pub overflow_add-p : goal.overflow_add-p
overflow_add-p c = omega (arith, c.loop-p-test.true, c.requires.0, c.requires.1)

pub overflow_mul-v : goal.overflow_mul-v
overflow_mul-v c = omega (arith, c.loop-p.invariant.small)

pub overflow_add-v : goal.overflow_add-v
overflow_add-v c = omega (arith, c.loop-p.invariant.small, c.bit_at-b.ensures.1)

pub loop-p-preserved : goal.loop-p-preserved
loop-p-preserved c =
    passing_more _ _ c.requires.0 _ _ c.loop-p.invariant _ c.offence_in.ensures (omega (arith, c.loop-p-test.true, c.requires.0))
    (ap number_of c.in_default.is) _ c.bit_at-b.ensures.0

pub offence_in-requires-2 : goal.offence_in-requires-2
offence_in-requires-2 c = (c.all_words-table.ensures, c.guide-guide.ensures)

pub returns-in_default-offence_in : goal.returns-in_default-offence_in
returns-in_default-offence_in c =
    let e : c.loop-p.p ≡ 8 * length c.args.channel.now = omega (arith, c.loop-p-test.false, c.requires.0, c.loop-p.invariant.upto) in
    (c.loop-p.p, at_end _ _ c.requires.0 c.requires.1 _ _ c.loop-p.invariant _ _ e c.offence_in-2.ensures c.in_default-offence_in.is)

pub returns : goal.returns
returns c =
    let e : c.loop-p.p ≡ 8 * length c.args.channel.now = omega (arith, c.loop-p-test.false, c.requires.0, c.loop-p.invariant.upto) in
    subst (λ (p : ℕ). Finding c.args.channel.now (number_of (Some c.in-Some-offence_in.offence)) p) e
    (at_end _ _ c.requires.0 c.requires.1 _ _ c.loop-p.invariant _ _ e c.offence_in-2.ensures c.in-Some-offence_in.is)
