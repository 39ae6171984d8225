-- What the writer makes, beside judging: it passes with the mode and address that were asked for, and so never with mode 00.
-- Assumes nothing.
use Rattle.std.specs.Prelude.{◌≡◌, List, [], ℕ}
use Rattle.std.proofs.Common.{sym, ap₂, ◌∙◌, ⊎_elim, arith}
use Rattle.outcome.specs.Say.{done}
use Rattle.address.specs.declared.HeaderTime.{HeaderTime}
use Rattle.judge.specs.Judging.{passing, judging}
use Rattle.judge.specs.Judging.Exact.{judge_complete}
use Rattle.judge.specs.Judging.Told.{passing-one}
use Rattle.modes.specs.Modes.Both.{one-or-two}
use Rattle.writer.specs.Write.{Asked, says, Writes, writes}
use Rattle.writer.specs.Write.Modes.{done_written}

module _ {mode : ℕ} {time : HeaderTime} {user old : List ℕ} where
  -- where the writer is done, no demand refused, and what is in the buffer is what was asked for
  pub written-asked : {s : List ℕ} → Writes mode time user old (done []) s → (says mode time user old ≡ done []) × Asked mode time user s
  written-asked (writes e g) = (e, g)

  pub written-passes : {s : List ℕ} → Writes mode time user old (done []) s → judging s ≡ passing mode time
  written-passes {s} w = let g = (written-asked w).1 in judge_complete s g.correct ∙ ap₂ passing g.has_mode g.has_time

  -- nothing that the writer makes is judged to be of mode 00
  pub never_mode_00 : {s : List ℕ} → Writes mode time user old (done []) s → (at : HeaderTime) → judging s ≡ passing 0 at → ⊥
  never_mode_00 w at j =
      let m : mode ≡ 0 = (passing-one mode 0 time at (sym (written-passes w) ∙ j)).0 in
      ⊎_elim (λ (e : mode ≡ 1). omega arith) (λ (e : mode ≡ 2). omega arith)
      (one-or-two mode (done_written mode time user old (written-asked w).0))
