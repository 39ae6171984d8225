-- `text::lines::with_zeros` meets its contract: what is left of 96 zeros stands behind the bytes.
-- Assumes nothing.
use Rattle.std.proofs.Common.{refl, ap, ◌∙◌, ◌++◌, ◌-◌, length, ℕ, List, replicate}
use Rattle.std.proofs.lemmas.List.{drop-replicate}
use Rattle.text.proofs.lines.with_zeros.Goals as goal

pub returns : goal.returns
returns c =
    let line = c.args.line.now in
    record {
      fits = c.requires;
      len = refl;
      bytes =
          ap (λ (behind : List ℕ). c.copy_from_slice.new.self ++ behind) (drop-replicate (length line) 96 0)
          ∙ ap (λ (front : List ℕ). front ++ replicate (96 - length line) 0) c.copy_from_slice.ensures.after;
    }
