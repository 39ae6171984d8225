-- `replay::replay` meets its contract: what is played from where the search ends, begun at the first edge, is the capture replayed (`from_header`).
-- Assumes nothing.
use Rattle.std.proofs.Common.{ℕ, List, ap₂, ◌∙◌, Bor}
use Rattle.legal_runs.specs.EdgeBits.{runs}
use Rattle.header_search.specs.HeaderEdge.{header_edge}
use Rattle.replay.specs.FromEdge.{replaying_from}
use Rattle.replay.specs.FromEdge.Header.{from_header}
use Rattle.replay.proofs.replay.Goals as goal

pub returns : goal.returns
returns c =
    let old = c.args.frames.now in
    c.play.ensures
    ∙ ap₂ (λ (y : Bor (List ℕ)) (k : ℕ). replaying_from y.now k old) c.seek.ensures.0 c.seek.ensures.1
    ∙ ap₂ (λ (y : Bor (List ℕ)) (k : ℕ). replaying_from y.now (header_edge (runs y.now) k) old) c.over.ensures.0 c.over.ensures.1
    ∙ from_header c.args.capture.now old
