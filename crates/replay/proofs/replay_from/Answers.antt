-- `replay::replay_from` meets its contract: each way out is a law of `WaysOut`, whose premises are what the tests and the private functions said.
-- Assumes nothing.
use mathlib.Core.Path.{sym, ◌∙◌}
use native.Mathlib.Omega.{arith}
use Rattle.legal_runs.specs.EdgeBits.AllLegal.{illegal_within}
use Rattle.replay.proofs.WaysOut.{Right, Clear, Begun, is_clear, is_begun, on_incoming, on_room, on_illegal, on_none, edge_there, frames_due, frames_few, on_done}
use Rattle.replay.proofs.replay_from.Goals as goal

pub returns-then-not-is_capture : goal.returns-then-not-is_capture
returns-then-not-is_capture c =
    on_incoming _ _ _ _ c.wipe.ensures (sym c.is_capture.ensures ∙ c.if-not-is_capture.true)

pub returns-then-frames-ne65536 : goal.returns-then-frames-ne65536
returns-then-frames-ne65536 c =
    on_room _ _ _ _ c.wipe.ensures
    (sym c.is_capture.ensures ∙ c.if-not-is_capture.false) c.if-frames-ne65536.true

pub overflow_add-illegal : goal.overflow_add-illegal
overflow_add-illegal c = omega (arith, illegal_within _ _ c.first_illegal-illegal.ensures)

-- ---- the needs
pub returns-then-illegal-capture : goal.returns-then-illegal-capture
returns-then-illegal-capture c = on_illegal (let right : Right c.args.capture.now c.args.frames.now c.wipe.new.out = record {
  wiped = c.wipe.ensures;
  captured = sym c.is_capture.ensures ∙ c.if-not-is_capture.false;
  long = c.if-frames-ne65536.false;
} in right) _ _ c.first_illegal-illegal.ensures c.if-illegal-capture.true

pub returns-then-not-stands_at : goal.returns-then-not-stands_at
returns-then-not-stands_at c = on_none (let clear : Clear c.args.capture.now c.args.frames.now c.wipe.new.out = is_clear (let right : Right c.args.capture.now c.args.frames.now c.wipe.new.out = record {
  wiped = c.wipe.ensures;
  captured = sym c.is_capture.ensures ∙ c.if-not-is_capture.false;
  long = c.if-frames-ne65536.false;
} in right) c.first_illegal-illegal.result c.first_illegal-illegal.ensures c.if-illegal-capture.false in clear) _ (sym c.stands_at.ensures ∙ c.if-not-stands_at.true)

pub frames_from-n-requires : goal.frames_from-n-requires
frames_from-n-requires c = edge_there (let begun : Begun c.args.capture.now c.args.frames.now c.wipe.new.out c.args.k = is_begun (let clear : Clear c.args.capture.now c.args.frames.now c.wipe.new.out = is_clear (let right : Right c.args.capture.now c.args.frames.now c.wipe.new.out = record {
  wiped = c.wipe.ensures;
  captured = sym c.is_capture.ensures ∙ c.if-not-is_capture.false;
  long = c.if-frames-ne65536.false;
} in right) c.first_illegal-illegal.result c.first_illegal-illegal.ensures c.if-illegal-capture.false in clear) _ (sym c.stands_at.ensures ∙ c.if-not-stands_at.false) in begun)

pub overflow_mul-n : goal.overflow_mul-n
overflow_mul-n c = omega (
  arith,
  frames_few (let begun : Begun c.args.capture.now c.args.frames.now c.wipe.new.out c.args.k = is_begun (let clear : Clear c.args.capture.now c.args.frames.now c.wipe.new.out = is_clear (let right : Right c.args.capture.now c.args.frames.now c.wipe.new.out = record {
    wiped = c.wipe.ensures;
    captured = sym c.is_capture.ensures ∙ c.if-not-is_capture.false;
    long = c.if-frames-ne65536.false;
  } in right) c.first_illegal-illegal.result c.first_illegal-illegal.ensures c.if-illegal-capture.false in clear) _ (sym c.stands_at.ensures ∙ c.if-not-stands_at.false) in begun) _ c.frames_from-n.ensures,
)

pub put_frames-requires : goal.put_frames-requires
put_frames-requires c = frames_due (let begun : Begun c.args.capture.now c.args.frames.now c.wipe.new.out c.args.k = is_begun (let clear : Clear c.args.capture.now c.args.frames.now c.wipe.new.out = is_clear (let right : Right c.args.capture.now c.args.frames.now c.wipe.new.out = record {
  wiped = c.wipe.ensures;
  captured = sym c.is_capture.ensures ∙ c.if-not-is_capture.false;
  long = c.if-frames-ne65536.false;
} in right) c.first_illegal-illegal.result c.first_illegal-illegal.ensures c.if-illegal-capture.false in clear) _ (sym c.stands_at.ensures ∙ c.if-not-stands_at.false) in begun) _ c.frames_from-n.ensures

pub overflow_mul-result : goal.overflow_mul-result
overflow_mul-result c = omega (
  arith,
  frames_few (let begun : Begun c.args.capture.now c.args.frames.now c.wipe.new.out c.args.k = is_begun (let clear : Clear c.args.capture.now c.args.frames.now c.wipe.new.out = is_clear (let right : Right c.args.capture.now c.args.frames.now c.wipe.new.out = record {
    wiped = c.wipe.ensures;
    captured = sym c.is_capture.ensures ∙ c.if-not-is_capture.false;
    long = c.if-frames-ne65536.false;
  } in right) c.first_illegal-illegal.result c.first_illegal-illegal.ensures c.if-illegal-capture.false in clear) _ (sym c.stands_at.ensures ∙ c.if-not-stands_at.false) in begun) _ c.frames_from-n.ensures,
)

pub overflow_add-result : goal.overflow_add-result
overflow_add-result c = omega (
  arith,
  frames_few (let begun : Begun c.args.capture.now c.args.frames.now c.wipe.new.out c.args.k = is_begun (let clear : Clear c.args.capture.now c.args.frames.now c.wipe.new.out = is_clear (let right : Right c.args.capture.now c.args.frames.now c.wipe.new.out = record {
    wiped = c.wipe.ensures;
    captured = sym c.is_capture.ensures ∙ c.if-not-is_capture.false;
    long = c.if-frames-ne65536.false;
  } in right) c.first_illegal-illegal.result c.first_illegal-illegal.ensures c.if-illegal-capture.false in clear) _ (sym c.stands_at.ensures ∙ c.if-not-stands_at.false) in begun) _ c.frames_from-n.ensures,
)

pub returns : goal.returns
returns c =
    on_done (let begun : Begun c.args.capture.now c.args.frames.now c.wipe.new.out c.args.k = is_begun (let clear : Clear c.args.capture.now c.args.frames.now c.wipe.new.out = is_clear (let right : Right c.args.capture.now c.args.frames.now c.wipe.new.out = record {
      wiped = c.wipe.ensures;
      captured = sym c.is_capture.ensures ∙ c.if-not-is_capture.false;
      long = c.if-frames-ne65536.false;
    } in right) c.first_illegal-illegal.result c.first_illegal-illegal.ensures c.if-illegal-capture.false in clear) _ (sym c.stands_at.ensures ∙ c.if-not-stands_at.false) in begun) _ c.frames_from-n.ensures _ (λ i. (c.slice_known-3-1.given i).fits) c.put_frames.ensures
