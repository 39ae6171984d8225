-- A refused step hands back the state as it was.
-- Assumes nothing.
use Rattle.std.specs.Prelude.{◌≡◌, refl, false}
use Rattle.outcome.specs.Say.{Say, done, refused}
use Rattle.calls.specs.Step.{is_done, handed_back}

pub refused_keeps : {S : Type 0} (say : Say) (new old : S) → is_done say ≡ false → handed_back say new old ≡ old
refused_keeps (done vs) new old e = cc
refused_keeps (refused n vs) new old e = refl
