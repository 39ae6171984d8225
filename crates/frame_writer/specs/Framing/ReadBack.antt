-- What was written is read back: the same fields and the same Main Data.
-- Assumes nothing.
use Rattle.std.specs.Prelude.{◌≡◌, List, [], ℕ, length}
use Rattle.outcome.specs.Say.{done, outcome}
use Rattle.data_frame.specs.declared.Fields.{Fields}
use Rattle.data_frame.specs.DataFrame.{DataFrame, values}
use Rattle.frame_reader.specs.Reading.{reading}
use Rattle.frame_reader.specs.Reading.Exact.{read_complete}
use Rattle.frame_writer.specs.Framing.{Frames, frames}

-- what is in the buffer where writing is done
pub written-frame : {fields : Fields} {main old frame : List ℕ} → Frames fields main old (done []) frame → DataFrame fields main frame
written-frame (frames e d) = d

pub written-reads-back : {fields : Fields} {main old frame : List ℕ} → Frames fields main old (done []) frame → (later : List ℕ) → length later ≡ 2048
    → reading frame later ≡ outcome (done (values fields)) main
written-reads-back w later l = read_complete (written-frame w) later l
