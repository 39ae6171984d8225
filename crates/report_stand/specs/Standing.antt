-- How a report (document 01) stands: what follows from the reads, and from a line that went out or did not.
-- Assumes nothing.
use Rattle.std.specs.Prelude.{Bool, true, false, cond, ℕ, ◌-◌, ◌%◌, min, Option, Some, None}
use Rattle.fate_counts.specs.declared.Counts.{Counts}
use Rattle.fate_counts.specs.Counting.{largest}
use Rattle.input_reading.specs.declared.Filled.{Filled}
use Rattle.input_reading.specs.declared.Stop.{Stop}
use Rattle.input_reading.specs.declared.Stop.TheVariants.{Failed, End}
use Rattle.report_stand.specs.declared.Progress.{Progress}
use Rattle.report_stand.specs.declared.Stand.{Stand}
use Rattle.report_stand.specs.declared.Stand.TheVariants.{Opening, Going, AtEnd, Closing, Done, ReadFailed, WriteFailed}

-- no Sector follows
abbrev pub is_over : Stand → Bool
is_over Opening = true
is_over Going = false
is_over (AtEnd left) = true
is_over Closing = true
is_over Done = true
is_over ReadFailed = true
is_over WriteFailed = true

-- how many Sectors are asked for at once: sixteen, or as many as can still be counted
abbrev pub ahead : Counts → ℕ
ahead c = min 16 (largest - c.sectors)

-- how it stands when the lines of the whole Sectors that came are out: if all that were asked for came it goes on; at the input's end it
-- is there, with what is left of a Sector; and a failure ends it
abbrev pub stand_of : ℕ → Option Stop → Stand
stand_of have None = Going
stand_of have (Some End) = AtEnd (have % 2352)
stand_of have (Some Failed) = ReadFailed

abbrev pub stand_after : Filled → Stand
stand_after f = stand_of f.have f.stop

-- how far a report is after a line that leads to q: there if all of it went out, and else at its end
abbrev pub after_line : Bool → Counts → Progress → Progress
after_line went c q = cond went q (record { counts = c; stand = WriteFailed })
