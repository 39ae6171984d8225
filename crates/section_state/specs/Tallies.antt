-- The tally that a Section is written with, from the state that a writer carries, and back.
-- Assumes nothing.
use Rattle.std.specs.Prelude.{cond, ◌&&◌, ℕ, ◌*◌, ◌^◌, ltb, ℤ, pos}
use Rattle.std.proofs.Math.IntN.{sub_ℕ}
use Rattle.traces.specs.declared.Tally.{Tally}
use Rattle.section_state.specs.Carried.{most_sections, section_bits, above, below, level_now}
pub mod Range

-- the farthest that a DSV may be from 0
abbrev pub farthest : ℕ
farthest = section_bits * most_sections

-- the tally that a Section begins with
abbrev pub beginning : ℤ → ℤ → Tally
beginning dsv level = record { level = level_now level; plus = above dsv; minus = below dsv }

-- no writer counts so far, and the difference of smaller counts is within 64 bits
abbrev pub count_limit : ℕ
count_limit = 2 ^ 60

-- the DSV after a Section, by the counts of its tally; 0 for counts that no writer reaches
unfoldable pub dsv_then : ℕ → ℕ → ℤ
dsv_then plus minus = cond (ltb plus count_limit && ltb minus count_limit) (sub_ℕ plus minus) (pos 0)
