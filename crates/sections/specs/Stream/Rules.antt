-- Sections in a row, from a fresh writer or any other: between two ONEs there are two to ten ZEROs, within a Section and across Sections, and Sync
-- Headers stand exactly at the multiples of 588 bits.
-- Assumes nothing.
use Rattle.std.specs.Prelude.{◌≡◌, refl, Bool, true, false, not, List, [], ◌∷◌, ◌++◌, ℕ, zero, suc, ◌+◌, ◌-◌, ◌%◌, ◌<◌, T, eqb, length, drop}
use Rattle.std.proofs.Common.{sym, ap, ◌∙◌, subst, append_assoc, append-nil, not-suc-le-zero, le_of_suc-le-suc, arith, ne_eqb}
use Rattle.outcome.specs.Table.Entries.{and_left, and_right, of_true, true_of}
use Rattle.words.specs.RunRule.{runs}
use Rattle.merging.specs.Places.{placed}
use Rattle.merging.specs.Places.Kept.{placed_first}
use Rattle.merging.specs.Rule.{sync_header_bits, starts}
use Rattle.merging.specs.Automaton.Speaks.{state_first}
use Rattle.section_writer.specs.declared.SectionWriter.{SectionWriter}
use Rattle.section_frames.specs.Section.{section_after}
use Rattle.section_writer.specs.WriteSay.{section, after_section}
use Rattle.sections.specs.RuleHolds.{Opens}
use Rattle.sections.specs.RuleHolds.Frame.{run_frames}
use Rattle.sections.specs.Stream.{Part, stream_of, at_start}

-- before anything is written a Sync Header may come
pub opens_none : Opens []
unfolding placed
opens_none = record { in_state = state_first; placed_then = placed_first; runs_so_far = refl; placed_so_far = refl }

-- and after each Section
pub one-section : (old : List ℕ) (s : SectionWriter) (p : Part) → Opens old → Opens (old ++ (section s p.frames p.control).bits)
unfolding section section_after
one-section old s p o =
    (run_frames p.frames p.control p.frames_bytes p.control_bytes_lem old 98 0
    (at_start [] s)
    (record { own = state_first; all = subst Opens (sym (append-nil old)) o })).all

-- and after all
pub all_sections : (old : List ℕ) (s : SectionWriter) (ps : List Part) → Opens old → Opens (old ++ stream_of s ps)
unfolding stream_of
all_sections old s [] o = subst Opens (sym (append-nil old)) o
all_sections old s (p ∷ ps) o =
    let b = (section s p.frames p.control).bits in
    let n = after_section s (section s p.frames p.control) in
    subst Opens (append_assoc old b (stream_of n ps)) (all_sections (old ++ b) n ps (one-section old s p o))

-- THE RUN RULE: whatever is written, from a fresh writer or any other
pub runs_everywhere : (s : SectionWriter) (ps : List Part) → runs (stream_of s ps) ≡ true
runs_everywhere s ps = (all_sections [] s ps opens_none).runs_so_far

-- ---- the places

no_place : (i c : ℕ) → suc c < 588 → eqb ((0 + (588 - suc c)) % 588) 0 ≡ false
no_place i c h = ne_eqb ((0 + (588 - suc c)) % 588) 0 (λ e. omega arith)

not_of : (t : Bool) → T (not t) → t ≡ false
not_of true u = absurd u
not_of false u = refl

one_less : (i c : ℕ) → c < 588 → i + (588 - c) ≡ suc i + (588 - suc c)
one_less i c h = omega arith

-- a Sync Header begins at bit i exactly if the count says so
pub starts-at : (bs : List ℕ) (c i : ℕ) → T (placed c bs) → c < 588 → i < length bs → starts sync_header_bits (drop i bs) ≡ eqb ((i + (588 - c)) % 588) 0
unfolding placed
starts-at [] c i t h l = absurd (not-suc-le-zero l)
starts-at (b ∷ bs) zero zero t h l = true_of (starts sync_header_bits (b ∷ bs)) (and_left (starts sync_header_bits (b ∷ bs)) (placed 587 bs) t)
starts-at (b ∷ bs) (suc c) zero t h l =
    not_of (starts sync_header_bits (b ∷ bs)) (and_left (not (starts sync_header_bits (b ∷ bs))) (placed c bs) t) ∙ sym (no_place 0 c h)
starts-at (b ∷ bs) zero (suc i) t h l =
    let e : (i + (588 - 587)) % 588 ≡ (suc i + (588 - 0)) % 588 = omega arith in
    starts-at bs 587 i (and_right (starts sync_header_bits (b ∷ bs)) (placed 587 bs) t) (omega arith) (le_of_suc-le-suc l) ∙ ap (λ (n : ℕ). eqb n 0) e
starts-at (b ∷ bs) (suc c) (suc i) t h l =
    let e : (i + (588 - c)) % 588 ≡ (suc i + (588 - suc c)) % 588 = ap (λ (n : ℕ). n % 588) (one_less i c (omega arith)) in
    starts-at bs c i (and_right (not (starts sync_header_bits (b ∷ bs))) (placed c bs) t) (omega arith) (le_of_suc-le-suc l) ∙ ap (λ (n : ℕ). eqb n 0) e

-- SYNC HEADERS exactly at the multiples of 588 bits
pub headers-at : (s : SectionWriter) (ps : List Part) (i : ℕ) → i < length (stream_of s ps) → starts sync_header_bits (drop i (stream_of s ps)) ≡ eqb (i % 588) 0
headers-at s ps i h =
    let e : (i + (588 - 0)) % 588 ≡ i % 588 = omega arith in
    starts-at (stream_of s ps) 0 i (of_true (placed 0 (stream_of s ps)) (all_sections [] s ps opens_none).placed_so_far) (omega arith) h ∙ ap (λ (n : ℕ). eqb n 0) e
