-- The state after a Section is one that a writer can be in, so that refusal 9 never meets a state that the writer made.
-- Assumes nothing.
use Rattle.std.specs.Prelude.{◌≡◌, refl, Bool, true, ◌&&◌, List, [], ◌⊎◌, ℕ, zero, suc, ◌+◌, ◌-◌, ◌*◌, ◌≤◌, ◌<◌, leb, ℤ, pos, negsuc, nat_abs}
use Rattle.std.proofs.Common.{ap, ◌∙◌, inl, inr, arith, lt-ltb, le-ltb, le-leb, leb→le}
use Rattle.std.proofs.Math.IntN.{sub_ℕ}
use Rattle.outcome.specs.First.Found.{lt-or-le}
use Rattle.outcome.specs.Table.Entries.{and_right, of_true}
use Rattle.merging.specs.Chosen.{SoFar}
use Rattle.merging.specs.Dsv.{ups, downs}
use Rattle.merging.specs.Dsv.Levels.{ups-downs}
use Rattle.section_writer.specs.declared.SectionWriter.{SectionWriter}
use Rattle.section_writer.specs.State.{fresh, right}
use Rattle.section_state.specs.Carried.{level_right, above, below, level_now, level_then, most_sections, section_bits}
use Rattle.section_writer.specs.WriteSay.{section, after_section}
use Rattle.sections.specs.Stream.{at_start}
use Rattle.sections.specs.Grown.Section.{grown-section}

-- ---- level and DSV stay in range

abs_sub : (a b : ℕ) → nat_abs (sub_ℕ a b) ≡ (a - b) + (b - a)
abs_sub a b = go (lt-or-le a b)
  where
    go : (a < b) ⊎ (b ≤ a) → nat_abs (sub_ℕ a b) ≡ (a - b) + (b - a)
    go (inl l) = rw (lt-ltb a b l) (omega arith)
    go (inr l) = rw (le-ltb a b l) (omega arith)

abs_split : (d : ℤ) → nat_abs d ≡ above d + below d
abs_split (pos n) = omega arith
abs_split (negsuc n) = omega arith

near : (a b u d k n : ℕ) → u + d ≡ k → a + b ≤ n → ((a + u) - (b + d)) + ((b + d) - (a + u)) ≤ n + k
near a b u d k n e h = omega arith

level_right_lem : (l : ℕ) → level_right (level_then l) ≡ true
level_right_lem zero = refl
level_right_lem (suc l) = refl

level_low : (d : ℤ) → level_now d ≤ 1
level_low (pos n) = omega arith
level_low (negsuc n) = omega arith

three-true : (a b c : Bool) → a ≡ true → b ≡ true → c ≡ true → (a && (b && c)) ≡ true
three-true a b c p q r = rw (p, q, r)

-- THE STATE AFTER A WRITE passes its own test
pub state_stays_right : (s : SectionWriter) (frames control : List ℕ) → right s ≡ true → s.sections < most_sections → right (after_section s (section s frames control)) ≡ true
unfolding right after_section
state_stays_right s frames control r h =
    let w = at_start [] s in
    let g = grown-section s frames control in
    let w' = section s frames control in
    let u = ups w.level g.bits in
    let d = downs w.level g.bits in
    let total : u + d ≡ section_bits = ups-downs w.level g.bits (level_low s.level) ∙ g.long in
    let t = of_true (right s) r in
    let dsv : nat_abs s.dsv ≤ section_bits * s.sections = leb→le (nat_abs s.dsv) (section_bits * s.sections) (and_right (leb s.sections most_sections) (leb (nat_abs s.dsv) (section_bits * s.sections)) (and_right (level_right s.level) _ t)) in
    let p : w'.plus ≡ w.plus + u = ap (λ (x : SoFar). x.plus) g.is in
    let m : w'.minus ≡ w.minus + d = ap (λ (x : SoFar). x.minus) g.is in
    let n : nat_abs (sub_ℕ w'.plus w'.minus) ≤ section_bits * (s.sections + 1)
    = rw (abs_sub w'.plus w'.minus, p, m) (omega (arith, near (above s.dsv) (below s.dsv) u d section_bits (section_bits * s.sections) total (omega (arith, abs_split s.dsv)))) in
    three-true (level_right (level_then w'.level)) (leb (s.sections + 1) most_sections) (leb (nat_abs (sub_ℕ w'.plus w'.minus)) (section_bits * (s.sections + 1)))
    (level_right_lem w'.level) (le-leb (s.sections + 1) most_sections (omega arith)) (le-leb (nat_abs (sub_ℕ w'.plus w'.minus)) (section_bits * (s.sections + 1)) n)

-- a fresh writer's state passes it too
pub fresh-right : right fresh ≡ true
unfolding right
fresh-right = refl
