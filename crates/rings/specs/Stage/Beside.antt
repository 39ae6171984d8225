-- Two stages that took a step one after the other, their places and stores one behind the other, are one stage that took one.
-- Assumes nothing.
use Rattle.std.specs.Prelude.{◌≡◌, List, ◌++◌, ℕ, length}
use Rattle.std.proofs.Common.{sym, ap, ap₂, ◌∙◌, arith, length-append}
use Rattle.lines.specs.Delay.{rows_out, rows_next, total}
use Rattle.lines.proofs.Stream.Beside.{total_beside, rows_beside, next_beside}
use Rattle.rings.specs.Rings.{waits, onward, unrolled_all}
use Rattle.rings.specs.Rings.Places.{InPlace, in_place_length, in_place_joined, waits_joined, onward_joined, length-onward}
use Rattle.rings.specs.Rings.Lengths.{length-unrolled_all}
use Rattle.rings.specs.Rings.Beside.{unrolled_joined}
use Rattle.rings.specs.Stage.{Turned}

-- the places a step later
pub later : (d e ps qs : List ℕ) → InPlace d ps → onward (waits (d ++ e)) (ps ++ qs) ≡ onward (waits d) ps ++ onward (waits e) qs
later d e ps qs h = ap (λ (t : List ℕ). onward t (ps ++ qs)) (waits_joined d e) ∙ onward_joined (waits d) (waits e) ps qs (in_place_length d ps h)

-- the lines of both, now and a step later
module _ {d ps s v v' r : List ℕ} (a : Turned d ps s v v' r) where
  pub lines_now : (e qs t : List ℕ) → unrolled_all (d ++ e) (ps ++ qs) (s ++ t) ≡ unrolled_all d ps s ++ unrolled_all e qs t
  lines_now e qs t = unrolled_joined d e ps qs s t (in_place_length d ps a.legal) a.held

  pub lines_later : (e qs t : List ℕ) → unrolled_all (d ++ e) (onward (waits (d ++ e)) (ps ++ qs)) (r ++ t) ≡ rows_next d (unrolled_all d ps s) v ++ unrolled_all e (onward (waits e) qs) t
  lines_later e qs t =
      ap (λ (p : List ℕ). unrolled_all (d ++ e) p (r ++ t)) (later d e ps qs a.legal)
      ∙ unrolled_joined d e (onward (waits d) ps) (onward (waits e) qs) r t (length-onward (waits d) ps ∙ in_place_length d ps a.legal) a.left
      ∙ ap (λ (l : List ℕ). l ++ unrolled_all e (onward (waits e) qs) t) a.next

  -- the line of the first
  pub line_long : length (unrolled_all d ps s) ≡ total d
  line_long = length-unrolled_all d ps s ∙ a.held

  pub beside : {e qs t w w' u : List ℕ} → length v ≡ length d → Turned e qs t w w' u → Turned (d ++ e) (ps ++ qs) (s ++ t) (v ++ w) (v' ++ w') (r ++ u)
  beside {e} {qs} {t} {w} {w'} {u} long b =
      record {
        legal = in_place_joined d e ps qs a.legal b.legal;
        held = omega (arith, length-append s t, total_beside d e, a.held, b.held);
        left = omega (arith, length-append r u, total_beside d e, a.left, b.left);
        out =
            ap₂ ◌++◌ a.out b.out
            ∙ sym (rows_beside d e (unrolled_all d ps s) (unrolled_all e qs t) v w line_long long)
            ∙ ap (λ (l : List ℕ). rows_out (d ++ e) l (v ++ w)) (sym (lines_now e qs t));
        next =
            lines_later e qs u
            ∙ ap (λ (l : List ℕ). rows_next d (unrolled_all d ps s) v ++ l) b.next
            ∙ sym (next_beside d e (unrolled_all d ps s) (unrolled_all e qs t) v w line_long long)
            ∙ ap (λ (l : List ℕ). rows_next (d ++ e) l (v ++ w)) (sym (lines_now e qs t));
      }
