-- At most one number stands at a place, so that the promise of `number_at` allows one answer.
-- Assumes nothing.
use Rattle.std.specs.Prelude.{◌≡◌, refl, Option, Some, None, List, ℕ, ◌+◌, length, drop}
use Rattle.std.proofs.Common.{sym, ap, ap₂, ◌∙◌}
use Rattle.captures.specs.Number.{shortest}
use Rattle.captures.specs.Number.Leading.{leading_one}
use Rattle.number_reader.specs.declared.Leading.{Leading}
use Rattle.number_reader.specs.Leads.{Stands, Leads}

stands_one : (list : List ℕ) (at : ℕ) (x y : Leading) → Stands list at x.number x.taken → Stands list at y.number y.taken → x ≡ y
stands_one list at x y s t =
    let e : x.number ≡ y.number = leading_one x.number y.number (drop (at + x.taken) list) (drop (at + y.taken) list) (sym s.is ∙ t.is) in
    ap₂ (λ (n k : ℕ). record { number = n; taken = k }) e (s.taken ∙ ap (λ (n : ℕ). length (shortest n)) e ∙ sym t.taken)

-- two outcomes that the promise allows coincide
pub leads_one : (list : List ℕ) (at : ℕ) (a b : Option Leading) → Leads list at a → Leads list at b → a ≡ b
leads_one list at (Some x) (Some y) s t = ap Some (stands_one list at x y s t)
leads_one list at (Some x) None s t = absurd (t x.number (drop (at + x.taken) list) s.small s.is)
leads_one list at None (Some y) s t = absurd (s y.number (drop (at + y.taken) list) t.small t.is)
leads_one list at None None s t = refl
