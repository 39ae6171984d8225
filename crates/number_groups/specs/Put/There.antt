-- Where there is room the number is put.
-- Assumes nothing.
use Rattle.std.specs.Prelude.{◌≡◌, Bool, cond, List, ◌++◌, ℕ, ◌+◌, ◌≤◌, ◌<◌, length, take, drop}
use Rattle.std.proofs.Common.{sym, ap, ◌∙◌, le-leb}
use Rattle.std.proofs.lemmas.Bool.{lt-leb}
use Rattle.captures.specs.Number.{shortest}
use Rattle.number_groups.specs.Put.{Puts}

pub record PutThere (used n : ℕ) (list : List ℕ) (r : ℕ) (new : List ℕ) : Type 0 where
  pub next : r ≡ used + length (shortest n)
  pub is : new ≡ take used list ++ (shortest n ++ drop r list)

module _ {used n : ℕ} {list : List ℕ} {r : ℕ} {new : List ℕ} (h : used + 3 ≤ length list) where
  pub there : Puts used n list r new → PutThere used n list r new
  there p =
      record {
        next = p.next ∙ ap (λ (b : Bool). cond b (used + length (shortest n)) used) (le-leb (used + 3) (length list) h);
        is = p.is ∙ ap (λ (b : Bool). cond b (take used list ++ (shortest n ++ drop r list)) list) (le-leb (used + 3) (length list) h);
      }

  pub puts : PutThere used n list r new → Puts used n list r new
  puts p =
      record {
        next = p.next ∙ sym (ap (λ (b : Bool). cond b (used + length (shortest n)) used) (le-leb (used + 3) (length list) h));
        is = p.is ∙ sym (ap (λ (b : Bool). cond b (take used list ++ (shortest n ++ drop r list)) list) (le-leb (used + 3) (length list) h));
      }

pub puts_none : (used n : ℕ) (list : List ℕ) → length list < used + 3 → Puts used n list used list
puts_none used n list h = record { next = rw (lt-leb (used + 3) (length list) h); is = rw (lt-leb (used + 3) (length list) h) }
