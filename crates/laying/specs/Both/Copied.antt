-- The two are laid in by two copies, each into a part that was lent; and where the room is known, so is the answer.
-- Assumes nothing.
use Rattle.std.specs.Prelude.{◌≡◌, refl, Bool, true, false, cond, List, ◌++◌, ℕ, ◌+◌, ◌-◌, ◌<◌, ◌≤◌, eqb, length, take, drop}
use Rattle.std.proofs.Common.{sym, ap, ap₂, ◌∙◌, subst, append_assoc, arith, le-leb, length-append, length-drop, take_at, drop-drop, length-take-le}
use Rattle.std.proofs.lemmas.Bool.{lt-leb}
use borrow.Rule.Slice.PartMut.{mid_of, put_mid, mid_len}
use Rattle.std.proofs.Math.Seq.{drop-append-add}
use Rattle.outcome.specs.Buffer.Lengths.{same_lengths}
use Rattle.outcome.specs.Buffer.Part.{part-back}
use Rattle.lists.specs.Laid.{Laid}
use Rattle.lists.specs.Laid.Copied.{laid}
use Rattle.laying.specs.Both.{both, Lays}

-- what `outcome::copy` says of a list q and a part
abbrev pub CopiedInto : Bool → List ℕ → List ℕ → List ℕ → Type 0
CopiedInto r q part x = (r ≡ eqb (length q) (length part)) × (x ≡ cond r q part)

-- after `outcome::copy` of a list q into the part from a up to e
pub put_copy : (a e : ℕ) (q s x : List ℕ) (r : Bool) → a ≤ e → length q ≡ e - a → e ≤ length s → CopiedInto r q (mid_of a (e - a) s) x
    → put_mid a (e - a) s x ≡ take a s ++ (q ++ drop e s)
put_copy a e q s x r h l m c =
    part-back a e s x h
    ∙ ap (λ (t : List ℕ). take a s ++ (t ++ drop e s))
    (same_lengths r (length q) (length (mid_of a (e - a) s)) x q (mid_of a (e - a) s) c (l ∙ sym (mid_len a e s m)))

module _ (a : ℕ) (p q s : List ℕ) where
  pub no_room : length s < a + length p + length q → Lays a p q s false s
  no_room h = record { answer = sym (lt-leb (a + length p + length q) (length s) h); leaves = refl }

  -- what is answered where there is room
  pub laid_both : {r : Bool} {t : List ℕ} → a + length p + length q ≤ length s → Lays a p q s r t → t ≡ both a p q s
  laid_both {r} {t} h c = c.leaves ∙ ap (λ (b : Bool). cond b (both a p q s) s) (c.answer ∙ le-leb (a + length p + length q) (length s) h)

  both-laid : a + length p + length q ≤ length s → Laid a (p ++ q) s (both a p q s)
  both-laid h =
      rw (append_assoc p q (drop (a + length p + length q) s)) at (laid a (a + length p + length q) (p ++ q) s (omega (arith, length-append p q)) h)

  -- so it is after `laying::lay`
  pub laid_in : {r : Bool} {t : List ℕ} → a + length p + length q ≤ length s → Lays a p q s r t → Laid a (p ++ q) s t
  laid_in h c = subst (λ (t : List ℕ). Laid a (p ++ q) s t) (sym (laid_both h c)) (both-laid h)

  module _ (h : a + length p + length q ≤ length s) where
    abbrev one : List ℕ
    one = take a s ++ (p ++ drop (a + length p) s)

    pub length-one : length one ≡ length s
    length-one =
        omega (
          arith,
          length-append (take a s) (p ++ drop (a + length p) s),
          length-append p (drop (a + length p) s),
          length-take-le a s (omega arith),
          length-drop (a + length p) s,
        )

    long : length (take a s ++ p) ≡ a + length p
    long = omega (arith, length-append (take a s) p, length-take-le a s (omega arith))

    front : take (a + length p) one ≡ take a s ++ p
    front =
        ap (take (a + length p)) (sym (append_assoc (take a s) p (drop (a + length p) s)))
        ∙ take_at (take a s ++ p) (drop (a + length p) s) (a + length p) long

    rest : drop (a + length p + length q) one ≡ drop (a + length p + length q) s
    rest =
        ap (drop (a + length p + length q)) (sym (append_assoc (take a s) p (drop (a + length p) s)))
        ∙ ap (λ (n : ℕ). drop (n + length q) (take a s ++ p ++ drop (a + length p) s)) (sym long)
        ∙ drop-append-add (take a s ++ p) (drop (a + length p) s) (length q)
        ∙ drop-drop (length q) (a + length p) s

    pub two_copied : (f x : List ℕ) (r : Bool) → f ≡ one → CopiedInto r q (mid_of (a + length p) (a + length p + length q - (a + length p)) f) x
        → Lays a p q s true (put_mid (a + length p) (a + length p + length q - (a + length p)) f x)
    two_copied f x r e c =
        record {
          answer = sym (le-leb (a + length p + length q) (length s) h);
          leaves =
              put_copy (a + length p) (a + length p + length q) q f x r (omega arith) (omega arith) (omega (arith, ap length e, length-one)) c
              ∙ ap (λ (t : List ℕ). take (a + length p) t ++ (q ++ drop (a + length p + length q) t)) e
              ∙ ap₂ (λ (x y : List ℕ). x ++ (q ++ y)) front rest
              ∙ append_assoc (take a s) p (q ++ drop (a + length p + length q) s);
        }
