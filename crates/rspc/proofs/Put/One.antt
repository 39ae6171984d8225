-- Putting parity into a Sector has one outcome: the bytes that make codewords are the only ones.
-- Assumes nothing.
use Rattle.std.specs.Prelude.{◌≡◌, ◌⊎◌, Bool, true, List, ℕ, ◌<◌, ◌≤◌, length, get_or}
use Rattle.std.proofs.Common.{sym, ◌∙◌, inl, inr, arith, ext_get_or}
use Rattle.outcome.specs.Bytes.{Bytes}
use Rattle.outcome.specs.First.Found.{lt-or-le}
use Rattle.lists.specs.Agree.{same-front, same_back}
use Rattle.rspc.proofs.Words.Parity.{p_one, q_one}
use Rattle.rspc.specs.Put.{PPut, QPut, PutP, PutQ}
use Rattle.rspc.specs.Place.One.{in_place_one}

module _ (s t u : List ℕ) (ht : Bytes t) (hu : Bytes u) where
  p_put_one : PPut s t → PPut s u → t ≡ u
  p_put_one p q = ext_get_or 0 t u (p.long ∙ sym q.long) (λ i l. at i (lt-or-le i 2076) (lt-or-le i 2248))
    where
      front : (i : ℕ) → i < 2076 → get_or t i 0 ≡ get_or u i 0
      front = same-front 2076 t u (p.before ∙ sym q.before)

      at : (i : ℕ) → (i < 2076) ⊎ (2076 ≤ i) → (i < 2248) ⊎ (2248 ≤ i) → get_or t i 0 ≡ get_or u i 0
      at i (inl h) k = front i h
      at i (inr h) (inl k) = p_one t u ht hu (λ i l m. front i m) p.words q.words i (omega arith) k
      at i (inr h) (inr k) = same_back 2248 t u (p.after ∙ sym q.after) i k

  q_put_one : length s ≡ 2352 → QPut s t → QPut s u → t ≡ u
  q_put_one e p q = ext_get_or 0 t u (p.long ∙ sym q.long) (λ i l. at i (omega (arith, p.long)) (lt-or-le i 2248))
    where
      front : (i : ℕ) → i < 2248 → get_or t i 0 ≡ get_or u i 0
      front = same-front 2248 t u (p.before ∙ sym q.before)

      at : (i : ℕ) → i < 2352 → (i < 2248) ⊎ (2248 ≤ i) → get_or t i 0 ≡ get_or u i 0
      at i l (inl h) = front i h
      at i l (inr h) = q_one t u ht hu (λ i l m. front i m) p.words q.words i h l

  -- two outcomes of putting P coincide
  pub put_p_one : (a b : Bool) → PutP s a t → PutP s b u → (a ≡ b) × (t ≡ u)
  put_p_one a b = in_place_one (λ s r t. (r ≡ true) × PPut s t) s a b t u (λ e p q. (p.0 ∙ sym q.0, p_put_one p.1 q.1))

  -- two outcomes of putting Q coincide
  pub put_q_one : (a b : Bool) → PutQ s a t → PutQ s b u → (a ≡ b) × (t ≡ u)
  put_q_one a b = in_place_one (λ s r t. (r ≡ true) × QPut s t) s a b t u (λ e p q. (p.0 ∙ sym q.0, q_put_one e p.1 q.1))
