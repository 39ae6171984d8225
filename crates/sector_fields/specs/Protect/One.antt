-- What is put in is the only one: EDC, P and Q of a Sector are determined by its other bytes.
-- Assumes nothing.
use Rattle.std.specs.Prelude.{◌≡◌, ◌⊎◌, List, ℕ, ◌<◌, ◌≤◌, length, get_or, take, drop}
use Rattle.std.proofs.Common.{sym, ap, ◌∙◌, subst, inl, inr, arith, length-drop, take-add, length-take-le}
use Rattle.outcome.specs.Bytes.{Bytes}
use Rattle.outcome.specs.Bytes.Kept.{bytes_take, bytes_drop}
use Rattle.outcome.specs.First.Found.{lt-or-le}
use Rattle.lists.specs.Agree.{same-front, same-take, same-between}
use Rattle.edc.specs.Edc.{Divisible, edc}
use Rattle.edc.specs.Edc.Right.{edc-one}
use Rattle.rspc.specs.Words.{SameCovered}
use Rattle.rspc.proofs.Words.Parity.{p_one, q_one}
use Rattle.sector.specs.Layout.{bytes_from}
use Rattle.sector.specs.Correct.Whole.{whole}
use Rattle.sector_fields.specs.Protect.{Protects}

edc_of : (t : List ℕ) → length t ≡ 2352 → Bytes t → Divisible (take 2068 t) → bytes_from 2064 4 t ≡ edc (take 2064 t)
edc_of t l h d =
    edc-one (take 2064 t) (bytes_from 2064 4 t) (length-take-le 4 (drop 2064 t) (omega (arith, length-drop 2064 t)))
    (bytes_take 4 (drop 2064 t) (bytes_drop 2064 t h)) (subst (λ (w : List ℕ). Divisible w) (take-add 2064 4 t) d)

module _ (l t u : List ℕ) (ht : Bytes t) (hu : Bytes u) (a : Protects l t) (b : Protects l u) where
  front : take 2064 t ≡ take 2064 u
  front = a.before ∙ sym b.before

  same-edc : bytes_from 2064 4 t ≡ bytes_from 2064 4 u
  same-edc = edc_of t a.long ht a.edc ∙ ap edc front ∙ sym (edc_of u b.long hu b.edc)

  -- bytes 0 to 2,075
  given : (i : ℕ) → i < 2076 → get_or t i 0 ≡ get_or u i 0
  given i h = at (lt-or-le i 2064) (lt-or-le i 2068)
    where
      at : (i < 2064) ⊎ (2064 ≤ i) → (i < 2068) ⊎ (2068 ≤ i) → get_or t i 0 ≡ get_or u i 0
      at (inl m) n = same-front 2064 t u front i m
      at (inr m) (inl n) = same-between 2064 4 t u same-edc i m (omega arith)
      at (inr m) (inr n) = same-between 2068 8 t u (a.between ∙ sym b.between) i n (omega arith)

  covered : SameCovered t u
  covered = p_one t u ht hu (λ i l h. given i h) a.p b.p

  -- two Sectors of bytes that are both l protected are one
  pub protects_one : t ≡ u
  protects_one =
      whole t u a.long b.long (same-take 12 t u (a.long ∙ sym b.long) (λ i h. given i (omega arith))) covered
      (q_one t u ht hu covered a.q b.q)
