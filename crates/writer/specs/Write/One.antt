-- What is written is correct, and it is the only Sector that is so: for Mode 01 the EDC, P and Q bytes are the only ones that
-- make it correct.
-- Assumes nothing.
use Rattle.std.specs.Prelude.{◌≡◌, refl, true, ◌⊎◌, List, ℕ, zero, suc, ◌+◌, ◌-◌, ◌<◌, ◌≤◌, length, get_or, drop}
use Rattle.std.proofs.Common.{sym, ap, ◌∙◌, subst, inl, inr, arith, length-drop, ext_get_or, take_all}
use Rattle.outcome.specs.Say.{Say}
use Rattle.outcome.specs.Say.Refusals.{never}
use Rattle.outcome.specs.First.Found.{lt-or-le}
use Rattle.lists.specs.Agree.{same-front, same_back, same-take, same-between}
use Rattle.sector.specs.Layout.{bytes_from, time_of, mode_of, user_length, user_data}
use Rattle.sector.specs.Correct.{Protected}
use Rattle.sector_fields.specs.Protect.{Protects}
use Rattle.sector_fields.specs.Protect.One.{protects_one}
use Rattle.address.specs.declared.HeaderTime.{HeaderTime}
use Rattle.modes.specs.Modes.{is_written}
use Rattle.modes.specs.Modes.Both.{one-or-two}
use Rattle.writer.specs.Write.{Asked, Writes, refuses, writes}
use Rattle.writer.specs.Write.Modes.{done_written}

module _ {mode : ℕ} {time : HeaderTime} {user s t : List ℕ} (a : Asked mode time user s) (b : Asked mode time user t) where
  same_mode : mode_of s ≡ mode_of t
  same_mode = a.has_mode ∙ sym b.has_mode

  same_time : time_of s ≡ time_of t
  same_time = a.has_time ∙ sym b.has_time

  -- Sync, address and mode
  first-sixteen : (i : ℕ) → i < 16 → get_or s i 0 ≡ get_or t i 0
  first-sixteen i h = at (lt-or-le i 12)
    where
      from : (k : ℕ) → 12 + k < 16 → get_or s (12 + k) 0 ≡ get_or t (12 + k) 0
      from zero l = ap (λ (x : HeaderTime). x.0) same_time
      from (suc zero) l = ap (λ (x : HeaderTime). x.1) same_time
      from (suc (suc zero)) l = ap (λ (x : HeaderTime). x.2) same_time
      from (suc (suc (suc zero))) l = same_mode
      from (suc (suc (suc (suc k)))) l = absurd (omega arith)

      at : (i < 12) ⊎ (12 ≤ i) → get_or s i 0 ≡ get_or t i 0
      at (inl l) = same-front 12 s t (a.correct.head.synced ∙ sym b.correct.head.synced) i l
      at (inr l) =
          let e : 12 + (i - 12) ≡ i = omega arith in
          subst (λ (j : ℕ). get_or s j 0 ≡ get_or t j 0) e (from (i - 12) (omega arith))

  ls : length s ≡ 2352
  ls = a.correct.head.long

  lt : length t ≡ 2352
  lt = b.correct.head.long

  -- with equal bytes from 16 on, all are equal
  by_rest : drop 16 s ≡ drop 16 t → s ≡ t
  by_rest e = ext_get_or 0 s t (ls ∙ sym lt) (λ i h. at i (lt-or-le i 16))
    where
      at : (i : ℕ) → (i < 16) ⊎ (16 ≤ i) → get_or s i 0 ≡ get_or t i 0
      at i (inl l) = first-sixteen i l
      at i (inr l) = same_back 16 s t e i l

  same_user : user_data s ≡ user_data t
  same_user = a.has_user ∙ sym b.has_user

  -- the user data of a mode that has n bytes of it
  user_of : (n : ℕ) → user_length mode ≡ n → bytes_from 16 n s ≡ bytes_from 16 n t
  user_of n e =
      ap (λ (k : ℕ). bytes_from 16 k s) (sym (ap user_length a.has_mode ∙ e)) ∙ same_user
      ∙ ap (λ (k : ℕ). bytes_from 16 k t) (ap user_length b.has_mode ∙ e)

  mode_02 : mode ≡ 2 → s ≡ t
  mode_02 e =
      by_rest
      (sym (take_all 2336 (drop 16 s) (omega (arith, length-drop 16 s))) ∙ user_of 2336 (ap user_length e)
      ∙ take_all 2336 (drop 16 t) (omega (arith, length-drop 16 t)))

  -- the Sector with its EDC and parities put in is the only one
  mode_01 : mode ≡ 1 → s ≡ t
  mode_01 e = protects_one s s t a.correct.head.bytes b.correct.head.bytes own other
    where
      ps : Protected s
      ps = a.correct.mode01 (a.has_mode ∙ e)

      pt : Protected t
      pt = b.correct.mode01 (b.has_mode ∙ e)

      -- bytes 0 to 2,063
      given : (i : ℕ) → i < 2064 → get_or t i 0 ≡ get_or s i 0
      given i h = sym (at (lt-or-le i 16))
        where
          at : (i < 16) ⊎ (16 ≤ i) → get_or s i 0 ≡ get_or t i 0
          at (inl l) = first-sixteen i l
          at (inr l) = same-between 16 2048 s t (user_of 2048 (ap user_length e)) i l (omega arith)

      own : Protects s s
      own = record { long = ls; before = refl; between = refl; edc = ps.edc; p = ps.p; q = ps.q }

      other : Protects s t
      other =
          record {
            long = lt;
            before = same-take 2064 t s (lt ∙ sym ls) given;
            between = pt.intermediate ∙ sym ps.intermediate;
            edc = pt.edc;
            p = pt.p;
            q = pt.q;
          }

-- only one Sector is asked for
pub asked-one : (mode : ℕ) {time : HeaderTime} {user s t : List ℕ} → is_written mode ≡ true → Asked mode time user s → Asked mode time user t → s ≡ t
asked-one mode {s = s} {t = t} h a b = by (one-or-two mode h)
  where
    by : (mode ≡ 1) ⊎ (mode ≡ 2) → s ≡ t
    by (inl e) = mode_01 a b e
    by (inr e) = mode_02 a b e

-- two outcomes that the promise allows coincide, the buffer included
pub write_one : (mode : ℕ) (time : HeaderTime) (user old : List ℕ) {a b : Say} {s t : List ℕ} → Writes mode time user old a s → Writes mode time user old b t
    → (a ≡ b) × (s ≡ t)
write_one mode time user old (refuses e) (refuses f) = (sym e ∙ f, refl)
write_one mode time user old (refuses e) (writes f q) = never (sym e ∙ f)
write_one mode time user old (writes e p) (refuses f) = never (sym f ∙ e)
write_one mode time user old (writes e p) (writes f q) = (refl, asked-one mode (done_written mode time user old e) p q)
