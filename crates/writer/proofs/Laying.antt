-- What a Sector that is laid out has of the Sector that is asked for.
-- Assumes nothing.
use mathlib.Core.Path.{◌≡◌, refl, sym, ap, ◌∙◌, subst}
use mathlib.Core.Bool.{Bool, true, false, cond}
use mathlib.Core.List.{List, ◌++◌}
use mathlib.Core.Logic.{⊎_elim}
use Prim.Native.Nat.{ℕ, ◌-◌, ◌<◌, ◌≤◌}
use native.Mathlib.Omega.{arith}
use lib.Dec.{eqb}
use lib.ListN.{length, get_or, take, drop, length-append}
use lib.Seq.{get_or-take, take-take, take_at, drop_at}
use Rattle.outcome.specs.Bytes.{Bytes}
use Rattle.lists.specs.Agree.{same-within}
use Rattle.address.specs.Address.{in_range}
use Rattle.address.specs.declared.HeaderTime.{HeaderTime}
use Rattle.sector.specs.Layout.{sync, bytes_from, time_of, mode_of, user_length, zeros}
use Rattle.sector.specs.Layout.Zeros.{length-zeros}
use Rattle.sector.specs.Correct.{Protected}
use Rattle.modes.specs.Modes.{is_written}
use Rattle.modes.specs.Modes.Both.{one-or-two}
use Rattle.sector_fields.specs.Front.{front}
use Rattle.writer.specs.Write.{Asked}
use Rattle.writer.specs.Inner.Laid.{laid}

-- s begins with the front
pub record Fronted (mode : ℕ) (time : HeaderTime) (s : List ℕ) : Type 0 where
  pub synced : take 12 s ≡ sync
  pub has_time : time_of s ≡ time
  pub has_mode : mode_of s ≡ mode

pub fronted : (mode : ℕ) (time : HeaderTime) (rest : List ℕ) → Fronted mode time (front mode time ++ rest)
unfolding front
fronted mode time rest = record { synced = refl; has_time = refl; has_mode = refl }

-- a Sector that agrees with another on its first n bytes, n at least 16, has its front
pub fronted_same : (mode : ℕ) (time : HeaderTime) (n : ℕ) (s t : List ℕ) → 16 ≤ n → take n s ≡ take n t → Fronted mode time t → Fronted mode time s
fronted_same mode time n s t l e f =
    record {
      synced = sym (take-take 12 n s (omega arith)) ∙ ap (take 12) e ∙ take-take 12 n t (omega arith) ∙ f.synced;
      has_time = (λ i. record { 0 = at 12 (omega arith) i; 1 = at 13 (omega arith) i; 2 = at 14 (omega arith) i }) ∙ f.has_time;
      has_mode = at 15 (omega arith) ∙ f.has_mode;
    }
  where
    at : (i : ℕ) → i < 16 → get_or s i 0 ≡ get_or t i 0
    at i h = sym (get_or-take n s i 0 (omega arith)) ∙ ap (λ (w : List ℕ). get_or w i 0) e ∙ get_or-take n t i 0 (omega arith)

module _ (mode : ℕ) (time : HeaderTime) (user : List ℕ) (h : is_written mode ≡ true) (fits : length user ≡ user_length mode) (range : in_range time ≡ true) where
  -- Mode 01 or 02
  known : (0 < mode) × (mode ≤ 2)
  known = ⊎_elim (λ (e : mode ≡ 1). (omega arith, omega arith)) (λ (e : mode ≡ 2). (omega arith, omega arith)) (one-or-two mode h)

  -- a Sector with this front whose rules and user data are right is the one that is asked for
  pub asked : (s : List ℕ) → Fronted mode time s → length s ≡ 2352 → Bytes s → (mode ≡ 1 → Protected s) → bytes_from 16 (user_length mode) s ≡ user
      → Asked mode time user s
  asked s f l b p u =
      record {
        correct = record {
          head = record { long = l; bytes = b; synced = f.synced; addressed = ap in_range f.has_time ∙ range };
          known = subst (λ (m : ℕ). m ≤ 2) (sym f.has_mode) known.1;
          mode00 = λ z. absurd (omega (arith, known.0, sym f.has_mode ∙ z));
          mode01 = λ z. p (sym f.has_mode ∙ z);
        };
        has_mode = f.has_mode;
        has_time = f.has_time;
        has_user = ap (λ (n : ℕ). bytes_from 16 n s) (ap user_length f.has_mode) ∙ u;
      }

  pub length_front : length (front mode time) ≡ 16
  length_front = unfold front in refl

  -- a mode has room for its user data
  pub room : length user ≤ 2336
  room = subst (λ (n : ℕ). n ≤ 2336) (sym fits) (at (eqb mode 1) (eqb mode 2))
    where
      at : (a b : Bool) → cond a 2048 (cond b 2336 0) ≤ 2336
      at true b = omega arith
      at false true = omega arith
      at false false = omega arith

  after_front : drop 16 (laid mode time user) ≡ user ++ zeros (2336 - length user)
  after_front = drop_at (front mode time) (user ++ zeros (2336 - length user)) 16 length_front

  pub length-laid : length (laid mode time user) ≡ 2352
  length-laid =
      omega (
        arith,
        room,
        length_front,
        length-append (front mode time) (user ++ zeros (2336 - length user)),
        length-append user (zeros (2336 - length user)),
        length-zeros (2336 - length user),
      )

  -- its user data
  pub laid_user : bytes_from 16 (user_length mode) (laid mode time user) ≡ user
  laid_user = ap (take (user_length mode)) after_front ∙ take_at user (zeros (2336 - length user)) (user_length mode) fits

  -- Mode 02 has nothing more
  pub asked_plain : (mode ≡ 1 → ⊥) → Bytes (laid mode time user) → Asked mode time user (laid mode time user)
  asked_plain n b =
      asked (laid mode time user) (fronted mode time (user ++ zeros (2336 - length user))) length-laid b (λ e. absurd (n e)) laid_user

  -- in Mode 01 the bytes from 2,064 on are put in
  pub asked_protected : (s : List ℕ) → mode ≡ 1 → length s ≡ 2352 → Bytes s → take 2064 s ≡ take 2064 (laid mode time user) → Protected s
      → Asked mode time user s
  asked_protected s e l b same p =
      asked s (fronted_same mode time 2064 s (laid mode time user) (omega arith) same (fronted mode time (user ++ zeros (2336 - length user)))) l b
      (λ _. p) (user_data_lem (ap user_length e))
    where
      user_data_lem : user_length mode ≡ 2048 → bytes_from 16 (user_length mode) s ≡ user
      user_data_lem q =
          ap (λ (n : ℕ). bytes_from 16 n s) q ∙ same-within 16 2048 s (laid mode time user) same
          ∙ sym (ap (λ (n : ℕ). bytes_from 16 n (laid mode time user)) q) ∙ laid_user
