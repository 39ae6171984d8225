-- The ways out of carrying over, each with what leads to it: the order 1, 2, the first faulty frame, 4, 31.
-- Assumes nothing.
use mathlib.Core.Path.{◌≡◌, refl, sym, ap, subst, ◌∙◌}
use mathlib.Core.Bool.{Bool, true, false, ◌&&◌}
use mathlib.Core.List.{List, []}
use Prim.Native.Nat.{ℕ, ◌*◌, ◌/◌}
use native.Mathlib.Omega.{arith}
use lib.ListN.{length, replicate}
use Rattle.std.proofs.Common.{Result, Ok, Err}
use Rattle.std.specs.Bool.{⊤}
use Rattle.std.specs.Result.{IsErrAnd}
use Rattle.outcome.specs.Say.{Say, done, refused, demand}
use Rattle.outcome.specs.Say.Refusals.{never}
use Rattle.address.specs.declared.HeaderTime.{HeaderTime}
use Rattle.address.specs.Address.{in_range}
use Rattle.address_counting.specs.Count.{room}
use Rattle.told.specs.Told.{number_of}
use Rattle.frame_reader.specs.Reading as read
use Rattle.frame_reader.specs.declared.ReadFrameError.{ReadFrameError}
use Rattle.frame_faults.specs.AllFaults.{all_faults, says_of}
use Rattle.frame_faults.specs.AllFaults.Decides.{all_clean, all_refused, all_done}
use Rattle.carrying.specs.declared.CarryError.{CarryError}
use Rattle.carrying.specs.Carry.{DataFrames, says, Carries, refuses, refusal_of, say_of}

module _ (n : ℕ) (w : List ℕ) (start : HeaderTime) (d : DataFrames n w) where
  -- the demands behind the frames
  abbrev behind : Say
  behind = demand (in_range start) 4 (demand (room n start) 31 (done []))

  so_many : length w / 2064 ≡ n
  so_many = omega (arith, d.long)

  pub on_fault : (r : Result ⊤ CarryError) (e : ReadFrameError) → IsErrAnd r (λ x. refusal_of x ≡ read.refusal_of e)
      → says_of (Err e) ≡ all_faults (length w / 2064) w (done []) → say_of r ≡ says n w start
  on_fault (Err x) e p q =
      ap (λ (k : ℕ). refused k []) p
      ∙ sym (all_refused n w behind (sym (q ∙ ap (λ (k : ℕ). all_faults k w (done [])) so_many)))
  on_fault (Ok x) e p q = absurd p

  module _ (clean : done [] ≡ all_faults (length w / 2064) w (done [])) where
    past_frames : says n w start ≡ behind
    past_frames = all_clean n w (sym (ap number_of (clean ∙ ap (λ (k : ℕ). all_faults k w (done [])) so_many))) behind

    pub on_address : in_range start ≡ false → refused 4 [] ≡ says n w start
    on_address h = sym (past_frames ∙ simp h)

    module _ (ranged : in_range start ≡ true) where
      pub on_end : (in_range start && room n start) ≡ false → refused 31 [] ≡ says n w start
      on_end h = let few : room n start ≡ false = sym (simp ranged) ∙ h in sym (past_frames ∙ simp (ranged, few))

      pub on_all : (in_range start && room n start) ≡ true → done [] ≡ says n w start
      on_all h = let fits : room n start ≡ true = sym (simp ranged) ∙ h in sym (past_frames ∙ simp (ranged, fits))

  -- where nothing is refused, the addresses are there
  two_demands : (a b : Bool) → demand a 4 (demand b 31 (done [])) ≡ done [] → (a ≡ true) × (b ≡ true)
  two_demands true true e = (refl, refl)
  two_demands true false e = never e
  two_demands false b e = never e

  pub addresses : done [] ≡ says n w start → (in_range start ≡ true) × (room n start ≡ true)
  addresses e = two_demands (in_range start) (room n start) (all_done n w behind (sym e))

  -- a refusal behind the lengths leaves zeros
  pub on_refusal : (old new : List ℕ) → length old ≡ 2352 * n → new ≡ replicate (length old) 0 → (r : Result ⊤ CarryError) (e : CarryError) → IsErrAnd r (λ x. x ≡ e)
      → say_of (Err e) ≡ says n w start → Carries w start old (say_of r) new
  on_refusal old new l z (Err x) e p q =
      subst (λ (t : List ℕ). Carries w start old (refused (refusal_of x) []) t) (sym (z ∙ ap (λ (k : ℕ). replicate k 0) l))
      (refuses d l (sym (ap (λ (y : CarryError). refused (refusal_of y) []) p ∙ q)))
  on_refusal old new l z (Ok x) e p q = absurd p
