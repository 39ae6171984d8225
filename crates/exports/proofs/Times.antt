-- A promise about the time that three bytes make is one about the time made of them.
-- Assumes nothing.
use mathlib.Core.Path.{◌≡◌, refl, subst}
use mathlib.Core.List.{List, []}
use Prim.Native.Nat.{ℕ}
use Rattle.std.specs.Prelude.{⊤, Result}
use Rattle.address.specs.declared.HeaderTime.{HeaderTime}
use Rattle.writer.specs.Write.{Writes, say_of}
use Rattle.writer.specs.declared.WriteError.{WriteError}
use Rattle.carrying.specs.Carry.{Carries}
use Rattle.told.specs.Told.{number_of, Told}

pub written_at : {mode x : ℕ} {t u : HeaderTime} {user old new : List ℕ} (a : Result ⊤ WriteError) → t ≡ u → Writes mode t user old (say_of a) new
    → x ≡ number_of (say_of a) → Told 0 (λ say. Writes mode u user old say new) x []
written_at {mode} {user = user} {old = old} {new = new} a e p h =
    record {
      say = say_of a;
      tells = record { has_number = h; has_values = refl };
      kept = subst (λ (s : HeaderTime). Writes mode s user old (say_of a) new) e p;
    }

pub carried_at : {x : ℕ} {t u : HeaderTime} {frames old new : List ℕ} → t ≡ u → Told 0 (λ say. Carries frames t old say new) x []
    → Told 0 (λ say. Carries frames u old say new) x []
carried_at {x} {frames = frames} {old = old} {new = new} e p =
    subst (λ (s : HeaderTime). Told 0 (λ say. Carries frames s old say new) x []) e p
