-- A laid out Sector of Mode 01 that is then protected is the one that is asked for.
-- Assumes nothing.
use mathlib.Core.Path.{◌≡◌, refl, sym, ap, ◌∙◌}
use mathlib.Core.Bool.{true}
use mathlib.Core.List.{List, ◌++◌}
use Prim.Native.Nat.{ℕ, ◌+◌, ◌-◌}
use native.Mathlib.Omega.{arith}
use lib.ListN.{length, take, drop}
use lib.Seq.{drop-append-add}
use Rattle.outcome.specs.Bytes.{Bytes}
use Rattle.address.specs.Address.{in_range}
use Rattle.address.specs.declared.HeaderTime.{HeaderTime}
use Rattle.sector.specs.Layout.{bytes_from, zeros}
use Rattle.sector.specs.Layout.Zeros.{drop-zeros, take-zeros}
use Rattle.modes.specs.Modes.{is_written}
use Rattle.sector_fields.specs.Front.{front}
use Rattle.sector_fields.specs.Protect.{Protects}
use Rattle.sector_fields.specs.Protect.Blank.{blank_protected}
use Rattle.writer.specs.Write.{Asked}
use Rattle.writer.specs.Inner.Laid.{laid}
use Rattle.writer.proofs.Laying.{length_front, length-laid, asked_protected}

module _ (time : HeaderTime) (user : List ℕ) (fits : length user ≡ 2048) (range : in_range time ≡ true) where
  written : is_written 1 ≡ true
  written = unfold is_written in refl

  long_laid : length (laid 1 time user) ≡ 2352
  long_laid = length-laid 1 time user written fits range

  -- its Intermediate field is zeros
  blank-between : bytes_from 2068 8 (laid 1 time user) ≡ zeros 8
  blank-between =
      ap (take 8)
      (ap (λ (n : ℕ). drop (n + 2052) (laid 1 time user)) (sym (length_front 1 time user written fits range))
      ∙ drop-append-add (front 1 time) (user ++ zeros (2336 - length user)) 2052
      ∙ ap (λ (n : ℕ). drop (n + 4) (user ++ zeros (2336 - length user))) (sym fits)
      ∙ drop-append-add user (zeros (2336 - length user)) 4
      ∙ drop-zeros 4 (2336 - length user))
      ∙ take-zeros 8 (2336 - length user - 4) (omega arith)

  pub asked_mode01 : (s : List ℕ) → Protects (laid 1 time user) s → Bytes s → Asked 1 time user s
  asked_mode01 s p b = asked_protected 1 time user written fits range s refl p.long b p.before (blank_protected p blank-between)
