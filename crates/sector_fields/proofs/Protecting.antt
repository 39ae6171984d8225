-- The steps that protect a Sector of Mode 01: its EDC is copied in, then P and Q are put in.
-- Assumes nothing.
use mathlib.Core.Path.{◌≡◌, sym, ap, ◌∙◌, subst}
use mathlib.Core.Bool.{Bool, cond}
use mathlib.Core.List.{List, ◌++◌}
use Prim.Native.Nat.{ℕ}
use native.Mathlib.Omega.{arith}
use lib.Dec.{eqb}
use lib.ListN.{length, take, drop}
use borrow.Rule.Slice.PartMut.{put_mid, mid_of, mid_len}
use Rattle.outcome.specs.Buffer.Lengths.{same_lengths}
use Rattle.outcome.specs.Buffer.Part.{part-back}
use Rattle.edc.specs.Edc.{edc}
use Rattle.edc.specs.Edc.Right.{length-edc}
use Rattle.rspc.specs.Put.{PPut, PutP, PutQ}
use Rattle.sector_fields.specs.Protect.{Protects}
use Rattle.sector_fields.proofs.Protects.{with_edc, length-with, protects}

module _ (l : List ℕ) (long : length l ≡ 2352) where
  pub edc_copied : (e q : List ℕ) (k : Bool) → e ≡ edc (take 2064 l)
      → (k ≡ eqb (length e) (length (mid_of 2064 4 l))) × (q ≡ cond k e (mid_of 2064 4 l)) → put_mid 2064 4 l q ≡ with_edc l
  edc_copied e q k f g =
      part-back 2064 2068 l q (omega arith)
      ∙ ap (λ (w : List ℕ). take 2064 l ++ (w ++ drop 2068 l))
      (same_lengths k (length e) (length (mid_of 2064 4 l)) q e (mid_of 2064 4 l) g
      (ap length f ∙ length-edc (take 2064 l) ∙ sym (mid_len 2064 2068 l (omega arith)))
      ∙ f)

  pub both_put : (w u t : List ℕ) (j k : Bool) → w ≡ with_edc l → PutP w j u → PutQ u k t → Protects l t
  both_put w u t j k e p q =
      let lw : length w ≡ 2352 = ap length e ∙ length-with l long in
      let pu : PPut w u = (p.sector lw).1 in
      protects l long u t (subst (λ (x : List ℕ). PPut x u) e pu) (q.sector (pu.long ∙ lw)).1
