-- Where the Sectors and the filling stand, for every n at once.
-- Assumes nothing.
use Rattle.std.specs.Prelude.{◌≡◌, refl, ℕ, ◌+◌, ◌-◌, ◌*◌, ◌/◌, ◌%◌, ◌≤◌, ◌<◌, take, drop}
use Rattle.std.proofs.Common.{sym, ◌∙◌, take_at}
use Rattle.std.proofs.Math.Path.{ap, ap₂}
use mathlib.Core.List.{List, ◌++◌}
use native.Mathlib.Omega.{arith}
use Rattle.std.proofs.Math.ListN.{length, get_or, length-append, get_or-append}
use Rattle.std.proofs.lemmas.List.{get_or-replicate}
use Rattle.std.proofs.Math.Seq.{drop_at, get_or-append-add}
use Rattle.sector.specs.Layout.{zeros}
use Rattle.sector.specs.Layout.Zeros.{length-zeros}
use Rattle.pair_exchange.specs.Exchange.{exchanged, other}
use Rattle.pair_exchange.specs.Exchange.Pairs.{exchanged-append, exchanged-zeros}
use Rattle.f1_frames.specs.Frames.{frame, bytes_of}
use Rattle.f1_frames.specs.Frames.Placed.{f1-exchanged, length-f1, of_f1, stands}
use Rattle.alignment.specs.Aligned.{frames_for, filled, aligned}

-- k Sectors take 98k frames at n = 0, and else one more
pub frames_at_nought : (k : ℕ) (s : List ℕ) → length s ≡ 2352 * k → frames_for 0 s ≡ 98 * k
frames_at_nought k s h = omega arith

pub frames_else : (n k : ℕ) (s : List ℕ) → length s ≡ 2352 * k → 0 < n → n ≤ 5 → frames_for n s ≡ 98 * k + 1
frames_else n k s h l m = omega arith

pub zero-at : (m i : ℕ) → i < m → get_or (zeros m) i 0 ≡ 0
unfolding zeros
zero-at m i h = get_or-replicate m i 0 0 h

-- the filling behind the Sectors
abbrev pub behind : ℕ → List ℕ → ℕ
behind n s = 24 * frames_for n s - (4 * n + length s)

module _ (n : ℕ) (s : List ℕ) where
  pub length-filled : length (filled n s) ≡ 24 * frames_for n s
  unfolding filled
  length-filled =
      omega (arith, length-append (zeros (4 * n)) (s ++ zeros (behind n s)), length-append s (zeros (behind n s)), length-zeros (4 * n), length-zeros (behind n s))

  pub length-aligned : length (aligned n s) ≡ 24 * frames_for n s
  unfolding aligned
  length-aligned = length-f1 (frames_for n s) (filled n s) length-filled

  -- the bytes that were placed come back from their frames
  pub filled-back : bytes_of (frames_for n s) (aligned n s) ≡ filled n s
  unfolding aligned
  filled-back = of_f1 (frames_for n s) (filled n s) length-filled

  -- from byte 4n on stand the Sectors, with zeros behind them
  pub from_first : drop (4 * n) (filled n s) ≡ s ++ zeros (behind n s)
  unfolding filled
  from_first = drop_at (zeros (4 * n)) (s ++ zeros (behind n s)) (4 * n) (length-zeros (4 * n))

  pub sectors_there : take (length s) (drop (4 * n) (filled n s)) ≡ s
  sectors_there = ap (take (length s)) from_first ∙ take_at s (zeros (behind n s)) (length s) refl

  -- byte 0 of the first Sector is placed in byte 4n of the first frame, and consecutive bytes in consecutive bytes of the frames
  pub filled_at : (i : ℕ) → i < length s → get_or (filled n s) (4 * n + i) 0 ≡ get_or s i 0
  unfolding filled
  filled_at i h =
      ap (λ (a : ℕ). get_or (filled n s) (a + i) 0) (sym (length-zeros (4 * n)))
      ∙ get_or-append-add (zeros (4 * n)) (s ++ zeros (behind n s)) i 0
      ∙ get_or-append s (zeros (behind n s)) 0 i h

  -- the filling before is zeros
  pub zero-before : (i : ℕ) → i < 4 * n → get_or (filled n s) i 0 ≡ 0
  unfolding filled
  zero-before i h =
      get_or-append (zeros (4 * n)) (s ++ zeros (behind n s)) 0 i (omega (arith, length-zeros (4 * n))) ∙ zero-at (4 * n) i h

  -- and so is the filling behind
  pub zero-behind : (i : ℕ) → i < behind n s → get_or (filled n s) (4 * n + (length s + i)) 0 ≡ 0
  unfolding filled
  zero-behind i h =
      ap (λ (a : ℕ). get_or (filled n s) (a + (length s + i)) 0) (sym (length-zeros (4 * n)))
      ∙ get_or-append-add (zeros (4 * n)) (s ++ zeros (behind n s)) (length s + i) 0
      ∙ get_or-append-add s (zeros (behind n s)) i 0
      ∙ zero-at (behind n s) i h

  -- so byte i of the Sectors stands in frame (4n + i) / 24, at the other place of its pair: byte 0 in byte 4n + 1 of an F1-frame
  pub stands_in : (i : ℕ) → i < length s → get_or (frame ((4 * n + i) / 24) (aligned n s)) (other ((4 * n + i) % 24)) 0 ≡ get_or s i 0
  unfolding aligned
  stands_in i h = stands (frames_for n s) (filled n s) length-filled (4 * n + i) (omega arith) ∙ filled_at i h

  -- in whole pairs the exchange is that of the Sectors, since 4n is even and zeros stay zeros
  pub aligned-parts : (h : ℕ) → length s ≡ 2 * h → aligned n s ≡ zeros (4 * n) ++ (exchanged s ++ zeros (behind n s))
  unfolding aligned filled zeros
  aligned-parts h e =
      let even : length (zeros (4 * n)) ≡ 2 * (2 * n) = length-zeros (4 * n) ∙ omega arith in
      f1-exchanged (frames_for n s) (filled n s) length-filled
      ∙ exchanged-append (2 * n) (zeros (4 * n)) (s ++ zeros (behind n s)) even
      ∙ ap₂ ◌++◌ (exchanged-zeros (4 * n))
      (exchanged-append h s (zeros (behind n s)) e ∙ ap (λ (t : List ℕ). exchanged s ++ t) (exchanged-zeros (behind n s)))
