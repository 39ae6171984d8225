-- The frames of the edges of whole Sections are these Sections.
-- Assumes nothing.
use Rattle.std.specs.Prelude.{◌≡◌, refl, Bool, true, false, ◌&&◌, ℕ, zero, suc, ◌+◌, ◌-◌, ◌*◌, ◌<◌, ◌≤◌, eqb, take, drop}
use Rattle.std.proofs.Common.{sym, ◌∙◌, arith, length-append, take_at}
use Rattle.std.proofs.Math.Path.{ap, ap₂}
use mathlib.Core.List.{List, [], ◌∷◌, ◌++◌, append-nil}
use Rattle.std.proofs.Math.ListN.{length, replicate}
use Rattle.outcome.specs.Bytes.{Bytes}
use Rattle.bits.specs.Bits.{unpack, pack}
use Rattle.bits.proofs.Bits.Packed.{length-unpack, pack-unpack}
use Rattle.bits.specs.Binary.{Binary}
use Rattle.words.specs.RunRule.{runs}
use Rattle.merging.specs.Rule.{sync_header_bits, starts}
use Rattle.replaying.specs.Replay.{channel, first_header, frames_from, bytes_for, packed, frames_of}
use Rattle.replaying.specs.Replay.Sizes.{Legal}
use Rattle.replaying.specs.Replay.Edges.{header_here}
use Rattle.bits.specs.Binary.Parts.{binary_unpack}
use Rattle.stream_rules.specs.Accepted.{Kept}
use Rattle.section_edges.specs.Edges.{gaps_of, Ticks}
use Rattle.section_edges.specs.Edges.Bits.{gaps-channel, gaps-legal}

never : {A : Type 0} → true ≡ false → A
never e = let z : ◌≡◌ {A = ℕ} 0 1 = cc in absurd (omega arith)

-- what bits begin with does not depend on what follows
starts-same : (ps bs x y : List ℕ) → length ps ≤ length bs → starts ps (bs ++ x) ≡ starts ps (bs ++ y)
starts-same [] bs x y h = refl
starts-same (p ∷ ps) [] x y h = absurd (omega arith)
starts-same (p ∷ ps) (b ∷ bs) x y h = ap (λ (t : Bool). eqb p b && t) (starts-same ps bs x y (omega arith))

-- bits that begin with a Sync Header and keep the run rule, one Sync Header behind them, and their edges
pub record Turned (bits ds : List ℕ) : Type 0 where
  pub channel_is : channel ds ≡ bits ++ (1 ∷ [])
  pub legal : Legal ds

turned : (bits ds : List ℕ) → Binary bits → starts sync_header_bits (bits ++ sync_header_bits) ≡ true → 0 < length bits → runs (bits ++ sync_header_bits) ≡ true
    → Ticks ds (gaps_of bits) → Turned bits ds
unfolding gaps_of
turned [] ds b s h r t = absurd (omega arith)
turned (zero ∷ bs) ds b s h r t = never (sym s)
turned (suc zero ∷ bs) ds b s h r t = record { channel_is = gaps-channel 0 bs ds b.1 t; legal = gaps-legal 0 bs ds (drop 1 sync_header_bits) r t }
turned (suc (suc x) ∷ bs) ds b s h r t = absurd (omega (arith, b.0))

module _ (sections ds : List ℕ) (n : ℕ) (bytes : Bytes sections) (long : length sections ≡ 7203 * n) (some : 1 ≤ n)
    (kept : Kept (unpack sections ++ sync_header_bits) n) (t : Ticks ds (gaps_of (unpack sections))) where
  bits_long : length (unpack sections) ≡ 57624 * n
  bits_long = omega (arith, length-unpack sections)

  at_first : starts sync_header_bits (unpack sections ++ sync_header_bits) ≡ true
  at_first = kept.headers_are 0 (omega (arith, length-append (unpack sections) sync_header_bits, bits_long))

  pub all_turned : Turned (unpack sections) ds
  all_turned = turned (unpack sections) ds (binary_unpack sections) at_first (omega (arith, bits_long)) kept.runs_are t

  -- the first Sync Header is the first
  pub header_first : first_header (channel ds) ≡ 0
  header_first =
      header_here (channel ds)
      (ap (starts sync_header_bits) all_turned.channel_is ∙ starts-same sync_header_bits (unpack sections) (1 ∷ []) sync_header_bits (omega (arith, bits_long)) ∙ at_first)

  pub bits_in_all : length (channel ds) ≡ 57624 * n + 1
  bits_in_all = ap length all_turned.channel_is ∙ omega (arith, length-append (unpack sections) (1 ∷ []), bits_long)

  -- 98 frames a Section
  pub frames_in_all : frames_from (channel ds) (first_header (channel ds)) ≡ 98 * n
  unfolding frames_from
  frames_in_all = omega (arith, header_first, bits_in_all)

  -- the frames are the Sections
  pub frames_are : frames_of (channel ds) (first_header (channel ds)) ≡ sections
  unfolding frames_of packed
  frames_are =
      ap₂ (λ (p m : ℕ). packed (channel ds) p m) header_first frames_in_all
      ∙ ap (λ (l : List ℕ). pack (bytes_for (98 * n)) (take (588 * (98 * n)) l ++ replicate (8 * bytes_for (98 * n) - 588 * (98 * n)) 0)) all_turned.channel_is
      ∙ ap (λ (l : List ℕ). pack (bytes_for (98 * n)) (l ++ replicate (8 * bytes_for (98 * n) - 588 * (98 * n)) 0))
      (take_at (unpack sections) (1 ∷ []) (588 * (98 * n)) (omega (arith, bits_long)))
      ∙ ap₂ (λ (m k : ℕ). pack m (unpack sections ++ replicate k 0)) size no_rest
      ∙ ap (pack (length sections)) (append-nil (unpack sections)) ∙ pack-unpack sections bytes
    where
      size : bytes_for (98 * n) ≡ length sections
      size = omega (arith, long)

      no_rest : 8 * bytes_for (98 * n) - 588 * (98 * n) ≡ 0
      no_rest = omega arith
