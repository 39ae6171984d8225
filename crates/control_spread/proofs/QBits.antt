-- The bits of bytes as q bits: which bit stands at each place.
-- Assumes nothing.
use mathlib.Core.Path.{◌≡◌, refl, sym, ap, ◌∙◌}
use mathlib.Core.List.{List, ◌++◌}
use Prim.Native.Nat.{ℕ, zero, suc, ◌+◌, ◌-◌, ◌*◌, ◌/◌, ◌%◌, ◌^◌, ◌<◌}
use native.Mathlib.Omega.{arith}
use lib.ListN.{length, get_or, drop, get_or-append}
use lib.Seq.{drop-cons, get_or-drop}
use Rattle.bits.specs.Bits.{bits_of, unpack}
use Rattle.bits.specs.Bits.Numbers.{length-bits}
use Rattle.bits.proofs.Bits.Packed.{length-unpack, unpack-drop}
use Rattle.control.specs.Channels.{framed}
use Rattle.control.specs.Channels.Framed.{framed_at}

-- bit j of a byte
bit_at : (v j : ℕ) → j < 8 → get_or (bits_of 8 v) j 0 ≡ v / 2 ^ (7 - j) % 2
bit_at v zero h = refl
bit_at v (suc zero) h = refl
bit_at v (suc (suc zero)) h = refl
bit_at v (suc (suc (suc zero))) h = refl
bit_at v (suc (suc (suc (suc zero)))) h = refl
bit_at v (suc (suc (suc (suc (suc zero))))) h = refl
bit_at v (suc (suc (suc (suc (suc (suc zero)))))) h = refl
bit_at v (suc (suc (suc (suc (suc (suc (suc zero))))))) h = refl
bit_at v (suc (suc (suc (suc (suc (suc (suc (suc j)))))))) h = absurd (omega arith)

module _ (bytes : List ℕ) (k : ℕ) (room : k < 8 * length bytes) where
  -- bit k of bytes
  unpack-at : get_or (unpack bytes) k 0 ≡ get_or bytes (k / 8) 0 / 2 ^ (7 - k % 8) % 2
  unfolding unpack
  unpack-at =
      let i : ℕ = k / 8 in
      let j : ℕ = k % 8 in
      let e : 8 * i + j ≡ k = omega arith in
      let b : ℕ = get_or bytes i 0 in
      let rest : List ℕ = unpack (drop (suc i) bytes) in
      let d : drop (8 * i) (unpack bytes) ≡ bits_of 8 b ++ rest = unpack-drop i bytes ∙ ap unpack (drop-cons bytes i 0 (omega arith)) in
      ap (λ (n : ℕ). get_or (unpack bytes) n 0) (sym e)
      ∙ sym (get_or-drop (8 * i) (unpack bytes) j 0)
      ∙ ap (λ (t : List ℕ). get_or t j 0) d
      ∙ get_or-append (bits_of 8 b) rest 0 j (omega (arith, length-bits 8 b))
      ∙ bit_at b j (omega arith)

  -- Control byte k
  pub spread_at : (p : ℕ) → p * 128 + get_or bytes (k / 8) 0 / 2 ^ (7 - k % 8) % 2 * 64 ≡ get_or (framed p (unpack bytes)) k 0
  spread_at p = ap (λ (q : ℕ). p * 128 + q * 64) (sym unpack-at) ∙ sym (framed_at p (unpack bytes) k (omega (arith, length-unpack bytes)))
