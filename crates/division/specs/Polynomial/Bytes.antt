-- Bytes of a polynomial, the most significant bit of each byte first.
-- Assumes nothing.
use Rattle.std.specs.Prelude.{◌≡◌, List, ℕ, zero, suc, ◌*◌, ◌<◌, length, take, drop}
use Rattle.std.proofs.Common.{arith, length-drop, length-take-le}
use Rattle.outcome.specs.Bytes.{Bytes}
use Rattle.outcome.specs.Bytes.Kept.{bytes_nil, bytes_cons}
use Rattle.bits.specs.Bits.{number, pack}
use Rattle.bits.specs.Bits.Numbers.{number_lt}
use Rattle.bits.specs.Binary.Parts.{binary_take, binary_drop}
use Rattle.division.specs.Polynomial.{Coefficients}

pub bytes_pack : (n : ℕ) (cs : List ℕ) → Coefficients cs → length cs ≡ 8 * n → Bytes (pack n cs)
unfolding pack
bytes_pack zero cs h l = bytes_nil
bytes_pack (suc n) cs h l =
    let e : length (take 8 cs) ≡ 8 = length-take-le 8 cs (omega arith) in
    let s : number 0 (take 8 cs) < 256 = rw e at (number_lt (take 8 cs) (binary_take 8 cs h)) in
    bytes_cons (number 0 (take 8 cs)) (pack n (drop 8 cs)) s (bytes_pack n (drop 8 cs) (binary_drop 8 cs h) (omega (arith, length-drop 8 cs)))
