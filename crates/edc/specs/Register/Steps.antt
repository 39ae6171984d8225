-- Steps of the register: they are linear, and what stands above the bits that are dropped comes down as it is.
-- Assumes nothing.
use Rattle.std.specs.Prelude.{◌≡◌, refl, ℕ, zero, suc, ◌+◌, ◌*◌, ◌/◌, ◌%◌, ◌^◌, ◌<◌}
use Rattle.std.proofs.Common.{sym, ap, ap₂, ◌∙◌, mul-one, zero-add, suc-add, arith}
use Rattle.std.specs.Int.Bits.{bit_xor, xor_shifted, xor_zero_r, shifted_half, shifted_even}
use Rattle.xor.specs.Xor.Group.{xor_half, xor_odd, xor_swap, differ_mul, bit-lt}
use Rattle.edc.specs.Register.{feedback, step, steps}

pub step-add : (a b : ℕ) → step (bit_xor a b) ≡ bit_xor (step a) (step b)
unfolding step
step-add a b =
    ap₂ bit_xor (xor_half a b) (ap (λ (x : ℕ). x * feedback) (xor_odd a b) ∙ differ_mul (a % 2) (b % 2) feedback (bit-lt a) (bit-lt b))
    ∙ xor_swap (a / 2) (b / 2) (a % 2 * feedback) (b % 2 * feedback)

pub steps-add : (k a b : ℕ) → steps k (bit_xor a b) ≡ bit_xor (steps k a) (steps k b)
unfolding steps
steps-add zero a b = refl
steps-add (suc k) a b = ap (steps k) (step-add a b) ∙ steps-add k (step a) (step b)

-- k bits 0 are dropped, and nothing else happens
pub steps-zeros : (k n : ℕ) → steps k (n * 2 ^ k) ≡ n
unfolding steps step
steps-zeros zero n = mul-one n
steps-zeros (suc k) n =
    ap (steps k) (ap₂ (λ (x y : ℕ). bit_xor x (y * feedback)) (shifted_half n k) (shifted_even n k) ∙ xor_zero_r (n * 2 ^ k))
    ∙ steps-zeros k n

pub steps-join : (j k n : ℕ) → steps (j + k) n ≡ steps k (steps j n)
unfolding steps
steps-join zero k n = ap (λ (x : ℕ). steps x n) (zero-add k)
steps-join (suc j) k n = ap (λ (x : ℕ). steps x n) (suc-add j k) ∙ steps-join j k (step n)

-- what stands above the k lowest bits comes down as it is, plus what k steps make of those bits
pub steps_split : (k high low : ℕ) → low < 2 ^ k → steps k (high * 2 ^ k + low) ≡ bit_xor high (steps k low)
steps_split k high low h =
    ap (steps k) (sym (xor_shifted high k low h))
    ∙ steps-add k (high * 2 ^ k) low
    ∙ ap (λ (x : ℕ). bit_xor x (steps k low)) (steps-zeros k high)

-- a byte b comes in above the 32 bits of r: one entry of the table of `steps 8`
pub byte_steps : (r b : ℕ) → steps 8 (r + b * 2 ^ 32) ≡ bit_xor (r / 256 + b * 16777216) (steps 8 (r % 256))
byte_steps r b =
    let e : r + b * 2 ^ 32 ≡ (r / 256 + b * 16777216) * 2 ^ 8 + r % 256 = omega arith in
    ap (steps 8) e ∙ steps_split 8 (r / 256 + b * 16777216) (r % 256) (omega arith)
