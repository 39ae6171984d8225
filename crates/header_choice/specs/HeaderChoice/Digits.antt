-- The digits of what is chosen: three before a Sync Header.
-- Assumes nothing.
use Rattle.std.specs.Prelude.{◌≡◌, Bool, true, false, cond, List, ℕ, ◌<◌, ◌^◌, length}
use Rattle.std.proofs.Common.{sym, ap, ◌∙◌, subst, arith}
use Rattle.bits.specs.Binary.{Binary}
use Rattle.bits.specs.Bits.{bits_of, number}
use Rattle.bits.specs.Bits.Numbers.{number_lt, bits-number}
use Rattle.merging.specs.Automaton.{passes, start22}
use Rattle.merging.proofs.Chosen.ThreeBits.{header_three, header_binary}
use Rattle.merging.specs.Rule.{sync_header_bits}
use Rattle.traces.specs.declared.Trace.{Trace}
use Rattle.traces.specs.Traces.{tally_dsv, fits}
use Rattle.header_choice.specs.declared.Tail.{Tail}
use Rattle.header_choice.specs.HeaderChoice.{before_next_header, chosen_tail, tail_choice}

-- digits: a list of n of them
pub record Digits (n : ℕ) (bs : List ℕ) : Type 0 where
  pub binary : Binary bs
  pub long : length bs ≡ n

-- the number of n digits has them
pub digits_number : {n : ℕ} {bs : List ℕ} → Digits n bs → bits_of n (number 0 bs) ≡ bs
digits_number {n} {bs} d = ap (λ (k : ℕ). bits_of k (number 0 bs)) (sym d.long) ∙ bits-number bs d.binary

-- and is below 2^n
pub digits-small : {n : ℕ} {bs : List ℕ} → Digits n bs → number 0 bs < 2 ^ n
digits-small {n} {bs} d = subst (λ (k : ℕ). number 0 bs < 2 ^ k) d.long (number_lt bs d.binary)

-- the Merging bits are three digits
pub tail_digits : (t : Trace) → Digits 3 (before_next_header t)
tail_digits t =
    let ok = passes t.run start22 in
    let dsv = tally_dsv t.tally sync_header_bits in
    record { binary = header_binary ok dsv; long = header_three ok dsv }

-- which are those of the number that is chosen
pub tail_bits : (t : Trace) → bits_of 3 (chosen_tail t).bits ≡ before_next_header t
unfolding chosen_tail
tail_bits t = digits_number (tail_digits t)

-- so it is below eight, chosen or not
pub tail_small : (t : Trace) → (tail_choice t).bits < 2 ^ 3
unfolding tail_choice chosen_tail
tail_small t = go (fits t)
  where
    go : (b : Bool) → (cond {A = Tail} b (chosen_tail t) (record { bits = 0; after = t.tally })).bits < 2 ^ 3
    go true = digits-small (tail_digits t)
    go false = omega arith
