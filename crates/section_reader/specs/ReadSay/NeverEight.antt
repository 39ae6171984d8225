-- Refusal 8 is withdrawn: no outcome that the promise of `read_section` allows says it.
-- Assumes nothing.
use Rattle.std.specs.Prelude.{◌≡◌, Bool, true, false, ◌&&◌, List, [], ℕ, eqb, length}
use Rattle.std.proofs.Common.{sym, ap, ◌∙◌, arith}
use Rattle.outcome.specs.Say.{Say, done, refused, demand}
use Rattle.outcome.specs.Say.Refusals.{never}
use Rattle.section_reader.specs.ReadSay.{ReadOut, read_out, read_say, section_read}

-- whatever holds where reading is done, refused 1 and refused 2 holds of all that it says
pub said_of_three : (P : Say → Type 0) → P (done []) → P (refused 1 []) → P (refused 2 []) → (channel bytes marks : List ℕ) → P (section_read channel bytes marks).say
unfolding section_read read_say
said_of_three P d one two channel bytes marks = go (eqb (length channel) 7203) (eqb (length bytes) 3234 && eqb (length marks) 3234)
  where
    go : (p q : Bool) → P (demand p 1 (demand q 2 (done [])))
    go true true = d
    go true false = two
    go false q = one

other : (n : ℕ) (vs : List ℕ) → (n ≡ 8 → ⊥) → refused n [] ≡ refused 8 vs → ⊥
other n vs d e = let z : n ≡ 8 = cc in d z

-- whatever the Channel bits and buffers are, what is said is not refusal 8, with no values and with any
pub never_eight : (channel bytes marks : List ℕ) (s : Say) (b m : List ℕ) → read_out s b m ≡ section_read channel bytes marks → (vs : List ℕ) → s ≡ refused 8 vs → ⊥
never_eight channel bytes marks s b m p vs e =
    said_of_three (λ t. t ≡ refused 8 vs → ⊥) (λ d. never (sym d)) (other 1 vs (λ z. omega arith)) (other 2 vs (λ z. omega arith)) channel bytes marks
    (sym (ap (λ (o : ReadOut). o.say) p) ∙ e)
