-- Where it is known of the word itself, both tests are those of the rules.
-- Assumes nothing.
use Rattle.std.specs.Prelude.{◌≡◌, Bool, not, ◌&&◌, ℕ, ◌-◌, ◌/◌, ◌%◌}
use Rattle.std.proofs.Common.{ap}
use Rattle.stream_rules.specs.Offences.{listed, right_word, word_place}
use Rattle.offence_tests.specs.Known.{right_if, wrong_if}

pub right-listed : (t : Bool) (f i w : ℕ) → t ≡ listed w → right_if t f i w ≡ right_word f i w
unfolding right_word
right-listed t f i w e = ap (λ (k : Bool). right_if k f i w) e

pub wrong-listed : (t : Bool) (p w : ℕ) → t ≡ listed w → wrong_if t p w ≡ (word_place p && not (right_word (p / 588 % 98) ((p % 588 - 27) / 17) w))
wrong-listed t p w e = ap (λ (k : Bool). word_place p && not k) (right-listed t (p / 588 % 98) ((p % 588 - 27) / 17) w e)
