-- Two answers that reading may give to the same bytes are the same.
-- Assumes nothing.
use Rattle.std.specs.Prelude.{◌≡◌, refl, List, ℕ, Result, Ok, Err}
use Rattle.std.proofs.Common.{sym, ap, ◌∙◌}
use Rattle.outcome.specs.Say.{Say}
use Rattle.control.specs.Values.One.{values_one}
use Rattle.control.specs.declared.Control.{Control}
use Rattle.control_reader.specs.declared.ReadControlError.{ReadControlError}
use Rattle.control_reader.specs.declared.ReadControlError.TheVariants.{WrongIncoming, WrongCrc, UnknownMode, NotAllowed}
use Rattle.control_reader.specs.Reading.{Reads, say_of}
use Rattle.control_reader.specs.Inner.Saying.{reads_said}

pub said_one : (bytes : List ℕ) (s t : Say) → Reads bytes s → Reads bytes t → s ≡ t
said_one bytes s t p q = reads_said bytes s p ∙ sym (reads_said bytes t q)

-- the number and the values say which answer it is
pub say_one : (a b : Result Control ReadControlError) → say_of a ≡ say_of b → a ≡ b
say_one (Ok f) (Ok g) e = ap Ok (values_one f g (cc))
say_one (Ok f) (Err WrongIncoming) e = cc
say_one (Ok f) (Err WrongCrc) e = cc
say_one (Ok f) (Err UnknownMode) e = cc
say_one (Ok f) (Err NotAllowed) e = cc
say_one (Err WrongIncoming) (Ok g) e = cc
say_one (Err WrongIncoming) (Err WrongIncoming) e = refl
say_one (Err WrongIncoming) (Err WrongCrc) e = cc
say_one (Err WrongIncoming) (Err UnknownMode) e = cc
say_one (Err WrongIncoming) (Err NotAllowed) e = cc
say_one (Err WrongCrc) (Ok g) e = cc
say_one (Err WrongCrc) (Err WrongIncoming) e = cc
say_one (Err WrongCrc) (Err WrongCrc) e = refl
say_one (Err WrongCrc) (Err UnknownMode) e = cc
say_one (Err WrongCrc) (Err NotAllowed) e = cc
say_one (Err UnknownMode) (Ok g) e = cc
say_one (Err UnknownMode) (Err WrongIncoming) e = cc
say_one (Err UnknownMode) (Err WrongCrc) e = cc
say_one (Err UnknownMode) (Err UnknownMode) e = refl
say_one (Err UnknownMode) (Err NotAllowed) e = cc
say_one (Err NotAllowed) (Ok g) e = cc
say_one (Err NotAllowed) (Err WrongIncoming) e = cc
say_one (Err NotAllowed) (Err WrongCrc) e = cc
say_one (Err NotAllowed) (Err UnknownMode) e = cc
say_one (Err NotAllowed) (Err NotAllowed) e = refl

pub read_one : (bytes : List ℕ) (a b : Result Control ReadControlError) → Reads bytes (say_of a) → Reads bytes (say_of b) → a ≡ b
read_one bytes a b p q = say_one a b (said_one bytes (say_of a) (say_of b) p q)
