-- How a Sector is judged (document 01, Order): the first fault found is the answer.
-- Assumes nothing.
use Rattle.std.specs.Prelude.{cond, List, [], ◌∷◌, ℕ, Result, Ok, Err, eqb, leb, ltb, length, take, drop}
use Rattle.outcome.specs.Say.{Say, done, refused, demand}
use Rattle.outcome.specs.First.{first_below}
use Rattle.edc.specs.Bits.{bits}
use Rattle.edc.specs.Edc.{remainder, is_zero}
use Rattle.address.specs.Address.{in_range}
use Rattle.sector.specs.Layout.{sync, bytes_from, time_of, mode_of, zeros}
use Rattle.lists.specs.Same.{same}
use Rattle.rspc.specs.Either.{words_of}
use Rattle.failing.specs.Failing.{failing}
use Rattle.rspc.specs.declared.Parity.{Parity}
use Rattle.rspc.specs.declared.Parity.TheVariants.{P, Q}
use Rattle.address.specs.declared.HeaderTime.{HeaderTime}
use Rattle.judge.specs.declared.Passed.{Passed}
use Rattle.judge.specs.declared.JudgeError.{JudgeError}
use Rattle.judge.specs.declared.JudgeError.TheVariants.{WrongIncoming, WrongSync, UnknownMode, WrongAddress, WrongEdc, WrongIntermediate, WrongP, WrongQ, WrongFiller}
pub mod Demanded
pub mod Exact
pub mod Told

-- a demand on each codeword: where one fails, the number comes back with that of the first that does
abbrev pub demand_each : Parity → List ℕ → ℕ → Say → Say
demand_each parity s number rest =
    cond (ltb (first_below (failing parity s) (words_of parity)) (words_of parity))
    (refused number (first_below (failing parity s) (words_of parity) ∷ []))
    rest

-- a Sector that passes comes back with its mode and address
abbrev pub passing : ℕ → HeaderTime → Say
passing mode time = done (mode ∷ time.0 ∷ time.1 ∷ time.2 ∷ [])

-- Mode 01: 11, 12, 13, 14
unfoldable pub judging_mode01 : List ℕ → Say
judging_mode01 s =
    demand (is_zero (remainder (bits (take 2068 s)))) 11
    (demand (same (bytes_from 2068 8 s) (zeros 8)) 12
    (demand_each P s 13
    (demand_each Q s 14
    (passing 1 (time_of s)))))

-- Mode 00: 15
unfoldable pub judging_mode00 : List ℕ → Say
judging_mode00 s = demand (same (drop 16 s) (zeros 2336)) 15 (passing 0 (time_of s))

unfoldable pub by_mode : ℕ → List ℕ → Say
by_mode mode s = cond (eqb mode 0) (judging_mode00 s) (cond (eqb mode 1) (judging_mode01 s) (passing mode (time_of s)))

-- 1, 10, 3, 4, and then what the mode asks
unfoldable pub judging : List ℕ → Say
judging s =
    demand (eqb (length s) 2352) 1
    (demand (same (take 12 s) sync) 10
    (demand (leb (mode_of s) 2) 3
    (demand (in_range (time_of s)) 4
    (by_mode (mode_of s) s))))

abbrev pub refusal_of : JudgeError → ℕ
refusal_of WrongIncoming = 1
refusal_of WrongSync = 10
refusal_of UnknownMode = 3
refusal_of WrongAddress = 4
refusal_of WrongEdc = 11
refusal_of WrongIntermediate = 12
refusal_of (WrongP n) = 13
refusal_of (WrongQ n) = 14
refusal_of WrongFiller = 15

-- the values that come with a refusal: the number of the codeword that fails
abbrev pub values_with : JudgeError → List ℕ
values_with WrongIncoming = []
values_with WrongSync = []
values_with UnknownMode = []
values_with WrongAddress = []
values_with WrongEdc = []
values_with WrongIntermediate = []
values_with (WrongP n) = n ∷ []
values_with (WrongQ n) = n ∷ []
values_with WrongFiller = []

-- document 01's number and values for each answer
abbrev pub say_of : Result Passed JudgeError → Say
say_of (Ok passed) = passing passed.mode passed.time
say_of (Err e) = refused (refusal_of e) (values_with e)
