-- What carrying 1 to 16 Data Frames over into Sectors of Mode 01 answers and hands out (document 02, §14).
-- Assumes nothing.
use Rattle.std.specs.Prelude.{◌≡◌, ⊤, List, [], ℕ, ◌*◌, ◌<◌, ◌≤◌, Result, length, take, drop, replicate}
use Rattle.outcome.specs.Say.{Say, done, refused, demand, said_by}
use Rattle.address.specs.declared.HeaderTime.{HeaderTime}
use Rattle.address.specs.Address.{in_range}
use Rattle.address_counting.specs.Count.{room, after}
use Rattle.data_frame.specs.DataFrame.{main_data}
use Rattle.frame_faults.specs.AllFaults.{all_faults}
use Rattle.writer.specs.Write.{Asked}
use Rattle.batch.specs.Sectors.{sector_at}
use Rattle.carrying.specs.declared.CarryError.{CarryError}
use Rattle.carrying.specs.declared.CarryError.TheVariants.{WrongIncoming, WrongOutgoing, WrongIdentification, WrongEdc, ReservedBit, WrongAddress, PastTheEnd}
pub mod One
pub mod Sectors

-- k frames in a row, 1 to 16
pub record DataFrames (k : ℕ) (w : List ℕ) : Type 0 where
  pub some : 1 ≤ k
  pub sixteen : k ≤ 16
  pub long : length w ≡ 2064 * k

-- frame i of them
abbrev pub frame_at : ℕ → List ℕ → List ℕ
frame_at i w = take 2064 (drop (2064 * i) w)

-- behind the frames come 4, the start address, and 31, the last Sector's address would pass the end of its area
abbrev pub says : ℕ → List ℕ → HeaderTime → Say
says k w start = all_faults k w (demand (in_range start) 4 (demand (room k start) 31 (done [])))

-- k Sectors, each the correct one of Mode 01 with its frame's Main Data and the address that is counted up to it
pub record Carried (k : ℕ) (w : List ℕ) (start : HeaderTime) (new : List ℕ) : Type 0 where
  pub as_long : length new ≡ 2352 * k
  pub each : (i : ℕ) → i < k → Asked 1 (after i start) (main_data (frame_at i w)) (sector_at i new)

-- All that carrying over may say, and leave in a buffer that held `old`. The order is 1, 2, and then that of `says`. No outgoing length is right where
-- the incoming one is wrong, so that nothing is touched; a buffer of the wrong length is never touched.
pub data Carries (w : List ℕ) (start : HeaderTime) (old : List ℕ) : Say → List ℕ → Type 0 where
  wrong_incoming : ((k : ℕ) → DataFrames k w → ⊥) → Carries w start old (refused 1 []) old
  wrong-outgoing : {k : ℕ} → DataFrames k w → (length old ≡ 2352 * k → ⊥) → Carries w start old (refused 2 []) old
  refuses : {k n : ℕ} {v : List ℕ} → DataFrames k w → length old ≡ 2352 * k → says k w start ≡ refused n v
      → Carries w start old (refused n v) (replicate (2352 * k) 0)
  carries : {k : ℕ} {new : List ℕ} → DataFrames k w → length old ≡ 2352 * k → says k w start ≡ done [] → Carried k w start new
      → Carries w start old (done []) new

-- document 02's number of each refusal
abbrev pub refusal_of : CarryError → ℕ
refusal_of WrongIncoming = 1
refusal_of WrongOutgoing = 2
refusal_of WrongIdentification = 28
refusal_of WrongEdc = 29
refusal_of ReservedBit = 30
refusal_of WrongAddress = 4
refusal_of PastTheEnd = 31

-- and of each answer
abbrev pub say_of : Result ⊤ CarryError → Say
say_of = said_by (λ w. []) refusal_of
