-- A line of text in a buffer of 96 bytes, and what it is to write more at its end.
-- Assumes nothing.
use Rattle.std.specs.Prelude.{◌≡◌, List, ◌++◌, ℕ, ◌+◌, ◌-◌, ◌≤◌, length, take, replicate}
use Rattle.text.specs.declared.Text.{Text}
pub mod More

-- what a text says
abbrev pub written : Text → List ℕ
written t = take t.len t.bytes

-- the text says this line, and after it the buffer has zeros
pub record Holds (line : List ℕ) (t : Text) : Type 0 where
  pub fits : length line ≤ 96
  pub len : t.len ≡ length line
  pub bytes : t.bytes ≡ line ++ replicate (96 - length line) 0

-- `more` is written at the end of what the text `before` says
pub record Appended (before : Text) (more : List ℕ) (after : Text) : Type 0 where
  pub len : after.len ≡ before.len + length more
  pub holds : (line : List ℕ) → Holds line before → Holds (line ++ more) after

-- the same, with at most so many bytes
pub record AppendedWithin (most : ℕ) (before : Text) (more : List ℕ) (after : Text) : Type 0 where
  pub is : Appended before more after
  pub within : after.len ≤ before.len + most
