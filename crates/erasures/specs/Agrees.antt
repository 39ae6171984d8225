-- Bytes of a word that are lost at known places (document 02, §7): a word comes with marks, one for each byte, and a mark that is not 0 says that its
-- byte is lost.
-- Assumes nothing.
use Rattle.std.specs.Prelude.{◌≡◌, List, ℕ, ◌<◌, length, get_or}
use Rattle.outcome.specs.Bytes.{Bytes}
use Rattle.codeword.specs.Code.{Codeword}
pub mod Unmarked
pub mod One
pub mod Decided

-- c is a codeword of w's length that agrees with w on every unmarked byte
pub record Agrees (J : ℕ) (m w c : List ℕ) : Type 0 where
  pub long : length c ≡ length w
  pub bytes : Bytes c
  pub kept : (i : ℕ) → i < length w → get_or m i 0 ≡ 0 → get_or c i 0 ≡ get_or w i 0
  pub code : Codeword J c
