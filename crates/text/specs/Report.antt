-- The report (document 01, "The report"): every character that it prints.
-- Assumes nothing.
use Rattle.std.specs.Prelude.{List, [], ◌∷◌, ◌++◌, ℕ, zero, suc, ◌+◌}
use Rattle.address.specs.declared.HeaderTime.{HeaderTime}
use Rattle.fate_counts.specs.declared.Fate.{Fate}
use Rattle.fate_counts.specs.declared.Fate.TheVariants.{Clean, Repaired, Refused}
use Rattle.text.specs.Characters.{ascii}
use Rattle.numerals.specs.Numerals.{decimal, hex}
pub mod Examples
pub mod Counts
pub mod Room

-- the first line; the 1 is the report's edition
abbrev pub first_line : List ℕ
first_line = ascii "cd sectors 1\n"

-- bytes 12 to 14 handed out, as six capital hex digits
abbrev pub time_text : HeaderTime → List ℕ
time_text t = hex t.0 ++ (hex t.1 ++ hex t.2)

-- a Sector's fate: `clean` with its time, `repaired` with its time and the changed count, `refused` with its number
abbrev pub fate_text : Fate → List ℕ
fate_text (Clean t) = ascii "clean " ++ time_text t
fate_text (Repaired t changed) = ascii "repaired " ++ (time_text t ++ (ascii " " ++ decimal changed))
fate_text (Refused number) = ascii "refused " ++ decimal number

-- a Sector's line: its index and its fate
abbrev pub fate_line : ℕ → Fate → List ℕ
fate_line index fate = decimal index ++ (ascii " " ++ (fate_text fate ++ ascii "\n"))

-- the lines of Sectors, the first of which has this index
abbrev pub fate_lines : ℕ → List Fate → List ℕ
fate_lines index [] = []
fate_lines index (fate ∷ rest) = fate_line index fate ++ fate_lines (suc index) rest

-- the count of leftover bytes; there is no such line at 0
abbrev pub tail_line : ℕ → List ℕ
tail_line zero = []
tail_line (suc n) = ascii "tail " ++ (decimal (suc n) ++ ascii "\n")

-- the last line: how many Sectors are clean, repaired and refused
abbrev pub last_line : ℕ → ℕ → ℕ → List ℕ
last_line clean repaired refused =
    ascii "clean " ++ (decimal clean ++ (ascii " repaired " ++ (decimal repaired ++ (ascii " refused " ++ (decimal refused ++ ascii "\n")))))

-- 1 for a clean Sector
abbrev pub is_clean : Fate → ℕ
is_clean (Clean t) = 1
is_clean (Repaired t changed) = 0
is_clean (Refused number) = 0

-- 1 for a repaired Sector
abbrev pub is_repaired : Fate → ℕ
is_repaired (Clean t) = 0
is_repaired (Repaired t changed) = 1
is_repaired (Refused number) = 0

-- 1 for a refused Sector
abbrev pub is_refused : Fate → ℕ
is_refused (Clean t) = 0
is_refused (Repaired t changed) = 0
is_refused (Refused number) = 1

-- how many of the Sectors are of a kind
abbrev pub how_many : (Fate → ℕ) → List Fate → ℕ
how_many is [] = 0
how_many is (fate ∷ rest) = is fate + how_many is rest

-- the whole report on Sectors with these fates and so many leftover bytes
abbrev pub report : List Fate → ℕ → List ℕ
report fates left =
    first_line ++ (fate_lines 0 fates ++ (tail_line left ++ last_line (how_many is_clean fates) (how_many is_repaired fates) (how_many is_refused fates)))
