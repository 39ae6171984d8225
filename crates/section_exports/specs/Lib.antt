-- what each export promises allows one outcome
pub mod One
-- document 02, §6
pub mod NeverEight
