-- what each export promises allows one outcome
pub mod One
