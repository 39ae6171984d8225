-- document 02, §12: what an offence is, what judging answers, and which Sections are accepted
pub mod Offences
pub mod Judging
pub mod Accepted
