-- document 02's numbers
pub mod AlignSay
