-- document 02's numbers and values
pub mod FindSay
