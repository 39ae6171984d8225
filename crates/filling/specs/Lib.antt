-- document 02, §7: lost bytes filled
pub mod Fill
