-- document 01, "Figures to meet"
pub mod Figures
