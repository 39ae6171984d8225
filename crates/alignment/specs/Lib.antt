-- the lengths that both ways take
pub mod Row
-- clause 16 with document 02, §11: writing, and finding
pub mod Aligned
pub mod Found
