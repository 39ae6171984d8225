-- document 02, §12: what our writer makes passes
pub mod Written
-- and what passes is read
pub mod Read
