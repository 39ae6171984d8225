-- what every entry answers
pub mod Say
pub mod Bytes
-- searches and tables
pub mod First
pub mod Table
-- a lent buffer that a loop fills
pub mod Buffer
