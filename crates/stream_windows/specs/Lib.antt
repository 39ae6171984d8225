-- what 35 bits show of the offence at one bit
pub mod Window
-- what 64 bits show of the offences at 24 bits
pub mod Calm
