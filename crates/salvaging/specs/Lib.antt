-- passes over P and Q in turn
pub mod Turns
-- what salvage answers and hands out
pub mod Salvage
