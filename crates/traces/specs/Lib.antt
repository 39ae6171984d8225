-- what the choice goes by
pub mod Traces
-- some bits at a stroke; the better one of two choices
pub mod Strokes
pub mod Better
