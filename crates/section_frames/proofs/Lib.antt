pub mod Draining
pub mod FoundSymbols
pub mod WordLoop
pub mod ChosenWords
pub mod ChosenFrame
pub mod FrameLoop
