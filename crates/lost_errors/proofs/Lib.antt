mod Sweep
mod Adding
