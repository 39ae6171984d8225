mod Mending
mod Treating
