mod Shifting
mod Working
