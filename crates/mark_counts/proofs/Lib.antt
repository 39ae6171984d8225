mod Look
mod Counting
