mod Search
mod SyncInFrames
mod Laying
