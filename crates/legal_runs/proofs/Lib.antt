-- the bits of an edge, and the runs that are not legal
pub mod Legality
