-- the edge at which the first Sync Header begins
pub mod HeaderEdge
