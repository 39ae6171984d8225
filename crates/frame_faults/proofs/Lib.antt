-- frames looked at one after the other
pub mod Looking
