-- clause 16: the exchange of the bytes of each pair
pub mod Exchange
