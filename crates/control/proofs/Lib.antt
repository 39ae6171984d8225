-- the digits of a Catalog Number, place by place
pub mod Digits
