-- tests of a word of which is known whether it is listed
pub mod Known
