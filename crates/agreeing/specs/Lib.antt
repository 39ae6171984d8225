-- document 02, §7: the codeword that is sought of a word with lost bytes
pub mod Agreeing
pub mod Filling
