pub mod Learnt
pub mod Noted
