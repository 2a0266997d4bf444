pub mod Fronts
pub mod Lending
pub mod Splitting
pub mod Amounts
