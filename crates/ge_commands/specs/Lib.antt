pub mod RuleSets
pub mod Lent
pub mod Real
pub mod Shown
pub mod Made
