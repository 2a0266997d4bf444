pub mod Gained
pub mod Filled
pub mod Cases
pub mod ReplyCases
pub mod Exactly
pub mod Statuses
pub mod Payloads
mod ParsedReplies
