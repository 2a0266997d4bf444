mod GeneratedRows
mod Rows
pub mod FirstLine
mod OptionRows
mod ParsingRows
pub mod ParsingLaws
mod SubmitRows
mod CommandRows
mod ConfigRows
mod RuleRows
mod BodyRows
mod BookingRows
