pub mod Site
mod ObjectRows
mod QueueRows
mod TableRows
mod ShareRows
mod LimitRows
mod PrintRows
mod UsedRows
mod RequestRows
mod Laws
mod ReadBackTexts
pub mod ReadBackBodies
mod ReadBackLists
mod ReadBackItems
pub mod ReadBackNames
mod ReadBackNumbers
pub mod ReadBack
mod ReadBackGroups
mod ReadBackPeople
mod ReadBackEnvironments
pub mod ReadBackTables
pub mod ReadBackObjects
pub mod Answered
pub mod ReadBackChanged
mod ReadBackCases
pub mod ReadBackNamed
mod ReadBackAmounts
mod ReadBackValues
mod ReadBackPrinted
pub mod ReadBackSettings
pub mod ReadBackSettingsRead
mod ReadBackPairs
mod ReadBackValueLists
pub mod ReadBackHosts
mod ReadBackRows
mod ReadBackRowLines
pub mod ReadBackComplexes
pub mod ReadBackOpening
