pub mod TaskSets
pub mod PrintedObjects
pub mod PlannedEvents
