pub mod FirstBare
pub mod Items
pub mod Places
pub mod PlainLines
pub mod ShortLines
pub mod Worth
