pub mod Daemons
pub mod Orders
pub mod Shows
pub mod Bytes
pub mod Laws
