pub mod GatheredOrders
pub mod OnHost
pub mod Lookups
