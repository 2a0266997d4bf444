pub mod Booked
