pub mod LowestFree
pub mod Requests
