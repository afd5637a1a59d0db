pub mod OnResults
pub mod Fronts
pub mod OnTheWay
pub mod LongInputs
