-- What is promised of every answer.
pub mod Calls
pub mod Rows
pub mod Refused
pub mod Quantities
pub mod ByPlaces
pub mod Departures
pub mod Agreement
pub mod Legal
pub mod Readings
pub mod Report
