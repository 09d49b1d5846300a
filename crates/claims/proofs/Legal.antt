pub mod Flash
pub mod OnePll
pub mod Plan
