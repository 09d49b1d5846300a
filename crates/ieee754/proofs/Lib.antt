pub mod Cut
pub mod Round
pub mod Values
pub mod Same
pub mod Near
pub mod Zero
pub mod Examples
