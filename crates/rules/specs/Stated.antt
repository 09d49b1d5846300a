-- What document 01 states of a walk and of a list applied, apart from the functions that compute it.
pub mod Walks
pub mod Applied
