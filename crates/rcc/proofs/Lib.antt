pub mod Read
pub mod Promised
