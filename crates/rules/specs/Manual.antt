-- RM0492 and RM0481: what the chip makes of its register fields.
pub mod Path
pub mod Tree
pub mod PllFields
pub mod WaitStates
pub mod ResetFlags
