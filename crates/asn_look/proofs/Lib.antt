pub mod Budgets
pub mod Feeding
pub mod Laid
pub mod Refusals
