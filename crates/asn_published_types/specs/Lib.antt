pub mod Numbers
pub mod Left
pub mod Statuses
pub mod Words
