pub mod Tiling
pub mod LeavesPushed
