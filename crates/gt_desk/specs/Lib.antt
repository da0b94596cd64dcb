pub mod History
pub mod DeskCall
pub mod Opening
pub mod Damage
pub mod Replay
pub mod Desk
pub mod Calls
