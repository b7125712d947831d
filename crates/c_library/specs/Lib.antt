pub mod CheckerCalls
pub mod DratCalls
pub mod ModelCalls
pub mod Rooms
pub mod SessionCalls
pub mod Statuses
