pub mod Truth
pub mod Exact
pub mod Following
pub mod Judging
pub mod MeetingLemmas
pub mod NumberingLemmas
pub mod RowsFacts
pub mod SessionLemmas
