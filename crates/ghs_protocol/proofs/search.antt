-- The search: Initiates go out, answers and Reports come in, the node reports.
pub mod Called
pub mod Initiate
pub mod InitiateFloors
pub mod InitiateUnderWay
pub mod PassedOn
pub mod Best
pub mod Answers
pub mod AnswersFloors
pub mod Close
pub mod CloseFloors
pub mod ScanOrder
pub mod ReportGone
pub mod FirstReport
