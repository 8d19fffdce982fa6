pub mod Logs
pub mod Findings
pub mod Verdict
