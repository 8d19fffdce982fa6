pub mod Values
pub mod DrivenValues
pub mod HostValues
pub mod Connected
