pub mod Added
pub mod Names
pub mod Script
pub mod Settings
pub mod Statements
pub mod Version1
