pub mod Agreement
pub mod Laws
pub mod Reassembly
pub mod Refusals
pub mod Rows
pub mod Store
