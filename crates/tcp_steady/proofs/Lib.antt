mod Both
mod Calling
mod Off
pub mod Paced
pub mod Resting
mod Silent
