mod Apart
mod Coming
mod Worlds
mod Ends
mod Guarded
mod Vouched
