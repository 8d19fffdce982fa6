mod Growing
mod Roots
mod CubicGrowing
mod Apart
mod Late
mod Longer
mod Silly
mod Compared
