mod InTurn
mod Placed
mod Trees
