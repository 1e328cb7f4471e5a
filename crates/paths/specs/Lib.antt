-- What a trial binds on a heap where variables are bound already (Binding); the names of what is numbered, and the next goal from it (Naming). Their laws are in proofs/.
pub mod Binding
pub mod Naming
