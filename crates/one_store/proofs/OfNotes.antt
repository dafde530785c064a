pub mod HeldLists
pub mod Picks
