pub mod Ends
pub mod Open
pub mod Works
pub mod Starts
pub use Rattle.node_table.specs.Closed
pub use Rattle.session.specs.Roots
pub use Rattle.session.specs.Closes
pub use Rattle.session.specs.Reading
