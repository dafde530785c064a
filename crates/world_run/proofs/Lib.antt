pub mod Accepting
mod EndLaws
mod KeptLaws
mod OpenLaws
mod RoomLaws
mod Telling
mod Working
pub use Rattle.session.proofs.Quarters
