pub mod Listing
pub mod Retained
pub mod Passing
pub mod Statements
pub use Rattle.history_model.specs.declared.histories.Mark
pub use Rattle.history_model.specs.declared.histories.Record
pub use Rattle.history_model.specs.Logs
pub use Rattle.history_model.specs.declared.acts.Act
pub use Rattle.history_model.specs.declared.acts.Act.TheVariants
pub use Rattle.history_model.specs.declared.acts.TintAct
pub use Rattle.history_model.specs.declared.acts.TintAct.TheVariants as TintVariants
pub use Rattle.history_model.specs.Packing
pub use Rattle.history_model.specs.Positions
pub use Rattle.history_model.specs.Laws
pub use Rattle.history_model.specs.Moments
pub use Rattle.history_model.specs.Stores
pub use Rattle.history_model.specs.StoreLaws
pub use Rattle.history_model.specs.Worlds
