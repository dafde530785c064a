pub mod OfStores
pub mod OfReach
