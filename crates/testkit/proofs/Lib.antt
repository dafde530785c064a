pub mod OfWorlds
