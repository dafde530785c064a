pub mod OfUndos
