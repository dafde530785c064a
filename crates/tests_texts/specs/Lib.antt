pub mod undos
