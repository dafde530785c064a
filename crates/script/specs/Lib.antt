pub mod Lines
pub mod Numbers
pub mod Commands
pub mod Placing
pub mod Said
pub mod Scripts
pub mod Faults
pub mod Fitting
