pub mod OfAudits
