pub mod SameTells
pub mod RootTells
pub mod PlaneTells
pub mod TintTells
