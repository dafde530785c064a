pub mod ListingLaws
pub mod LeafLaws
mod FillLaws
mod SideLaws
pub mod SavedLaws
mod SurfaceLaws
mod RowLaws
mod NearLaws
