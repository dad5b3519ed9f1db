mod ReadBack
pub mod MovesBack
