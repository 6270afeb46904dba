pub mod Built
pub mod HullLemmas
pub mod PointHulls
pub mod Steps
