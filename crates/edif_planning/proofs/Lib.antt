pub mod ClassLaws
pub mod ConstantLaws
pub mod HeadLaws
pub mod NumberLaws
pub mod OrderLaws
pub mod PlanLaws
pub mod SizeLaws
