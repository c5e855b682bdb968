pub mod Bare
pub mod CellLaws
pub mod LiveBelow
pub mod MadeNets
pub mod MemberLaws
pub mod NetLaws
pub mod RefLaws
