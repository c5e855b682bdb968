pub mod AddedLaws
pub mod InstanceLaws
pub mod PortLaws
