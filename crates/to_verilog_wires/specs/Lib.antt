pub mod Given
pub mod Hubs
pub mod IsWiring
pub mod Naming
pub mod Wires
pub mod Wiring
