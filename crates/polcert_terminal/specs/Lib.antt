pub mod BoundCommand
pub mod Command
pub mod PolcertCommand
pub mod RobustCommand
pub mod Statuses
