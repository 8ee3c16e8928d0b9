mod Common
pub mod Certificates
pub mod Walking
pub mod Sums
pub mod Horizons
pub mod Lowerings
pub mod Mirrors
pub mod Agreements
