-- Certificates from above, by the mirror image.
pub mod FromAbove
pub mod Interval
pub mod Mirrored
pub mod OneAbove
pub mod SameAbove
pub mod Sides
pub mod StartMosts
pub mod HorizonsAbove
