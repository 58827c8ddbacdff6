pub mod Fittable
pub mod Limited
pub mod Named
