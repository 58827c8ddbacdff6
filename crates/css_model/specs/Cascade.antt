-- The cascade: what applies, what wins, the order of pairs, and families of properties.
pub mod Alike
pub mod Family
pub mod Order
pub mod Winner
