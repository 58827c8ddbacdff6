mod KindNumbers
pub mod ForCallers
