pub mod ForCallers
mod KeptOrder
mod LastFound
mod LastPlaces
mod LeftTests
mod MaskedTests
mod OwnPairs
mod PairOrders
mod Passed
mod Ranges
mod StandingTests
mod WindowTests
