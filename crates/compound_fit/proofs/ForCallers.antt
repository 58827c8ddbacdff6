-- What the crates above cite of the proofs here: code points that are left, and plain tests of the id.
pub use Rattle.compound_fit.proofs.Left.{enough_left}
pub use Rattle.compound_fit.proofs.Small.{plain_all, plain_both}
