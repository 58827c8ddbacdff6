use Rattle.shape_laws.proofs.Forcing.{forced_compounds_suit}
use Rattle.shape_laws.proofs.forced.forced_compounds_suit.Goals as goal

pub returns : goal.returns
returns c = forced_compounds_suit
