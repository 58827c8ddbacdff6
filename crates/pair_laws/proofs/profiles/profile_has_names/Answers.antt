use Rattle.pair_laws.proofs.Profile.Compounds.{chain_named}
use Rattle.pair_laws.proofs.profiles.profile_has_names.Goals as goal

pub returns : goal.returns
returns c = chain_named
