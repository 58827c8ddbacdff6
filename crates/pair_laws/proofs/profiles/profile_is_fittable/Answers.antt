use Rattle.pair_laws.proofs.Profile.Fitted.{compounds_fit, pairs_fit, tables_fit}
use Rattle.pair_laws.proofs.profiles.profile_is_fittable.Goals as goal

pub returns : goal.returns
returns c = record { one = compounds_fit; two = pairs_fit; table = tables_fit }
