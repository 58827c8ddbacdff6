use Rattle.std.proofs.Common.{[], ◌∷◌, ◌++◌, refl}
use Rattle.std.specs.Prelude.{codes}
use Rattle.cssmin_run.proofs.telling.tell_usage.Goals as goal

pub returns-in-Err-clause-told : goal.returns-in-Err-clause-told
returns-in-Err-clause-told g c = (codes "usage: cssmin COMMAND" ++ 10 ∷ [], (codes "usage: cssmin COMMAND", refl), c.tell_text-in-Err.ensures.told)
