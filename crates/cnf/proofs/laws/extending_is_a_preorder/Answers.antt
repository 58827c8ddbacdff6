use Rattle.cnf.proofs.ExtensionLemmas.{Extends-refl, Extends-trans}
use Rattle.cnf.proofs.laws.extending_is_a_preorder.Goals as goal

pub returns : goal.returns
returns c = record { none = Extends-refl; both = Extends-trans }
