use Rattle.std.proofs.Common.{◌≡◌, ℕ, List, Option, Some, None, subst, sym}
use Rattle.std.specs.Prelude.{MatchOption}
use Rattle.compound_fit.proofs.TwoLists.{first_asked, then_asked}
use Rattle.compound_fit.proofs.kind.first_kind.Goals as goal

pub returns-in-Some : goal.returns-in-Some
returns-in-Some c = first_asked c.args.x.now c.args.y.now c.in-Some.kind.now c.in-Some.ensures

pub returns-in-None : goal.returns-in-None
returns-in-None c =
    subst (λ (o : Option (List ℕ)). MatchOption c.asked_kind-in-None.result (o ≡ None) (λ kind. o ≡ Some kind.now)) (sym (then_asked c.args.x.now c.args.y.now c.in-None.ensures))
    c.asked_kind-in-None.ensures
