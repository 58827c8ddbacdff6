use Rattle.std.proofs.Common.{List, Option, sym, ◌∙◌, subst}
use Rattle.std.specs.Prelude.{IfOk}
use Rattle.std.specs.List.{AllByRecursion}
use Rattle.sheet_same.specs.declared.compared.Compared.{Compared}
use Rattle.sheet_same.specs.Judging.{IsAskable, IsJudged}
use Rattle.sheet_same.specs.Standing.{Standing, couples_of}
use Rattle.sheet_same.proofs.Askable.{standings_askable}
use Rattle.sheet_same.proofs.comparing.found_in_couples.Goals as goal

pub judged-requires : goal.judged-requires
judged-requires c =
    subst (λ (xs : List Standing). AllByRecursion (λ (x : Standing). IsAskable x.member) xs) (sym (c.deref.ensures.value ∙ c.in_ok-members.ensures))
    (standings_askable c.args.twins.now.sheet.now.items.now c.args.twins.now.other.now.items.now c.args.members.now c.requires)

pub returns-clause-judged : goal.returns-clause-judged
returns-clause-judged c =
    subst (λ (xs : List Standing). IfOk c.judged.result (λ (found : Option Compared). IsJudged c.judged.new.pairs.answers c.args.twins.now.sheet.now.items.now (couples_of xs) found))
    (c.deref.ensures.value ∙ c.in_ok-members.ensures) c.judged.ensures.judged
