use Rattle.std.proofs.Common.{List, Option, subst}
use Rattle.std.specs.Prelude.{IfOk}
use Rattle.sheet_same.specs.declared.compared.Compared.{Compared}
use Rattle.sheet_same.specs.Judging.{IsJudged}
use Rattle.sheet_same.specs.Turned.{Couple}
use Rattle.sheet_same.proofs.LeastPlaces.{couples_cut}
use Rattle.sheet_same.proofs.judging.found_with.Goals as goal

pub returns-clause-judged : goal.returns-clause-judged
returns-clause-judged c =
    subst (λ (cs : List Couple). IfOk c.found_behind.result (λ (found : Option Compared). IsJudged c.found_behind.new.pairs.answers c.args.items.now cs found))
    (couples_cut c.args.m.now c.end_of-end.result c.args.later.now c.end_of-end.ensures.behind) c.found_behind.ensures.judged
