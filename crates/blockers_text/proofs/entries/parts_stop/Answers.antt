use Rattle.std.proofs.Common.{Bor, List, Option, Some, sym, subst}
use Rattle.std.specs.Prelude.{IfOk}
use Rattle.std.specs.Option.{option_copied}
use Rattle.blockers_text.proofs.entries.parts_stop.Goals as goal
use Rattle.blockers_text.specs.Later.{IsLater, TellsParts, seen}
use Rattle.css_model.specs.declared.sheet.SelItem.{SelItem}
use Rattle.step_laws.specs.Free.{Answered}

pub returns-in-Some-y-clause-tells : goal.returns-in-Some-y-clause-tells
returns-in-Some-y-clause-tells c =
    let p = c.both_stop.new.pairs in
    subst (λ (x : Option (Bor SelItem)). IfOk c.both_stop.result (λ stop. (later : List Answered) → IsLater (seen p) later → TellsParts later (option_copied x) (option_copied c.args.y) stop)) (sym c.in-Some.is)
    (subst (λ (y : Option (Bor SelItem)). IfOk c.both_stop.result (λ stop. (later : List Answered) → IsLater (seen p) later → TellsParts later (Some c.in-Some.x.now) (option_copied y) stop)) (sym c.in-Some-y.is) c.both_stop.ensures.tells)
