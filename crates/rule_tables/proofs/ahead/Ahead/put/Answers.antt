use Rattle.std.proofs.Common.{List, [], ◌∷◌, ◌++◌, ap, map, ◌∙◌}
use Rattle.std.proofs.lemmas.List.{map-append}
use Rattle.rule_tables.proofs.Reached.{puts_one}
use Rattle.rule_tables.proofs.ahead.Ahead.put.Goals as goal
use Rattle.rule_tables.specs.Ahead.{Reached, reached}
use Rattle.rule_tables.specs.declared.ahead.Listed.{Listed}

pub returns : goal.returns
returns c =
    let x : Listed = record { order_keys = c.args.order_keys; common = c.args.common } in
    puts_one c.args.self.now (map reached c.push.new.self.items) (reached x)
    (ap (map reached) c.in_ok-push.ensures.items ∙ map-append reached c.self.inside.lists.items (x ∷ []) ∙ ap (λ (lists : List Reached). lists ++ reached x ∷ []) c.self.view_is)
