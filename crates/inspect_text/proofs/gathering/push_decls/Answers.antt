use Rattle.std.proofs.Common.{List, ◌++◌, append-nil, sym, ap, ◌∙◌, arith}
use Rattle.std.specs.List.{enumerate_from}
use Rattle.inspect_laws.specs.Entries.{Entry}
use Rattle.inspect_text.proofs.Matches.{none_matching}
use Rattle.inspect_text.proofs.gathering.push_decls.Goals as goal

pub returns-then-is_empty : goal.returns-then-is_empty
returns-then-is_empty c =
    sym (ap (λ (es : List Entry). c.args.found.now.items ++ es) (none_matching c.args.layer.now c.args.item c.args.matching.now (enumerate_from 0 c.args.decls.now) (grind (arith, c.is_empty.ensures, c.if-is_empty.true)))
    ∙ append-nil c.args.found.now.items)
