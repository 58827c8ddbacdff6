use Rattle.std.proofs.Common.{◌∙◌, ap}
use Rattle.std.specs.Option.{option_map}
use Rattle.related_props.proofs.Listed.{family_of_row}
use Rattle.related_props.proofs.table.family_among.Goals as goal

pub returns-in-Some : goal.returns-in-Some
returns-in-Some c = ap (option_map (λ row. row.family.now)) c.in-Some.ensures ∙ family_of_row c.args.part.now c.args.table.now

pub returns-in-None : goal.returns-in-None
returns-in-None c = ap (option_map (λ row. row.family.now)) c.in-None.ensures ∙ family_of_row c.args.part.now c.args.table.now
