use Rattle.std.proofs.Common.{ℕ, List, [], ◌∷◌, ◌++◌, map, take, if◌then◌else◌, subst, arith}
use Rattle.std.specs.Prelude.{◌==◌}
use Rattle.std.specs.List.{join_with_byte}
use Rattle.css_model.specs.Sheets.Printed.{printed_declaration}
use Rattle.css_print.proofs.Joining.{join_step}
use Rattle.css_print.proofs.print.put_declarations.Goals as goal

pub loop-i-preserved : goal.loop-i-preserved
loop-i-preserved g c =
    let joins = g.met.O.Output.joins in
    let text = printed_declaration c.args.source.now in
    let items = c.args.items.now in
    let i = c.loop-i.i in
    let item = c.index-items-i.result in
    let before = join_with_byte 59 (map text (take i items)) in
    let sign : List ℕ = if i == 0 then [] else 59 ∷ [] in
    subst (λ (written : List ℕ). g.O.Output.more c.args.out.now written c.put_declaration.new.out)
    (join_step text 59 [] items i item (omega arith) c.index-items-i.is)
    (joins _ _ _ (before ++ sign) (text item) (joins _ _ _ before sign c.loop-i.invariant c.in_ok-put_separator.ensures) c.in_ok-put_declaration.ensures)
