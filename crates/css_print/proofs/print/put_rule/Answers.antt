use Rattle.std.proofs.Common.{◌≡◌, ℕ, List, ◌∷◌, ◌++◌, [], map, subst, ap}
use Rattle.std.specs.List.{join_with_byte}
use Rattle.css_model.specs.Sheets.Printed.{printed_selector, printed_declaration, printed_rule}
use Rattle.css_print.proofs.print.put_rule.Goals as goal

pub returns : goal.returns
returns g c =
    let joins = g.met.O.Output.joins in
    let source = c.args.source.now in
    let selectors = join_with_byte 44 (map (printed_selector source) c.as_slice.result.now) in
    let decls = join_with_byte 59 (map (printed_declaration source) c.as_slice-2.result.now) in
    let whole : selectors ++ 123 ∷ decls ++ 125 ∷ [] ≡ printed_rule source c.args.rule.now = rw (c.as_slice.ensures.value, c.as_slice-2.ensures.value) (ap (printed_rule source) c.rule.view_is) in
    subst (λ (text : List ℕ). g.O.Output.more c.args.out.now text c.put-2.new.self) whole
    (joins _ _ _ (selectors ++ 123 ∷ decls) (125 ∷ [])
    (joins _ _ _ selectors (123 ∷ decls) c.in_ok-put_selectors.ensures (joins _ _ _ (123 ∷ []) decls c.in_ok-put.ensures c.in_ok-put_declarations.ensures))
    c.in_ok-put-2.ensures)
