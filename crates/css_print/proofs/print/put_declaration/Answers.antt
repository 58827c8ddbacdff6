use Rattle.std.proofs.Common.{◌≡◌, ℕ, List, [], ◌∷◌, ◌++◌, refl, subst}
use Rattle.std.proofs.lemmas.Result.{IfOk-weaker}
use Rattle.css_model.specs.Sheets.Printed.{printed_declaration}
use Rattle.css_print.proofs.PieceLemmas.{name_within}
use Rattle.css_print.proofs.print.put_declaration.Goals as goal

pub text-requires : goal.text-requires
text-requires g c = name_within c.tokens_restart.ensures c.args.source.now c.args.item.now c.requires

pub returns : goal.returns
returns g c =
    let out = g.O.Output in
    let joins = g.met.O.Output.joins in
    let item = c.args.item.now in
    let name = c.text.result.now in
    let value = c.bytes.result.now in
    let last = c.importance.result.now in
    let named = joins _ _ _ name (58 ∷ value) c.in_ok-put.ensures (joins _ _ _ (58 ∷ []) value c.in_ok-put-2.ensures c.in_ok-put-3.ensures) in
    let whole : name ++ 58 ∷ value ++ last ≡ printed_declaration c.args.source.now item = rw (c.text.ensures, c.bytes.ensures, c.importance.ensures) refl in
    IfOk-weaker c.put-4.result (λ _. out.more _ last c.put-4.new.self) (λ _. out.more c.args.out.now (printed_declaration c.args.source.now item) c.put-4.new.self)
    (λ _ more. subst (λ (text : List ℕ). out.more c.args.out.now text c.put-4.new.self) whole (joins _ _ _ (name ++ 58 ∷ value) last named more))
    c.put-4.ensures
