use Rattle.std.proofs.Common.{◌≡◌, ◌<◌, ◌+◌, ◌++◌, ◌∷◌, [], List, ℕ, true, false, length, get_or, sym, ap, ◌∙◌, subst, arith}
use Rattle.std.proofs.lemmas.List.{get_or_default, take_rest}
use Rattle.line_places.specs.Lines as spec
use Rattle.line_places.proofs.Beginnings.{starts_none, starts_one}
use Rattle.line_places.proofs.lines.starts_of.Goals as goal
use Rattle.line_places.proofs.lines.starts_of.Goals.{then-ends_line+in_ok-push, else-ends_line}

pub loop-i-preserved : goal.loop-i-preserved
loop-i-preserved c =
    let text = c.args.text.now in
    let i = c.loop-i.i in
    let byte = get_or text i 0 in
    let below : i < length text = omega (arith, c.loop-i-test.true) in
    let read : byte ≡ get_or text i byte = get_or_default text i 0 byte below in
    let rest = take_rest text (i + 1) in
    elim c.if-ends_line.branch [
      | then-ends_line+in_ok-push w ↦
          let ends = subst (λ (others : List ℕ). spec.ends_line byte others ≡ true) rest (sym c.ends_line.ensures ∙ w.if-ends_line.true) in
          ap (λ (v : _). v.items) w.starts-is ∙ w.in_ok-push.ensures.items ∙ ap (λ (xs : List ℕ). xs ++ (i + 1) ∷ []) c.loop-i.invariant ∙ sym (starts_one i byte text below read ends)
      | else-ends_line w ↦
          let ends = subst (λ (others : List ℕ). spec.ends_line byte others ≡ false) rest (sym c.ends_line.ensures ∙ w.if-ends_line.false) in
          ap (λ (v : _). v.items) w.starts-is ∙ c.loop-i.invariant ∙ sym (starts_none i byte text below read ends)
    ]
