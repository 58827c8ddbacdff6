use Rattle.std.proofs.Common.{◌≡◌, ◌∙◌, ap}
use Rattle.std.specs.Prelude.{decimal, nat_eq}
use Rattle.std.specs.Cmp.Lexicographic.{pointwise}
use Rattle.doc_text.specs.DocText.{escaped, mark_field, more_fields}
use Rattle.doc_text.specs.Elements.{attributes_of, flags_with, has_text, unescaped_text}
use Rattle.doc_text.specs.Lines.{fields_of}
use Rattle.doc_text.proofs.LineText.{line_fields}
use Rattle.doc_text.proofs.More.{more_back}
use Rattle.doc_text.proofs.Steps.{mark_is, take_field}
use Rattle.doc_text.proofs.Unescaped.{text_back}
use Rattle.doc_text.proofs.line.likely.Goals as goal

pub returns : goal.returns
returns c marked l good is =
    let all = ap fields_of is ∙ line_fields marked l good in
    let one = take_field c.args.bytes.now c.next_field.result.0.now (decimal l.depth) (fields_of c.next_field.result.1.now) _ c.next_field.ensures.fields all in
    let two = take_field c.next_field.result.1.now c.next_field-2.result.0.now (decimal l.count) (fields_of c.next_field-2.result.1.now) _ c.next_field-2.ensures.fields one.1 in
    let three = take_field c.next_field-2.result.1.now c.next_field-3.result.0.now (mark_field marked) (fields_of c.next_field-3.result.1.now) _ c.next_field-3.ensures.fields two.1 in
    let four = take_field c.next_field-3.result.1.now c.next_field-4.result.0.now (escaped l.element.kind) (fields_of c.next_field-4.result.1.now) (more_fields l.element) c.next_field-4.ensures.fields three.1 in
    let depth = c.number.ensures l.depth good.depth one.0 in
    let count = c.number-2.ensures l.count good.count two.0 in
    let mark : c.eq.result ≡ marked = c.eq.ensures ∙ (λ i. pointwise nat_eq (three.0 i) (c.mark_field.ensures i)) ∙ mark_is marked in
    let kind = c.in_ok-kind.ensures ∙ ap unescaped_text four.0 ∙ text_back l.element.kind good.features.kind.0 in
    let back = more_back l.element good.features in
    let attrs = ap attributes_of four.1 ∙ back.attrs in
    let flags = ap (flags_with 0) four.1 ∙ back.flags in
    let text = ap has_text four.1 ∙ back.text in
    let element = c.in_ok-element.ensures ∙ (λ i. record { kind = kind i; attrs = attrs i; flags = flags i; text = text i }) in
    (mark, λ i. record { depth = depth i; count = count i; element = element i })
