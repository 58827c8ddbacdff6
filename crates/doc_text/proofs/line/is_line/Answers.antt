use Rattle.std.proofs.Common.{ℕ, ◌<◌, ◌^◌, subst, ap, ◌∙◌}
use Rattle.css_model.specs.declared.example.RunLine.{RunLine}
use Rattle.css_model.specs.Documents.Document.{IsText}
use Rattle.doc_text.specs.Elements.{AreTexts}
use Rattle.doc_text.proofs.Features.{line_decided}
use Rattle.doc_text.proofs.line.is_line.Goals as goal

pub returns-then-line-gt0 : goal.returns-then-line-gt0
returns-then-line-gt0 c =
    let line = c.args.line.now in
    let texts : AreTexts line.element.attrs = subst AreTexts (c.as_slice.ensures.value ∙ ap (λ (l : RunLine). l.element.attrs) c.line.view_is) c.see_texts.ensures in
    let kind : IsText line.element.kind = subst IsText (ap (λ (l : RunLine). l.element.kind) c.line.view_is) c.see.ensures in
    let some : 0 < line.count = subst (λ (n : ℕ). 0 < n) (ap (λ (l : RunLine). l.count) c.line.view_is) c.if-line-gt0.true in
    let count : line.count < 2 ^ 32 = subst (λ (n : ℕ). n < 2 ^ 32) (ap (λ (l : RunLine). l.count) c.line.view_is) c.see_numbers.ensures.count in
    let depth : line.depth < 2 ^ 32 = subst (λ (n : ℕ). n < 2 ^ 32) (ap (λ (l : RunLine). l.depth) c.line.view_is) c.see_numbers.ensures.depth in
    line_decided line c.are_features.result kind texts some count depth c.are_features.ensures
