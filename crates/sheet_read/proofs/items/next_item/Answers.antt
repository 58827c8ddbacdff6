use Rattle.std.proofs.Common.{◌≡◌, ◌++◌, List, length, take, drop, ◌-◌, ◌∙◌, sym, ap}
use Rattle.std.proofs.lemmas.List.{take_rest, take-append-drop}
use Rattle.css_model.specs.declared.token.Lexeme.{Lexeme}
use Rattle.css_model.specs.Sheets.Items as spec
use Rattle.sheet_read.specs.Steps.{whole_items}
use Rattle.sheet_read.proofs.ItemSteps.{whole_between, whole_here, whole_later, split_more}
use Rattle.sheet_read.proofs.items.next_item.Goals as goal

pub items-preserved-then-is_between_items : goal.items-preserved-then-is_between_items
items-preserved-then-is_between_items c =
    let rest = c.items.rest.now in
    let split = c.items.invariant.split in
    let behind : take (length rest - 1) (drop 1 rest) ≡ drop 1 rest = take_rest rest 1 in
    record {
      later = ap whole_items behind ∙ sym (whole_between rest _ c.in-len1-up.len_at_least (sym c.is_between_items.ensures ∙ c.if-is_between_items.true)) ∙ c.items.invariant.later;
      split = (
        split.0 ++ take 1 rest,
        split_more c.args.lexemes.now split.0 rest (take 1 rest) (take (length rest - 1) (drop 1 rest)) split.1
            (sym (take-append-drop 1 rest) ∙ ap (λ (r : List Lexeme). take 1 rest ++ r) (sym behind)),
      );
    }

pub returns-then-is_whole-clause-first : goal.returns-then-is_whole-clause-first
returns-then-is_whole-clause-first c =
    let rest = c.items.rest.now in
    let n = spec.item_len rest in
    let between = sym c.is_between_items.ensures ∙ c.if-is_between_items.false in
    let whole = ap spec.is_whole (sym c.split_item.ensures.item) ∙ sym c.is_whole.ensures ∙ c.if-is_whole.true in
    rw (c.split_item.ensures.item, c.split_item.ensures.behind) (sym c.items.invariant.later ∙ whole_here rest _ c.in-len1-up.len_at_least between whole)

pub items-preserved : goal.items-preserved
items-preserved c =
    let rest = c.items.rest.now in
    let n = spec.item_len rest in
    let split = c.items.invariant.split in
    let between = sym c.is_between_items.ensures ∙ c.if-is_between_items.false in
    let whole = ap spec.is_whole (sym c.split_item.ensures.item) ∙ sym c.is_whole.ensures ∙ c.if-is_whole.false in
    let behind = c.split_item.ensures.behind in
    record {
      later = ap whole_items behind ∙ sym (whole_later rest _ c.in-len1-up.len_at_least between whole) ∙ c.items.invariant.later;
      split = (
        split.0 ++ take n rest,
        split_more c.args.lexemes.now split.0 rest (take n rest) c.split_item.result.1.now split.1
            (sym (take-append-drop n rest) ∙ ap (λ (r : List Lexeme). take n rest ++ r) (sym behind)),
      );
    }
