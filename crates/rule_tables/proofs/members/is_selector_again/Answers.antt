use Rattle.std.proofs.Common.{◌≡◌, ◌↔◌, ◌+◌, true, List, map, refl, subst, sym, true≢false}
use Rattle.std.specs.List.{Contains}
use Rattle.css_model.specs.declared.sheet.SelItem.{SelItem}
use Rattle.rule_tables.proofs.PartTests.{one_second, others_are}
use Rattle.rule_tables.proofs.members.is_selector_again.Goals as goal

pub returns : goal.returns
returns c =
    one_second c.is_selector_among.result c.is_selector_among.ensures (others_are (λ (x : SelItem). x.selector) c.args.selectors.now c.args.number (c.args.number + 1) c.args.selector.now refl) c.if-is_selector_among.false
    c.is_selector_among-2.result
    (subst (λ (xs : List SelItem). (c.is_selector_among-2.result ≡ true) ↔ Contains (map (λ (x : SelItem). x.selector) xs) c.args.selector.now) c.selectors_behind.ensures c.is_selector_among-2.ensures)

pub returns-then-once : goal.returns-then-once
returns-then-once c = (λ h. absurd (true≢false (sym h)), λ h. absurd (c.requires.once c.if-once.true h))
