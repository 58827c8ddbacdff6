use Rattle.std.proofs.Common.{List, ap, subst, ◌≡◌, get_or}
use Rattle.css_model.specs.declared.sheet.Item.{Item}
use Rattle.css_model.specs.Sheets.SheetParts.{SheetParts}
use Rattle.why_text.specs.Explaining.{reversed_by_moving}
use Rattle.why_text.proofs.Entries.{asks_nothing}
use Rattle.why_text.proofs.Moves.{kept_told}
use Rattle.why_text.proofs.explaining.explain.Goals as goal

pub returns-in_default : goal.returns-in_default
returns-in_default c =
    let items : c.sheet.inside.items.items ≡ c.args.sheet.now.items = ap (λ (s : SheetParts). s.items) c.sheet.view_is in
    let read : c.index.result.now ≡ get_or c.args.sheet.now.items c.args.from c.index.result.now =
    subst (λ (xs : List Item). c.index.result.now ≡ get_or xs c.args.from c.index.result.now) items c.index.ensures in
    record {
      asks = λ item at. asks_nothing c.args.sheet.now.items (reversed_by_moving c.args.sheet.now.items c.args.from c.args.to item) c.args.pairs.now;
      explained = λ item at. kept_told c.args.pairs.now.answers c.args.sheet.now.items c.args.from c.args.to item c.index.result.now at read c.in_default.not-Rule;
    }
