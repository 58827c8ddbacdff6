use Rattle.std.proofs.Common.{◌≡◌, ◌∷◌, ◌++◌, [], sym, ◌∙◌, ap}
use Rattle.css_model.specs.Sheets.Items.{selector_parts}
use Rattle.sheet_read.specs.Placed.{IsPlaced}
use Rattle.sheet_read.proofs.Preludes.{all_selector_parts, read_start, read_step, read, parts_left}
use Rattle.sheet_read.proofs.Rooms.{AreFirst-start, given_ok, one_more}
use Rattle.sheet_read.proofs.selectors.first_selectors.Goals as goal

pub loop-rest-init : goal.loop-rest-init
loop-rest-init c = rw c.prelude.ensures (record {
  placed = all_selector_parts (IsPlaced c.args.source.now) c.args.item.now c.requires.placed;
  all = [];
  same = read_start c.args.source.now (selector_parts c.args.item.now);
  first = rw c.new-selectors.ensures.items (AreFirst-start c.args.decls c.args.room);
})

pub loop-rest-preserved : goal.loop-rest-preserved
loop-rest-preserved c =
    let source = c.args.source.now in
    let inv = c.loop-rest.invariant in
    let part = c.cut.result.0.now in
    let selector = c.in_ok-selector.selector in
    let left : parts_left c.loop-rest.rest ≡ part ∷ parts_left c.cut.result.1 = ap parts_left c.in-Some.is ∙ c.cut.ensures.parts in
    record {
      placed = (rw left at inv.placed).1;
      all = inv.all ++ selector ∷ [];
      same = read_step source inv.all part (parts_left c.cut.result.1) selector c.in_ok-selector.ensures ∙ ap (read source inv.all) (sym left) ∙ inv.same;
      first = rw (given_ok c.push_where_room.result c.push_where_room.ensures (sym c.is_err.ensures.value ∙ c.if-is_err.false)) (one_more c.args.decls c.args.room c.loop-rest.selectors.items inv.all selector inv.first);
    }
