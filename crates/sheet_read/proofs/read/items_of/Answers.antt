use Rattle.std.proofs.Common.{◌≡◌, ◌≤◌, ◌-◌, ◌++◌, length, List, [], ◌∷◌, sym, ap, ◌∙◌, append_assoc, length-append, arith}
use Rattle.css_model.specs.declared.limits.TheConstants.{MAX_ITEMS, MAX_PAIRS}
use Rattle.css_model.specs.declared.sheet.Item.{Item}
use Rattle.css_model.specs.declared.token.Lexeme.{Lexeme}
use Rattle.css_model.specs.Sheets.ComesFrom.{pair_count}
use Rattle.css_model.specs.Sheets.Sheet as spec
use Rattle.sheet_read.specs.Steps as steps
use Rattle.sheet_read.proofs.ReadSteps.{placed_parts, count_behind, some_import, read_one, read_none, too_many, not_too_many}
use Rattle.sheet_read.proofs.Rooms.{room_left, stand_behind, stand_length, stands_for_none, stands_for_one}
use Rattle.sheet_read.proofs.read.items_of.Goals as goal

pub imports_behind-imports_left-requires-clause-placed : goal.imports_behind-imports_left-requires-clause-placed
imports_behind-imports_left-requires-clause-placed c =
    let parts = c.in-Some.ensures.parts in
    (placed_parts c.args.source.now c.items.rest.now parts.0 c.in-Some.item.now c.in-Some.behind.now parts.1 c.items.invariant.placed).0

pub imports_behind-imports_left-requires-clause-some : goal.imports_behind-imports_left-requires-clause-some
imports_behind-imports_left-requires-clause-some c =
    some_import c.args.source.now (steps.whole_items c.items.rest.now) (steps.whole_items c.in-Some.behind.now) c.in-Some.item.now c.items.imports_left
    c.in-Some.ensures.first c.items.invariant.imports

pub item_before-requires : goal.item_before-requires
item_before-requires c =
    let parts = c.in-Some.ensures.parts in
    record {
      placed = (placed_parts c.args.source.now c.items.rest.now parts.0 c.in-Some.item.now c.in-Some.behind.now parts.1 c.items.invariant.placed).0;
      short = c.requires.short;
    }

pub returns-then-len : goal.returns-then-len
returns-then-len c =
    let source = c.args.source.now in
    let item = c.in-Some.item.now in
    let inv = c.items.invariant in
    let later = steps.whole_items c.in-Some.behind.now in
    let left = c.imports_behind-imports_left.result in
    let counted = count_behind source (steps.whole_items c.items.rest.now) later item c.items.imports_left left c.in-Some.ensures.first inv.imports c.imports_behind-imports_left.ensures in
    let one = stands_for_one c.items.room c.in-Some-2.read (steps.item_before source item left) (rw c.in-Some-2.is at c.in_ok-read.ensures) in
    let read = read_one source (steps.whole_items c.items.rest.now) later item left one.0 c.in-Some.ensures.first counted (sym one.1) in
    let all = ap (λ (read : List Item). inv.before ++ read) (sym read) ∙ inv.read in
    let full : length inv.before ≡ MAX_ITEMS = omega (arith, sym (stand_length 0 c.items.items.items inv.before inv.stand), c.len.ensures, c.if-len.true) in
    rw (c.start_of.ensures, one.2.start) (too_many source (steps.whole_items c.args.lexemes.now) inv.before (spec.read_items source later) one.0 all full)

pub items-preserved-in_ok-push : goal.items-preserved-in_ok-push
items-preserved-in_ok-push c =
    let source = c.args.source.now in
    let item = c.in-Some.item.now in
    let inv = c.items.invariant in
    let items = c.items.items.items in
    let x = c.in-Some-2.read in
    let later = steps.whole_items c.in-Some.behind.now in
    let left = c.imports_behind-imports_left.result in
    let parts = c.in-Some.ensures.parts in
    let counted = count_behind source (steps.whole_items c.items.rest.now) later item c.items.imports_left left c.in-Some.ensures.first inv.imports c.imports_behind-imports_left.ensures in
    let one = stands_for_one c.items.room x (steps.item_before source item left) (rw c.in-Some-2.is at c.in_ok-read.ensures) in
    let read = read_one source (steps.whole_items c.items.rest.now) later item left one.0 c.in-Some.ensures.first counted (sym one.1) in
    let all = ap (λ (read : List Item). inv.before ++ read) (sym read) ∙ inv.read in
    let pushed = c.in_ok-push.ensures.items in
    record {
      before = inv.before ++ one.0 ∷ [];
      read = append_assoc inv.before (one.0 ∷ []) (spec.read_items source later) ∙ all;
      stand = rw pushed (stand_behind items inv.before x one.0 c.items.room inv.stand inv.room one.2);
      room = room_left c.room_behind-room.result items x c.items.room inv.room c.room_behind-room.ensures ∙ ap (λ (its : List Item). MAX_PAIRS - pair_count its) (sym pushed);
      imports = counted;
      placed = (placed_parts source c.items.rest.now parts.0 item c.in-Some.behind.now parts.1 inv.placed).1;
      few = omega (arith, ap length pushed, length-append items (x ∷ []), inv.few, c.len.ensures, c.if-len.false);
    }

pub items-preserved : goal.items-preserved
items-preserved c =
    let source = c.args.source.now in
    let item = c.in-Some.item.now in
    let inv = c.items.invariant in
    let raw = steps.whole_items c.items.rest.now in
    let later = steps.whole_items c.in-Some.behind.now in
    let left = c.imports_behind-imports_left.result in
    let parts = c.in-Some.ensures.parts in
    let counted = count_behind source raw later item c.items.imports_left left c.in-Some.ensures.first inv.imports c.imports_behind-imports_left.ensures in
    let none = stands_for_none c.items.room (steps.item_before source item left) (rw c.in_default-2.is at c.in_ok-read.ensures) in
    let dropped = read_none source raw later item left c.in-Some.ensures.first counted (sym none) in
    record {
      before = inv.before;
      read = ap (λ (read : List Item). inv.before ++ read) (sym dropped) ∙ inv.read;
      stand = inv.stand;
      room = inv.room;
      imports = counted;
      placed = (placed_parts source c.items.rest.now parts.0 item c.in-Some.behind.now parts.1 inv.placed).1;
      few = inv.few;
    }

pub returns : goal.returns
returns c =
    let source = c.args.source.now in
    let inv = c.items.invariant in
    let few : length inv.before ≤ MAX_ITEMS = omega (arith, sym (stand_length 0 c.items.items.items inv.before inv.stand), inv.few) in (
      inv.before,
      not_too_many source (steps.whole_items c.args.lexemes.now) inv.before
          (ap (λ (raw : List (List Lexeme)). inv.before ++ spec.read_items source raw) (sym c.in_default.ensures.first) ∙ inv.read) few,
      inv.stand,
    )
