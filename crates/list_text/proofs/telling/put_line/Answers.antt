use Rattle.std.proofs.Common.{◌≡◌, ◌+◌, ◌++◌, ◌∷◌, [], ℕ, List, ap, ◌∙◌}
use Rattle.std.specs.Prelude.{codes}
use Rattle.css_model.specs.Sheets.Sheet as sheet
use Rattle.line_places.specs.Lines.{place_of, place_text}
use Rattle.line_places.specs.Shown.{shown}
use Rattle.media_groups.specs.Heads.{head_text}
use Rattle.media_groups.specs.Levels.{Level}
use Rattle.list_text.specs.ListTexts as spec
use Rattle.list_text.proofs.Writing.{part_more}
use Rattle.list_text.proofs.telling.put_line.Goals as goal

pub returns : goal.returns
returns c =
    let out = c.args.out.now.items in
    let level = c.args.level.now in
    let item = c.args.item.now in
    let space : List ℕ = codes " " in
    let number = spec.number_text level.block c.args.number in
    let place = place_text (place_of c.args.lines.now.text.now (level.start + sheet.start_of item)) in
    let kind = spec.kind_text c.args.opened item in
    let head = shown (head_text level.source item) in
    let one : c.push_item_number.new.out.items ≡ out ++ number =
    c.in_ok-push_item_number.ensures ∙ ap (λ (l : Level). out ++ spec.number_text l.block c.args.number) c.level.view_is in
    let two = part_more out number space c.push_item_number.new.out.items c.extend_from_slice.new.self.items one c.in_ok-extend_from_slice.ensures.items in
    let three = part_more out (number ++ space) place c.extend_from_slice.new.self.items c.push_start.new.out.items two c.in_ok-push_start.ensures in
    let four = part_more out (number ++ space ++ place) space c.push_start.new.out.items c.extend_from_slice-2.new.self.items three c.in_ok-extend_from_slice-2.ensures.items in
    let five = part_more out (number ++ space ++ place ++ space) kind c.extend_from_slice-2.new.self.items c.push_kind.new.out.items four c.in_ok-push_kind.ensures in
    let six = part_more out (number ++ space ++ place ++ space ++ kind) space c.push_kind.new.out.items c.extend_from_slice-3.new.self.items five c.in_ok-extend_from_slice-3.ensures.items in
    let seven = part_more out (number ++ space ++ place ++ space ++ kind ++ space) head c.extend_from_slice-3.new.self.items c.push_head.new.out.items six c.in_ok-push_head.ensures in
    part_more out (number ++ space ++ place ++ space ++ kind ++ space ++ head) (10 ∷ []) c.push_head.new.out.items c.extend_from_slice-4.new.self.items seven c.in_ok-extend_from_slice-4.ensures.items
