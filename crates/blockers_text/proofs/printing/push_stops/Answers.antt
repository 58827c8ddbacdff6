use Rattle.std.proofs.Common.{◌++◌, ◌∷◌, [], ℕ, List, ap, ◌∙◌}
use Rattle.std.specs.Prelude.{codes}
use Rattle.css_model.specs.Sheets.Sheet.{start_of}
use Rattle.line_places.specs.Shown.{shown}
use Rattle.media_groups.specs.Heads.{head_text}
use Rattle.blockers_text.specs.Lines.{numbers_text, place_in}
use Rattle.blockers_text.proofs.Writing.{part_more, parts_more}
use Rattle.blockers_text.proofs.printing.push_stops.Goals as goal

pub returns : goal.returns
returns c =
    let out = c.args.out.now.items in
    let level = c.args.level.now in
    let item = c.args.item.now in
    let word : List ℕ = codes "stops" in
    let space : List ℕ = codes " " in
    let numbers = numbers_text c.args.tally.now in
    let place = place_in level (start_of item) in
    let head = shown (head_text level.source item) in
    let two = part_more out word numbers c.extend_from_slice.new.self.items c.push_numbers.new.out.items c.in_ok-extend_from_slice.ensures.items c.in_ok-push_numbers.ensures in
    let four = parts_more out (word ++ numbers) space place c.push_numbers.new.out.items c.push_place.new.out.items two
    (c.in_ok-push_place.ensures ∙ ap (λ (at : ℕ). c.push_numbers.new.out.items ++ (space ++ place_in level at)) c.start_of.ensures) in
    let six = parts_more out (word ++ numbers ++ space ++ place) space head c.push_place.new.out.items c.push_head.new.out.items four c.in_ok-push_head.ensures in
    part_more out (word ++ numbers ++ space ++ place ++ space ++ head) (10 ∷ []) c.push_head.new.out.items c.extend_from_slice-2.new.self.items six c.in_ok-extend_from_slice-2.ensures.items
