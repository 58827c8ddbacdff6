use Rattle.std.proofs.Common.{◌≡◌, ◌≤◌, ◌+◌, ℕ, List, map, length, refl, ap, ap₂, sym, ◌∙◌, subst, arith}
use Rattle.std.specs.List.{AllByRecursion}
use Rattle.css_model.specs.Sheets.Limits.{max_bytes, max_items}
use Rattle.media_groups.specs.declared.media.Media.{Media}
use Rattle.media_groups.specs.Laws.{IsBlockOf}
use Rattle.media_groups.specs.Opened.{opened_of}
use Rattle.merge_text.proofs.planned.plan.Goals as goal
use Rattle.merge_text.proofs.PlannedBodies.{bodies_planned, body_steps_fit, enough_spent, left_spent, outside_planned, steps_fit, whole_spent}
use Rattle.merge_text.proofs.Told.{bodies_read_few}
use Rattle.merge_text.specs.Counts.{most_items}
use Rattle.planner.specs.Working.{spent_of}
use Rattle.opened_merge_laws.specs.Bodies.{bytes_in}
use Rattle.opened_merge_laws.specs.Plans.{AreBodyPlansWithin}
use Rattle.opened_merge_laws.specs.Told.{items_in}

pub count_bodies-requires : goal.count_bodies-requires
count_bodies-requires g c =
    subst (λ (media : List Media). items_in (map (λ m. m.sheet) media) ≤ most_items) (sym (c.as_slice-blocks.ensures.value ∙ c.requires.media))
    (bodies_read_few c.read_keeps_the_limits.ensures c.opened_blocks_are_sheets.ensures.sheets c.args.source.now c.args.sheet.items (c.read_keeps_the_limits.ensures c.args.source.now c.args.sheet.items c.requires.read).1)

pub overflow_add-read_items : goal.overflow_add-read_items
overflow_add-read_items g c =
    let limits = c.read_keeps_the_limits.ensures c.args.source.now c.args.sheet.items c.requires.read in
    let few : c.count.result ≤ max_items = subst (λ (n : ℕ). n ≤ max_items) (sym c.count.ensures) limits.1 in
    let inside : items_in (map (λ m. m.sheet) c.as_slice-blocks.result.now) ≤ most_items =
    subst (λ (media : List Media). items_in (map (λ m. m.sheet) media) ≤ most_items) (sym (c.as_slice-blocks.ensures.value ∙ c.requires.media))
    (bodies_read_few c.read_keeps_the_limits.ensures c.opened_blocks_are_sheets.ensures.sheets c.args.source.now c.args.sheet.items limits.1) in
    let many : c.count_bodies.result ≤ most_items = subst (λ (n : ℕ). n ≤ most_items) (sym c.count_bodies.ensures) inside in
    omega (arith, few, many)

pub merge_bodies-requires-clause-short : goal.merge_bodies-requires-clause-short
merge_bodies-requires-clause-short g c =
    let limits = c.read_keeps_the_limits.ensures c.args.source.now c.args.sheet.items c.requires.read in
    let apart = c.opened_bodies_stand_apart.ensures c.args.source.now c.args.sheet.items c.requires.read in
    let short = limits.0 in
    subst (λ (media : List Media). bytes_in c.args.source.now media ≤ max_bytes) (sym (c.as_slice-blocks.ensures.value ∙ c.requires.media)) (omega (arith, apart, short))

pub overflow_add-result : goal.overflow_add-result
overflow_add-result g c =
    let answers = g.O.Obstacles.answers c.merge_within.new.obstacles in
    let more = g.O.Obstacles.answers c.merge_bodies.new.obstacles in
    let source = c.args.source.now in
    let media = c.as_slice-blocks.result.now in
    let same : media ≡ opened_of c.args.sheet.items source = c.as_slice-blocks.ensures.value ∙ c.requires.media in
    let short = (c.read_keeps_the_limits.ensures source c.args.sheet.items c.requires.read).0 in
    let apart : bytes_in source media ≤ length source =
    subst (λ (xs : List Media). bytes_in source xs ≤ length source) (sym same) (c.opened_bodies_stand_apart.ensures source c.args.sheet.items c.requires.read) in
    let outside = steps_fit c.printed_is_no_longer.ensures answers source c.in_ok-outside.outside.taken c.args.sheet.items c.in_ok-outside.outside.sheet.items c.requires.read c.in_ok-outside.ensures.leads in
    let blocks : AllByRecursion (IsBlockOf source) media = subst (AllByRecursion (IsBlockOf source)) (sym same) (c.opened_blocks_are_sheets.ensures.sheets source c.args.sheet.items) in
    let inside = body_steps_fit c.printed_is_no_longer.ensures (spent_of c.left-room.result c.in_ok-inside.inside.spent) more source media c.in_ok-inside.inside.taken c.in_ok-inside.inside.sheets.items blocks c.in_ok-inside.ensures.plans in
    omega (arith, outside, inside, apart, short)

pub merge_bodies-requires-clause-enough : goal.merge_bodies-requires-clause-enough
merge_bodies-requires-clause-enough g c =
    left_spent c.args.work c.left-room.result c.in_ok-outside.outside.spent (g.O.Obstacles.answers c.merge_within.new.obstacles) c.in_ok-outside.outside.taken c.left-room.ensures
    (enough_spent (spent_of c.args.work c.in_ok-outside.outside.spent) (g.O.Obstacles.answers c.merge_within.new.obstacles) c.args.source.now c.in_ok-outside.outside.taken c.in_ok-outside.outside.sheet.items c.in_ok-outside.ensures.ended)

pub returns-clause-planned : goal.returns-clause-planned
returns-clause-planned g c =
    let answers = g.O.Obstacles.answers c.merge_within.new.obstacles in
    let more = g.O.Obstacles.answers c.merge_bodies.new.obstacles in
    let source = c.args.source.now in
    let items = c.args.sheet.items in
    let same : c.as_slice-blocks.result.now ≡ opened_of items source = c.as_slice-blocks.ensures.value ∙ c.requires.media in
    let inside = c.in_ok-inside.inside in
    record {
      old = items;
      steps = c.in_ok-outside.outside.taken;
      body_steps = inside.taken;
      old_read = c.requires.read;
      opened = c.requires.media;
      plan = outside_planned c.args.work c.left-room.result c.in_ok-outside.outside.spent inside.spent answers more c.in_ok-inside.ensures.asked source c.in_ok-outside.outside.taken items c.in_ok-outside.outside.sheet.items
          c.left-room.ensures c.in_ok-inside.ensures.stays c.in_ok-outside.ensures.leads c.in_ok-outside.ensures.ended;
      body_plans = subst (λ (media : List Media). AreBodyPlansWithin (spent_of c.args.work inside.spent) more source media inside.taken inside.sheets.items) same
          (bodies_planned c.args.work c.left-room.result inside.spent more source c.as_slice-blocks.result.now c.in_ok-outside.outside.taken inside.taken inside.sheets.items c.left-room.ensures c.in_ok-inside.ensures.plans);
      enough = whole_spent c.args.work c.left-room.result inside.spent more c.in_ok-outside.outside.taken inside.taken c.left-room.ensures c.in_ok-inside.ensures.enough;
      counted = ap₂ (λ (m n : ℕ). m + n) c.count.ensures (c.count_bodies.ensures ∙ ap (λ (media : List Media). items_in (map (λ m. m.sheet) media)) same);
      taken_is = refl;
    }
