use Rattle.std.proofs.Common.{◌-◌, ◌∷◌, [], List, length, take, drop, sym, ap, ◌∙◌}
use Rattle.std.specs.Prelude.{◌||◌, nat_le}
use Rattle.turned_members.specs.Telling.{Told}
use Rattle.turned_members.specs.Turned.{turned_with}
use Rattle.turned_members.specs.Walking.{commons_of}
use Rattle.turned_members.proofs.Tells.{with_more}
use Rattle.turned_members.proofs.Way.{cut_first, tells_no_more, way_ends, way_goes_on}
use Rattle.turned_members.proofs.walk.tell_with.Goals as goal

pub returns-then-is_over-clause-tells : goal.returns-then-is_over-clause-tells
returns-then-is_over-clause-tells c =
    let w = c.args.w.now.common in
    let rest = c.later.rest.now in
    let x = c.x-item.result in
    way_ends (turned_with w) c.args.limit c.args.pairs.now c.later.pairs c.args.told.now.items c.later.told.items c.args.later.now rest c.later.invariant
    (tells_no_more c.args.limit c.later.pairs c.later.told.items w rest (take (length rest - 1) (drop 1 rest)) x (cut_first rest x c.in-len1-up.len_at_least c.x-item.is) c.later.invariant.floors
    (ap (λ (ts : List Told). nat_le w.there x.floor || nat_le c.args.limit (length ts)) (sym c.deref.ensures.value) ∙ sym c.is_over.ensures ∙ c.if-is_over.true))

pub later-preserved : goal.later-preserved
later-preserved c =
    let w = c.args.w.now.common in
    let rest = c.later.rest.now in
    let x = c.x-item.result in
    let others = take (length rest - 1) (drop 1 rest) in
    way_goes_on (turned_with w) c.args.limit c.args.pairs.now c.later.pairs c.tell_one.new.pairs c.args.told.now.items c.later.told.items c.tell_one.new.told.items c.args.later.now rest others x
    (turned_with w (x.common ∷ [])) (cut_first rest x c.in-len1-up.len_at_least c.x-item.is) (with_more w x.common (commons_of others)) c.later.invariant c.tell_one.ensures.stays c.in_ok-tell_one.ensures.tells
