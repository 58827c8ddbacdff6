use Rattle.std.proofs.Common.{ap, arith, subst, ◌∙◌, ◌≡◌, ◌≢◌}
use Rattle.std.specs.Prelude.{OnOk}
use Rattle.grid_laws.specs.Slots.{Laid, ahead}
use Rattle.shape_decode.proofs.Along.{pushed_on}
use Rattle.shape_decode.proofs.slots.+push_slots.Goals as goal
use Rattle.shape_decode.specs.Laid.{lays_of}

pub returns : goal.returns
returns t c =
    subst (λ ss. OnOk c.push_slots.result (c.push_slots.new.slots.items ≡ ss))
    (pushed_on c.args.reading.now.g c.args.reading.now.values.now c.args.reading.now.left.now c.args.reading.now.right.now c.args.slots.now.items c.push.new.self.items c.in_ok-slot.slot (lays_of c.in-Some.lays)
    c.args.most c.args.i c.args.j c.args.before c.ahead-i.result c.ahead-j.result c.slot.inside.before c.requires.reading.left c.requires.reading.right
    (let some : c.args.most ≢ 0 = c.if-most-eq0.false in some)
    c.in-Some.ensures.next
    (c.ahead-i.ensures ∙ ap (λ b. ahead b c.args.i) c.has_left.ensures)
    (c.ahead-j.ensures ∙ ap (λ b. ahead b c.args.j) c.has_right.ensures)
    c.in_ok-slot.ensures
    (ap (λ (s : Laid). s.before) c.slot.view_is)
    c.in_ok-push.ensures.items)
    c.push_slots.ensures
