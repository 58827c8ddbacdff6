use Rattle.std.proofs.Common.{◌≡◌, ◌+◌, ◌-◌, ◌<◌, ◌∷◌, length, get_or, ap, ◌∙◌, subst, arith}
use Rattle.cnf.proofs.DivisionCode.{DividedSoFar, take_off_room, digit_done}
use Rattle.cnf.proofs.division.divide.Goals as goal

pub take_off-requires-clause-room : goal.take_off-requires-clause-room
take_off-requires-clause-room c =
    let j = c.loop-k.k - 1 in
    let e : c.loop-k.k ≡ j + 1 = omega arith in
    let within : j < length c.args.x.now = omega arith in
    let so_far = subst (λ n. DividedSoFar c.args.f.now c.args.x.now c.args.by c.loop-k.f c.loop-k.quotient.items c.loop-k.remainder.items n) e c.loop-k.invariant in
    let digit = get_or c.args.x.now j (record { 0 = 0 }) in
    let number = c.deref-in-loop-k.ensures.value ∙ (c.in_ok-number.ensures ∙ ap (λ ls. digit ∷ ls) c.deref.ensures.value) in
    take_off_room c.args.f.now c.loop-k.f c.args.x.now c.args.by j _ _ c.loop-k.quotient.items c.loop-k.remainder.items c.deref-in-loop-k.result.now so_far within number c.requires.room

pub loop-k-preserved : goal.loop-k-preserved
loop-k-preserved c =
    let j = c.loop-k.k - 1 in
    let e : c.loop-k.k ≡ j + 1 = omega arith in
    let within : j < length c.args.x.now = omega arith in
    let so_far = subst (λ n. DividedSoFar c.args.f.now c.args.x.now c.args.by c.loop-k.f c.loop-k.quotient.items c.loop-k.remainder.items n) e c.loop-k.invariant in
    let digit = get_or c.args.x.now j (record { 0 = 0 }) in
    let number = c.deref-in-loop-k.ensures.value ∙ (c.in_ok-number.ensures ∙ ap (λ ls. digit ∷ ls) c.deref.ensures.value) in
    digit_done c.args.f.now c.loop-k.f c.take_off.new.f c.args.x.now c.args.by j _ c.loop-k.quotient.items c.push.new.self.items c.loop-k.remainder.items c.in_ok-fits.rest.items c.deref-in-loop-k.result.now c.in_ok-fits.fits so_far within c.requires.in_range number (c.in_ok-fits.ensures.formula, c.in_ok-fits.ensures.fits, c.in_ok-fits.ensures.rest) c.in_ok-push.ensures.items
