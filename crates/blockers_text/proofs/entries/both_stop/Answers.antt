use Rattle.blockers_text.proofs.entries.both_stop.Goals as goal

pub returns-clause-tells : goal.returns-clause-tells
returns-clause-tells c = λ later is.
    let tells = c.in_ok-other.ensures.tells later is in
    record { is = tells.is; answered = tells.answered }
