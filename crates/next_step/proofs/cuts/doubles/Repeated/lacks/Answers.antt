use Rattle.std.proofs.Common.{◌≡◌, false, rules, sym, ◌∙◌}
use Rattle.next_step.proofs.cuts.doubles.Repeated.lacks.Goals as goal

pub returns-in-Some : goal.returns-in-Some
returns-in-Some c = λ known.
    let none : c.contains.result ≡ false = search rules in
    (c.in-Some.digests, c.in-Some.is, sym c.contains.ensures ∙ none)
