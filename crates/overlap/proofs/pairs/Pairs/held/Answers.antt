use Rattle.std.proofs.Common.{rules, ◌≡◌, length, ap, sym, ◌∙◌}
use Rattle.std.proofs.lemmas.List.{length-map}
use Rattle.overlap.proofs.pairs.Pairs.held.Goals as goal
use Rattle.overlap.specs.Stored.{answered, answers_of}

pub returns : goal.returns
returns c =
    let v : c.args.self.now.answers ≡ answers_of c.self.inside.selectors.keys c.self.inside.answers.entries = search rules in
    c.len.ensures.len ∙ sym (ap length v ∙ length-map c.self.inside.answers.entries (answered c.self.inside.selectors.keys))
