use Rattle.why_text.proofs.explaining.explain_rule.Goals as goal

pub told_first-requires-clause-profile : goal.told_first-requires-clause-profile
told_first-requires-clause-profile c =
    let sheet = c.requires.planned in
    c.selectors_are_in_the_profile.ensures.all sheet.0 sheet.1.read.0 c.args.sheet.now.items sheet.1.read.1 sheet.1.sound
