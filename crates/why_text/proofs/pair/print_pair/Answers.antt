use Rattle.why_text.proofs.Places.{selector_sound, decl_sound}
use Rattle.why_text.proofs.pair.print_pair.Goals as goal

pub print_rule-requires-clause-selector : goal.print_rule-requires-clause-selector
print_rule-requires-clause-selector c = selector_sound c.args.source.now c.args.sheet.now.items c.args.place c.pair_at.result.0.now c.pair_at.result.1.now c.requires.sound c.pair_at.ensures

pub print_rule-requires-clause-decl : goal.print_rule-requires-clause-decl
print_rule-requires-clause-decl c = decl_sound c.args.source.now c.args.sheet.now.items c.args.place c.pair_at.result.0.now c.pair_at.result.1.now c.requires.sound c.pair_at.ensures
