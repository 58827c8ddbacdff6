use Rattle.std.proofs.Common.{◌≡◌, take}
use Rattle.css_model.specs.Text.Names.{lower}
use Rattle.sel_parse.proofs.types.lower.Given as goal

abbrev pub invariant-codes : goal.invariant-codes
invariant-codes l = record { same : l.codes ≡ l.name; done : l.lowered.items ≡ lower (take l.c-index l.codes) }
