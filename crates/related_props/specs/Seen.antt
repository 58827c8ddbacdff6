-- The family that borrowed parts stand for.
use Rattle.css_model.specs.declared.family.Family.{Family}
use Rattle.css_model.specs.declared.family.Family.TheVariants as model
use Rattle.related_props.specs.declared.families.Seen.{Seen}
use Rattle.related_props.specs.declared.families.Seen.TheVariants.{All, Custom, Listed, Named}

abbrev pub family_seen : Seen → Family
family_seen All = model.All
family_seen (Custom codes) = model.Custom codes.now
family_seen (Listed word) = model.Named word.now
family_seen (Named codes) = model.Named codes.now
