-- Where an element stands, with counts of any size (own).
use Rattle.cascade_laws.specs.declared.reaching.Surroundings.{Surroundings}
use Rattle.element_tests.specs.declared.whereabouts.Whereabouts.{Whereabouts}

-- what stands around it (Selectors 3, section 6.6.5)
abbrev pub surroundings_of : Whereabouts → Surroundings
surroundings_of w = record { before = w.before; behind = w.behind; is_root = w.is_root; is_child = w.is_child; has_children = w.has_children }
