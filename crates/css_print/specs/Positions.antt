-- The positions that are left of a selector.
use Rattle.std.specs.Prelude.{List, ◌++◌}
use Rattle.css_model.specs.declared.position.AnB.{AnB}
use Rattle.css_print.specs.declared.positions.Positions.{Positions}
use Rattle.selector_laws.specs.Positions.{positions_in, positions_of}

abbrev pub remaining : Positions → List AnB
remaining p = positions_in p.simples.now ++ positions_of p.compounds.now
