use Rattle.std.specs.Prelude.{length}
use Rattle.clause_encode.specs.Fits.{is_fit}
use Rattle.clause_encode.specs.Laws.{TablesAreReady}
use Rattle.formula_laws.specs.Deciding.{FormulaDecidesShapes}
use Rattle.pair_laws.proofs.laws.meeting_satisfies_the_formula.Goals as goal
use Rattle.pair_laws.specs.Meeting.{MeetingSatisfies}
use Rattle.shape_laws.specs.Meeting.{MeetingHasAShape}
use Rattle.shape_laws.specs.Shrinking.{ShapesShrink}

-- by a shape, and then a small one
satisfied : MeetingHasAShape → ShapesShrink → TablesAreReady → FormulaDecidesShapes → MeetingSatisfies
satisfied meeting shrink ready decide table x y t kx ky meet =
    let shape = meeting meet.doc meet.target x y meet.legal meet.first meet.second in
    let small = shrink x y shape.0 kx.few ky.few shape.1 in
    (decide (is_fit (length x.links) (length y.links) table.fits) x y (ready table x y t kx ky) kx.few ky.few).1 (small.0, small.1, ((small.2).before, (small.2).after))

pub returns : goal.returns
returns c = satisfied c.selectors_that_meet_have_a_shape.ensures c.shapes_shrink.ensures c.tables_are_ready.ensures c.formula_decides_shapes.ensures
