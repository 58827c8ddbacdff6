use Rattle.std.proofs.Common.{◌≡◌, ◌++◌, ◌≤◌, ◌∙◌, List, sym, ap, subst, arith}
use Rattle.std.specs.List.{All, count_by, filter_map}
use Rattle.css_model.specs.Positions.Range.{IsInRange, is_stepped}
use Rattle.css_model.specs.Sheets.Limits.{max_stepped}
use Rattle.sibling_counts.specs.declared.side.Asked.{Asked}
use Rattle.sibling_counts.specs.Sides.{behind_test, front_test, positions_of}
use Rattle.sibling_counts.proofs.Splitting.{fronts_few, fronts_in_range, behinds_few, behinds_in_range, found_least}
use Rattle.sibling_counts.proofs.least.least_siblings.Goals as goal

pub limit-requires-clause-in_range : goal.limit-requires-clause-in_range
limit-requires-clause-in_range c =
    subst (λ (ts : List Asked). All IsInRange (positions_of ts)) (sym (c.as_slice.ensures ∙ c.in_ok-fronts.ensures)) (fronts_in_range (c.args.x.now ++ c.args.y.now) c.requires.in_range)

pub limit-requires-clause-few : goal.limit-requires-clause-few
limit-requires-clause-few c =
    subst (λ (ts : List Asked). count_by is_stepped (positions_of ts) ≤ max_stepped) (sym (c.as_slice.ensures ∙ c.in_ok-fronts.ensures))
    (let h = fronts_few (c.args.x.now ++ c.args.y.now) in let k = c.requires.few in omega arith)

pub limit-requires-2-clause-in_range : goal.limit-requires-2-clause-in_range
limit-requires-2-clause-in_range c =
    subst (λ (ts : List Asked). All IsInRange (positions_of ts)) (sym (c.as_slice-2.ensures ∙ c.in_ok-behinds.ensures)) (behinds_in_range (c.args.x.now ++ c.args.y.now) c.requires.in_range)

pub limit-requires-2-clause-few : goal.limit-requires-2-clause-few
limit-requires-2-clause-few c =
    subst (λ (ts : List Asked). count_by is_stepped (positions_of ts) ≤ max_stepped) (sym (c.as_slice-2.ensures ∙ c.in_ok-behinds.ensures))
    (let h = behinds_few (c.args.x.now ++ c.args.y.now) in let k = c.requires.few in omega arith)

pub returns : goal.returns
returns c =
    found_least (c.args.x.now ++ c.args.y.now) c.as_slice-3.result.now c.as_slice-4.result.now c.both_pass-alone.result c.both_pass-apart.result c.least.result
    (c.as_slice-3.ensures ∙ c.in_ok-fronts.ensures) (c.as_slice-4.ensures ∙ c.in_ok-behinds.ensures) c.both_pass-alone.ensures c.both_pass-apart.ensures c.least.ensures
