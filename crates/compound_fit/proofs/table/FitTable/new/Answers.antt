use Rattle.std.proofs.Common.{◌≡◌, ap₂, rules, subst, sym}
use Rattle.std.specs.List.{All}
use Rattle.compound_fit.specs.Conditions.{IsFittable}
use Rattle.compound_fit.specs.Table.{groups}
use Rattle.compound_fit.proofs.table.FitTable.new.Goals as goal

pub push_all-requires : goal.push_all-requires
push_all-requires c =
    let first : c.as_slice.result.now ≡ c.args.x.now.chain = search rules in
    let second : c.as_slice-2.result.now ≡ c.args.y.now.chain = search rules in
    subst (All IsFittable) (sym (ap₂ groups first second)) c.requires
