use Rattle.std.proofs.Common.{◌≡◌, sym, ap, ◌∙◌, drop, arith}
use Rattle.std.proofs.lemmas.List.{take_rest}
use Rattle.css_tokens.specs.UnitOf.{unit_of}
use Rattle.css_tokens.proofs.RunLemmas.{run_more}
use Rattle.css_tokens.proofs.runs.run.Goals as goal

pub units-preserved : goal.units-preserved
units-preserved c =
    let text = c.args.text.now in
    let i = c.units.i in
    let unit = unit_of c.args.unit in
    let n = c.unit_len-n.result in
    let is : unit (drop i text) ≡ n = sym (c.unit_len-n.ensures.value ∙ ap unit (take_rest text i)) in
    let later = run_more unit text i n c.units-test.true is (omega arith) in
    (omega (arith, later), omega arith)
