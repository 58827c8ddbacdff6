use Rattle.std.proofs.Common.{◌≡◌, ◌+◌, ◌<◌, sym, ap, ◌∙◌, drop, arith}
use Rattle.std.proofs.lemmas.List.{take_rest}
use Rattle.css_model.specs.Text.Units.{string_unit}
use Rattle.css_tokens.proofs.RunLemmas.{run_more, run_none}
use Rattle.css_tokens.proofs.StringLemmas.{run_past_plain, unit_inside}
use Rattle.css_tokens.proofs.strings.string_len.Goals as goal

pub returns-then-n-eq0-clause-value : goal.returns-then-n-eq0-clause-value
returns-then-n-eq0-clause-value c =
    let text = c.args.text.now in
    let quote = c.args.quote in
    let i = c.parts.i in
    let plain = c.plain_len-plain in
    let at = i + plain.result in
    let is : string_unit quote (drop at text) ≡ 0 = sym (ap (string_unit quote) (take_rest text at)) ∙ sym c.string_unit-n.ensures.value ∙ c.if-n-eq0.true in
    omega (arith, run_past_plain quote text i plain.result plain.ensures.small plain.ensures.plain, run_none (string_unit quote) (drop at text) is, c.parts.invariant.0)

pub parts-preserved : goal.parts-preserved
parts-preserved c =
    let text = c.args.text.now in
    let quote = c.args.quote in
    let i = c.parts.i in
    let plain = c.plain_len-plain in
    let at = i + plain.result in
    let n = c.string_unit-n.result in
    let is : string_unit quote (drop at text) ≡ n = sym (ap (string_unit quote) (take_rest text at)) ∙ sym c.string_unit-n.ensures.value in
    let positive : 0 < n = omega arith in
    let inside = unit_inside quote text at n is positive in
    let past = run_past_plain quote text i plain.result plain.ensures.small plain.ensures.plain in
    let more = run_more (string_unit quote) text at n inside is positive in
    (omega (arith, past, more, c.parts.invariant.0), omega (arith, inside, c.string_unit-n.ensures.small))
