-- Each answer, from what was read with a cap.
use Rattle.std.proofs.Common.{sym, ap, ◌∙◌}
use Rattle.std.proofs.lemmas.Bool.{false≢true}
use Rattle.css_model.specs.Positions.Reading.{body_of}
use Rattle.nth_positions.proofs.Outcomes.{outcomes_none, outcomes_in_range, outcomes_out_of_range}
use Rattle.nth_positions.proofs.notation.read_anb.Goals as goal

pub returns-in-None : goal.returns-in-None
returns-in-None c = (let a = outcomes_none c.args.text.now (c.in-None.ensures ∙ ap body_of c.after_blanks.ensures) in record { exact = sym (c.in-None.ensures ∙ ap body_of c.after_blanks.ensures); ok = a.ok; not_anb = a.not_anb; out_of_range = a.out_of_range })

pub returns-in-Some : goal.returns-in-Some
returns-in-Some c = (let a = outcomes_in_range c.args.text.now c.in-Some.x (c.in-Some.ensures ∙ ap body_of c.after_blanks.ensures) (c.is_in_range.ensures.0 c.if-is_in_range.true) in record { exact = (sym (c.in-Some.ensures ∙ ap body_of c.after_blanks.ensures), c.is_in_range.ensures.0 c.if-is_in_range.true); ok = a.ok; not_anb = a.not_anb; out_of_range = a.out_of_range })

pub returns-in-Some-2 : goal.returns-in-Some-2
returns-in-Some-2 c = (let a = outcomes_out_of_range c.args.text.now c.in-Some.x (c.in-Some.ensures ∙ ap body_of c.after_blanks.ensures) (λ r. false≢true (sym c.if-is_in_range.false ∙ c.is_in_range.ensures.1 r)) in record { exact = (c.in-Some.x, sym (c.in-Some.ensures ∙ ap body_of c.after_blanks.ensures), λ r. false≢true (sym c.if-is_in_range.false ∙ c.is_in_range.ensures.1 r)); ok = a.ok; not_anb = a.not_anb; out_of_range = a.out_of_range })
