use Rattle.css_model.specs.Text.Lexemes.{is_sign_at}
use Rattle.sheet_read.proofs.Places.{first_at, rest_at, parts_at, first_none, rest_none, parts_none}
use Rattle.sheet_read.proofs.signs.cut.Goals as goal

pub returns-in-Some-clause-first : goal.returns-in-Some-clause-first
returns-in-Some-clause-first c = first_at (is_sign_at c.args.sign c.args.level) c.args.xs.now c.in-Some.at c.in-Some.ensures.place

pub returns-in-Some-clause-rest : goal.returns-in-Some-clause-rest
returns-in-Some-clause-rest c = rest_at (is_sign_at c.args.sign c.args.level) c.args.xs.now c.in-Some.at c.in-Some.ensures.place

pub returns-in-Some-clause-parts : goal.returns-in-Some-clause-parts
returns-in-Some-clause-parts c = parts_at (is_sign_at c.args.sign c.args.level) c.args.xs.now c.in-Some.at c.in-Some.ensures.place

pub returns-in-None-clause-first : goal.returns-in-None-clause-first
returns-in-None-clause-first c = first_none (is_sign_at c.args.sign c.args.level) c.args.xs.now c.in-None.ensures.place

pub returns-in-None-clause-rest : goal.returns-in-None-clause-rest
returns-in-None-clause-rest c = rest_none (is_sign_at c.args.sign c.args.level) c.args.xs.now c.in-None.ensures.place

pub returns-in-None-clause-parts : goal.returns-in-None-clause-parts
returns-in-None-clause-parts c = parts_none (is_sign_at c.args.sign c.args.level) c.args.xs.now c.in-None.ensures.place
