use Rattle.std.proofs.lemmas.Result.{IfOk-weaker}
use Rattle.why_text.specs.WhyTexts.{IsMoveText, IsToldText}
use Rattle.why_text.proofs.Moves.{asks_of_item, pairs_of_item, text_of_item}
use Rattle.why_text.proofs.lines.explain_move.Goals as goal

pub returns-in_err-told-clause-asks : goal.returns-in_err-told-clause-asks
returns-in_err-told-clause-asks c = asks_of_item c.args.sheet.now.items c.args.from c.args.to c.requires.from c.args.pairs.now c.explain.new.pairs c.explain.ensures.asks

pub print_told-requires-clause-pairs : goal.print_told-requires-clause-pairs
print_told-requires-clause-pairs c = pairs_of_item c.args.sheet.now.items c.args.from c.args.to c.requires.from c.explain.new.pairs c.in_ok-told.told c.in_ok-told.ensures.explained

pub returns-clause-asks : goal.returns-clause-asks
returns-clause-asks c = asks_of_item c.args.sheet.now.items c.args.from c.args.to c.requires.from c.args.pairs.now c.explain.new.pairs c.explain.ensures.asks

pub returns-clause-text : goal.returns-clause-text
returns-clause-text c =
    IfOk-weaker c.print_told.result (λ text. IsToldText c.args.source.now c.args.sheet.now.items c.in_ok-told.told text.items) (λ text. IsMoveText c.args.source.now c.args.sheet.now.items c.args.from c.args.to c.explain.new.pairs text.items)
    (λ text told. text_of_item c.args.sheet.now.items c.args.from c.args.to c.requires.from c.explain.new.pairs c.in_ok-told.told c.in_ok-told.ensures.explained c.args.source.now c.are_true.ensures text.items told) c.print_told.ensures
