use Rattle.std.proofs.Common.{Option, ◌∙◌, subst}
use Rattle.std.proofs.lemmas.Result.{IfOk-weaker}
use Rattle.sheet_same.specs.declared.compared.Compared.{Compared}
use Rattle.sheet_same.specs.declared.compared.Difference.{Difference}
use Rattle.sheet_same.specs.Compared.{IsFound, BodiesTell}
use Rattle.sheet_same.proofs.Bodies.{difference_of}
use Rattle.sheet_same.proofs.comparing.compare.Goals as goal

pub returns-clause-difference : goal.returns-clause-difference
returns-clause-difference c =
    IfOk-weaker c.compare_bodies.result (λ (d : Difference). BodiesTell c.compare_bodies.new.pairs.answers 0 c.args.source.now c.deref-in-None.result.now c.args.there.now c.deref-in-None-2.result.now d) _
    (λ d told. difference_of c.found_in_texts.new.pairs c.compare_bodies.new.pairs c.compare_bodies.ensures.stays c.args.source.now c.args.sheet.now.items c.args.there.now c.args.other.now.items
    c.deref.result.now c.deref-2.result.now c.deref-in-None.result.now c.deref-in-None-2.result.now
    (c.deref.ensures.value ∙ c.in_ok-media.ensures) (c.deref-2.ensures.value ∙ c.in_ok-twins.ensures) (c.deref-in-None.ensures.value ∙ c.in_ok-media.ensures) (c.deref-in-None-2.ensures.value ∙ c.in_ok-twins.ensures)
    (subst (λ (o : Option Compared). IsFound c.found_in_texts.new.pairs.answers c.args.source.now c.deref.result.now c.args.sheet.now.items c.args.there.now c.deref-2.result.now c.args.other.now.items o) c.in-None.is c.in_ok-compared.ensures.found)
    d told) c.compare_bodies.ensures.told
