use Rattle.std.proofs.Common.{[], List, sym, ap, subst, ◌∙◌}
use Rattle.std.specs.List.{AllByRecursion}
use Rattle.sheet_members.specs.Compared.{Common, Compared}
use Rattle.sheet_members.specs.Ready.{IsReadyCommon}
use Rattle.turned_members.specs.Telling.{AreTold}
use Rattle.turned_members.specs.Turned.{turned}
use Rattle.diff_text.specs.Shown.{IsReadyTold}
use Rattle.diff_text.proofs.Laid.{commons_laid, compared_laid, told_laid}
use Rattle.diff_text.proofs.texts.tell_found.Goals as goal

pub told_of-requires : goal.told_of-requires
told_of-requires c =
    subst (AllByRecursion IsReadyCommon) (sym (c.deref.ensures.value ∙ ap (λ (x : Compared). x.commons) c.compared.view_is))
    (commons_laid c.args.sides.now c.args.compared.now c.requires.ready c.requires.compared)

pub tell_compared-requires-clause-told : goal.tell_compared-requires-clause-told
tell_compared-requires-clause-told c =
    let pairs = c.told_of.new.pairs in
    let told = c.in_ok-told.told.items in
    subst (AllByRecursion IsReadyTold) (sym c.deref-2.ensures.value)
    (told_laid c.args.sides.now c.args.compared.now pairs c.args.limit told c.requires.ready c.requires.compared c.are_true.ensures
    (subst (λ (cs : List Common). AreTold pairs.answers c.args.limit [] (turned cs) told) (c.deref.ensures.value ∙ ap (λ (x : Compared). x.commons) c.compared.view_is) c.in_ok-told.ensures.told))

pub tell_compared-requires-clause-compared : goal.tell_compared-requires-clause-compared
tell_compared-requires-clause-compared c = compared_laid c.args.sides.now c.args.compared.now c.requires.ready c.requires.compared
