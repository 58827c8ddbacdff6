use Rattle.std.proofs.Common.{◌++◌, Bool, List, ap, sym, ◌∙◌}
use Rattle.css_model.specs.declared.selector.AttrTest.{AttrTest}
use Rattle.compound_fit.specs.Attributes.{attribute_tests}
use Rattle.compound_fit.proofs.TwoLists.{tests_append}
use Rattle.compound_fit.proofs.attributes.attribute_tests.Goals as goal

pub returns : goal.returns
returns c =
    let x = c.args.x.now in
    let y = c.args.y.now in
    c.in_ok-push_tests-2.ensures ∙
    ap (λ (t : List (AttrTest × Bool)). t ++ attribute_tests y) (c.in_ok-push_tests.ensures ∙ ap (λ (t : List (AttrTest × Bool)). t ++ attribute_tests x) c.new-tests.ensures.items) ∙ sym (tests_append x y)
