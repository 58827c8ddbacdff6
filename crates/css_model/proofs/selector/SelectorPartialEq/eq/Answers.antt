use Rattle.std.proofs.Common.{arith, ap, ◌∙◌}
use Rattle.css_model.specs.contracts.selector.SelectorHash.TheImpl as hash
use Rattle.css_model.specs.Documents.Digests.{digest_of}
use Rattle.css_model.specs.Documents.SelectorParts.{SelectorParts}
use Rattle.css_model.proofs.Same.{selector_decides}
use Rattle.css_model.proofs.SelectorDigests.{digests_differ}
use Rattle.css_model.proofs.selector.SelectorPartialEq.eq.Goals as goal

pub returns-then-eq-2-clause-exact : goal.returns-then-eq-2-clause-exact
returns-then-eq-2-clause-exact c =
    grind (arith, selector_decides c.args.self.now c.args.other.now, c.self.view_is, c.other.view_is)

pub returns-else-eq-2-clause-exact : goal.returns-else-eq-2-clause-exact
returns-else-eq-2-clause-exact c =
    grind (arith, selector_decides c.args.self.now c.args.other.now, c.self.view_is, c.other.view_is)

pub returns-else-eq-clause-exact : goal.returns-else-eq-clause-exact
returns-else-eq-clause-exact c =
    grind (arith, selector_decides c.args.self.now c.args.other.now, c.self.view_is, c.other.view_is)

pub returns-else-self-other-clause-eq : goal.returns-else-self-other-clause-eq
returns-else-self-other-clause-eq c =
    digests_differ c.args.self.now c.args.other.now c.self.inside.digest c.other.inside.digest
    (c.self.inside.digested ∙ ap (λ (s : SelectorParts). digest_of ((hash.ghosts).hash_input s)) c.self.view_is)
    (c.other.inside.digested ∙ ap (λ (s : SelectorParts). digest_of ((hash.ghosts).hash_input s)) c.other.view_is)
    c.if-self-other.false
