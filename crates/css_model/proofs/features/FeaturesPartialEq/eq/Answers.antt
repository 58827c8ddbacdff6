use Rattle.std.proofs.Common.{◌≡◌, ◌∙◌, sym, rules}
use mathlib.Core.Bool.{beq}
use Rattle.css_model.specs.contracts.features.FeaturesPartialEq.TheImpl as features
use Rattle.css_model.proofs.SameFeatures.{features_decides}
use Rattle.css_model.proofs.features.FeaturesPartialEq.eq.Goals as goal

pub returns-then-self-other-clause-exact : goal.returns-then-self-other-clause-exact
returns-then-self-other-clause-exact c =
    let e : beq c.self.inside.text c.other.inside.text ≡ (features.ghosts).eq c.args.self.now c.args.other.now = search rules in
    let decides = features_decides c.args.self.now c.args.other.now in
    (λ is. decides.0 (sym e ∙ is), λ same. e ∙ decides.1 same)

pub returns-else-eq-2-clause-exact : goal.returns-else-eq-2-clause-exact
returns-else-eq-2-clause-exact c =
    let e : c.eq-then-eq.result ≡ (features.ghosts).eq c.args.self.now c.args.other.now = search rules in
    let decides = features_decides c.args.self.now c.args.other.now in
    (λ is. decides.0 (sym e ∙ is), λ same. e ∙ decides.1 same)
