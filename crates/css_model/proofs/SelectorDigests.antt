-- Selectors with different digests are different.
use Rattle.std.proofs.Common.{◌≡◌, ℕ, nat_eq, ap, sym, ◌∙◌}
use Rattle.std.proofs.lemmas.Bool.{eqb-true, false_from_ne_true}
use Rattle.css_model.specs.contracts.selector.SelectorHash.TheImpl as hash
use Rattle.css_model.specs.contracts.selector.SelectorPartialEq.TheImpl as selector
use Rattle.css_model.specs.Documents.Digests.{digest_of}
use Rattle.css_model.specs.Documents.SelectorParts.{SelectorParts}
use Rattle.css_model.proofs.Same.{selector_decides}

pub digests_differ : (x y : SelectorParts) (m n : ℕ) → m ≡ digest_of ((hash.ghosts).hash_input x) → n ≡ digest_of ((hash.ghosts).hash_input y) → (m ≡ n → ⊥) → nat_eq m n ≡ (selector.ghosts).eq x y
digests_differ x y m n first second differ =
    false_from_ne_true (nat_eq m n) (λ e. differ (eqb-true m n e))
    ∙ sym (false_from_ne_true ((selector.ghosts).eq x y) (λ same. differ
    (first ∙ ap (λ (s : SelectorParts). digest_of ((hash.ghosts).hash_input s)) ((selector_decides x y).0 same) ∙ sym second)))
