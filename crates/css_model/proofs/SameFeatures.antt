-- Equality decides whether two features are the same.
use Rattle.std.proofs.Common.{◌≡◌, List, ℕ, Decides, arith}
use Rattle.std.specs.Prelude.{◌&&◌}
use Rattle.std.specs.Cmp.{unsigned_Decides, booleans_Decides}
use Rattle.std.specs.Cmp.Lexicographic.{pointwise, pointwise_decides, bytes_decides}
use Rattle.css_model.specs.Documents.FeatureParts.{FeatureParts}
use Rattle.css_model.specs.contracts.text.TextPartialEq.TheImpl as text
use Rattle.css_model.specs.contracts.features.FeaturesPartialEq.TheImpl as features

attribute_decides : (a b : List ℕ × List ℕ) → Decides ((text.ghosts).eq a.0 b.0 && (text.ghosts).eq a.1 b.1) (a ≡ b)
attribute_decides a b = grind (arith, bytes_decides a.0 b.0, bytes_decides a.1 b.1)

attributes_decides : (a b : List (List ℕ × List ℕ)) →
    Decides (pointwise (λ x y. (text.ghosts).eq x.0 y.0 && (text.ghosts).eq x.1 y.1) a b) (a ≡ b)
attributes_decides = pointwise_decides attribute_decides

pub features_decides : (a b : FeatureParts) → Decides ((features.ghosts).eq a b) (a ≡ b)
features_decides a b =
    grind (arith, bytes_decides a.kind b.kind, attributes_decides a.attrs b.attrs, unsigned_Decides a.flags b.flags, booleans_Decides a.text b.text)
