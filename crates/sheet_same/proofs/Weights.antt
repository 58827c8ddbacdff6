-- Members that weigh have weights that may.
use Rattle.std.proofs.Common.{◌≡◌, ◌==◌, ℕ, Bool, true, false, not, refl, sym, ap, ap₂, ◌∙◌, rules}
use Rattle.std.specs.Prelude.{bit_and}
use Rattle.std.proofs.lemmas.Bool.{false≢true, and_from}
use Rattle.std.proofs.lemmas.Bool.Decides.{Decides-eqb}
use Rattle.std.proofs.lemmas.Nat.{and_comm}
use Rattle.css_model.specs.Cascade.Order.{Weigh, WeighsKept}
use Rattle.css_model.specs.Documents.Specificity.{specificity_of}
use Rattle.order_laws.specs.Comparing.{WeighingIsDecided}
use Rattle.related_props.proofs.ForCallers.{related_have_common, kept_shows}
use Rattle.related_props.proofs.MaskBits.{common_shows}
use Rattle.related_props.specs.Masks.{decl_mask, item_mask}
use Rattle.sheet_same.specs.contracts.weight.RankPartialEq.TheImpl as ranks
use Rattle.sheet_same.specs.declared.weight.Rank.{Rank}
use Rattle.sheet_same.specs.Members.{Member, Paired, KeptAt}
use Rattle.sheet_same.specs.Standing.{members_weigh}
use Rattle.sheet_same.specs.Weight.{weight_of, may_weigh}

rank_itself : (r : Rank) → (ranks.ghosts).eq r r ≡ true
rank_itself r = search rules

same_ranks : (r r' : Rank) → r ≡ r' → (ranks.ghosts).eq r r' ≡ true
same_ranks r r' h = ap (λ (x : Rank). (ranks.ghosts).eq r x) (sym h) ∙ rank_itself r

has_bits : (m n : ℕ) → (bit_and m n ≡ 0 → ⊥) → not (bit_and m n == 0) ≡ true
has_bits m n h = which (bit_and m n == 0) refl
  where
    which : (b : Bool) → (bit_and m n == 0) ≡ b → not b ≡ true
    which true e = absurd (h ((Decides-eqb (bit_and m n) 0).0 e))
    which false e = refl

weights_of : WeighingIsDecided → (m x : Member) → members_weigh m x ≡ true → may_weigh (weight_of m) (weight_of x) ≡ true
weights_of weighing (Paired x) (Paired y) h =
    let w : Weigh x.pair y.pair = (weighing.0 x.pair y.pair).0 h in
    and_from (not (bit_and (decl_mask x.pair.decl) (decl_mask y.pair.decl) == 0)) _
    (has_bits (decl_mask x.pair.decl) (decl_mask y.pair.decl) (common_shows (decl_mask x.pair.decl) (decl_mask y.pair.decl) (related_have_common x.pair.decl y.pair.decl w.names)))
    (same_ranks (record { important = x.pair.decl.important; specificity = specificity_of x.pair.selector }) (record { important = y.pair.decl.important; specificity = specificity_of y.pair.selector })
    (ap₂ (λ b s. record { important = b; specificity = s }) w.importance w.specificity))
weights_of weighing (Paired x) (KeptAt n item) h =
    let w : WeighsKept x.pair item = (weighing.1 x.pair item).0 h in
    and_from (not (bit_and (decl_mask x.pair.decl) (item_mask item) == 0)) true
    (has_bits (decl_mask x.pair.decl) (item_mask item) (kept_shows x.pair (decl_mask x.pair.decl) item (λ i e. e) w)) refl
weights_of weighing (KeptAt n item) (Paired y) h =
    let w : WeighsKept y.pair item = (weighing.1 y.pair item).0 h in
    and_from (not (bit_and (item_mask item) (decl_mask y.pair.decl) == 0)) true
    (has_bits (item_mask item) (decl_mask y.pair.decl) (λ e. kept_shows y.pair (decl_mask y.pair.decl) item (λ i f. f) w (and_comm (decl_mask y.pair.decl) (item_mask item) ∙ e))) refl
weights_of weighing (KeptAt n item) (KeptAt k other) h = absurd (false≢true h)

-- members whose weights may not do not weigh
pub weights_tell : WeighingIsDecided → (m x : Member) → may_weigh (weight_of m) (weight_of x) ≡ false → members_weigh m x ≡ false
weights_tell weighing m x h = which (members_weigh m x) refl
  where
    which : (b : Bool) → members_weigh m x ≡ b → members_weigh m x ≡ false
    which true e = absurd (false≢true (sym h ∙ weights_of weighing m x e))
    which false e = e
