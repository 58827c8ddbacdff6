-- Members that weigh have weights that may.
use Rattle.std.proofs.Common.{◌≡◌, ◌==◌, ◌↔◌, ℕ, Bool, true, false, not, List, refl, sym, ap, ap₂, subst, ◌∙◌, rules}
use Rattle.std.specs.Bool.{beq}
use Rattle.std.specs.Cmp.{booleans_Decides}
use Rattle.std.specs.List.{list_any}
use Rattle.std.specs.Cmp.Lexicographic.{bytes_decides}
use Rattle.std.specs.Prelude.{◌&&◌, IsTrue, bit_and}
use Rattle.std.proofs.lemmas.Bool.{false≢true, and_from, and_parts}
use Rattle.std.proofs.lemmas.Bool.Decides.{Decides-eqb}
use Rattle.std.proofs.lemmas.Nat.{and_comm}
use Rattle.css_model.specs.declared.sheet.Decl.{Decl}
use Rattle.css_model.specs.declared.sheet.Item.{Item}
use Rattle.css_model.specs.declared.sheet.Item.TheVariants.{Rule, KeptRule, KeptBlock}
use Rattle.css_model.specs.Cascade.Family.{Related, related}
use Rattle.css_model.specs.Cascade.Order.{Pair, Weigh, WeighsKept}
use Rattle.css_model.specs.Documents.Specificity.{specificity_of}
use Rattle.css_model.specs.Lists.{same_text}
use Rattle.order_laws.specs.Comparing.{WeighingIsDecided, weigh, weighs_kept}
use Rattle.related_props.proofs.ForCallers.{related_have_common, kept_shows}
use Rattle.related_props.proofs.MaskBits.{common_shows}
use Rattle.related_props.specs.Masks.{decl_mask, item_mask}
use Rattle.sheet_members.specs.Compared.{Common}
use Rattle.sheet_members.specs.Occurrences.{Part, Paired, Kept}
use Rattle.turned_members.specs.contracts.weight.RankPartialEq.TheImpl as ranks
use Rattle.turned_members.specs.declared.weight.Rank.{Rank}
use Rattle.turned_members.specs.declared.weight.Weight.{Weight}
use Rattle.turned_members.specs.Weighing.{commons_weigh, normal_pair, pairs_weigh, parts_weigh}
use Rattle.turned_members.specs.Weight.{have_common, may_weigh, weight_of}

rank_itself : (r : Rank) → (ranks.ghosts).eq r r ≡ true
rank_itself r = search rules

same_ranks : (r r' : Rank) → r ≡ r' → (ranks.ghosts).eq r r' ≡ true
same_ranks r r' h = ap (λ (x : Rank). (ranks.ghosts).eq r x) (sym h) ∙ rank_itself r

has_bits : (m n : ℕ) → (bit_and m n ≡ 0 → ⊥) → have_common m n ≡ true
has_bits m n h = which (bit_and m n == 0) refl
  where
    which : (b : Bool) → (bit_and m n == 0) ≡ b → not b ≡ true
    which true e = absurd (h ((Decides-eqb (bit_and m n) 0).0 e))
    which false e = refl

-- a declaration with another value has the same mask, and weighs with the same kept items
weights_of : WeighingIsDecided → (x : Part) (text : List ℕ) (y : Part) (other : List ℕ) → parts_weigh x text y other ≡ true → may_weigh (weight_of x) (weight_of y) ≡ true
weights_of weighing (Paired s d) text (Paired s' d') other h =
    let p = normal_pair s d text in
    let q = normal_pair s' d' other in
    let w : Weigh p q = (weighing.0 p q).0 h in
    and_from (have_common (decl_mask d.decl) (decl_mask d'.decl)) _
    (has_bits (decl_mask d.decl) (decl_mask d'.decl) (common_shows (decl_mask d.decl) (decl_mask d'.decl) (related_have_common d.decl d'.decl w.names)))
    (same_ranks (record { important = d.decl.important; specificity = specificity_of s.selector }) (record { important = d'.decl.important; specificity = specificity_of s'.selector })
    (ap₂ (λ b t. record { important = b; specificity = t }) w.importance w.specificity))
weights_of weighing (Paired s d) text (Kept item) other h =
    let p = normal_pair s d text in
    let w : WeighsKept p item = (weighing.1 p item).0 h in
    has_bits (decl_mask d.decl) (item_mask item) (kept_shows p (decl_mask d.decl) item (λ i e. e) w)
weights_of weighing (Kept item) text (Paired s d) other h =
    let p = normal_pair s d other in
    let w : WeighsKept p item = (weighing.1 p item).0 h in
    has_bits (item_mask item) (decl_mask d.decl) (λ e. kept_shows p (decl_mask d.decl) item (λ i f. f) w (and_comm (decl_mask d.decl) (item_mask item) ∙ e))
weights_of weighing (Kept item) text (Kept item') other h = refl

-- members whose weights may not do not weigh
pub weights_tell : WeighingIsDecided → (c d : Common) (v w : Weight) → v ≡ weight_of c.mine.occurrence.part → w ≡ weight_of d.mine.occurrence.part → false ≡ may_weigh v w → false ≡ commons_weigh c d
weights_tell weighing c d v w is_v is_w unlikely = which (parts_weigh c.mine.occurrence.part c.mine.occurrence.text d.mine.occurrence.part d.mine.occurrence.text) refl
  where
    never : may_weigh (weight_of c.mine.occurrence.part) (weight_of d.mine.occurrence.part) ≡ false
    never = ap₂ (λ (a b : Weight). may_weigh a b) (sym is_v) (sym is_w) ∙ sym unlikely

    which : (b : Bool) → parts_weigh c.mine.occurrence.part c.mine.occurrence.text d.mine.occurrence.part d.mine.occurrence.text ≡ b → false ≡ commons_weigh c d
    which true e = absurd (false≢true (sym never ∙ weights_of weighing c.mine.occurrence.part c.mine.occurrence.text d.mine.occurrence.part d.mine.occurrence.text e))
    which false e = sym (ap (λ (b : Bool). b && pairs_weigh c.yours.occurrence.part c.yours.occurrence.text d.yours.occurrence.part d.yours.occurrence.text) e)

-- ---- Pairs, by tests of what they have

pub both_test : (a b : Bool) → (a ≡ true → b ≡ true) → (b ≡ true → a ≡ true) → a ≡ b
both_test true b h g = sym (h refl)
both_test false true h g = g refl
both_test false false h g = refl

abbrev pub decl_with : (name value : List ℕ) (important : Bool) → Decl
decl_with name value important = record { name = name; value = value; important = important }

-- whether two declarations are the same
pub decls_test : (a b c : Bool) (d e : Decl) → IsTrue a ↔ (d.name ≡ e.name) → b ≡ same_text d.value e.value → c ≡ beq d.important e.important → IsTrue (a && (b && c)) ↔ (d ≡ e)
decls_test a b c d e names values importance = (
  λ h. let w = and_parts a (b && c) h in
      let v = and_parts b c w.1 in
      let name : d.name ≡ e.name = names.0 w.0 in
      let value : d.value ≡ e.value = (bytes_decides d.value e.value).0 (sym values ∙ v.0) in
      let important : d.important ≡ e.important = (booleans_Decides d.important e.important).0 (sym importance ∙ v.1) in
      ap (λ (n : List ℕ). decl_with n d.value d.important) name ∙ ap (λ (t : List ℕ). decl_with e.name t d.important) value ∙ ap (decl_with e.name e.value) important,
  λ h. and_from a (b && c) (names.1 (ap (λ (x : Decl). x.name) h))
      (and_from b c (values ∙ (bytes_decides d.value e.value).1 (ap (λ (x : Decl). x.value) h)) (importance ∙ (booleans_Decides d.important e.important).1 (ap (λ (x : Decl). x.important) h))),
)

-- whether two pairs weigh
pub weigh_test : WeighingIsDecided → (a b c d : Bool) (p q : Pair) → IsTrue a ↔ (p.decl ≡ q.decl) → IsTrue b ↔ Related p.decl.name q.decl.name → c ≡ beq p.decl.important q.decl.important →
    IsTrue d ↔ (specificity_of p.selector ≡ specificity_of q.selector) → (not a && (b && (c && d))) ≡ weigh p q
weigh_test weighing a b c d p q same names importance specificity = both_test (not a && (b && (c && d))) (weigh p q) to from
  where
    differ : (x : Bool) → not x ≡ true → x ≡ true → ⊥
    differ true h g = false≢true h
    differ false h g = false≢true g

    other : (x : Bool) → (x ≡ true → ⊥) → not x ≡ true
    other true h = absurd (h refl)
    other false h = refl

    to : (not a && (b && (c && d))) ≡ true → weigh p q ≡ true
    to h =
        let w = and_parts (not a) (b && (c && d)) h in
        let v = and_parts b (c && d) w.1 in
        let u = and_parts c d v.1 in
        (weighing.0 p q).1 (record {
          different = λ e. differ a w.0 (same.1 e);
          names = names.0 v.0;
          importance = (booleans_Decides p.decl.important q.decl.important).0 (sym importance ∙ u.0);
          specificity = specificity.0 u.1;
        })

    from : weigh p q ≡ true → (not a && (b && (c && d))) ≡ true
    from h =
        let w : Weigh p q = (weighing.0 p q).0 h in
        and_from (not a) (b && (c && d)) (other a (λ e. w.different (same.0 e)))
        (and_from b (c && d) (names.1 w.names)
        (and_from c d (importance ∙ (booleans_Decides p.decl.important q.decl.important).1 w.importance) (specificity.1 w.specificity)))

-- the same of pairs that are seen as others
pub weigh_seen : WeighingIsDecided → (a b c d result : Bool) (p q p' q' : Pair) → p' ≡ p → q' ≡ q → IsTrue a ↔ (p.decl ≡ q.decl) → IsTrue b ↔ Related p'.decl.name q'.decl.name →
    c ≡ beq p'.decl.important q'.decl.important → IsTrue d ↔ (specificity_of p'.selector ≡ specificity_of q'.selector) → result ≡ (not a && (b && (c && d))) → result ≡ weigh p q
weigh_seen weighing a b c d result p q p' q' seen also same names importance specificity is =
    is
    ∙ weigh_test weighing a b c d p q same
    (subst (λ (x : Pair). IsTrue b ↔ Related x.decl.name q.decl.name) seen (subst (λ (y : Pair). IsTrue b ↔ Related p'.decl.name y.decl.name) also names))
    (importance ∙ ap₂ (λ (x y : Pair). beq x.decl.important y.decl.important) seen also)
    (subst (λ (x : Pair). IsTrue d ↔ (specificity_of x.selector ≡ specificity_of q.selector)) seen
    (subst (λ (y : Pair). IsTrue d ↔ (specificity_of p'.selector ≡ specificity_of y.selector)) also specificity))

-- a pair weighs with a kept item by its property and its importance alone
pub same_kept : (p q : Pair) (item : Item) → p.decl.name ≡ q.decl.name → p.decl.important ≡ q.decl.important → weighs_kept p item ≡ weighs_kept q item
same_kept p q (Rule r) names importance = refl
same_kept p q (KeptRule k) names importance =
    ap₂ (λ (n : List ℕ) (b : Bool). list_any (λ d. related n d.name && beq b d.important) k.decls) names importance
same_kept p q (KeptBlock piece) names importance = refl

pub kept_test : WeighingIsDecided → (a : Bool) (p q : Pair) (item : Item) → IsTrue a ↔ WeighsKept p item → p.decl.name ≡ q.decl.name → p.decl.important ≡ q.decl.important → a ≡ weighs_kept q item
kept_test weighing a p q item is names importance =
    both_test a (weighs_kept p item) (λ h. (weighing.1 p item).1 (is.0 h)) (λ h. is.1 ((weighing.1 p item).0 h)) ∙ same_kept p q item names importance
