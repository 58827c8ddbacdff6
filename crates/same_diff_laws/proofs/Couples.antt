-- Two members that weigh and come in another order, where nothing is found: they are two pairs that are apart.
use Rattle.std.proofs.Common.{◌≡◌, ◌⊎◌, inl, inr, ℕ, suc, ◌+◌, Bool, true, List, [], ◌∷◌, Option, Some, refl, sym, ap, ap₂, ◌∙◌, subst, arith}
use Rattle.std.specs.Prelude.{slice_get}
use Rattle.cascade_laws.proofs.ForCallers.{some-same}
use Rattle.css_model.specs.declared.sheet.Decl.{Decl}
use Rattle.css_model.specs.declared.sheet.DeclItem.{DeclItem}
use Rattle.css_model.specs.declared.sheet.Item.{Item}
use Rattle.css_model.specs.declared.sheet.Item.TheVariants.{Rule, KeptRule, KeptBlock}
use Rattle.css_model.specs.declared.sheet.SelItem.{SelItem}
use Rattle.css_model.specs.Cascade.Family.{Related}
use Rattle.css_model.specs.Cascade.Order.{Pair, Weigh, WeighsKept}
use Rattle.css_model.specs.Documents.SelectorParts.{SelectorParts}
use Rattle.css_model.specs.Sheets.KeptItems.{kept_items}
use Rattle.media_groups.specs.declared.media.Media.{Media}
use Rattle.normal_text.specs.Normal.{normal_head, normal_value}
use Rattle.order_laws.specs.Comparing.{WeighingIsDecided, weigh}
use Rattle.sheet_members.specs.Labels.{Label}
use Rattle.sheet_members.specs.Layers.{Layer, body_layer, outer_layer}
use Rattle.sheet_members.specs.Occurrences.{Kept, Occurrence, Paired, Part, pair_of}
use Rattle.turned_members.specs.Weighing.{parts_weigh}
use Rattle.same_diff_laws.proofs.Alike.{IsBlock, opened_at}
use Rattle.same_diff_laws.proofs.Lasting.{label_at}
use Rattle.same_diff_laws.proofs.Levels.{IsLastSpot, LevelFacts, never_less, less_chain, none_before, none_behind, pair_label, pair_of_spot, pairs_apart, spot_label}
use Rattle.same_diff_laws.proofs.Sides.{BlockPair, InnerPair, KeptSame, OuterPair, Side, bodies_in, opened_in}
use Rattle.same_diff_laws.proofs.Spots.{Less, Spotted, spots}

-- two pairs whose selectors are apart
pub record ApartParts (Apart : SelectorParts → SelectorParts → Type 0) (o o' : Occurrence) : Type 0 where
  pub one : SelItem
  pub decl : DeclItem
  pub two : SelItem
  pub other : DeclItem
  pub first : o.part ≡ Paired one decl
  pub second : o'.part ≡ Paired two other
  pub apart : Apart one.selector two.selector

pub apart_moved : (Apart : SelectorParts → SelectorParts → Type 0) (o o' a b : Occurrence) → o ≡ a → o' ≡ b → ApartParts Apart a b → ApartParts Apart o o'
apart_moved Apart o o' a b e f w = record {
  one = w.one;
  decl = w.decl;
  two = w.two;
  other = w.other;
  first = ap (λ (x : Occurrence). x.part) e ∙ w.first;
  second = ap (λ (x : Occurrence). x.part) f ∙ w.second;
  apart = w.apart;
}

abbrev pub Weighs : Occurrence → Occurrence → Type 0
Weighs o o' = parts_weigh o.part o.text o'.part o'.text ≡ true

-- a pair with its normal value
abbrev normal_of : Pair → Pair
normal_of p = record { selector = p.selector; decl = record { name = p.decl.name; value = normal_value p.decl; important = p.decl.important } }

abbrev normal_decl : Decl → Decl
normal_decl d = record { name = d.name; value = normal_value d; important = d.important }

raw_weigh : (p q : Pair) → Weigh (normal_of p) (normal_of q) → Weigh p q
raw_weigh p q w = record { different = λ e. w.different (ap normal_decl e); names = w.names; importance = w.importance; specificity = w.specificity }

abbrev made : SelectorParts → List ℕ → List ℕ → Bool → Pair
made s name value important = record { selector = s; decl = record { name = name; value = value; important = important } }

one_normal : (head head' : Option (List ℕ)) (p q : Pair) → pair_label head p ≡ pair_label head' q → normal_of p ≡ normal_of q
one_normal head head' p q e =
    ap (λ (x : SelectorParts). made x p.decl.name (normal_value p.decl) p.decl.important) (some-same (ap (λ (l : Label). l.selector) e))
    ∙ ap (λ (x : List ℕ). made q.selector x (normal_value p.decl) p.decl.important) (ap (λ (l : Label). l.name) e)
    ∙ ap (λ (x : List ℕ). made q.selector q.decl.name x p.decl.important) (ap (λ (l : Label). l.text) e)
    ∙ ap (λ (x : Bool). made q.selector q.decl.name (normal_value q.decl) x) (ap (λ (l : Label). l.important) e)

weighs_like : (p q : Pair) → p.decl.name ≡ q.decl.name → p.decl.important ≡ q.decl.important → (item : Item) → WeighsKept p item → WeighsKept q item
weighs_like p q names importance (Rule r) h = h
weighs_like p q names importance (KeptRule k) h =
    (h.0, h.1, record { names = subst (λ (n : List ℕ). Related n (h.0).name) names (h.2).names; importance = sym importance ∙ (h.2).importance })
weighs_like p q names importance (KeptBlock piece) h = tt

block_weighs : (p : Pair) (item : Item) → IsBlock item → WeighsKept p item
block_weighs p (Rule r) h = absurd h
block_weighs p (KeptRule k) h = absurd h
block_weighs p (KeptBlock piece) h = tt

less_nil : (u : List ℕ) → Less u [] → ⊥
less_nil [] h = h
less_nil (x ∷ u) h = h

record Aligned (i j : ℕ) (u v u' v' : List ℕ) : Type 0 where
  number : i ≡ j
  before : Less u v
  after : Less v' u'

aligned : (i j : ℕ) (u v u' v' : List ℕ) → Less (suc (i + i) ∷ u) (suc (j + j) ∷ v) → Less (suc (j + j) ∷ v') (suc (i + i) ∷ u') → Aligned i j u v u' v'
aligned i j u v u' v' (inl h) (inl g) = absurd (omega (arith, h, g))
aligned i j u v u' v' (inl h) (inr (e, g)) = absurd (omega (arith, h, e))
aligned i j u v u' v' (inr (e, h)) (inl g) = absurd (omega (arith, e, g))
aligned i j u v u' v' (inr (e, h)) (inr (f, g)) = record { number = omega (arith, e); before = h; after = g }

module _ (Apart : SelectorParts → SelectorParts → Type 0) (weighing : WeighingIsDecided) where
  -- ---- One layer

  module _ (l l' : Layer) (s t : List Item) (bs bs' : List (Option (List Spotted))) (heads : l.head ≡ l'.head) (facts : LevelFacts Apart s t) where
    abbrev Mine : Spotted → Type 0
    Mine z = IsLastSpot l s (spots l 0 0 s bs) z

    abbrev Yours : Spotted → Type 0
    Yours z = IsLastSpot l' t (spots l' 0 0 t bs') z

    abbrev mine_pair : (z : Spotted) → Mine z → Pair
    mine_pair z m = pair_of_spot l s z m.at

    abbrev yours_pair : (z : Spotted) → Yours z → Pair
    yours_pair z m = pair_of_spot l' t z m.at

    occurs_as : (z : Spotted) (m : Mine z) → z.occurrence ≡ pair_of l m.at.number m.at.decl m.at.marked
    occurs_as z m = ap (λ (x : Spotted). x.occurrence) m.at.is

    normal_same : (z z' : Spotted) (m : Mine z) (y : Yours z') → label_at z ≡ label_at z' → normal_of (mine_pair z m) ≡ normal_of (yours_pair z' y)
    normal_same z z' m y same = one_normal l.head l'.head (mine_pair z m) (yours_pair z' y) (sym (spot_label l s z m.at) ∙ same ∙ spot_label l' t z' y.at)

    pub level_pairs : (c d c' d' : Spotted) (mc : Mine c) (md : Mine d) (yc : Yours c') (yd : Yours d') → label_at c ≡ label_at c' → label_at d ≡ label_at d' → Less c.spot d.spot → Less d'.spot c'.spot →
        Weighs c.occurrence d.occurrence → ApartParts Apart c.occurrence d.occurrence
    level_pairs c d c' d' mc md yc yd same same' before after weighs =
        let test : weigh (normal_of (mine_pair c mc)) (normal_of (mine_pair d md)) ≡ true =
        ap₂ (λ (o o' : Occurrence). parts_weigh o.part o.text o'.part o'.text) (sym (occurs_as c mc)) (sym (occurs_as d md)) ∙ weighs in
        let e : normal_of (mine_pair c mc) ≡ normal_of (yours_pair c' yc) = normal_same c c' mc yc same in
        let w : Weigh (yours_pair c' yc) (mine_pair d md) =
        raw_weigh (yours_pair c' yc) (mine_pair d md) (subst (λ (p : Pair). Weigh p (normal_of (mine_pair d md))) e ((weighing.0 (normal_of (mine_pair c mc)) (normal_of (mine_pair d md))).0 test)) in
        record {
          one = mc.at.marked.0;
          decl = mc.at.decl;
          two = md.at.marked.0;
          other = md.at.decl;
          first = ap (λ (o : Occurrence). o.part) (occurs_as c mc);
          second = ap (λ (o : Occurrence). o.part) (occurs_as d md);
          apart = subst (λ (x : SelectorParts). Apart x md.at.marked.0.selector) (sym (ap (λ (p : Pair). p.selector) e)) (pairs_apart Apart l l' s t bs bs' heads facts c d c' d' mc md yc yd same same' before after w);
        }

    pub level_behind : (c c' : Spotted) (mc : Mine c) (yc : Yours c') → label_at c ≡ label_at c' → (number : ℕ) (item : Item) (us vs : List ℕ) → slice_get (kept_items s) number ≡ Some item →
        WeighsKept (normal_of (mine_pair c mc)) item → Less c.spot (suc (number + number) ∷ us) → Less (suc (number + number) ∷ vs) c'.spot → ⊥
    level_behind c c' mc yc same number item us vs at weighs before after =
        let e : normal_of (mine_pair c mc) ≡ normal_of (yours_pair c' yc) = normal_same c c' mc yc same in
        none_behind Apart l l' s t bs bs' heads facts c c' mc yc same number item us vs at
        (weighs_like (normal_of (mine_pair c mc)) (yours_pair c' yc) (ap (λ (p : Pair). p.decl.name) e) (ap (λ (p : Pair). p.decl.important) e) item weighs) before after

    pub level_before : (d d' : Spotted) (md : Mine d) (yd : Yours d') → label_at d ≡ label_at d' → (number : ℕ) (item : Item) (us vs : List ℕ) → slice_get (kept_items s) number ≡ Some item →
        WeighsKept (normal_of (mine_pair d md)) item → Less (suc (number + number) ∷ us) d.spot → Less d'.spot (suc (number + number) ∷ vs) → ⊥
    level_before d d' md yd same number item us vs at weighs after before =
        none_before Apart l l' s t bs bs' heads facts d d' md yd same number item us vs at (weighs_like (normal_of (mine_pair d md)) (mine_pair d md) refl refl item weighs) after before

    -- what weighs with a kept item
    pub pair_weighs : (c : Spotted) (mc : Mine c) (o : Occurrence) (item : Item) → o.part ≡ Kept item → Weighs c.occurrence o → WeighsKept (normal_of (mine_pair c mc)) item
    pair_weighs c mc o item part weighs =
        (weighing.1 (normal_of (mine_pair c mc)) item).0
        (ap₂ (λ (x : Occurrence) (q : Part). parts_weigh x.part x.text q o.text) (sym (occurs_as c mc)) (sym part) ∙ weighs)

    pub weighs_pair : (d : Spotted) (md : Mine d) (o : Occurrence) (item : Item) → o.part ≡ Kept item → Weighs o d.occurrence → WeighsKept (normal_of (mine_pair d md)) item
    weighs_pair d md o item part weighs =
        (weighing.1 (normal_of (mine_pair d md)) item).0
        (ap₂ (λ (x : Occurrence) (q : Part). parts_weigh q o.text x.part x.text) (sym (occurs_as d md)) (sym part) ∙ weighs)

  -- ---- Two sheets

  module _ (source : List ℕ) (s : List Item) (other : List ℕ) (t : List Item) (facts : LevelFacts Apart s t) where
    abbrev TheSide : Spotted → Spotted → Type 0
    TheSide z z' = Side Apart source s other t z z'

    abbrev Outer : Spotted → Spotted → Type 0
    Outer z z' = OuterPair Apart source s other t z z'

    abbrev Inner : Spotted → Spotted → Type 0
    Inner z z' = InnerPair Apart source s other t z z'

    abbrev TheKept : Spotted → Spotted → Type 0
    TheKept z z' = KeptSame Apart source s other t z z'

    less_to : (u v w : List ℕ) → v ≡ w → Less u v → Less u w
    less_to u v w e h = subst (λ (x : List ℕ). Less u x) e h

    less_from : (u v w : List ℕ) → u ≡ w → Less u v → Less w v
    less_from u v w e h = subst (λ (x : List ℕ). Less x v) e h

    -- a pair of the sheet itself, and a kept item or what is in a body
    behind : (c c' d d' : Spotted) → Outer c c' → label_at c ≡ label_at c' → (number : ℕ) (item : Item) (us vs : List ℕ) → slice_get (kept_items s) number ≡ Some item →
        ((p : Pair) → WeighsKept p item) ⊎ (d.occurrence.part ≡ Kept item) → d.spot ≡ suc (number + number) ∷ us → d'.spot ≡ suc (number + number) ∷ vs →
        Less c.spot d.spot → Less d'.spot c'.spot → Weighs c.occurrence d.occurrence → ⊥
    behind c c' d d' o same number item us vs at kind e e' before after weighs =
        level_behind (outer_layer source s) (outer_layer other t) s t (bodies_in source s) (bodies_in other t) refl facts c c' o.mine o.yours same number item us vs at (which kind)
        (less_to c.spot d.spot (suc (number + number) ∷ us) e before) (less_from d'.spot c'.spot (suc (number + number) ∷ vs) e' after)
      where
        which : ((p : Pair) → WeighsKept p item) ⊎ (d.occurrence.part ≡ Kept item) → WeighsKept (normal_of (pair_of_spot (outer_layer source s) s c o.mine.at)) item
        which (inl all) = all (normal_of (pair_of_spot (outer_layer source s) s c o.mine.at))
        which (inr part) = pair_weighs (outer_layer source s) (outer_layer other t) s t (bodies_in source s) (bodies_in other t) refl facts c o.mine d.occurrence item part weighs

    before_it : (c c' d d' : Spotted) → Outer d d' → label_at d ≡ label_at d' → (number : ℕ) (item : Item) (us vs : List ℕ) → slice_get (kept_items s) number ≡ Some item →
        ((p : Pair) → WeighsKept p item) ⊎ (c.occurrence.part ≡ Kept item) → c.spot ≡ suc (number + number) ∷ us → c'.spot ≡ suc (number + number) ∷ vs →
        Less c.spot d.spot → Less d'.spot c'.spot → Weighs c.occurrence d.occurrence → ⊥
    before_it c c' d d' o same number item us vs at kind e e' before after weighs =
        level_before (outer_layer source s) (outer_layer other t) s t (bodies_in source s) (bodies_in other t) refl facts d d' o.mine o.yours same number item us vs at (which kind)
        (less_from c.spot d.spot (suc (number + number) ∷ us) e before) (less_to d'.spot c'.spot (suc (number + number) ∷ vs) e' after)
      where
        which : ((p : Pair) → WeighsKept p item) ⊎ (c.occurrence.part ≡ Kept item) → WeighsKept (normal_of (pair_of_spot (outer_layer source s) s d o.mine.at)) item
        which (inl all) = all (normal_of (pair_of_spot (outer_layer source s) s d o.mine.at))
        which (inr part) = weighs_pair (outer_layer source s) (outer_layer other t) s t (bodies_in source s) (bodies_in other t) refl facts d o.mine c.occurrence item part weighs

    -- the opened blocks of one number are one
    mine_one : (i j : ℕ) (m : BlockPair Apart source s other t i) (n : BlockPair Apart source s other t j) → i ≡ j → n.mine ≡ m.mine
    mine_one i j m n e = some-same (sym n.mine_is ∙ ap (opened_at (opened_in source s)) (sym e) ∙ m.mine_is)

    yours_one : (i j : ℕ) (m : BlockPair Apart source s other t i) (n : BlockPair Apart source s other t j) → i ≡ j → n.yours ≡ m.yours
    yours_one i j m n e = some-same (sym n.yours_is ∙ ap (opened_at (opened_in other t)) (sym e) ∙ m.yours_is)

    heads_of : (j : ℕ) (m : BlockPair Apart source s other t j) → (body_layer source m.mine).head ≡ (body_layer other m.yours).head
    heads_of j m = ap (λ (x : List ℕ). Some (normal_head x)) m.heads

    label_moved : (z a : Spotted) → z.occurrence ≡ a.occurrence → label_at z ≡ label_at a
    label_moved z a e = ap (λ (o : Occurrence). label_at (record { spot = []; occurrence = o })) e

    inner_same : (c c' : Spotted) (i : Inner c c') → label_at c ≡ label_at c' → label_at i.a ≡ label_at i.b
    inner_same c c' i same = sym (label_moved c i.a i.mine_is) ∙ same ∙ label_moved c' i.b i.yours_is

    -- two pairs of bodies
    both_inner : (c d c' d' : Spotted) (i : Inner c c') (j : Inner d d') → label_at c ≡ label_at c' → label_at d ≡ label_at d' → Less c.spot d.spot → Less d'.spot c'.spot → Weighs c.occurrence d.occurrence → ApartParts Apart c.occurrence d.occurrence
    both_inner c d c' d' i j same same' before after weighs =
        let a : Aligned i.index j.index i.a.spot j.a.spot i.b.spot j.b.spot =
        aligned i.index j.index i.a.spot j.a.spot i.b.spot j.b.spot
        (less_from c.spot (suc (j.index + j.index) ∷ j.a.spot) (suc (i.index + i.index) ∷ i.a.spot) i.mine_spot (less_to c.spot d.spot (suc (j.index + j.index) ∷ j.a.spot) j.mine_spot before))
        (less_from d'.spot (suc (i.index + i.index) ∷ i.b.spot) (suc (j.index + j.index) ∷ j.b.spot) j.yours_spot (less_to d'.spot c'.spot (suc (i.index + i.index) ∷ i.b.spot) i.yours_spot after)) in
        let m = i.blocks in
        let md : IsLastSpot (body_layer source m.mine) m.mine.sheet.items (spots (body_layer source m.mine) 0 0 m.mine.sheet.items []) j.a =
        subst (λ (x : Media). IsLastSpot (body_layer source x) x.sheet.items (spots (body_layer source x) 0 0 x.sheet.items []) j.a) (mine_one i.index j.index m j.blocks a.number) j.mine in
        let yd : IsLastSpot (body_layer other m.yours) m.yours.sheet.items (spots (body_layer other m.yours) 0 0 m.yours.sheet.items []) j.b =
        subst (λ (x : Media). IsLastSpot (body_layer other x) x.sheet.items (spots (body_layer other x) 0 0 x.sheet.items []) j.b) (yours_one i.index j.index m j.blocks a.number) j.yours in
        apart_moved Apart c.occurrence d.occurrence i.a.occurrence j.a.occurrence i.mine_is j.mine_is
        (level_pairs (body_layer source m.mine) (body_layer other m.yours) m.mine.sheet.items m.yours.sheet.items [] [] (heads_of i.index m) m.agree.facts i.a j.a i.b j.b i.mine md i.yours yd
        (inner_same c c' i same) (inner_same d d' j same') a.before a.after
        (ap₂ (λ (o o' : Occurrence). parts_weigh o.part o.text o'.part o'.text) (sym i.mine_is) (sym j.mine_is) ∙ weighs))

    -- a pair of a body and a kept item
    inner_kept : (c d c' d' : Spotted) (i : Inner c c') (k : TheKept d d') → label_at c ≡ label_at c' → Less c.spot d.spot → Less d'.spot c'.spot → Weighs c.occurrence d.occurrence → ⊥
    inner_kept c d c' d' i k same before after weighs = which k.place
      where
        m : BlockPair Apart source s other t i.index
        m = i.blocks

        sides : (j : ℕ) (us : List ℕ) → d.spot ≡ suc (j + j) ∷ us → Aligned i.index j i.a.spot us i.b.spot us
        sides j us e =
            aligned i.index j i.a.spot us i.b.spot us (less_from c.spot (suc (j + j) ∷ us) (suc (i.index + i.index) ∷ i.a.spot) i.mine_spot (less_to c.spot d.spot (suc (j + j) ∷ us) e before))
            (less_from d'.spot (suc (i.index + i.index) ∷ i.b.spot) (suc (j + j) ∷ us) (sym k.same ∙ e) (less_to d'.spot c'.spot (suc (i.index + i.index) ∷ i.b.spot) i.yours_spot after))

        which : ((j : ℕ) × (slice_get (kept_items s) j ≡ Some k.item) × (d.spot ≡ suc (j + j) ∷ []))
            ⊎ ((j n : ℕ) × (b : BlockPair Apart source s other t j) × (slice_get (kept_items b.mine.sheet.items) n ≡ Some k.item) × (d.spot ≡ suc (j + j) ∷ suc (n + n) ∷ [])) → ⊥
        which (inl (j, at, e)) = less_nil i.a.spot (sides j [] e).before
        which (inr (j, n, b, at, e)) =
            let a = sides j (suc (n + n) ∷ []) e in
            let there : slice_get (kept_items m.mine.sheet.items) n ≡ Some k.item = subst (λ (x : Media). slice_get (kept_items x.sheet.items) n ≡ Some k.item) (mine_one i.index j m b a.number) at in
            level_behind (body_layer source m.mine) (body_layer other m.yours) m.mine.sheet.items m.yours.sheet.items [] [] (heads_of i.index m) m.agree.facts i.a i.b i.mine i.yours (inner_same c c' i same) n k.item [] [] there
            (pair_weighs (body_layer source m.mine) (body_layer other m.yours) m.mine.sheet.items m.yours.sheet.items [] [] (heads_of i.index m) m.agree.facts i.a i.mine d.occurrence k.item k.part
            (ap (λ (o : Occurrence). parts_weigh o.part o.text d.occurrence.part d.occurrence.text) (sym i.mine_is) ∙ weighs)) a.before a.after

    kept_inner : (c d c' d' : Spotted) (k : TheKept c c') (i : Inner d d') → label_at d ≡ label_at d' → Less c.spot d.spot → Less d'.spot c'.spot → Weighs c.occurrence d.occurrence → ⊥
    kept_inner c d c' d' k i same before after weighs = which k.place
      where
        m : BlockPair Apart source s other t i.index
        m = i.blocks

        sides : (j : ℕ) (us : List ℕ) → c.spot ≡ suc (j + j) ∷ us → Aligned j i.index us i.a.spot us i.b.spot
        sides j us e =
            aligned j i.index us i.a.spot us i.b.spot (less_from c.spot (suc (i.index + i.index) ∷ i.a.spot) (suc (j + j) ∷ us) e (less_to c.spot d.spot (suc (i.index + i.index) ∷ i.a.spot) i.mine_spot before))
            (less_from d'.spot (suc (j + j) ∷ us) (suc (i.index + i.index) ∷ i.b.spot) i.yours_spot (less_to d'.spot c'.spot (suc (j + j) ∷ us) (sym k.same ∙ e) after))

        which : ((j : ℕ) × (slice_get (kept_items s) j ≡ Some k.item) × (c.spot ≡ suc (j + j) ∷ []))
            ⊎ ((j n : ℕ) × (b : BlockPair Apart source s other t j) × (slice_get (kept_items b.mine.sheet.items) n ≡ Some k.item) × (c.spot ≡ suc (j + j) ∷ suc (n + n) ∷ [])) → ⊥
        which (inl (j, at, e)) = less_nil i.b.spot (sides j [] e).after
        which (inr (j, n, b, at, e)) =
            let a = sides j (suc (n + n) ∷ []) e in
            let there : slice_get (kept_items m.mine.sheet.items) n ≡ Some k.item = subst (λ (x : Media). slice_get (kept_items x.sheet.items) n ≡ Some k.item) (mine_one i.index j m b (sym a.number)) at in
            level_before (body_layer source m.mine) (body_layer other m.yours) m.mine.sheet.items m.yours.sheet.items [] [] (heads_of i.index m) m.agree.facts i.a i.b i.mine i.yours (inner_same d d' i same) n k.item [] [] there
            (weighs_pair (body_layer source m.mine) (body_layer other m.yours) m.mine.sheet.items m.yours.sheet.items [] [] (heads_of i.index m) m.agree.facts i.a i.mine c.occurrence k.item k.part
            (ap (λ (o : Occurrence). parts_weigh c.occurrence.part c.occurrence.text o.part o.text) (sym i.mine_is) ∙ weighs)) a.before a.after

    -- a pair of the sheet itself and a kept item
    outer_kept : (c d c' d' : Spotted) → Outer c c' → (k : TheKept d d') → label_at c ≡ label_at c' → Less c.spot d.spot → Less d'.spot c'.spot → Weighs c.occurrence d.occurrence → ⊥
    outer_kept c d c' d' o k same before after weighs = which k.place
      where
        which : ((j : ℕ) × (slice_get (kept_items s) j ≡ Some k.item) × (d.spot ≡ suc (j + j) ∷ []))
            ⊎ ((j n : ℕ) × (b : BlockPair Apart source s other t j) × (slice_get (kept_items b.mine.sheet.items) n ≡ Some k.item) × (d.spot ≡ suc (j + j) ∷ suc (n + n) ∷ [])) → ⊥
        which (inl (j, at, e)) = behind c c' d d' o same j k.item [] [] at (inr k.part) e (sym k.same ∙ e) before after weighs
        which (inr (j, n, b, at, e)) =
            behind c c' d d' o same j b.x (suc (n + n) ∷ []) (suc (n + n) ∷ []) b.mine_at (inl (λ p. block_weighs p b.x b.is_block)) e (sym k.same ∙ e) before after weighs

    kept_outer : (c d c' d' : Spotted) (k : TheKept c c') → Outer d d' → label_at d ≡ label_at d' → Less c.spot d.spot → Less d'.spot c'.spot → Weighs c.occurrence d.occurrence → ⊥
    kept_outer c d c' d' k o same before after weighs = which k.place
      where
        which : ((j : ℕ) × (slice_get (kept_items s) j ≡ Some k.item) × (c.spot ≡ suc (j + j) ∷ []))
            ⊎ ((j n : ℕ) × (b : BlockPair Apart source s other t j) × (slice_get (kept_items b.mine.sheet.items) n ≡ Some k.item) × (c.spot ≡ suc (j + j) ∷ suc (n + n) ∷ [])) → ⊥
        which (inl (j, at, e)) = before_it c c' d d' o same j k.item [] [] at (inr k.part) e (sym k.same ∙ e) before after weighs
        which (inr (j, n, b, at, e)) =
            before_it c c' d d' o same j b.x (suc (n + n) ∷ []) (suc (n + n) ∷ []) b.mine_at (inl (λ p. block_weighs p b.x b.is_block)) e (sym k.same ∙ e) before after weighs

    pub couple_apart : (c d c' d' : Spotted) → TheSide c c' → TheSide d d' → label_at c ≡ label_at c' → label_at d ≡ label_at d' → Less c.spot d.spot → Less d'.spot c'.spot → Weighs c.occurrence d.occurrence →
        ApartParts Apart c.occurrence d.occurrence
    couple_apart c d c' d' (inl o) (inl p) same same' before after weighs =
        level_pairs (outer_layer source s) (outer_layer other t) s t (bodies_in source s) (bodies_in other t) refl facts c d c' d' o.mine p.mine o.yours p.yours same same' before after weighs
    couple_apart c d c' d' (inl o) (inr (inl i)) same same' before after weighs =
        absurd (behind c c' d d' o same i.index i.blocks.x i.a.spot i.b.spot i.blocks.mine_at (inl (λ p. block_weighs p i.blocks.x i.blocks.is_block)) i.mine_spot i.yours_spot before after weighs)
    couple_apart c d c' d' (inl o) (inr (inr k)) same same' before after weighs = absurd (outer_kept c d c' d' o k same before after weighs)
    couple_apart c d c' d' (inr (inl i)) (inl o) same same' before after weighs =
        absurd (before_it c c' d d' o same' i.index i.blocks.x i.a.spot i.b.spot i.blocks.mine_at (inl (λ p. block_weighs p i.blocks.x i.blocks.is_block)) i.mine_spot i.yours_spot before after weighs)
    couple_apart c d c' d' (inr (inl i)) (inr (inl j)) same same' before after weighs = both_inner c d c' d' i j same same' before after weighs
    couple_apart c d c' d' (inr (inl i)) (inr (inr k)) same same' before after weighs = absurd (inner_kept c d c' d' i k same before after weighs)
    couple_apart c d c' d' (inr (inr k)) (inl o) same same' before after weighs = absurd (kept_outer c d c' d' k o same' before after weighs)
    couple_apart c d c' d' (inr (inr k)) (inr (inl i)) same same' before after weighs = absurd (kept_inner c d c' d' k i same' before after weighs)
    couple_apart c d c' d' (inr (inr k)) (inr (inr k')) same same' before after weighs =
        absurd (never_less c.spot (less_chain c.spot d.spot c.spot before (less_to d.spot c'.spot c.spot (sym k.same) (less_from d'.spot c'.spot d.spot (sym k'.same) after))))
