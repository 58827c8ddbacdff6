-- Where nothing is found in any couple, those that decide in two sheets are one.
use Rattle.std.proofs.Common.{◌≡◌, ◌⊎◌, inl, inr, ℕ, zero, suc, ◌+◌, ◌<◌, ◌≤◌, Bool, true, false, List, [], ◌∷◌, ◌++◌, Option, Some, None, refl, sym, ap, ap₂, ◌∙◌, subst, arith}
use Rattle.std.specs.Prelude.{◌&&◌, nat_lt, slice_get}
use Rattle.std.specs.List.{Contains, filter, filter_map}
use Rattle.std.proofs.lemmas.Bool.{false≢true, true≢false}
use Rattle.std.proofs.lemmas.Bool.Decides.{nat_tests}
use Rattle.cascade_laws.proofs.ForCallers.{some-same, understood-listed}
use Rattle.cascade_laws.specs.Matching.{MatchingIsDecided}
use Rattle.css_model.proofs.ForCallers.{decl_decides}
use Rattle.css_model.specs.declared.sheet.Decl.{Decl}
use Rattle.css_model.specs.declared.sheet.DeclItem.{DeclItem}
use Rattle.css_model.specs.declared.sheet.Item.{Item}
use Rattle.css_model.specs.declared.sheet.Item.TheVariants.{Rule, KeptRule, KeptBlock}
use Rattle.css_model.specs.declared.sheet.SelItem.{SelItem}
use Rattle.css_model.specs.Cascade.Family.{Related}
use Rattle.css_model.specs.Cascade.Order.{Meet, Pair, WeighsKept}
use Rattle.css_model.specs.Cascade.Winner.{Declared, Understood, exceeds}
use Rattle.css_model.specs.Documents.Document.{Document, IsLegal, Target}
use Rattle.css_model.specs.Documents.Matching.{matches}
use Rattle.css_model.specs.Documents.SelectorParts.{SelectorParts}
use Rattle.css_model.specs.Documents.Specificity.{specificity_of}
use Rattle.list_facts.proofs.Members.{Contains-here, Contains-there, Contains-filter}
use Rattle.order_laws.specs.Comparing.{WeighingIsDecided, weigh, weighs_kept}
use Rattle.order_laws.specs.Keeping.{AreRelated}
use Rattle.order_laws.specs.Members.{same_decl}
use Rattle.overlap.specs.declared.answer.Answer.{Answer}
use Rattle.overlap.specs.declared.answer.Answer.TheVariants as answers
use Rattle.overlap.specs.Laws.{ApartSelectorsDoNotMeet}
use Rattle.overlap.specs.PairsParts.{PairsParts}
use Rattle.overlap.specs.Remembered.{IsAnswered, IsTrueList}
use Rattle.sheet_members.specs.Compared.{common_of, has_member}
use Rattle.sheet_members.specs.Labels.{Label}
use Rattle.sheet_members.specs.Members.{Member}
use Rattle.sheet_members.specs.Occurrences.{Kept, Paired, Part}
use Rattle.turned_members.specs.Telling.{AreJudged, IsJudged, verdict_by}
use Rattle.turned_members.specs.Turned.{Couple, couple, turned}
use Rattle.turned_members.specs.Weighing.{commons_weigh, pairs_weigh, parts_weigh}
use Rattle.diff_laws.proofs.Best.{best, best_among, level, level_one, weight}
use Rattle.diff_laws.proofs.Choice.{known}
use Rattle.diff_laws.proofs.Comparing.{HasTwin, turned_has}
use Rattle.diff_laws.proofs.Distinct.{Distinct}
use Rattle.diff_laws.proofs.Numbers.{member_gives}
use Rattle.diff_laws.proofs.Owning.{Owns, PartOwns}
use Rattle.diff_laws.proofs.Parts.{HasPart, IsLabelled, has_part, kept_gives, not_kept, pair_gives, pair_in, pair_same}

-- what is known of two lists of members
pub record AreMatched (pairs : PairsParts) (ms ns : List Member) : Type 0 where
  pub distinct : Distinct ns
  pub to : (m : Member) → Contains ms m → has_member ns m.label ≡ true
  pub from : (n : Member) → Contains ns n → has_member ms n.label ≡ true
  pub first_labelled : (m : Member) → Contains ms m → IsLabelled m
  pub second_labelled : (n : Member) → Contains ns n → IsLabelled n
  pub judged : (c : Couple) → Contains (turned (filter_map (common_of ns) ms)) c → IsJudged pairs.answers c None

-- the laws that are used
pub record Laws : Type 0 where
  pub apart : ApartSelectorsDoNotMeet
  pub matching : MatchingIsDecided
  pub weighing : WeighingIsDecided

pub slice_has : (ms : List Member) (i : ℕ) (m : Member) → slice_get ms i ≡ Some m → Contains ms m
slice_has [] i m at = absurd (let e : None ≡ Some m = at in cc)
slice_has (x ∷ ms) zero m at = subst (λ (y : Member). Contains (x ∷ ms) y) (some-same at) (Contains-here x ms)
slice_has (x ∷ ms) (suc i) m at = Contains-there x ms m (slice_has ms i m at)

says_apart : (answer : Answer) → verdict_by answer ≡ None → answer ≡ answers.Apart
says_apart answers.Apart h = refl
says_apart (answers.Meet e) h = absurd (let f = h in cc)
says_apart (answers.Outside reason number) h = absurd (let f = h in cc)
says_apart (answers.Spent ledger) h = absurd (let f = h in cc)

pub less_or_same : (i j : ℕ) → i ≤ j → (i < j) ⊎ (i ≡ j)
less_or_same i j h = which (nat_lt i j) refl
  where
    which : (b : Bool) → nat_lt i j ≡ b → (i < j) ⊎ (i ≡ j)
    which true e = inl (grind (arith, nat_tests, e))
    which false e = inr (grind (arith, nat_tests, e, h))

is_less : (i j : ℕ) → i < j → nat_lt i j ≡ true
is_less i j h = grind (arith, nat_tests, h)

both_true : (a b : Bool) → a ≡ true → b ≡ true → (a && b) ≡ true
both_true a b h g = ap₂ (λ (x y : Bool). x && y) h g

module _ (laws : Laws) (pairs : PairsParts) (true_list : ∥ IsTrueList pairs ∥₁) (doc : Document) (target : Target) (legal : IsLegal doc) (us : List Understood) (related : AreRelated us)
    (holds : List ℕ → Bool) (means : Label → List Declared) (ms ns : List Member) (known_of : AreMatched pairs ms ns) (own : (m : Member) → Contains ms m → PartOwns m.occurrence.part (means m.label)) where
  abbrev matched : SelectorParts → Bool
  matched = matches doc target

  abbrev gives : Member → List Declared
  gives m = member_gives matched holds means m.label

  abbrev choice : Member → Option Declared
  choice m = best (filter (known us) (gives m))

  given : (m : Member) (x : Declared) → choice m ≡ Some x → Contains (gives m) x × (known us x ≡ true)
  given m x is = Contains-filter (known us) (gives m) x (best_among (filter (known us) (gives m)) x is)

  names_related : (x y : Declared) → known us x ≡ true → known us y ≡ true → Related x.decl.name y.decl.name
  names_related x y h g =
      related (record { name = x.decl.name; value = x.decl.value }) (record { name = y.decl.name; value = y.decl.value })
      (understood-listed us (record { decl = x.decl; specificity = x.specificity; place = record { item = 0; position = 0 } }) h)
      (understood-listed us (record { decl = y.decl; specificity = y.specificity; place = record { item = 0; position = 0 } }) g)

  -- a first and a second member of the first sheet, which are in the second one in the other order, give these
  module _ (m n : Member) (x y : Declared) (m_in : Contains ms m) (n_in : Contains ms n) (m_gives : choice m ≡ Some x) (n_gives : choice n ≡ Some y)
      (under : exceeds (weight x) (weight y) ≡ false) (under' : exceeds (weight y) (weight x) ≡ false) (c : HasTwin ns m) (d : HasTwin ns n)
      (c_in : Contains ns c.common.yours) (d_in : Contains ns d.common.yours) where
    abbrev yours : Member
    yours = c.common.yours

    abbrev theirs : Member
    theirs = d.common.yours

    -- they weigh in the second sheet, if they do in the first one
    pairs_too : (s t : SelItem) (e f : DeclItem) → HasPart m (Paired s e) → HasPart n (Paired t f) → weigh (pair_in m s e) (pair_in n t f) ≡ true → (q r : Part) → HasPart yours q → HasPart theirs r →
        pairs_weigh q yours.occurrence.text r theirs.occurrence.text ≡ true
    pairs_too s t e f h g weighs (Paired s' e') (Paired t' f') h' g' =
        ap₂ weigh (pair_same yours m s' s e' e h' h c.same) (pair_same theirs n t' t f' f g' g d.same) ∙ weighs
    pairs_too s t e f h g weighs (Paired s' e') (Kept item) h' g' = refl
    pairs_too s t e f h g weighs (Kept item) r h' g' = refl

    kept_too : (item : Item) → HasPart m (Kept item) → (q r : Part) → HasPart yours q → HasPart theirs r → pairs_weigh q yours.occurrence.text r theirs.occurrence.text ≡ true
    kept_too item h (Paired s' e') r h' g' = absurd (not_kept yours m s' e' item h' h c.same)
    kept_too item h (Kept item') r h' g' = refl

    kept_last_too : (item : Item) → HasPart n (Kept item) → (q r : Part) → HasPart yours q → HasPart theirs r → pairs_weigh q yours.occurrence.text r theirs.occurrence.text ≡ true
    kept_last_too item g (Paired s' e') (Paired t' f') h' g' = absurd (not_kept theirs n t' f' item g' g d.same)
    kept_last_too item g (Paired s' e') (Kept item') h' g' = refl
    kept_last_too item g (Kept item') r h' g' = refl

    abbrev Turns : Type 0
    Turns = parts_weigh m.occurrence.part m.occurrence.text n.occurrence.part n.occurrence.text ≡ true →
        pairs_weigh yours.occurrence.part yours.occurrence.text theirs.occurrence.part theirs.occurrence.text ≡ true → AreJudged pairs.answers m.occurrence.part n.occurrence.part None

    yours_part : HasPart yours yours.occurrence.part
    yours_part = has_part yours (known_of.second_labelled yours c_in) yours.occurrence.part refl

    theirs_part : HasPart theirs theirs.occurrence.part
    theirs_part = has_part theirs (known_of.second_labelled theirs d_in) theirs.occurrence.part refl

    -- a kept item weighs with a pair, if it gives what competes
    weighs_own : (p : Pair) (item : Item) (k : Member) (z w : Declared) → Contains ms k → HasPart k (Kept item) → choice k ≡ Some z → known us z ≡ true → Contains (gives k) z →
        known us w ≡ true → w.decl ≡ p.decl → w.decl.important ≡ z.decl.important → weighs_kept p item ≡ true
    weighs_own p item k z w k_in h k_gives seen among seen' is importance =
        (laws.weighing.1 p item).1 (which item (kept_gives matched holds means k item z h among) (subst (λ (q : Part). PartOwns q (means k.label)) h.part (own k k_in)))
      where
        which : (i : Item) → Contains (means k.label) z → Owns i (means k.label) → WeighsKept p i
        which (Rule r) g o = absurd o
        which (KeptRule q) g o =
            let v = o z g in (
              v.0,
              v.1,
              record {
                names = subst (λ (a : List ℕ). Related p.decl.name a) (sym v.2) (subst (λ (b : Decl). Related b.name z.decl.name) is (names_related w z seen' seen));
                importance = ap (λ (b : Decl). b.important) (sym is) ∙ importance ∙ sym v.3;
              },
            )
        which (KeptBlock piece) g o = tt

    settled_parts : (q r : Part) → m.occurrence.part ≡ q → n.occurrence.part ≡ r → Turns → x ≡ y
    settled_parts (Paired s e) (Paired t f) is is' turns = which (same_decl (pair_in m s e).decl (pair_in n t f).decl) refl
      where
        h : HasPart m (Paired s e)
        h = has_part m (known_of.first_labelled m m_in) (Paired s e) is

        g : HasPart n (Paired t f)
        g = has_part n (known_of.first_labelled n n_in) (Paired t f) is'

        mine : (matched s.selector ≡ true) × (x ≡ record { decl = (pair_in m s e).decl; specificity = specificity_of s.selector })
        mine = pair_gives matched holds means m s e x h (given m x m_gives).0

        other : (matched t.selector ≡ true) × (y ≡ record { decl = (pair_in n t f).decl; specificity = specificity_of t.selector })
        other = pair_gives matched holds means n t f y g (given n y n_gives).0

        meet : Meet s.selector t.selector
        meet = record { doc = doc; target = target; legal = legal; first = (laws.matching doc target s.selector).0 mine.0; second = (laws.matching doc target t.selector).0 other.0 }

        weighs : (same_decl (pair_in m s e).decl (pair_in n t f).decl ≡ false) → weigh (pair_in m s e) (pair_in n t f) ≡ true
        weighs differ = (laws.weighing.0 (pair_in m s e) (pair_in n t f)).1 (record {
          different = λ same. true≢false (sym ((decl_decides (pair_in m s e).decl (pair_in n t f).decl).1 same) ∙ differ);
          names = subst (λ (a : Declared). Related a.decl.name (pair_in n t f).decl.name) mine.1
              (subst (λ (b : Declared). Related x.decl.name b.decl.name) other.1 (names_related x y (given m x m_gives).1 (given n y n_gives).1));
          importance = ap (λ (a : Declared). a.decl.important) (sym mine.1) ∙ (level x y under under').0 ∙ ap (λ (b : Declared). b.decl.important) other.1;
          specificity = ap (λ (a : Declared). a.specificity) (sym mine.1) ∙ (level x y under under').1 ∙ ap (λ (b : Declared). b.specificity) other.1;
        })

        which : (b : Bool) → same_decl (pair_in m s e).decl (pair_in n t f).decl ≡ b → x ≡ y
        which true same =
            level_one x y (ap (λ (a : Declared). a.decl) mine.1 ∙ (decl_decides (pair_in m s e).decl (pair_in n t f).decl).0 same ∙ ap (λ (b : Declared). b.decl) (sym other.1)) under under'
        which false differ =
            let w : weigh (pair_in m s e) (pair_in n t f) ≡ true = weighs differ in
            let first : parts_weigh m.occurrence.part m.occurrence.text n.occurrence.part n.occurrence.text ≡ true = ap₂ (λ (q r : Part). parts_weigh q m.occurrence.text r n.occurrence.text) is is' ∙ w in
            let judged : AreJudged pairs.answers (Paired s e) (Paired t f) None =
            subst (λ (q : Part). AreJudged pairs.answers q (Paired t f) None) is (subst (λ (r : Part). AreJudged pairs.answers m.occurrence.part r None) is'
            (turns first (pairs_too s t e f h g w yours.occurrence.part theirs.occurrence.part yours_part theirs_part))) in
            absurd (laws.apart pairs s.selector t.selector true_list (subst (λ (a : Answer). IsAnswered pairs.answers s.selector t.selector a) (says_apart judged.0 judged.2) judged.1) meet)
    settled_parts (Paired s e) (Kept item) is is' turns =
        let h : HasPart m (Paired s e) = has_part m (known_of.first_labelled m m_in) (Paired s e) is in
        let g : HasPart n (Kept item) = has_part n (known_of.first_labelled n n_in) (Kept item) is' in
        let mine = pair_gives matched holds means m s e x h (given m x m_gives).0 in
        let w : weighs_kept (pair_in m s e) item ≡ true =
        weighs_own (pair_in m s e) item n y x n_in g n_gives (given n y n_gives).1 (given n y n_gives).0 (given m x m_gives).1 (ap (λ (a : Declared). a.decl) mine.1) (level x y under under').0 in
        let first : parts_weigh m.occurrence.part m.occurrence.text n.occurrence.part n.occurrence.text ≡ true = ap₂ (λ (q r : Part). parts_weigh q m.occurrence.text r n.occurrence.text) is is' ∙ w in
        absurd (told_kept (subst (λ (q : Part). AreJudged pairs.answers q (Kept item) None) is (subst (λ (r : Part). AreJudged pairs.answers m.occurrence.part r None) is'
        (turns first (kept_last_too item g yours.occurrence.part theirs.occurrence.part yours_part theirs_part)))))
      where
        told_kept : AreJudged pairs.answers (Paired s e) (Kept item) None → ⊥
        told_kept j = cc
    settled_parts (Kept item) (Paired t f) is is' turns =
        let h : HasPart m (Kept item) = has_part m (known_of.first_labelled m m_in) (Kept item) is in
        let g : HasPart n (Paired t f) = has_part n (known_of.first_labelled n n_in) (Paired t f) is' in
        let other = pair_gives matched holds means n t f y g (given n y n_gives).0 in
        let w : weighs_kept (pair_in n t f) item ≡ true =
        weighs_own (pair_in n t f) item m x y m_in h m_gives (given m x m_gives).1 (given m x m_gives).0 (given n y n_gives).1 (ap (λ (a : Declared). a.decl) other.1) (sym (level x y under under').0) in
        let first : parts_weigh m.occurrence.part m.occurrence.text n.occurrence.part n.occurrence.text ≡ true = ap₂ (λ (q r : Part). parts_weigh q m.occurrence.text r n.occurrence.text) is is' ∙ w in
        absurd (told_kept (subst (λ (q : Part). AreJudged pairs.answers q (Paired t f) None) is (subst (λ (r : Part). AreJudged pairs.answers m.occurrence.part r None) is'
        (turns first (kept_too item h yours.occurrence.part theirs.occurrence.part yours_part theirs_part)))))
      where
        told_kept : AreJudged pairs.answers (Kept item) (Paired t f) None → ⊥
        told_kept j = cc
    settled_parts (Kept item) (Kept item') is is' turns =
        let h : HasPart m (Kept item) = has_part m (known_of.first_labelled m m_in) (Kept item) is in
        let first : parts_weigh m.occurrence.part m.occurrence.text n.occurrence.part n.occurrence.text ≡ true = ap₂ (λ (q r : Part). parts_weigh q m.occurrence.text r n.occurrence.text) is is' in
        absurd (told_kept (subst (λ (q : Part). AreJudged pairs.answers q (Kept item') None) is (subst (λ (r : Part). AreJudged pairs.answers m.occurrence.part r None) is'
        (turns first (kept_too item h yours.occurrence.part theirs.occurrence.part yours_part theirs_part)))))
      where
        told_kept : AreJudged pairs.answers (Kept item) (Kept item') None → ⊥
        told_kept j = cc

    -- where the first one comes before in the first sheet and after in the second one
    pub settled_couple : (k i : ℕ) → slice_get ms k ≡ Some m → slice_get ms i ≡ Some n → k < i → d.common.there < c.common.there → x ≡ y
    settled_couple k i at at' before after = settled_parts m.occurrence.part n.occurrence.part refl refl turns
      where
        turns : Turns
        turns first second =
            subst (λ (a : Member). AreJudged pairs.answers a.occurrence.part n.occurrence.part None) c.mine
            (subst (λ (b : Member). AreJudged pairs.answers c.common.mine.occurrence.part b.occurrence.part None) d.mine
            (known_of.judged (couple c.common d.common)
            (turned_has ns ms k i m n c.common d.common at at' before c.is d.is
            (both_true (nat_lt d.common.there c.common.there) (commons_weigh c.common d.common) (is_less d.common.there c.common.there after)
            (both_true (parts_weigh c.common.mine.occurrence.part c.common.mine.occurrence.text d.common.mine.occurrence.part d.common.mine.occurrence.text)
            (pairs_weigh yours.occurrence.part yours.occurrence.text theirs.occurrence.part theirs.occurrence.text)
            (subst (λ (a : Member). parts_weigh a.occurrence.part a.occurrence.text d.common.mine.occurrence.part d.common.mine.occurrence.text ≡ true) (sym c.mine)
            (subst (λ (b : Member). parts_weigh m.occurrence.part m.occurrence.text b.occurrence.part b.occurrence.text ≡ true) (sym d.mine) first))
            second)))))
