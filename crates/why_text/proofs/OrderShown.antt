-- The example of a move that is told to be blocked shows that the order of its two pairs counts.
use Rattle.std.proofs.Common.{◌≡◌, ◌≢◌, ◌⊎◌, ℕ, Bool, true, false, if◌then◌else◌, List, [], ◌∷◌, ◌++◌, Some, refl, sym, ap, ap₂, ◌∙◌, subst, inl, inr, arith}
use Rattle.std.specs.List.{Contains, filter}
use Rattle.std.specs.Option.{option_map}
use Rattle.std.proofs.Math.Logic.{∥∥₁_map}
use Rattle.std.proofs.lemmas.Bool.{cond-true, cond-false}
use Rattle.std.proofs.lemmas.Bool.Decides.{nat_tests}
use Rattle.list_facts.proofs.Members.{Contains-here, Contains-there, Contains-nil, Contains-cons_cases}
use Rattle.cascade_laws.proofs.ForCallers.{weigh_back}
use Rattle.cascade_laws.specs.Matching.{MatchingIsDecided}
use Rattle.cascade_laws.specs.Winning.{UnderstandingIsDecided}
use Rattle.css_model.specs.declared.example.Example.{Example}
use Rattle.css_model.specs.declared.selector.Specificity.{Specificity}
use Rattle.css_model.specs.declared.sheet.Decl.{Decl}
use Rattle.css_model.specs.declared.sheet.DeclItem.{DeclItem}
use Rattle.css_model.specs.declared.sheet.Item.TheVariants.{Rule}
use Rattle.css_model.specs.declared.sheet.SelItem.{SelItem}
use Rattle.css_model.specs.Cascade.Family.{Related}
use Rattle.css_model.specs.Cascade.Order.{Pair, Weigh}
use Rattle.css_model.specs.Cascade.Winner.{AppliedDeclaration, Understood, Winner, applied, applied_by_decls, matching_of, is_understood, exceeds, rank, outranks, greatest, outcome, winner}
use Rattle.css_model.specs.Documents.Document.{Document, Target}
use Rattle.css_model.specs.Documents.Matching.{matches}
use Rattle.css_model.specs.Documents.RunDocuments.{expand, target_of}
use Rattle.css_model.specs.Documents.SelectorParts.{SelectorParts}
use Rattle.css_model.specs.Documents.Specificity.{specificity_of}
use Rattle.shape_laws.specs.Document.Laws.{ShowsMeeting}
use Rattle.order_laws.specs.Keeping.{AreRelated}
use Rattle.order_laws.specs.Members.{has_number}
use Rattle.order_laws.specs.Reversed.{ListedIsReversed}
use Rattle.sheet_order.specs.declared.places.PairPlace.{PairPlace}
use Rattle.sheet_order.specs.Places.{place_of}
use Rattle.why_text.specs.Laws.{understood, won_by, ShowsOrder, BlockedMovesShowOrder}
use Rattle.why_text.specs.PairTexts.{StandAt, rule_of}
use Rattle.why_text.proofs.Blocking.{explained_blocked, IsBlockedMove}
use Rattle.why_text.proofs.Evidence.{meeting_shown}
use Rattle.why_text.proofs.Places.{selector_is, decl_is}

abbrev pub pair_with : SelectorParts → Decl → Pair
pair_with s d = record { selector = s; decl = d }

abbrev pub pair_of : SelItem → DeclItem → Pair
pair_of s d = pair_with s.selector d.decl

-- ---- Two rules that both apply

-- what the rule of this number applies
abbrev entry : ℕ → SelItem → DeclItem → AppliedDeclaration
entry n s d = record { decl = d.decl; specificity = specificity_of s.selector; place = record { item = n; position = 0 } }

one_applied : (matched : SelectorParts → Bool) (n : ℕ) (s : SelItem) (d : DeclItem) → matched s.selector ≡ true → applied_by_decls (matching_of matched (rule_of s d)) n 0 (d ∷ []) ≡ entry n s d ∷ []
one_applied matched n s d matching = ap (λ (found : List SelectorParts). applied_by_decls found n 0 (d ∷ [])) (cond-true (matched s.selector) (s.selector ∷ []) [] matching)

both_applied : (doc : Document) (target : Target) (s : SelItem) (d : DeclItem) (t : SelItem) (f : DeclItem) → matches doc target s.selector ≡ true → matches doc target t.selector ≡ true →
    applied doc target [] (Rule (rule_of s d) ∷ Rule (rule_of t f) ∷ []) ≡ entry 0 s d ∷ entry 1 t f ∷ []
both_applied doc target s d t f first second = ap₂ (λ (xs ys : List AppliedDeclaration). xs ++ (ys ++ [])) (one_applied (matches doc target) 0 s d first) (one_applied (matches doc target) 1 t f second)

both_understood : (us : List Understood) (x y : AppliedDeclaration) → is_understood us x ≡ true → is_understood us y ≡ true → filter (is_understood us) (x ∷ y ∷ []) ≡ x ∷ y ∷ []
both_understood us x y first second =
    cond-true (is_understood us x) (x ∷ filter (is_understood us) (y ∷ [])) (filter (is_understood us) (y ∷ [])) first
    ∙ ap (λ (xs : List AppliedDeclaration). x ∷ xs) (cond-true (is_understood us y) (y ∷ []) [] second)

exceeds_behind : (x : ℕ) (xs ys : List ℕ) → exceeds xs ys ≡ false → exceeds (x ∷ xs) (x ∷ ys) ≡ false
exceeds_behind x xs ys h = grind (arith, nat_tests)

-- of equal importance and specificity the first one does not outrank the second
same_rank : (b : Bool) (s : Specificity) → exceeds ((if b then 1 else 0) ∷ s.a ∷ s.b ∷ s.c ∷ 0 ∷ 0 ∷ []) ((if b then 1 else 0) ∷ s.a ∷ s.b ∷ s.c ∷ 1 ∷ 0 ∷ []) ≡ false
same_rank b s =
    exceeds_behind (if b then 1 else 0) (s.a ∷ s.b ∷ s.c ∷ 0 ∷ 0 ∷ []) (s.a ∷ s.b ∷ s.c ∷ 1 ∷ 0 ∷ [])
    (exceeds_behind s.a (s.b ∷ s.c ∷ 0 ∷ 0 ∷ []) (s.b ∷ s.c ∷ 1 ∷ 0 ∷ [])
    (exceeds_behind s.b (s.c ∷ 0 ∷ 0 ∷ []) (s.c ∷ 1 ∷ 0 ∷ [])
    (exceeds_behind s.c (0 ∷ 0 ∷ []) (1 ∷ 0 ∷ []) refl)))

not_outranked : (s : SelItem) (d : DeclItem) (t : SelItem) (f : DeclItem) → d.decl.important ≡ f.decl.important → specificity_of s.selector ≡ specificity_of t.selector → outranks (entry 0 s d) (entry 1 t f) ≡ false
not_outranked s d t f importance specificity =
    ap₂ (λ (b : Bool) (c : Specificity). exceeds ((if b then 1 else 0) ∷ c.a ∷ c.b ∷ c.c ∷ 0 ∷ 0 ∷ []) (rank (entry 1 t f))) importance specificity ∙ same_rank f.decl.important (specificity_of t.selector)

second_greatest : (x y : AppliedDeclaration) → outranks x y ≡ false → greatest (x ∷ y ∷ []) ≡ Some y
second_greatest x y h = cond-false (outranks x y) (Some x) (Some y) h

-- the second one wins
second_wins : (doc : Document) (target : Target) (s : SelItem) (d : DeclItem) (t : SelItem) (f : DeclItem) (us : List Understood) → matches doc target s.selector ≡ true → matches doc target t.selector ≡ true →
    is_understood us (entry 0 s d) ≡ true → is_understood us (entry 1 t f) ≡ true → d.decl.important ≡ f.decl.important → specificity_of s.selector ≡ specificity_of t.selector →
    winner doc target [] (Rule (rule_of s d) ∷ Rule (rule_of t f) ∷ []) us ≡ Some (won_by t f)
second_wins doc target s d t f us first second known also importance specificity =
    ap (λ (xs : List AppliedDeclaration). option_map outcome (greatest xs))
    (ap (filter (is_understood us)) (both_applied doc target s d t f first second) ∙ both_understood us (entry 0 s d) (entry 1 t f) known also)
    ∙ ap (option_map outcome) (second_greatest (entry 0 s d) (entry 1 t f) (not_outranked s d t f importance specificity))

-- ---- Two declarations that are related

abbrev both : Decl → Decl → List Understood
both d f = understood d ∷ understood f ∷ []

are_related : (d f : Decl) → Related d.name f.name → Related f.name d.name → AreRelated (both d f)
are_related d f there back u v h g = which (Contains-cons_cases (understood d) (understood f ∷ []) u h) (Contains-cons_cases (understood d) (understood f ∷ []) v g)
  where
    second : (w : Understood) → Contains (understood f ∷ []) w → understood f ≡ w
    second w c = one (Contains-cons_cases (understood f) [] w c)
      where
        one : (understood f ≡ w) ⊎ Contains [] w → understood f ≡ w
        one (inl e) = e
        one (inr none) = absurd (Contains-nil w none)

    names : (x y : Understood) → x ≡ u → y ≡ v → Related x.name y.name → Related u.name v.name
    names x y p q r = subst (λ (z : Understood). Related u.name z.name) q (subst (λ (z : Understood). Related z.name y.name) p r)

    which : (understood d ≡ u) ⊎ Contains (understood f ∷ []) u → (understood d ≡ v) ⊎ Contains (understood f ∷ []) v → Related u.name v.name
    which (inl p) (inl q) = names (understood d) (understood d) p q (inr (inr refl))
    which (inl p) (inr q) = names (understood d) (understood f) p (second v q) there
    which (inr p) (inl q) = names (understood f) (understood d) (second u p) q back
    which (inr p) (inr q) = names (understood f) (understood f) (second u p) (second v q) (inr (inr refl))

-- ---- What is shown

abbrev decl_of : Winner → Decl
decl_of w = record { name = w.name; value = w.value; important = w.important }

other_winners : (s : SelItem) (d : DeclItem) (t : SelItem) (f : DeclItem) → d.decl ≢ f.decl → won_by t f ≢ won_by s d
other_winners s d t f different same = different (sym (ap decl_of same))

module _ (matching : MatchingIsDecided) (understanding : UnderstandingIsDecided) (s : SelItem) (d : DeclItem) (t : SelItem) (f : DeclItem) where
  pub order_shown : (e : Example) → Weigh (pair_of s d) (pair_of t f) → ShowsMeeting s.selector t.selector e → ShowsOrder s d t f e
  order_shown e weigh shows =
      let doc = expand e in
      let target = target_of e in
      let us = both d.decl f.decl in
      let left : matches doc target s.selector ≡ true = (matching doc target s.selector).1 shows.left in
      let right : matches doc target t.selector ≡ true = (matching doc target t.selector).1 shows.right in
      let here : Contains us (understood d.decl) = Contains-here (understood d.decl) (understood f.decl ∷ []) in
      let there : Contains us (understood f.decl) = Contains-there (understood d.decl) (understood f.decl ∷ []) (understood f.decl) (Contains-here (understood f.decl) []) in
      let back = weigh_back (pair_of s d) (pair_of t f) weigh in
      record {
        legal = shows.legal;
        names = are_related d.decl f.decl weigh.names back.names;
        first = second_wins doc target s d t f us left right ((understanding us (entry 0 s d)).1 here) ((understanding us (entry 1 t f)).1 there) weigh.importance weigh.specificity;
        second = second_wins doc target t f s d us right left ((understanding us (entry 0 t f)).1 there) ((understanding us (entry 1 s d)).1 here) back.importance back.specificity;
        differ = other_winners s d t f weigh.different;
      }

pub blocked_moves_show_order : ListedIsReversed → MatchingIsDecided → UnderstandingIsDecided → BlockedMovesShowOrder
blocked_moves_show_order listed matching understanding items from to item pairs p q e all_true is s d t f stand stand' =
    let b : IsBlockedMove pairs.answers items p q e = explained_blocked listed pairs.answers items from to item p q e is in
    let at : StandAt items (place_of b.by.moved.place) s d = subst (λ (z : PairPlace). StandAt items z s d) (sym b.by.moved_at) stand in
    let at' : StandAt items (place_of b.by.other.place) t f = subst (λ (z : PairPlace). StandAt items z t f) (sym b.by.other_at) stand' in
    let x : b.by.moved.pair.selector ≡ s.selector = sym (selector_is (has_number b.out.out_of) items b.by.moved s d b.by.moved_stands at) in
    let y : b.by.moved.pair.decl ≡ d.decl = sym (decl_is (has_number b.out.out_of) items b.by.moved s d b.by.moved_stands at) in
    let x' : b.by.other.pair.selector ≡ t.selector = sym (selector_is (λ n. true) items b.by.other t f b.by.other_stands at') in
    let y' : b.by.other.pair.decl ≡ f.decl = sym (decl_is (λ n. true) items b.by.other t f b.by.other_stands at') in
    let first : b.by.moved.pair ≡ pair_of s d = ap₂ (λ (a : SelectorParts) (c : Decl). pair_with a c) x y in
    let second : b.by.other.pair ≡ pair_of t f = ap₂ (λ (a : SelectorParts) (c : Decl). pair_with a c) x' y' in
    let weigh : Weigh (pair_of s d) (pair_of t f) =
    subst (λ (z : Pair). Weigh z (pair_of t f)) first (subst (λ (z : Pair). Weigh b.by.moved.pair z) second b.by.reverses.weigh) in
    let shown : ∥ ShowsMeeting b.by.moved.pair.selector b.by.other.pair.selector e ∥₁ = meeting_shown pairs b.by.moved.pair.selector b.by.other.pair.selector e all_true b.by.held in
    ∥∥₁_map shown (λ h. order_shown matching understanding s d t f e weigh
    (subst (λ (z : SelectorParts). ShowsMeeting z t.selector e) x (subst (λ (z : SelectorParts). ShowsMeeting b.by.moved.pair.selector z e) x' h)))
