-- A cleaned sheet has the same winners.
use Rattle.std.proofs.Common.{◌≡◌, ◌⊎◌, ℕ, zero, suc, ◌+◌, ◌<◌, Bool, true, false, List, [], ◌∷◌, ◌++◌, append_assoc, Some, None, refl, sym, ap, ◌∙◌, subst, inl, inr, arith}
use Rattle.std.specs.Prelude.{slice_get}
use Rattle.std.specs.List.{Contains}
use Rattle.std.proofs.lemmas.Bool.{cond-false, cond_both, false_from_ne_true}
use Rattle.std.proofs.lemmas.List.Elements.{Contains-append_left, Contains-append_right}
use Rattle.cascade_laws.proofs.ForCallers.{some-same, rule-same}
use Rattle.cascade_laws.specs.Matching.{MatchingIsDecided}
use Rattle.cascade_laws.specs.Meaning.Meanings.{winner_of}
use Rattle.list_facts.proofs.Members.{Contains-filter, Contains-filtered}
use Rattle.css_model.specs.declared.sheet.Decl.{Decl}
use Rattle.css_model.specs.declared.sheet.DeclItem.{DeclItem}
use Rattle.css_model.specs.declared.sheet.Item.{Item}
use Rattle.css_model.specs.declared.sheet.Item.TheVariants.{Rule, KeptRule, KeptBlock}
use Rattle.css_model.specs.declared.sheet.SelItem.{SelItem}
use Rattle.css_model.specs.Cascade.Winner.{Declared, Understood, matching_of}
use Rattle.css_model.specs.Documents.Document.{Document, Target}
use Rattle.css_model.specs.Documents.Matching.{matches}
use Rattle.css_model.specs.Documents.SelectorParts.{SelectorParts}
use Rattle.css_model.specs.Sheets.RuleParts.{RuleParts}
use Rattle.css_model.specs.Sheets.StyleRule.{selectors_of}
use Rattle.order_laws.specs.Places.{ListedStandsLast, PlacedPair, last_pairs}
use Rattle.order_laws.proofs.ForCallers.{map_from, map_has}
use Rattle.lint_laws.specs.Cleaned.{CleaningKeepsWinners, cleaned, items_without, single_decls}
use Rattle.lint_laws.specs.Repeats.{is_repeated}
use Rattle.lint_laws.proofs.Absorbed.{Laws, later_part, they_go}
use Rattle.lint_laws.proofs.Declarations.{PassesNoneDead, all, declared_by, declared_in, declared_rule, entry, of_cleaned}
use Rattle.lint_laws.proofs.Later.{HaveLater, LaterIn, have_behind, have_later}

-- ---- What is not repeated stays

-- in a rule
in_single : (matching : List SelectorParts) (lasts : List PlacedPair) (item : ℕ) (selectors : List SelItem) (n : ℕ) (decls : List DeclItem) (k : ℕ) (d : DeclItem) (s : SelectorParts) →
    Contains matching s → slice_get decls k ≡ Some d → ((number : ℕ) → number ≡ n + k → is_repeated lasts item selectors number d.decl ≡ false) →
    Contains (declared_rule matching (single_decls lasts item selectors n decls)) (entry d.decl s)
in_single matching lasts item selectors n [] k d s has at single = absurd (let e : None ≡ Some d = at in cc)
in_single matching lasts item selectors n (x ∷ decls) zero d s has at single =
    let same : x ≡ d = some-same at in
    let rest : List DeclItem = single_decls lasts item selectors (suc n) decls in
    let once : is_repeated lasts item selectors n x.decl ≡ false = subst (λ (y : DeclItem). is_repeated lasts item selectors n y.decl ≡ false) (sym same) (single n (omega arith)) in
    subst (λ (y : DeclItem). Contains (declared_rule matching (single_decls lasts item selectors n (x ∷ decls))) (entry y.decl s)) same
    (subst (λ (ys : List DeclItem). Contains (declared_rule matching ys) (entry x.decl s)) (sym (cond-false (is_repeated lasts item selectors n x.decl) rest (x ∷ rest) once))
    (Contains-append_left (declared_by matching x.decl) (declared_rule matching rest) (entry x.decl s) (map_has (entry x.decl) matching s has)))
in_single matching lasts item selectors n (x ∷ decls) (suc k) d s has at single =
    let rest : List DeclItem = single_decls lasts item selectors (suc n) decls in
    let there : Contains (declared_rule matching rest) (entry d.decl s) = in_single matching lasts item selectors (suc n) decls k d s has at (λ number e. single number (omega (arith, e))) in
    cond_both (is_repeated lasts item selectors n x.decl) rest (x ∷ rest) (λ ys. Contains (declared_rule matching ys) (entry d.decl s)) (λ _. there)
    (λ _. Contains-append_right (declared_by matching x.decl) (declared_rule matching rest) (entry d.decl s) there)

-- in items
in_cleaned : (dead matched : SelectorParts → Bool) → PassesNoneDead dead matched → (lasts : List PlacedPair) (n : ℕ) (meanings : List (List Declared)) (items : List Item) (j k : ℕ) (rule : RuleParts) (d : DeclItem) (s : SelectorParts) →
    slice_get items j ≡ Some (Rule rule) → Contains (selectors_of rule) s → matched s ≡ true → slice_get rule.decls k ≡ Some d →
    ((number : ℕ) → number ≡ n + j → is_repeated lasts number rule.selectors k d.decl ≡ false) →
    Contains (declared_in matched meanings (items_without dead lasts n items)) (entry d.decl s)
in_cleaned dead matched quiet lasts n meanings [] j k rule d s at has m decl single = absurd (let e : None ≡ Some (Rule rule) = at in cc)
in_cleaned dead matched quiet lasts n meanings (Rule r ∷ items) zero k rule d s at has m decl single =
    let rest : List Declared = declared_in matched meanings (items_without dead lasts (suc n) items) in
    let decls : List DeclItem = single_decls lasts n rule.selectors 0 rule.decls in
    let once : is_repeated lasts n rule.selectors k d.decl ≡ false = single n (omega arith) in
    subst (λ (q : RuleParts). Contains (declared_in matched meanings (items_without dead lasts n (Rule q ∷ items))) (entry d.decl s)) (sym (rule-same (some-same at)))
    (subst (λ (ds : List Declared). Contains ds (entry d.decl s)) (sym (of_cleaned dead matched quiet lasts n meanings rule items))
    (Contains-append_left (declared_rule (matching_of matched rule) decls) rest (entry d.decl s)
    (in_single (matching_of matched rule) lasts n rule.selectors 0 rule.decls k d s (Contains-filtered matched (selectors_of rule) s has m) decl
    (λ number e. let f : k ≡ number = omega (arith, e) in subst (λ (i : ℕ). is_repeated lasts n rule.selectors i d.decl ≡ false) f once))))
in_cleaned dead matched quiet lasts n meanings (Rule r ∷ items) (suc j) k rule d s at has m decl single =
    let rest : List Declared = declared_in matched meanings (items_without dead lasts (suc n) items) in
    let there : Contains rest (entry d.decl s) = in_cleaned dead matched quiet lasts (suc n) meanings items j k rule d s at has m decl (λ number e. single number (omega (arith, e))) in
    subst (λ (ds : List Declared). Contains ds (entry d.decl s)) (sym (of_cleaned dead matched quiet lasts n meanings r items))
    (Contains-append_right (declared_rule (matching_of matched r) (single_decls lasts n r.selectors 0 r.decls)) rest (entry d.decl s) there)
in_cleaned dead matched quiet lasts n meanings (KeptRule kept ∷ items) zero k rule d s at has m decl single = absurd (let e : Some (KeptRule kept) ≡ Some (Rule rule) = at in cc)
in_cleaned dead matched quiet lasts n [] (KeptRule kept ∷ items) (suc j) k rule d s at has m decl single =
    in_cleaned dead matched quiet lasts (suc n) [] items j k rule d s at has m decl (λ number e. single number (omega (arith, e)))
in_cleaned dead matched quiet lasts n (x ∷ meanings) (KeptRule kept ∷ items) (suc j) k rule d s at has m decl single =
    Contains-append_right x (declared_in matched meanings (items_without dead lasts (suc n) items)) (entry d.decl s)
    (in_cleaned dead matched quiet lasts (suc n) meanings items j k rule d s at has m decl (λ number e. single number (omega (arith, e))))
in_cleaned dead matched quiet lasts n meanings (KeptBlock piece ∷ items) zero k rule d s at has m decl single = absurd (let e : Some (KeptBlock piece) ≡ Some (Rule rule) = at in cc)
in_cleaned dead matched quiet lasts n [] (KeptBlock piece ∷ items) (suc j) k rule d s at has m decl single =
    in_cleaned dead matched quiet lasts (suc n) [] items j k rule d s at has m decl (λ number e. single number (omega (arith, e)))
in_cleaned dead matched quiet lasts n (x ∷ meanings) (KeptBlock piece ∷ items) (suc j) k rule d s at has m decl single =
    Contains-append_right x (declared_in matched meanings (items_without dead lasts (suc n) items)) (entry d.decl s)
    (in_cleaned dead matched quiet lasts (suc n) meanings items j k rule d s at has m decl (λ number e. single number (omega (arith, e))))

-- ---- The declarations of a rule

-- behind a declaration of a rule the same one comes again, and is not repeated
record LaterHere (lasts : List PlacedPair) (item : ℕ) (selectors : List SelItem) (n : ℕ) (decls : List DeclItem) (k : ℕ) (d : Decl) : Type 0 where
  index : ℕ
  item_at : DeclItem
  later : k < index
  decl_at : slice_get decls index ≡ Some item_at
  decl_is : item_at.decl ≡ d
  single : (number : ℕ) → number ≡ n + index → is_repeated lasts item selectors number item_at.decl ≡ false

-- what each pair of a repeated declaration of a rule comes to, before other declarations
abbrev ComeAgain : List SelectorParts → List PlacedPair → (item : ℕ) → List SelItem → (n : ℕ) → List DeclItem → List Declared → Type 0
ComeAgain matching lasts item selectors n decls after = (number k : ℕ) (d : DeclItem) (s : SelectorParts) → number ≡ n + k → slice_get decls k ≡ Some d →
    is_repeated lasts item selectors number d.decl ≡ true → Contains matching s → LaterHere lasts item selectors n decls k d.decl ⊎ Contains after (entry d.decl s)

here_behind : (lasts : List PlacedPair) (item : ℕ) (selectors : List SelItem) (n : ℕ) (x : DeclItem) (decls : List DeclItem) (k : ℕ) (d : Decl) →
    LaterHere lasts item selectors n (x ∷ decls) (suc k) d → LaterHere lasts item selectors (suc n) decls k d
here_behind lasts item selectors n x decls k d w = which w.index w.later w.decl_at w.single
  where
    which : (m : ℕ) → suc k < m → slice_get (x ∷ decls) m ≡ Some w.item_at → ((number : ℕ) → number ≡ n + m → is_repeated lasts item selectors number w.item_at.decl ≡ false) → LaterHere lasts item selectors (suc n) decls k d
    which zero less at single = absurd (omega arith)
    which (suc m) less at single = record { index = m; item_at = w.item_at; later = omega arith; decl_at = at; decl_is = w.decl_is; single = λ number e. single number (omega (arith, e)) }

again_behind : (matching : List SelectorParts) (lasts : List PlacedPair) (item : ℕ) (selectors : List SelItem) (n : ℕ) (x : DeclItem) (decls : List DeclItem) (after : List Declared) →
    ComeAgain matching lasts item selectors n (x ∷ decls) after → ComeAgain matching lasts item selectors (suc n) decls after
again_behind matching lasts item selectors n x decls after h number k d s e at repeated has = which (h number (suc k) d s (omega (arith, e)) at repeated has)
  where
    which : LaterHere lasts item selectors n (x ∷ decls) (suc k) d.decl ⊎ Contains after (entry d.decl s) → LaterHere lasts item selectors (suc n) decls k d.decl ⊎ Contains after (entry d.decl s)
    which (inl w) = inl (here_behind lasts item selectors n x decls k d.decl w)
    which (inr g) = inr g

-- the first declaration of a rule, where it is repeated, comes again
comes_again : (matching : List SelectorParts) (lasts : List PlacedPair) (item : ℕ) (selectors : List SelItem) (n : ℕ) (x : DeclItem) (decls : List DeclItem) (after : List Declared) →
    ComeAgain matching lasts item selectors n (x ∷ decls) after → is_repeated lasts item selectors n x.decl ≡ true → (y : Declared) → Contains (declared_by matching x.decl) y →
    Contains (declared_rule matching (single_decls lasts item selectors (suc n) decls) ++ after) y
comes_again matching lasts item selectors n x decls after h repeated y g =
    subst (λ (z : Declared). Contains (declared_rule matching (single_decls lasts item selectors (suc n) decls) ++ after) z) from.2
    (which (h n 0 x from.0 (omega arith) refl repeated from.1))
  where
    from : (s : SelectorParts) × Contains matching s × (entry x.decl s ≡ y)
    from = map_from (entry x.decl) matching y g

    there : (w : LaterHere lasts item selectors n (x ∷ decls) 0 x.decl) (m : ℕ) → 0 < m → slice_get (x ∷ decls) m ≡ Some w.item_at →
        ((number : ℕ) → number ≡ n + m → is_repeated lasts item selectors number w.item_at.decl ≡ false) →
        Contains (declared_rule matching (single_decls lasts item selectors (suc n) decls)) (entry x.decl from.0)
    there w zero less at single = absurd (omega arith)
    there w (suc m) less at single =
        subst (λ (d : Decl). Contains (declared_rule matching (single_decls lasts item selectors (suc n) decls)) (entry d from.0)) w.decl_is
        (in_single matching lasts item selectors (suc n) decls m w.item_at from.0 from.1 at (λ number e. single number (omega (arith, e))))

    which : LaterHere lasts item selectors n (x ∷ decls) 0 x.decl ⊎ Contains after (entry x.decl from.0) → Contains (declared_rule matching (single_decls lasts item selectors (suc n) decls) ++ after) (entry x.decl from.0)
    which (inl w) = Contains-append_left (declared_rule matching (single_decls lasts item selectors (suc n) decls)) after (entry x.decl from.0) (there w w.index w.later w.decl_at w.single)
    which (inr k) = Contains-append_right (declared_rule matching (single_decls lasts item selectors (suc n) decls)) after (entry x.decl from.0) k

module _ (laws : Laws) (doc : Document) (target : Target) (us : List Understood) where
  thin_decls : (matching : List SelectorParts) (lasts : List PlacedPair) (item : ℕ) (selectors : List SelItem) (n : ℕ) (decls : List DeclItem) (before after : List Declared) →
      winner_of us before ≡ winner_of us after → ComeAgain matching lasts item selectors n decls after →
      winner_of us (declared_rule matching decls ++ before) ≡ winner_of us (declared_rule matching (single_decls lasts item selectors n decls) ++ after)
  thin_decls matching lasts item selectors n [] before after same h = same
  thin_decls matching lasts item selectors n (x ∷ decls) before after same h =
      let rest : List DeclItem = single_decls lasts item selectors (suc n) decls in
      let first : List Declared = declared_by matching x.decl in
      let ih : winner_of us (declared_rule matching decls ++ before) ≡ winner_of us (declared_rule matching rest ++ after) =
      thin_decls matching lasts item selectors (suc n) decls before after same (again_behind matching lasts item selectors n x decls after h) in
      ap (winner_of us) (append_assoc first (declared_rule matching decls) before)
      ∙ cond_both (is_repeated lasts item selectors n x.decl) rest (x ∷ rest)
      (λ ys. winner_of us (first ++ (declared_rule matching decls ++ before)) ≡ winner_of us (declared_rule matching ys ++ after))
      (λ repeated. they_go laws doc target us first (declared_rule matching decls ++ before) (declared_rule matching rest ++ after) ih
      (comes_again matching lasts item selectors n x decls after h repeated))
      (λ once. later_part laws doc target us first (declared_rule matching decls ++ before) (declared_rule matching rest ++ after) ih
      ∙ ap (winner_of us) (sym (append_assoc first (declared_rule matching rest) after)))

  -- ---- The items

  thin_items : (dead matched : SelectorParts → Bool) → PassesNoneDead dead matched → (lasts : List PlacedPair) (n : ℕ) (meanings : List (List Declared)) (items : List Item) →
      HaveLater lasts n items → winner_of us (declared_in matched meanings items) ≡ winner_of us (declared_in matched meanings (items_without dead lasts n items))
  thin_items dead matched quiet lasts n meanings [] h = refl
  thin_items dead matched quiet lasts n meanings (Rule r ∷ items) h =
      thin_decls (matching_of matched r) lasts n r.selectors 0 r.decls (declared_in matched meanings items) (declared_in matched meanings (items_without dead lasts (suc n) items))
      (thin_items dead matched quiet lasts (suc n) meanings items (have_behind lasts n (Rule r) items h)) again
      ∙ ap (winner_of us) (sym (of_cleaned dead matched quiet lasts n meanings r items))
    where
      in_or_behind : (d : DeclItem) (k : ℕ) (s : SelectorParts) → matched s ≡ true → (l : LaterIn lasts n (Rule r ∷ items) 0 k s d.decl) (m : ℕ) → slice_get (Rule r ∷ items) m ≡ Some (Rule l.rule) →
          (0 < m) ⊎ ((0 ≡ m) × (k < l.position)) → ((number : ℕ) → number ≡ n + m → is_repeated lasts number l.rule.selectors l.position l.item.decl ≡ false) →
          LaterHere lasts n r.selectors 0 r.decls k d.decl ⊎ Contains (declared_in matched meanings (items_without dead lasts (suc n) items)) (entry d.decl s)
      in_or_behind d k s m l zero at (inl less) single = absurd (omega arith)
      in_or_behind d k s m l zero at (inr same) single =
          let rules : l.rule ≡ r = sym (rule-same (some-same at)) in
          let once : is_repeated lasts n r.selectors l.position l.item.decl ≡ false = subst (λ (q : RuleParts). is_repeated lasts n q.selectors l.position l.item.decl ≡ false) rules (single n (omega arith)) in
          inl (record {
            index = l.position;
            item_at = l.item;
            later = same.1;
            decl_at = subst (λ (q : RuleParts). slice_get q.decls l.position ≡ Some l.item) rules l.decl_at;
            decl_is = l.decl_is;
            single = λ number e. let f : l.position ≡ number = omega (arith, e) in subst (λ (i : ℕ). is_repeated lasts n r.selectors i l.item.decl ≡ false) f once;
          })
      in_or_behind d k s m l (suc i) at later single =
          inr (subst (λ (x : Decl). Contains (declared_in matched meanings (items_without dead lasts (suc n) items)) (entry x s)) l.decl_is
          (in_cleaned dead matched quiet lasts (suc n) meanings items i l.position l.rule l.item s at l.selector_in m l.decl_at (λ number e. single number (omega (arith, e)))))

      again : ComeAgain (matching_of matched r) lasts n r.selectors 0 r.decls (declared_in matched meanings (items_without dead lasts (suc n) items))
      again number k d s e at repeated has =
          let f : number ≡ k = omega (arith, e) in
          let here : is_repeated lasts n r.selectors k d.decl ≡ true = subst (λ (i : ℕ). is_repeated lasts n r.selectors i d.decl ≡ true) f repeated in
          let w : Contains (selectors_of r) s × (matched s ≡ true) = Contains-filter matched (selectors_of r) s has in
          let l : LaterIn lasts n (Rule r ∷ items) 0 k s d.decl = h n 0 k r d s (omega arith) refl at here w.0 in
          in_or_behind d k s w.1 l l.index l.rule_at l.later l.single
  thin_items dead matched quiet lasts n [] (KeptRule kept ∷ items) h = thin_items dead matched quiet lasts (suc n) [] items (have_behind lasts n (KeptRule kept) items h)
  thin_items dead matched quiet lasts n (m ∷ meanings) (KeptRule kept ∷ items) h =
      later_part laws doc target us m (declared_in matched meanings items) (declared_in matched meanings (items_without dead lasts (suc n) items))
      (thin_items dead matched quiet lasts (suc n) meanings items (have_behind lasts n (KeptRule kept) items h))
  thin_items dead matched quiet lasts n [] (KeptBlock piece ∷ items) h = thin_items dead matched quiet lasts (suc n) [] items (have_behind lasts n (KeptBlock piece) items h)
  thin_items dead matched quiet lasts n (m ∷ meanings) (KeptBlock piece ∷ items) h =
      later_part laws doc target us m (declared_in matched meanings items) (declared_in matched meanings (items_without dead lasts (suc n) items))
      (thin_items dead matched quiet lasts (suc n) meanings items (have_behind lasts n (KeptBlock piece) items h))

-- the law `CleaningKeepsWinners`
pub keeps_winners : Laws → MatchingIsDecided → ListedStandsLast → CleaningKeepsWinners
keeps_winners laws decided law items dead are_dead doc target meanings us legal =
    sym (laws.means doc target items us meanings)
    ∙ ap (winner_of us) (all (matches doc target) 0 meanings items)
    ∙ thin_items laws doc target us dead (matches doc target) quiet (last_pairs items) 0 meanings items (have_later law items)
    ∙ ap (winner_of us) (sym (all (matches doc target) 0 meanings (cleaned dead items)))
    ∙ laws.means doc target (cleaned dead items) us meanings
  where
    quiet : PassesNoneDead dead (matches doc target)
    quiet s h = false_from_ne_true (matches doc target s) (λ m. are_dead s h doc target legal ((decided doc target s).0 m))
