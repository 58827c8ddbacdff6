-- What applies, without places: joining two rules leaves it as it is.
use Rattle.std.proofs.Common.{length, arith, ◌≡◌, ℕ, suc, Bool, List, [], ◌∷◌, ◌++◌, map, refl, sym, ap, ap₂, ◌∙◌, append_assoc}
use Rattle.std.proofs.lemmas.List.{map-append}
use Rattle.std.specs.List.{filter}
use Rattle.css_model.specs.declared.sheet.Decl.{Decl}
use Rattle.css_model.specs.declared.sheet.DeclItem.{DeclItem}
use Rattle.css_model.specs.declared.sheet.Item.{Item}
use Rattle.css_model.specs.declared.sheet.Item.TheVariants.{Rule, KeptRule, KeptBlock}
use Rattle.css_model.specs.Cascade.Winner.{Declared, Place, AppliedDeclaration, outcome, applied_by_decl, applied_by_decls, applied_by_kept, matching_of, applied_from}
use Rattle.css_model.specs.Sheets.StyleRule.{StyleRule, selectors_of, style_rule}
use Rattle.css_model.specs.Cascade.Alike.{ApplyAlike, SameButPieces}
use Rattle.css_model.specs.Sheets.StyleRule.{joined}
use Rattle.css_model.specs.Documents.Matching.{matches}
use Rattle.css_model.specs.Sheets.RuleParts.{RuleParts}
use Rattle.css_model.specs.Documents.SelectorParts.{SelectorParts}
use Rattle.css_model.specs.Documents.Specificity.{specificity_of}
use Rattle.css_model.specs.Text.Lexemes.{after}
use Rattle.css_model.specs.Sheets.Items.{items}
use Rattle.css_model.specs.Text.Kept.{kept}
use Rattle.css_model.specs.Text.Names.{lower}

-- places do not show
pub one_decl : (matching : List SelectorParts) (p q : Place) (d : Decl) → map outcome (applied_by_decl matching p d) ≡ map outcome (applied_by_decl matching q d)
one_decl [] p q d = refl
one_decl (s ∷ matching) p q d = ap (λ ws. record { name = d.name; value = d.value; important = d.important; specificity = specificity_of s } ∷ ws) (one_decl matching p q d)

pub decls_anywhere : (matching : List SelectorParts) (item item' position position' : ℕ) (decls : List DeclItem) → map outcome (applied_by_decls matching item position decls) ≡ map outcome (applied_by_decls matching item' position' decls)
decls_anywhere matching item item' position position' [] = refl
decls_anywhere matching item item' position position' (d ∷ decls) =
    map-append outcome (applied_by_decl matching (record { item = item; position = position }) d.decl) (applied_by_decls matching item (suc position) decls)
    ∙ ap₂ (λ xs ys. xs ++ ys) (one_decl matching _ _ d.decl) (decls_anywhere matching item item' (suc position) (suc position') decls)
    ∙ sym (map-append outcome (applied_by_decl matching (record { item = item'; position = position' }) d.decl) (applied_by_decls matching item' (suc position') decls))

pub kept_anywhere : (item item' position position' : ℕ) (meaning : List Declared) → map outcome (applied_by_kept item position meaning) ≡ map outcome (applied_by_kept item' position' meaning)
kept_anywhere item item' position position' [] = refl
kept_anywhere item item' position position' (m ∷ meaning) = ap (λ ws. record { name = m.decl.name; value = m.decl.value; important = m.decl.important; specificity = m.specificity } ∷ ws) (kept_anywhere item item' (suc position) (suc position') meaning)

-- the items' numbers do not show either
pub applied_anywhere : (matched : SelectorParts → Bool) (n m : ℕ) (meanings : List (List Declared)) (items : List Item) → map outcome (applied_from matched n meanings items) ≡ map outcome (applied_from matched m meanings items)
applied_anywhere matched n m meanings [] = refl
applied_anywhere matched n m meanings (Rule rule ∷ items) =
    map-append outcome (applied_by_decls (matching_of matched rule) n 0 rule.decls) (applied_from matched (suc n) meanings items)
    ∙ ap₂ (λ xs ys. xs ++ ys) (decls_anywhere (matching_of matched rule) n m 0 0 rule.decls) (applied_anywhere matched (suc n) (suc m) meanings items)
    ∙ sym (map-append outcome (applied_by_decls (matching_of matched rule) m 0 rule.decls) (applied_from matched (suc m) meanings items))
applied_anywhere matched n m [] (KeptRule kept ∷ items) = applied_anywhere matched (suc n) (suc m) [] items
applied_anywhere matched n m (e ∷ meanings) (KeptRule kept ∷ items) =
    map-append outcome (applied_by_kept n 0 e) (applied_from matched (suc n) meanings items)
    ∙ ap₂ (λ xs ys. xs ++ ys) (kept_anywhere n m 0 0 e) (applied_anywhere matched (suc n) (suc m) meanings items)
    ∙ sym (map-append outcome (applied_by_kept m 0 e) (applied_from matched (suc m) meanings items))
applied_anywhere matched n m [] (KeptBlock piece ∷ items) = applied_anywhere matched (suc n) (suc m) [] items
applied_anywhere matched n m (e ∷ meanings) (KeptBlock piece ∷ items) =
    map-append outcome (applied_by_kept n 0 e) (applied_from matched (suc n) meanings items)
    ∙ ap₂ (λ xs ys. xs ++ ys) (kept_anywhere n m 0 0 e) (applied_anywhere matched (suc n) (suc m) meanings items)
    ∙ sym (map-append outcome (applied_by_kept m 0 e) (applied_from matched (suc m) meanings items))

-- the law `AlikeBehindAnItem`
pub behind_an_item : (item : Item) (items items' : List Item) → ApplyAlike items items' → ApplyAlike (item ∷ items) (item ∷ items')
behind_an_item (Rule rule) items items' alike doc target meanings =
    let matched : SelectorParts → Bool = matches doc target in
    let xs : List AppliedDeclaration = applied_by_decls (matching_of matched rule) 0 0 rule.decls in
    map-append outcome xs (applied_from matched 1 meanings items)
    ∙ ap (λ vs. map outcome xs ++ vs) (applied_anywhere matched 1 0 meanings items ∙ alike doc target meanings ∙ applied_anywhere matched 0 1 meanings items')
    ∙ sym (map-append outcome xs (applied_from matched 1 meanings items'))
behind_an_item (KeptRule kept) items items' alike doc target [] =
    applied_anywhere (matches doc target) 1 0 [] items ∙ alike doc target [] ∙ applied_anywhere (matches doc target) 0 1 [] items'
behind_an_item (KeptRule kept) items items' alike doc target (m ∷ meanings) =
    let matched : SelectorParts → Bool = matches doc target in
    map-append outcome (applied_by_kept 0 0 m) (applied_from matched 1 meanings items)
    ∙ ap (λ vs. map outcome (applied_by_kept 0 0 m) ++ vs) (applied_anywhere matched 1 0 meanings items ∙ alike doc target meanings ∙ applied_anywhere matched 0 1 meanings items')
    ∙ sym (map-append outcome (applied_by_kept 0 0 m) (applied_from matched 1 meanings items'))
behind_an_item (KeptBlock piece) items items' alike doc target [] =
    applied_anywhere (matches doc target) 1 0 [] items ∙ alike doc target [] ∙ applied_anywhere (matches doc target) 0 1 [] items'
behind_an_item (KeptBlock piece) items items' alike doc target (m ∷ meanings) =
    let matched : SelectorParts → Bool = matches doc target in
    map-append outcome (applied_by_kept 0 0 m) (applied_from matched 1 meanings items)
    ∙ ap (λ vs. map outcome (applied_by_kept 0 0 m) ++ vs) (applied_anywhere matched 1 0 meanings items ∙ alike doc target meanings ∙ applied_anywhere matched 0 1 meanings items')
    ∙ sym (map-append outcome (applied_by_kept 0 0 m) (applied_from matched 1 meanings items'))

-- the declarations of two rules one after the other
pub decls_append : (matching : List SelectorParts) (item position lower_item lower_position : ℕ) (upper lower : List DeclItem) →
    map outcome (applied_by_decls matching item position (upper ++ lower)) ≡ map outcome (applied_by_decls matching item position upper) ++ map outcome (applied_by_decls matching lower_item lower_position lower)
decls_append matching item position lower_item lower_position [] lower = decls_anywhere matching item lower_item position lower_position lower
decls_append matching item position lower_item lower_position (d ∷ upper) lower =
    let one : List AppliedDeclaration = applied_by_decl matching (record { item = item; position = position }) d.decl in
    map-append outcome one (applied_by_decls matching item (suc position) (upper ++ lower))
    ∙ ap (λ ws. map outcome one ++ ws) (decls_append matching item (suc position) lower_item lower_position upper lower)
    ∙ sym (append_assoc (map outcome one) (map outcome (applied_by_decls matching item (suc position) upper)) (map outcome (applied_by_decls matching lower_item lower_position lower)))
    ∙ ap (λ ws. ws ++ map outcome (applied_by_decls matching lower_item lower_position lower)) (sym (map-append outcome one (applied_by_decls matching item (suc position) upper)))

-- two rules at the head of a list
pub joining_first : (after : List Item) (upper lower : RuleParts) → selectors_of upper ≡ selectors_of lower → ApplyAlike (Rule upper ∷ Rule lower ∷ after) (Rule (joined upper lower) ∷ after)
joining_first after upper lower same doc target meanings =
    let matched : SelectorParts → Bool = matches doc target in
    let chosen : List SelectorParts = matching_of matched upper in
    let us : List AppliedDeclaration = applied_by_decls chosen 0 0 upper.decls in
    let ls : List AppliedDeclaration = applied_by_decls (matching_of matched lower) 1 0 lower.decls in
    let rest : List AppliedDeclaration = applied_from matched 2 meanings after in
    let both : List AppliedDeclaration = applied_by_decls chosen 0 0 (upper.decls ++ lower.decls) in
    map-append outcome us (ls ++ rest)
    ∙ ap (λ ws. map outcome us ++ ws) (map-append outcome ls rest)
    ∙ sym (append_assoc (map outcome us) (map outcome ls) (map outcome rest))
    ∙ ap (λ ws. (map outcome us ++ ws) ++ map outcome rest) (ap (λ ss. map outcome (applied_by_decls (filter matched ss) 1 0 lower.decls)) (sym same))
    ∙ ap (λ ws. ws ++ map outcome rest) (sym (decls_append chosen 0 0 1 0 upper.decls lower.decls))
    ∙ ap (λ ws. map outcome both ++ ws) (applied_anywhere matched 2 1 meanings after)
    ∙ sym (map-append outcome both (applied_from matched 1 meanings after))

-- the law `JoiningAppliesAlike`
pub joining_anywhere : (before after : List Item) (upper lower : RuleParts) → selectors_of upper ≡ selectors_of lower → ApplyAlike (before ++ Rule upper ∷ Rule lower ∷ after) (before ++ Rule (joined upper lower) ∷ after)
joining_anywhere [] after upper lower same = joining_first after upper lower same
joining_anywhere (item ∷ before) after upper lower same = behind_an_item item (before ++ Rule upper ∷ Rule lower ∷ after) (before ++ Rule (joined upper lower) ∷ after) (joining_anywhere before after upper lower same)

-- what equal lists begin and go on with
head-same : {x y : Decl} {xs ys : List Decl} → x ∷ xs ≡ y ∷ ys → x ≡ y
head-same h = cc

tail-same : {x y : Decl} {xs ys : List Decl} → x ∷ xs ≡ y ∷ ys → xs ≡ ys
tail-same h = cc

-- a rule's declarations, from the declarations without their pieces
decls-of : (matching : List SelectorParts) (item position : ℕ) (decls decls' : List DeclItem) → map (λ d. d.decl) decls ≡ map (λ d. d.decl) decls' → applied_by_decls matching item position decls ≡ applied_by_decls matching item position decls'
decls-of matching item position [] [] h = refl
decls-of matching item position [] (d ∷ decls) h = absurd (let e : 0 ≡ length (map (λ (x : DeclItem). x.decl) (d ∷ decls)) = ap length h in omega arith)
decls-of matching item position (d ∷ decls) [] h = absurd (let e : length (map (λ (x : DeclItem). x.decl) (d ∷ decls)) ≡ 0 = ap length h in omega arith)
decls-of matching item position (d ∷ decls) (d' ∷ decls') h =
    ap₂ (λ (x : Decl) (es : List AppliedDeclaration). applied_by_decl matching (record { item = item; position = position }) x ++ es)
    (head-same h) (decls-of matching item (suc position) decls decls' (tail-same h))

one_rule : (matched : SelectorParts → Bool) (n : ℕ) (r r' : RuleParts) → style_rule r ≡ style_rule r' → applied_by_decls (matching_of matched r) n 0 r.decls ≡ applied_by_decls (matching_of matched r') n 0 r'.decls
one_rule matched n r r' same =
    ap (λ ss. applied_by_decls (filter matched ss) n 0 r.decls) (ap (λ (s : StyleRule). s.selectors) same)
    ∙ decls-of (matching_of matched r') n 0 r.decls r'.decls (ap (λ (s : StyleRule). s.decls) same)

same_pieces : (matched : SelectorParts → Bool) (n : ℕ) (meanings : List (List Declared)) (items items' : List Item) → SameButPieces items items' → applied_from matched n meanings items ≡ applied_from matched n meanings items'
same_pieces matched n meanings [] [] h = refl
same_pieces matched n meanings (Rule r ∷ items) (Rule r' ∷ items') h =
    ap₂ (λ (xs ys : List AppliedDeclaration). xs ++ ys) (one_rule matched n r r' h.0) (same_pieces matched (suc n) meanings items items' h.1)
same_pieces matched n [] (KeptRule k ∷ items) (KeptRule k' ∷ items') h = same_pieces matched (suc n) [] items items' h
same_pieces matched n (m ∷ meanings) (KeptRule k ∷ items) (KeptRule k' ∷ items') h = ap (λ (es : List AppliedDeclaration). applied_by_kept n 0 m ++ es) (same_pieces matched (suc n) meanings items items' h)
same_pieces matched n [] (KeptBlock p ∷ items) (KeptBlock p' ∷ items') h = same_pieces matched (suc n) [] items items' h
same_pieces matched n (m ∷ meanings) (KeptBlock p ∷ items) (KeptBlock p' ∷ items') h = ap (λ (es : List AppliedDeclaration). applied_by_kept n 0 m ++ es) (same_pieces matched (suc n) meanings items items' h)
same_pieces matched n meanings [] (i ∷ items') h = absurd h
same_pieces matched n meanings (Rule r ∷ items) [] h = absurd h
same_pieces matched n meanings (Rule r ∷ items) (KeptRule k ∷ items') h = absurd h
same_pieces matched n meanings (Rule r ∷ items) (KeptBlock p ∷ items') h = absurd h
same_pieces matched n meanings (KeptRule k ∷ items) [] h = absurd h
same_pieces matched n meanings (KeptRule k ∷ items) (Rule r ∷ items') h = absurd h
same_pieces matched n meanings (KeptRule k ∷ items) (KeptBlock p ∷ items') h = absurd h
same_pieces matched n meanings (KeptBlock p ∷ items) [] h = absurd h
same_pieces matched n meanings (KeptBlock p ∷ items) (Rule r ∷ items') h = absurd h
same_pieces matched n meanings (KeptBlock p ∷ items) (KeptRule k ∷ items') h = absurd h

-- the law `PiecesDoNotCount`
pub pieces_alike : (items items' : List Item) → SameButPieces items items' → ApplyAlike items items'
pieces_alike items items' h doc target meanings = ap (map outcome) (same_pieces (matches doc target) 0 meanings items items' h)
