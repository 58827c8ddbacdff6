-- What a cut takes away of a rule weighs.
use Rattle.std.proofs.Common.{◌≡◌, ℕ, zero, suc, ◌+◌, ◌≤◌, ◌<◌, ◌==◌, true, false, List, [], ◌∷◌, Some, None, length, refl, sym, ap, ap₂, subst, ◌∙◌, arith}
use Rattle.std.specs.List.{AllByRecursion, remove}
use Rattle.std.specs.Prelude.{slice_get}
use Rattle.std.proofs.lemmas.Bool.{false≢true}
use Rattle.std.proofs.lemmas.Bool.Decides.{Decides-eqb}
use Rattle.css_model.specs.declared.sheet.DeclItem.{DeclItem}
use Rattle.css_model.specs.declared.sheet.Item.{Item}
use Rattle.css_model.specs.declared.sheet.Item.TheVariants.{Rule}
use Rattle.css_model.specs.declared.sheet.SelItem.{SelItem}
use Rattle.css_model.specs.Sheets.Printed.{printed_selector, printed_declaration}
use Rattle.css_model.specs.Sheets.RuleParts.{RuleParts}
use Rattle.css_model.specs.Sheets.Sound.{IsSoundDeclaration, IsSoundSelector}
use Rattle.step_laws.specs.RuleParting.{item_if_any, rule_or_none}
use Rattle.step_laws.specs.Sizes.{weight, rule_weight, rules_weight}

-- ---- One part of a list

all_at : {A : Type 0} (P : A → Type 0) (xs : List A) (n : ℕ) (x : A) → slice_get xs n ≡ Some x → AllByRecursion P xs → P x
all_at P [] zero x at all = absurd (let e : None ≡ Some x = at in cc)
all_at P [] (suc n) x at all = absurd (let e : None ≡ Some x = at in cc)
all_at P (y ∷ xs) zero x at (first, all) = let e : Some y ≡ Some x = at in let same : y ≡ x = cc in subst P same first
all_at P (y ∷ xs) (suc n) x at (first, all) = all_at P xs n x at all

pub selector_is_sound : (source : List ℕ) (xs : List SelItem) (n : ℕ) (x : SelItem) → slice_get xs n ≡ Some x → AllByRecursion (IsSoundSelector source) xs → IsSoundSelector source x
selector_is_sound source = all_at (IsSoundSelector source)

pub decl_is_sound : (source : List ℕ) (xs : List DeclItem) (n : ℕ) (x : DeclItem) → slice_get xs n ≡ Some x → AllByRecursion (IsSoundDeclaration source) xs → IsSoundDeclaration source x
decl_is_sound source = all_at (IsSoundDeclaration source)

pub part_weighs : {A : Type 0} (text : A → List ℕ) (xs : List A) (n : ℕ) (x : A) → slice_get xs n ≡ Some x → length (text x) + 1 + weight text (remove xs n) ≡ weight text xs
part_weighs text [] zero x at = absurd (let e : None ≡ Some x = at in cc)
part_weighs text [] (suc n) x at = absurd (let e : None ≡ Some x = at in cc)
part_weighs text (y ∷ xs) zero x at = let e : Some y ≡ Some x = at in let same : y ≡ x = cc in ap (λ z. length (text z) + 1 + weight text xs) (sym same)
part_weighs text (y ∷ xs) (suc n) x at =
    let ih : length (text x) + 1 + weight text (remove xs n) ≡ weight text xs = part_weighs text xs n x at in
    let e : length (text x) + 1 + (length (text y) + 1 + weight text (remove xs n)) ≡ length (text y) + 1 + weight text xs = omega (arith, ih) in e

-- ---- What is left of a rule

removed_last : {A : Type 0} (xs : List A) (n : ℕ) → n < length xs → length xs < 2 → remove xs n ≡ []
removed_last [] n there few = absurd (omega (arith, there))
removed_last (x ∷ []) zero there few = refl
removed_last (x ∷ []) (suc n) there few = absurd (let h : suc n < 1 = there in omega (arith, h))
removed_last (x ∷ y ∷ xs) n there few = absurd (let h : suc (suc (length xs)) < 2 = few in omega (arith, h))

removed_one : {A : Type 0} (xs : List A) (n : ℕ) → 2 ≤ length xs → (y : A) × (ys : List A) × (remove xs n ≡ y ∷ ys)
removed_one [] n many = absurd (let h : 2 ≤ 0 = many in omega (arith, h))
removed_one (x ∷ []) n many = absurd (let h : 2 ≤ 1 = many in omega (arith, h))
removed_one (x ∷ y ∷ xs) zero many = (y, xs, refl)
removed_one (x ∷ y ∷ xs) (suc n) many = (x, remove (y ∷ xs) n, refl)

is_some : {A : Type 0} (xs : List A) → false ≡ (length xs == 0) → (y : A) × (ys : List A) × (xs ≡ y ∷ ys)
is_some [] h = absurd (false≢true h)
is_some (x ∷ xs) h = (x, xs, refl)

none_without : (ss : List SelItem) (r : RuleParts) → item_if_any ss [] r ≡ []
none_without [] r = refl
none_without (s ∷ ss) r = refl

both_are_left : (ss : List SelItem) (ds : List DeclItem) (r : RuleParts) → (s : SelItem) × (xs : List SelItem) × (ss ≡ s ∷ xs) → (d : DeclItem) × (ys : List DeclItem) × (ds ≡ d ∷ ys) →
    item_if_any ss ds r ≡ Rule r ∷ []
both_are_left ss ds r (s, xs, e) (d, ys, f) = ap₂ (λ (x : List SelItem) (y : List DeclItem). item_if_any x y r) e f

pub last_decl_leaves_none : (ss : List SelItem) (ds : List DeclItem) (i : ℕ) → i < length ds → length ds < 2 → rule_or_none (record { selectors = ss; decls = remove ds i }) ≡ []
last_decl_leaves_none ss ds i there few =
    ap (λ (xs : List DeclItem). item_if_any ss xs (record { selectors = ss; decls = remove ds i })) (removed_last ds i there few) ∙ none_without ss (record { selectors = ss; decls = remove ds i })

pub decl_leaves_rule : (ss : List SelItem) (ds : List DeclItem) (i : ℕ) → false ≡ (length ss == 0) → 2 ≤ length ds →
    rule_or_none (record { selectors = ss; decls = remove ds i }) ≡ Rule (record { selectors = ss; decls = remove ds i }) ∷ []
decl_leaves_rule ss ds i some many = both_are_left ss (remove ds i) (record { selectors = ss; decls = remove ds i }) (is_some ss some) (removed_one ds i many)

pub last_selector_leaves_none : (ss : List SelItem) (ds : List DeclItem) (i : ℕ) → i < length ss → length ss < 2 → rule_or_none (record { selectors = remove ss i; decls = ds }) ≡ []
last_selector_leaves_none ss ds i there few = ap (λ (xs : List SelItem). item_if_any xs ds (record { selectors = remove ss i; decls = ds })) (removed_last ss i there few)

pub selector_leaves_rule : (ss : List SelItem) (ds : List DeclItem) (i : ℕ) → false ≡ (length ds == 0) → 2 ≤ length ss →
    rule_or_none (record { selectors = remove ss i; decls = ds }) ≡ Rule (record { selectors = remove ss i; decls = ds }) ∷ []
selector_leaves_rule ss ds i some many = both_are_left (remove ss i) ds (record { selectors = remove ss i; decls = ds }) (removed_one ss i many) (is_some ds some)

not_empty : {A : Type 0} (xs : List A) → true ≡ (suc (length xs) == 0) → ⊥
not_empty xs h = let e : suc (length xs) ≡ 0 = (Decides-eqb (suc (length xs)) 0).0 (sym h) in omega (arith, e)

pub no_selectors_leave_none : (ss : List SelItem) (ds : List DeclItem) → true ≡ (length ss == 0) → rule_or_none (record { selectors = ss; decls = ds }) ≡ []
no_selectors_leave_none [] ds h = refl
no_selectors_leave_none (s ∷ ss) ds h = absurd (not_empty ss h)

pub no_decls_leave_none : (ss : List SelItem) (ds : List DeclItem) → true ≡ (length ds == 0) → rule_or_none (record { selectors = ss; decls = ds }) ≡ []
no_decls_leave_none ss [] h = none_without ss (record { selectors = ss; decls = [] })
no_decls_leave_none ss (d ∷ ds) h = absurd (not_empty ds h)

-- ---- Their weights

pub none_weighs : (source : List ℕ) (items : List Item) (n w : ℕ) → items ≡ [] → n ≡ w → n + rules_weight source items ≡ w
none_weighs source items n w none e = let nothing : rules_weight source items ≡ 0 = ap (rules_weight source) none in omega (arith, nothing, e)

pub decl_cut_weighs : (source : List ℕ) (items : List Item) (ss : List SelItem) (ds : List DeclItem) (i n : ℕ) → items ≡ Rule (record { selectors = ss; decls = remove ds i }) ∷ [] →
    n + weight (printed_declaration source) (remove ds i) ≡ weight (printed_declaration source) ds → n + rules_weight source items ≡ rule_weight source (record { selectors = ss; decls = ds })
decl_cut_weighs source items ss ds i n left e =
    let rest : rules_weight source items ≡ weight (printed_selector source) ss + weight (printed_declaration source) (remove ds i) + 0 = ap (rules_weight source) left in
    let f : n + rules_weight source items ≡ weight (printed_selector source) ss + weight (printed_declaration source) ds = omega (arith, rest, e) in f

pub selector_cut_weighs : (source : List ℕ) (items : List Item) (ss : List SelItem) (ds : List DeclItem) (i n : ℕ) → items ≡ Rule (record { selectors = remove ss i; decls = ds }) ∷ [] →
    n + weight (printed_selector source) (remove ss i) ≡ weight (printed_selector source) ss → n + rules_weight source items ≡ rule_weight source (record { selectors = ss; decls = ds })
selector_cut_weighs source items ss ds i n left e =
    let rest : rules_weight source items ≡ weight (printed_selector source) (remove ss i) + weight (printed_declaration source) ds + 0 = ap (rules_weight source) left in
    let f : n + rules_weight source items ≡ weight (printed_selector source) ss + weight (printed_declaration source) ds = omega (arith, rest, e) in f
