-- What applies is listed in the order of places. So the winner depends on that order alone.
use Rattle.std.proofs.Common.{◌≡◌, ◌⊎◌, ℕ, suc, ◌<◌, ◌≤◌, Bool, true, false, cond, List, [], ◌∷◌, ◌++◌, map, Option, Some, None, length, get_or, refl, sym, ap, ap₂, ◌∙◌, subst, inl, inr, arith}
use Rattle.std.specs.Prelude.{if◌then◌else◌}
use Rattle.std.specs.Option.{MatchOption, option_map}
use Rattle.std.specs.List.{AllByRecursion, Contains, filter}
use Rattle.std.proofs.lemmas.Bool.{cond_both}
use Rattle.std.proofs.lemmas.Bool.Decides.{nat_tests}
use Rattle.std.proofs.lemmas.List.Elements.{All-from_recursion, All-contains}
use Rattle.cascade_laws.proofs.Greatest.{IsTop, greatest-top}
use Rattle.list_facts.proofs.Members.{Contains-nil, Contains-cons_cases, Contains-filtered, All-on_filter}
use Rattle.cascade_laws.proofs.Ranking.{exceeds-neither}
use Rattle.css_model.specs.declared.selector.Specificity.{Specificity}
use Rattle.css_model.specs.declared.sheet.Decl.{Decl}
use Rattle.css_model.specs.declared.sheet.DeclItem.{DeclItem}
use Rattle.css_model.specs.declared.sheet.Item.{Item}
use Rattle.css_model.specs.declared.sheet.Item.TheVariants.{Rule, KeptRule, KeptBlock}
use Rattle.css_model.specs.Cascade.Winner.{Declared, AppliedDeclaration, applied_by_decl, applied_by_decls, applied_by_kept, matching_of, applied_from, applied, exceeds, rank, outranks, greater, greatest, Understood, is_understood, Winner, outcome}
use Rattle.cascade_laws.specs.Winning.{IsGreatest}
use Rattle.css_model.specs.Cascade.Alike.{ApplyAlike, WinAlike}
use Rattle.css_model.specs.Documents.Matching.{matches}
use Rattle.css_model.specs.Documents.SelectorParts.{SelectorParts}
use Rattle.css_model.specs.Documents.Specificity.{specificity_of}
use Rattle.css_model.specs.Sheets.Items.{items}

-- e stands before f, or they stand in one place and are of one declaration
abbrev pub Before : AppliedDeclaration → AppliedDeclaration → Type 0
Before e f = (e.place.item < f.place.item) ⊎ ((e.place.item ≡ f.place.item) × (e.place.position < f.place.position)) ⊎ ((e.place.item ≡ f.place.item) × (e.place.position ≡ f.place.position) × (e.decl ≡ f.decl))

abbrev pub InOrder : List AppliedDeclaration → Type 0
InOrder [] = Unit {0}
InOrder (e ∷ es) = AllByRecursion (Before e) es × InOrder es

-- two lists one after the other
All-joined : (P : AppliedDeclaration → Type 0) (xs ys : List AppliedDeclaration) → AllByRecursion P xs → AllByRecursion P ys → AllByRecursion P (xs ++ ys)
All-joined P [] ys h g = g
All-joined P (x ∷ xs) ys h g = (h.0, All-joined P xs ys h.1 g)

All-implied : (P Q : AppliedDeclaration → Type 0) → ((e : AppliedDeclaration) → P e → Q e) → (xs : List AppliedDeclaration) → AllByRecursion P xs → AllByRecursion Q xs
All-implied P Q f [] h = tt
All-implied P Q f (x ∷ xs) h = (f x h.0, All-implied P Q f xs h.1)

InOrder-joined : (P Q : AppliedDeclaration → Type 0) → ((e f : AppliedDeclaration) → P e → Q f → Before e f) → (xs ys : List AppliedDeclaration) → InOrder xs → InOrder ys → AllByRecursion P xs → AllByRecursion Q ys → InOrder (xs ++ ys)
InOrder-joined P Q before [] ys h g p q = g
InOrder-joined P Q before (x ∷ xs) ys h g p q = (All-joined (Before x) xs ys h.0 (All-implied Q (Before x) (λ f. before x f p.0) ys q), InOrder-joined P Q before xs ys h.1 g p.1 q)

-- the places of entries
IsAt : ℕ → ℕ → Decl → AppliedDeclaration → Type 0
IsAt item position d e = (e.place.item ≡ item) × (e.place.position ≡ position) × (e.decl ≡ d)

abbrev IsFrom : ℕ → ℕ → AppliedDeclaration → Type 0
IsFrom item position e = (e.place.item ≡ item) × (position ≤ e.place.position)

abbrev IsItemFrom : ℕ → AppliedDeclaration → Type 0
IsItemFrom item e = item ≤ e.place.item

decl-at : (matching : List SelectorParts) (item position : ℕ) (d : Decl) → AllByRecursion (IsAt item position d) (applied_by_decl matching (record { item = item; position = position }) d)
unfolding IsAt
decl-at [] item position d = tt
decl-at (s ∷ matching) item position d = ((refl, refl, refl), decl-at matching item position d)

at-before : (item position : ℕ) (d : Decl) (e f : AppliedDeclaration) → (e.place.item ≡ item) → (e.place.position ≡ position) → (e.decl ≡ d) → IsAt item position d f → Before e f
unfolding IsAt
at-before item position d e f i p q at = inr (inr (i ∙ sym at.0, p ∙ sym at.1, q ∙ sym at.2))

pub decl-in_order : (matching : List SelectorParts) (item position : ℕ) (d : Decl) → InOrder (applied_by_decl matching (record { item = item; position = position }) d)
decl-in_order [] item position d = tt
decl-in_order (s ∷ matching) item position d =
    let e : AppliedDeclaration = record { decl = d; specificity = specificity_of s; place = record { item = item; position = position } } in
    (All-implied (IsAt item position d) (Before e) (λ f. at-before item position d e f refl refl refl) (applied_by_decl matching e.place d) (decl-at matching item position d), decl-in_order matching item position d)

at-from : (item position : ℕ) (d : Decl) (e : AppliedDeclaration) → IsAt item position d e → IsFrom item position e
unfolding IsAt
at-from item position d e at = (at.0, omega arith)

at-before-from : (item position : ℕ) (d : Decl) (e f : AppliedDeclaration) → IsAt item position d e → IsFrom item (suc position) f → Before e f
unfolding IsAt
at-before-from item position d e f at from = inr (inl (at.0 ∙ sym from.0, omega arith))

decls-from : (matching : List SelectorParts) (item position : ℕ) (decls : List DeclItem) → AllByRecursion (IsFrom item position) (applied_by_decls matching item position decls)
decls-from matching item position [] = tt
decls-from matching item position (d ∷ decls) =
    All-joined (IsFrom item position) (applied_by_decl matching (record { item = item; position = position }) d.decl) (applied_by_decls matching item (suc position) decls)
    (All-implied (IsAt item position d.decl) (IsFrom item position) (at-from item position d.decl) (applied_by_decl matching (record { item = item; position = position }) d.decl) (decl-at matching item position d.decl))
    (All-implied (IsFrom item (suc position)) (IsFrom item position) (λ e from. (from.0, omega arith)) (applied_by_decls matching item (suc position) decls) (decls-from matching item (suc position) decls))

decls-in_order : (matching : List SelectorParts) (item position : ℕ) (decls : List DeclItem) → InOrder (applied_by_decls matching item position decls)
decls-in_order matching item position [] = tt
decls-in_order matching item position (d ∷ decls) =
    InOrder-joined (IsAt item position d.decl) (IsFrom item (suc position)) (at-before-from item position d.decl)
    (applied_by_decl matching (record { item = item; position = position }) d.decl) (applied_by_decls matching item (suc position) decls)
    (decl-in_order matching item position d.decl) (decls-in_order matching item (suc position) decls)
    (decl-at matching item position d.decl) (decls-from matching item (suc position) decls)

kept-from : (item position : ℕ) (meaning : List Declared) → AllByRecursion (IsFrom item position) (applied_by_kept item position meaning)
kept-from item position [] = tt
kept-from item position (m ∷ meaning) =
    ((refl, omega arith), All-implied (IsFrom item (suc position)) (IsFrom item position) (λ e from. (from.0, omega arith)) (applied_by_kept item (suc position) meaning) (kept-from item (suc position) meaning))

kept-in_order : (item position : ℕ) (meaning : List Declared) → InOrder (applied_by_kept item position meaning)
kept-in_order item position [] = tt
kept-in_order item position (m ∷ meaning) =
    let first : AppliedDeclaration = record { decl = m.decl; specificity = m.specificity; place = record { item = item; position = position } } in
    (All-implied (IsFrom item (suc position)) (Before first) (λ e from. inr (inl (sym from.0, omega arith))) (applied_by_kept item (suc position) meaning) (kept-from item (suc position) meaning), kept-in_order item (suc position) meaning)

from-item : (item : ℕ) (xs : List AppliedDeclaration) → AllByRecursion (IsFrom item 0) xs → AllByRecursion (IsItemFrom item) xs
from-item item xs h = All-implied (IsFrom item 0) (IsItemFrom item) (λ e from. omega arith) xs h

later-item : (item : ℕ) (xs : List AppliedDeclaration) → AllByRecursion (IsItemFrom (suc item)) xs → AllByRecursion (IsItemFrom item) xs
later-item item xs h = All-implied (IsItemFrom (suc item)) (IsItemFrom item) (λ e from. omega arith) xs h

applied-from : (matched : SelectorParts → Bool) (n : ℕ) (meanings : List (List Declared)) (items : List Item) → AllByRecursion (IsItemFrom n) (applied_from matched n meanings items)
applied-from matched n meanings [] = tt
applied-from matched n meanings (Rule rule ∷ items) =
    All-joined (IsItemFrom n) (applied_by_decls (matching_of matched rule) n 0 rule.decls) (applied_from matched (suc n) meanings items)
    (from-item n (applied_by_decls (matching_of matched rule) n 0 rule.decls) (decls-from (matching_of matched rule) n 0 rule.decls))
    (later-item n (applied_from matched (suc n) meanings items) (applied-from matched (suc n) meanings items))
applied-from matched n [] (KeptRule kept ∷ items) = later-item n (applied_from matched (suc n) [] items) (applied-from matched (suc n) [] items)
applied-from matched n (m ∷ meanings) (KeptRule kept ∷ items) =
    All-joined (IsItemFrom n) (applied_by_kept n 0 m) (applied_from matched (suc n) meanings items) (from-item n (applied_by_kept n 0 m) (kept-from n 0 m))
    (later-item n (applied_from matched (suc n) meanings items) (applied-from matched (suc n) meanings items))
applied-from matched n [] (KeptBlock piece ∷ items) = later-item n (applied_from matched (suc n) [] items) (applied-from matched (suc n) [] items)
applied-from matched n (m ∷ meanings) (KeptBlock piece ∷ items) =
    All-joined (IsItemFrom n) (applied_by_kept n 0 m) (applied_from matched (suc n) meanings items) (from-item n (applied_by_kept n 0 m) (kept-from n 0 m))
    (later-item n (applied_from matched (suc n) meanings items) (applied-from matched (suc n) meanings items))

from-before-later : (n : ℕ) (e f : AppliedDeclaration) → IsFrom n 0 e → IsItemFrom (suc n) f → Before e f
from-before-later n e f from later = inl (omega arith)

kept-first : (matched : SelectorParts → Bool) (n : ℕ) (m : List Declared) (rest : List AppliedDeclaration) → InOrder rest → AllByRecursion (IsItemFrom (suc n)) rest → InOrder (applied_by_kept n 0 m ++ rest)
kept-first matched n m rest h later = InOrder-joined (IsFrom n 0) (IsItemFrom (suc n)) (from-before-later n) (applied_by_kept n 0 m) rest (kept-in_order n 0 m) h (kept-from n 0 m) later

pub applied-in_order : (matched : SelectorParts → Bool) (n : ℕ) (meanings : List (List Declared)) (items : List Item) → InOrder (applied_from matched n meanings items)
applied-in_order matched n meanings [] = tt
applied-in_order matched n meanings (Rule rule ∷ items) =
    InOrder-joined (IsFrom n 0) (IsItemFrom (suc n)) (from-before-later n)
    (applied_by_decls (matching_of matched rule) n 0 rule.decls) (applied_from matched (suc n) meanings items)
    (decls-in_order (matching_of matched rule) n 0 rule.decls) (applied-in_order matched (suc n) meanings items)
    (decls-from (matching_of matched rule) n 0 rule.decls) (applied-from matched (suc n) meanings items)
applied-in_order matched n [] (KeptRule kept ∷ items) = applied-in_order matched (suc n) [] items
applied-in_order matched n (m ∷ meanings) (KeptRule kept ∷ items) =
    kept-first matched n m (applied_from matched (suc n) meanings items) (applied-in_order matched (suc n) meanings items) (applied-from matched (suc n) meanings items)
applied-in_order matched n [] (KeptBlock piece ∷ items) = applied-in_order matched (suc n) [] items
applied-in_order matched n (m ∷ meanings) (KeptBlock piece ∷ items) =
    kept-first matched n m (applied_from matched (suc n) meanings items) (applied-in_order matched (suc n) meanings items) (applied-from matched (suc n) meanings items)

-- a filter keeps the order
All-kept : (P : AppliedDeclaration → Type 0) (p : AppliedDeclaration → Bool) (xs : List AppliedDeclaration) → AllByRecursion P xs → AllByRecursion P (filter p xs)
All-kept P p [] h = tt
All-kept P p (x ∷ xs) h = cond_both (p x) (x ∷ filter p xs) (filter p xs) (AllByRecursion P) (λ _. (h.0, All-kept P p xs h.1)) (λ _. All-kept P p xs h.1)

pub InOrder-filter : (p : AppliedDeclaration → Bool) (xs : List AppliedDeclaration) → InOrder xs → InOrder (filter p xs)
InOrder-filter p [] h = tt
InOrder-filter p (x ∷ xs) h = cond_both (p x) (x ∷ filter p xs) (filter p xs) InOrder (λ _. (All-kept (Before x) p xs h.0, InOrder-filter p xs h.1)) (λ _. InOrder-filter p xs h.1)

-- the best of a list without places, the last one where several are equal
abbrev pub weight : Winner → List ℕ
weight w = (if w.important then 1 else 0) ∷ w.specificity.a ∷ w.specificity.b ∷ w.specificity.c ∷ []

abbrev pub better : Winner → Option Winner → Option Winner
better w None = Some w
better w (Some v) = cond (exceeds (weight w) (weight v)) (Some w) (Some v)

abbrev pub best : List Winner → Option Winner
best [] = None
best (w ∷ ws) = better w (best ws)

exceeds-front : (xs ys ps qs : List ℕ) → length xs ≡ length ys → exceeds ps qs ≡ false → exceeds (xs ++ ps) (ys ++ qs) ≡ exceeds xs ys
exceeds-front [] [] ps qs l h = h
exceeds-front [] (y ∷ ys) ps qs l h = absurd (omega arith)
exceeds-front (x ∷ xs) [] ps qs l h = absurd (omega arith)
exceeds-front (x ∷ xs) (y ∷ ys) ps qs l h = let ih : exceeds (xs ++ ps) (ys ++ qs) ≡ exceeds xs ys = exceeds-front xs ys ps qs (omega arith) h in rw ih

place-below : (i j p q : ℕ) → (i < j) ⊎ ((i ≡ j) × (p ≤ q)) → exceeds (i ∷ p ∷ []) (j ∷ q ∷ []) ≡ false
place-below i j p q h = grind (arith, nat_tests)

Before-places : (e f : AppliedDeclaration) → Before e f → (e.place.item < f.place.item) ⊎ ((e.place.item ≡ f.place.item) × (e.place.position ≤ f.place.position))
Before-places e f (inl h) = inl h
Before-places e f (inr (inl h)) = inr (h.0, omega arith)
Before-places e f (inr (inr h)) = inr (h.0, omega arith)

outranks-by_weight : (e f : AppliedDeclaration) → Before e f → outranks e f ≡ exceeds (weight (outcome e)) (weight (outcome f))
outranks-by_weight e f h = exceeds-front (weight (outcome e)) (weight (outcome f)) (e.place.item ∷ e.place.position ∷ []) (f.place.item ∷ f.place.position ∷ []) refl
    (place-below e.place.item f.place.item e.place.position f.place.position (Before-places e f h))

chosen-outcome : (b : Bool) (e f : AppliedDeclaration) → option_map outcome (cond b (Some e) (Some f)) ≡ cond b (Some (outcome e)) (Some (outcome f))
chosen-outcome true e f = refl
chosen-outcome false e f = refl

greater-by_order : (e : AppliedDeclaration) (es : List AppliedDeclaration) (o : Option AppliedDeclaration) → MatchOption o (es ≡ []) (IsTop es) → AllByRecursion (Before e) es → option_map outcome (greater e o) ≡ better (outcome e) (option_map outcome o)
greater-by_order e es None h before = refl
greater-by_order e es (Some f) h before =
    chosen-outcome (outranks e f) e f
    ∙ ap (λ b. cond b (Some (outcome e)) (Some (outcome f))) (outranks-by_weight e f (All-contains (Before e) es f (All-from_recursion (Before e) es before) h.inside))

pub greatest-by_order : (es : List AppliedDeclaration) → InOrder es → option_map outcome (greatest es) ≡ best (map outcome es)
greatest-by_order [] h = refl
greatest-by_order (e ∷ es) h = greater-by_order e es (greatest es) (greatest-top es) h.0 ∙ ap (better (outcome e)) (greatest-by_order es h.1)

-- what is understood goes by name and value
pub understood_winner : List Understood → Winner → Bool
understood_winner us w = is_understood us (record { decl = record { name = w.name; value = w.value; important = w.important }; specificity = w.specificity; place = record { item = 0; position = 0 } })

filter-outcomes : (us : List Understood) (es : List AppliedDeclaration) → map outcome (filter (is_understood us) es) ≡ filter (understood_winner us) (map outcome es)
unfolding understood_winner
filter-outcomes us [] = refl
filter-outcomes us (e ∷ es) = kept (is_understood us e) (filter-outcomes us es)
  where
    kept : (b : Bool) → map outcome (filter (is_understood us) es) ≡ filter (understood_winner us) (map outcome es) →
        map outcome (cond b (e ∷ filter (is_understood us) es) (filter (is_understood us) es)) ≡ cond b (outcome e ∷ filter (understood_winner us) (map outcome es)) (filter (understood_winner us) (map outcome es))
    kept true h = ap (λ ws. outcome e ∷ ws) h
    kept false h = h

-- the winner, from what applies in its order
pub winner-by_order : (us : List Understood) (es : List AppliedDeclaration) → InOrder es → option_map outcome (greatest (filter (is_understood us) es)) ≡ best (filter (understood_winner us) (map outcome es))
winner-by_order us es h = greatest-by_order (filter (is_understood us) es) (InOrder-filter (is_understood us) es h) ∙ ap best (filter-outcomes us es)

pub winner-from_order : (us : List Understood) (es fs : List AppliedDeclaration) → InOrder es → InOrder fs → map outcome es ≡ map outcome fs →
    option_map outcome (greatest (filter (is_understood us) es)) ≡ option_map outcome (greatest (filter (is_understood us) fs))
winner-from_order us es fs h g same = winner-by_order us es h ∙ ap (λ ws. best (filter (understood_winner us) ws)) same ∙ sym (winner-by_order us fs g)

-- entries in one place are of one declaration
Before-same : (e f : AppliedDeclaration) → Before e f → e.place.item ≡ f.place.item → e.place.position ≡ f.place.position → e.decl ≡ f.decl
Before-same e f (inl h) i p = absurd (omega arith)
Before-same e f (inr (inl h)) i p = absurd (omega arith)
Before-same e f (inr (inr h)) i p = h.2

InOrder-same : (es : List AppliedDeclaration) (e f : AppliedDeclaration) → InOrder es → Contains es e → Contains es f → e.place.item ≡ f.place.item → e.place.position ≡ f.place.position → e.decl ≡ f.decl
InOrder-same [] e f h he hf i p = absurd (Contains-nil e he)
InOrder-same (x ∷ xs) e f h he hf i p = cases (Contains-cons_cases x xs e he) (Contains-cons_cases x xs f hf) (λ ge gf. InOrder-same xs e f h.1 ge gf i p)
  where
    head : (y : AppliedDeclaration) → Contains xs y → Before x y
    head y g = All-contains (Before x) xs y (All-from_recursion (Before x) xs h.0) g

    cases : (x ≡ e) ⊎ Contains xs e → (x ≡ f) ⊎ Contains xs f → (Contains xs e → Contains xs f → e.decl ≡ f.decl) → e.decl ≡ f.decl
    cases (inl a) (inl b) rest = ap (λ (y : AppliedDeclaration). y.decl) (sym a ∙ b)
    cases (inl a) (inr b) rest = Before-same e f (subst (λ y. Before y f) a (head f b)) i p
    cases (inr a) (inl b) rest = sym (Before-same f e (subst (λ y. Before y e) b (head e a)) (sym i) (sym p))
    cases (inr a) (inr b) rest = rest a b

same-outcome : (e f : AppliedDeclaration) → e.decl ≡ f.decl → e.specificity.a ≡ f.specificity.a → e.specificity.b ≡ f.specificity.b → e.specificity.c ≡ f.specificity.c → outcome e ≡ outcome f
same-outcome e f d a b c =
    ap₂ (λ (x : Decl) (s : Specificity). record { name = x.name; value = x.value; important = x.important; specificity = s }) d
    (ap₂ (λ (n : ℕ) (t : Specificity). record { a = n; b = t.b; c = t.c }) a (ap₂ (λ (m k : ℕ). record { a = f.specificity.a; b = m; c = k }) b c))

-- two entries, neither of which outranks the other
same-rank : (es : List AppliedDeclaration) (e f : AppliedDeclaration) → InOrder es → Contains es e → Contains es f → rank e ≡ rank f → outcome e ≡ outcome f
same-rank es e f h he hf r =
    same-outcome e f (InOrder-same es e f h he hf (ap (λ ns. get_or ns 4 0) r) (ap (λ ns. get_or ns 5 0) r))
    (ap (λ ns. get_or ns 1 0) r) (ap (λ ns. get_or ns 2 0) r) (ap (λ ns. get_or ns 3 0) r)

only-top : (fs : List AppliedDeclaration) (e : AppliedDeclaration) (o : Option AppliedDeclaration) → InOrder fs → IsTop fs e → MatchOption o (fs ≡ []) (IsTop fs) → option_map outcome o ≡ Some (outcome e)
only-top fs e None h top none = absurd (Contains-nil e (subst (λ gs. Contains gs e) none top.inside))
only-top fs e (Some g) h top other =
    ap Some (same-rank fs g e h other.inside top.inside
    (exceeds-neither (rank g) (rank e) refl
    (All-contains (λ f. outranks f e ≡ false) fs g top.above other.inside)
    (All-contains (λ f. outranks f g ≡ false) fs e other.above top.inside)))

pub greatest-winner : (us : List Understood) (es : List AppliedDeclaration) (e : AppliedDeclaration) → InOrder es → IsGreatest us es e → option_map outcome (greatest (filter (is_understood us) es)) ≡ Some (outcome e)
greatest-winner us es e h g =
    only-top (filter (is_understood us) es) e (greatest (filter (is_understood us) es)) (InOrder-filter (is_understood us) es h)
    (record { inside = Contains-filtered (is_understood us) es e g.applied g.understood; above = All-on_filter (is_understood us) (λ f. outranks f e ≡ false) es g.greatest })
    (greatest-top (filter (is_understood us) es))

-- the law `AlikeWinsAlike`
pub alike_wins : (items items' : List Item) → ApplyAlike items items' → WinAlike items items'
alike_wins items items' alike doc target meanings us =
    winner-from_order us (applied doc target meanings items) (applied doc target meanings items')
    (applied-in_order (matches doc target) 0 meanings items) (applied-in_order (matches doc target) 0 meanings items') (alike doc target meanings)
