-- The selectors of a rule in a table, and labels that are counted.
use Rattle.std.proofs.Common.{◌≡◌, ◌<◌, ℕ, ◌+◌, Bool, true, false, cond, not, List, [], ◌∷◌, ◌++◌, length, get_or, take, drop, map, Option, Some, None, refl, sym, ap, ap₂, subst, ◌∙◌, arith}
use Rattle.std.specs.Prelude.{◌||◌, ◌^◌}
use Rattle.std.specs.List.{count_by, list_any}
use Rattle.std.specs.Map.{count_at}
use Rattle.std.specs.Option.{unwrap_or}
use Rattle.std.proofs.lemmas.Bool.{false≢true, false_from_ne_true}
use Rattle.std.proofs.lemmas.List.{append_assoc, drop_more, length-map, length-take, map-append, take_more}
use Rattle.std.proofs.lemmas.List.Folds.{list_any-append}
use Rattle.std.proofs.lemmas.List.Sums.{count_by-le-length, sum_by-append}
use Rattle.css_model.specs.declared.sheet.SelItem.{SelItem}
use Rattle.css_model.specs.Documents.SelectorParts.{SelectorParts}
use Rattle.order_laws.specs.Members.{has_selector, same_selector}
use Rattle.sheet_members.specs.Labels.{Label, same_label}
use Rattle.sheet_members.specs.Members.{Member, numbered, numbered_one, with_number}
use Rattle.sheet_members.specs.Occurrences.{with_repeats}
use Rattle.sheet_members.specs.Repeats.{AreSelectors}
use Rattle.sheet_members.specs.Tables.{AreCounts}
use Rattle.sheet_members.specs.SameLabels.{label_decides}

or_false : (b c : Bool) → cond b true c ≡ (c || (b || false))
or_false true true = refl
or_false true false = refl
or_false false true = refl
or_false false false = refl

pub no_selectors : (keys : List SelectorParts) → keys ≡ [] → AreSelectors [] keys
no_selectors keys none s = ap (list_any (same_selector s)) none

pub selectors_with : (before : List SelItem) (old new : List SelectorParts) (s : SelItem) → AreSelectors before old →
    ((q : SelectorParts) → list_any (same_selector q) new ≡ cond (same_selector s.selector q) true (list_any (same_selector q) old)) → AreSelectors (before ++ s ∷ []) new
selectors_with before old new s are updates q =
    updates q ∙ ap (cond (same_selector s.selector q) true) (are q) ∙ or_false (same_selector s.selector q) (has_selector before q)
    ∙ sym (list_any-append (λ (x : SelItem). same_selector x.selector q) before (s ∷ []))

pub was_among : (before : List SelItem) (keys : List SelectorParts) (s : SelectorParts) (new : Bool) → AreSelectors before keys → new ≡ not (list_any (same_selector s) keys) → not new ≡ has_selector before s
was_among before keys s new are is = ap not is ∙ twice (list_any (same_selector s) keys) ∙ are s
  where
    twice : (b : Bool) → not (not b) ≡ b
    twice true = refl
    twice false = refl

-- the first of those that are left
module _ {X : Type 0} (xs : List X) (i : ℕ) (x : X) (within : i < length xs) (is : x ≡ get_or xs i x) where
  pub left_next : drop i xs ≡ x ∷ drop (i + 1) xs
  left_next = drop_more xs i x within ∙ ap (λ y. y ∷ drop (i + 1) xs) (sym is)

  pub front_next : take i xs ++ x ∷ [] ≡ take (i + 1) xs
  front_next = ap (λ y. take i xs ++ y ∷ []) is ∙ sym (take_more xs i x within)

pub repeats_next : (selectors : List SelItem) (i : ℕ) (s : SelItem) → i < length selectors → s ≡ get_or selectors i s → (repeated : Bool) (found more all : List (SelItem × Bool)) →
    repeated ≡ has_selector (take i selectors) s.selector → more ≡ found ++ (s, repeated) ∷ [] → found ++ with_repeats (take i selectors) (drop i selectors) ≡ all →
    more ++ with_repeats (take (i + 1) selectors) (drop (i + 1) selectors) ≡ all
repeats_next selectors i s within is repeated found more all is_repeated pushed so_far =
    let rest = with_repeats (take (i + 1) selectors) (drop (i + 1) selectors) in
    let next : with_repeats (take i selectors) (drop i selectors) ≡ (s, repeated) ∷ rest =
    ap (with_repeats (take i selectors)) (left_next selectors i s within is)
    ∙ ap₂ (λ (b : Bool) (before : List SelItem). (s, b) ∷ with_repeats before (drop (i + 1) selectors)) (sym is_repeated) (front_next selectors i s within is)
    in
    ap (λ (fs : List (SelItem × Bool)). fs ++ rest) pushed ∙ append_assoc found ((s, repeated) ∷ []) rest ∙ ap (λ (fs : List (SelItem × Bool)). found ++ fs) (sym next) ∙ so_far

-- ---- Numbers

counts_by_cases : (k q : Label) (before : List Label) (old : Option ℕ) → unwrap_or old 0 ≡ count_by (same_label q) before → (b : Bool) → same_label k q ≡ b →
    unwrap_or (cond b (Some (count_by (same_label k) before + 1)) old) 0 ≡ count_by (same_label q) (before ++ k ∷ [])
counts_by_cases k q before old are true same =
    let equal : k ≡ q = (label_decides k q).0 same in
    let itself : same_label q k ≡ true = (label_decides q k).1 (sym equal) in
    let more : count_by (same_label q) (before ++ k ∷ []) ≡ count_by (same_label q) before + (0 + cond (same_label q k) 1 0) = sum_by-append (λ x. cond (same_label q x) 1 0) before (k ∷ []) in
    let one : ◌≡◌ {A = ℕ} (0 + cond (same_label q k) 1 0) 1 = ap (λ (b : Bool). 0 + cond {A = ℕ} b 1 0) itself in
    let first : count_by (same_label k) before ≡ count_by (same_label q) before = ap (λ (x : Label). count_by (same_label x) before) equal in
    omega (arith, more, one, first)
counts_by_cases k q before old are false same =
    let other : same_label q k ≡ false = false_from_ne_true (same_label q k) (λ h. false≢true (sym same ∙ (label_decides k q).1 (sym ((label_decides q k).0 h)))) in
    let more : count_by (same_label q) (before ++ k ∷ []) ≡ count_by (same_label q) before + (0 + cond (same_label q k) 1 0) = sum_by-append (λ x. cond (same_label q x) 1 0) before (k ∷ []) in
    let none : ◌≡◌ {A = ℕ} (0 + cond (same_label q k) 1 0) 0 = ap (λ (b : Bool). 0 + cond {A = ℕ} b 1 0) other in
    omega (arith, more, none, are)

pub no_counts : (counts : Label → Option ℕ) → ((q : Label) → counts q ≡ None) → AreCounts [] counts
no_counts counts none q = ap (λ (o : Option ℕ). unwrap_or o 0) (none q)

pub counts_with : (before : List Label) (old new : Label → Option ℕ) (k : Label) → AreCounts before old →
    ((q : Label) → new q ≡ cond (same_label k q) (Some (count_at old k + 1)) (old q)) → AreCounts (before ++ k ∷ []) new
counts_with before old new k are updates q =
    ap (λ (o : Option ℕ). unwrap_or o 0) (updates q ∙ ap (λ (n : ℕ). cond (same_label k q) (Some (n + 1)) (old q)) (are k))
    ∙ counts_by_cases k q before (old q) (are q) (same_label k q) refl

abbrev pub labels_of : List Member → List Label
labels_of ms = map (λ m. m.label) ms

pub labels_next : (ms : List Member) (i : ℕ) (m : Member) → i < length ms → m ≡ get_or ms i m → labels_of (take i ms) ++ m.label ∷ [] ≡ labels_of (take (i + 1) ms)
labels_next ms i m within is = sym (map-append (λ (x : Member). x.label) (take i ms) (m ∷ [])) ∙ ap labels_of (front_next ms i m within is)

pub numbers_next : (ms : List Member) (i : ℕ) (m : Member) → i < length ms → m ≡ get_or ms i m → (found more all : List Member) (x : Member) →
    x ≡ numbered_one (labels_of (take i ms)) m → more ≡ found ++ x ∷ [] → found ++ numbered (labels_of (take i ms)) (drop i ms) ≡ all →
    more ++ numbered (labels_of (take (i + 1) ms)) (drop (i + 1) ms) ≡ all
numbers_next ms i m within is found more all x is_numbered pushed so_far =
    let rest = numbered (labels_of (take (i + 1) ms)) (drop (i + 1) ms) in
    let next : numbered (labels_of (take i ms)) (drop i ms) ≡ x ∷ rest =
    ap (numbered (labels_of (take i ms))) (left_next ms i m within is)
    ∙ ap₂ (λ (y : Member) (before : List Label). y ∷ numbered before (drop (i + 1) ms)) (sym is_numbered) (labels_next ms i m within is)
    in
    ap (λ (fs : List Member). fs ++ rest) pushed ∙ append_assoc found (x ∷ []) rest ∙ ap (λ (fs : List Member). found ++ fs) (sym next) ∙ so_far

pub counts_small : (ms : List Member) (i : ℕ) (counts : Label → Option ℕ) (l : Label) → AreCounts (labels_of (take i ms)) counts → i < length ms → length ms < 2 ^ 63 → count_at counts l + 1 < 2 ^ 64
counts_small ms i counts l are within short =
    let few = count_by-le-length (same_label l) (labels_of (take i ms)) in
    let long : length (labels_of (take i ms)) ≡ length (take i ms) = length-map (take i ms) (λ (x : Member). x.label) in
    let front = length-take i ms in
    let is = are l in
    omega (arith, few, long, front, is, within, short)

pub counts_next : (ms : List Member) (i : ℕ) (m : Member) → i < length ms → m ≡ get_or ms i m → (counts : Label → Option ℕ) → AreCounts (labels_of (take i ms) ++ m.label ∷ []) counts →
    AreCounts (labels_of (take (i + 1) ms)) counts
counts_next ms i m within is counts h = subst (λ (ls : List Label). AreCounts ls counts) (labels_next ms i m within is) h

pub selectors_next : (selectors : List SelItem) (i : ℕ) (s : SelItem) → i < length selectors → s ≡ get_or selectors i s → (keys : List SelectorParts) → AreSelectors (take i selectors ++ s ∷ []) keys →
    AreSelectors (take (i + 1) selectors) keys
selectors_next selectors i s within is keys h = subst (λ (ss : List SelItem). AreSelectors ss keys) (front_next selectors i s within is) h

-- a member with its number, and the labels that are counted then
pub numbered_is : (before : List Label) (old new : Label → Option ℕ) (m inside : Member) (number : ℕ) (label : Label) → inside ≡ m → AreCounts before old → number ≡ count_at old inside.label →
    label ≡ with_number number inside.label → ((q : Label) → new q ≡ cond (same_label inside.label q) (Some (count_at old inside.label + 1)) (old q)) →
    (record { occurrence = inside.occurrence; label = label } ≡ numbered_one before m) × AreCounts (before ++ m.label ∷ []) new
numbered_is before old new m inside number label is are counted made updates = (
  ap (λ (l : Label). record { occurrence = inside.occurrence; label = l }) (made ∙ ap (λ (n : ℕ). with_number n inside.label) (counted ∙ are inside.label)) ∙ ap (numbered_one before) is,
  subst (λ (x : Member). AreCounts (before ++ x.label ∷ []) new) is (counts_with before old new inside.label are updates),
)
