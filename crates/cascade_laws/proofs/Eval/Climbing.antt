-- Climbing over lines finds what matches.
use Rattle.std.proofs.Common.{◌≡◌, ℕ, zero, suc, ◌+◌, ◌<◌, ◌≤◌, Bool, true, false, ◌&&◌, List, [], ◌∷◌, ◌++◌, map, take, refl, sym, ap, subst, ◌∙◌, arith}
use Rattle.std.specs.Prelude.{IsSomeAnd, ◌==◌, nat_lt, if◌then◌else◌, slice_get}
use Rattle.std.specs.Bool.{MatchBool}
use Rattle.std.specs.List.{list_all}
use Rattle.std.proofs.lemmas.Bool.{and_parts, le-ltb, lt-ltb, false≢true}
use Rattle.std.proofs.lemmas.List.{append_assoc}
use Rattle.css_model.specs.declared.example.Example.{Example}
use Rattle.css_model.specs.declared.example.RunLine.{RunLine}
use Rattle.css_model.specs.declared.selector.Combinator.{Combinator}
use Rattle.css_model.specs.declared.selector.Simple.{Simple}
use Rattle.css_model.specs.Documents.Document.{Document, ElementAt, element_at, none}
use Rattle.css_model.specs.Documents.Features.{element_of}
use Rattle.css_model.specs.Documents.Matching.{count_siblings, is_none, matches, matches_from, same_pseudo}
use Rattle.css_model.specs.Documents.RunDocuments.{AreLines, KeepsRules, LinesFollow, behind, document_of, expand, is_below, path_below, path_of, repeated, siblings_of, target_of}
use Rattle.css_model.specs.Documents.SelectorParts.{SelectorParts}
use Rattle.cascade_laws.specs.declared.reaching.Role.TheVariants.{Above, Beside, Apart}
use Rattle.cascade_laws.specs.Eval.Climbing.{chain_climbs, child_among, climbed, climbs, has_one_at, root_among, root_reached, standing_of, standings_of}
use Rattle.cascade_laws.specs.Eval.Reaching.{from_child, is_reached, located}
use Rattle.cascade_laws.specs.Eval.Surrounded.{chain_among}
use Rattle.cascade_laws.proofs.Eval.Numbers.{joined, none_first, none_last}
use Rattle.cascade_laws.proofs.Eval.Rows.{Around, IsRow, chain_same, first_found, not_not, row_below, row_past, run_passed}
use Rattle.cascade_laws.proofs.Eval.Seeing.{arrived, at_child, at_itself, at_root, found}

-- ---- Siblings of lines

line_here : (l : RunLine) (lines : List RunLine) (d : ℕ) → (l.depth == d) ≡ true →
    siblings_of (l ∷ lines) d ≡ repeated l.count (element_of l.element) (siblings_of lines (suc d)) (siblings_of lines d)
line_here l lines d e =
    ap (λ b. if b then repeated l.count (element_of l.element) (siblings_of lines (suc d)) (siblings_of lines d) else (if nat_lt l.depth d then none else siblings_of lines d)) e

line_deeper : (l : RunLine) (lines : List RunLine) (d : ℕ) → (l.depth == d) ≡ false → d < l.depth → siblings_of (l ∷ lines) d ≡ siblings_of lines d
line_deeper l lines d e h =
    ap (λ b. if b then repeated l.count (element_of l.element) (siblings_of lines (suc d)) (siblings_of lines d) else (if nat_lt l.depth d then none else siblings_of lines d)) e
    ∙ ap (λ b. if b then none else siblings_of lines d) (le-ltb l.depth d (omega arith))

-- ---- Paths

behind_none : (path : List ℕ) → behind 0 path ≡ path
behind_none [] = refl
behind_none (i ∷ path) = ap (λ (k : ℕ). k ∷ path) (none_first i)

behind_both : (m n : ℕ) (path : List ℕ) → behind (m + n) path ≡ behind m (behind n path)
behind_both m n [] = refl
behind_both m n (i ∷ path) = ap (λ (k : ℕ). k ∷ path) (joined m n i)

reached_matches : (doc : Document) (chain : List (List Simple)) (links : List Combinator) (path : List ℕ) → is_reached (found doc chain links path) ≡ matches_from doc chain links path
reached_matches doc [] links path = refl
reached_matches doc (c ∷ cs) links path = refl

-- ---- Lines that lead to one of them

abbrev Leads : List RunLine → (depth n : ℕ) → Type 0
Leads [] depth n = ⊥
Leads (l ∷ lines) depth zero = ((l.depth == depth) ≡ true) × (l.count ≡ 1)
Leads (l ∷ lines) depth (suc n) =
    MatchBool (l.depth == depth)
    (MatchBool (is_below depth lines n) ((l.count ≡ 1) × Leads lines (suc depth) n) (Leads lines depth n))
    ((depth < l.depth) × Leads lines depth n)

abbrev Climbs : Document → List (List Simple) → List Combinator → List RunLine → (depth n before : ℕ) → List ℕ → Type 0
Climbs doc chain links lines depth n before p =
    climbed chain links lines (standings_of lines depth n) before (arrived doc chain links (p ++ before ∷ []))
    ≡ is_reached (found doc chain links (p ++ behind before (path_below lines depth n)))

one_of : (doc : Document) (l : RunLine) (lines : List RunLine) (depth before : ℕ) (p : List ℕ) → (l.depth == depth) ≡ true → l.count ≡ 1 →
    IsRow doc p before (siblings_of (l ∷ lines) depth) → IsRow doc p before (repeated 1 (element_of l.element) (siblings_of lines (suc depth)) (siblings_of lines depth))
one_of doc l lines depth before p e one row =
    subst (λ (n : ℕ). IsRow doc p before (repeated n (element_of l.element) (siblings_of lines (suc depth)) (siblings_of lines depth))) one
    (subst (IsRow doc p before) (line_here l lines depth e) row)

line_found : (doc : Document) (chain : List (List Simple)) (links : List Combinator) (l : RunLine) (lines : List RunLine) (depth before : ℕ) (p : List ℕ) →
    (l.depth == depth) ≡ true → l.count ≡ 1 → IsRow doc p before (siblings_of (l ∷ lines) depth) →
    located (chain_among chain (element_of l.element) (child_among (has_one_at lines (suc depth)) before (count_siblings (siblings_of lines depth)))) links (arrived doc chain links (p ++ before ∷ []))
    ≡ found doc chain links (p ++ before ∷ [])
line_found doc chain links l lines depth before p e one row =
    ap (λ (k : ℕ). located (chain_among chain (element_of l.element) (child_among (has_one_at lines (suc depth)) before k)) links (arrived doc chain links (p ++ before ∷ [])))
    (sym (none_first (count_siblings (siblings_of lines depth))))
    ∙ first_found doc chain links p before 0 (element_of l.element) (siblings_of lines (suc depth)) (siblings_of lines depth) (one_of doc l lines depth before p e one row)

climb : (doc : Document) (chain : List (List Simple)) (links : List Combinator) (lines : List RunLine) (depth n before : ℕ) (p : List ℕ) →
    Leads lines depth n → IsRow doc p before (siblings_of lines depth) → Climbs doc chain links lines depth n before p
climb doc chain links [] depth n before p leads row = absurd leads
climb doc chain links (l ∷ lines) depth zero before p (e, one) row =
    ap is_reached (line_found doc chain links l lines depth before p e one row ∙ ap (λ (k : ℕ). found doc chain links (p ++ k ∷ [])) (none_last before))
climb doc chain links (l ∷ lines) depth (suc n) before p leads row =
    by (climb doc chain links lines (suc depth) n 0 (p ++ before ∷ [])) (λ before'. climb doc chain links lines depth n before' p)
    (l.depth == depth) refl (is_below depth lines n) refl leads
  where
    by : (Leads lines (suc depth) n → IsRow doc (p ++ before ∷ []) 0 (siblings_of lines (suc depth)) → Climbs doc chain links lines (suc depth) n 0 (p ++ before ∷ [])) →
        ((before' : ℕ) → Leads lines depth n → IsRow doc p before' (siblings_of lines depth) → Climbs doc chain links lines depth n before' p) →
        (b : Bool) → (l.depth == depth) ≡ b → (c : Bool) → is_below depth lines n ≡ c →
        MatchBool b (MatchBool c ((l.count ≡ 1) × Leads lines (suc depth) n) (Leads lines depth n)) ((depth < l.depth) × Leads lines depth n) →
        climbed chain links (l ∷ lines)
        (if b then (if c then standing_of Above lines depth ∷ standings_of lines (suc depth) n else standing_of Beside lines depth ∷ standings_of lines depth n)
        else standing_of Apart lines depth ∷ standings_of lines depth n)
        before (arrived doc chain links (p ++ before ∷ []))
        ≡ is_reached (found doc chain links (p ++ behind before
        (if b then (if c then 0 ∷ path_below lines (suc depth) n else behind l.count (path_below lines depth n)) else path_below lines depth n)))
    by inside beside true e true f (one, rest) =
        ap (λ rs. climbed chain links lines (standings_of lines (suc depth) n) 0 (map from_child rs)) (line_found doc chain links l lines depth before p e one row)
        ∙ ap (climbed chain links lines (standings_of lines (suc depth) n) 0) (at_child doc chain links (p ++ before ∷ []))
        ∙ inside rest
        (row_below doc p before (element_of l.element) (siblings_of lines (suc depth)) (siblings_of lines depth) (one_of doc l lines depth before p e one row))
        ∙ ap (λ (path : List ℕ). is_reached (found doc chain links path))
        (ap (λ (path : List ℕ). (p ++ before ∷ []) ++ path) (behind_none (path_below lines (suc depth) n))
        ∙ append_assoc p (before ∷ []) (path_below lines (suc depth) n)
        ∙ ap (λ (k : ℕ). p ++ k ∷ path_below lines (suc depth) n) (none_last before))
    by inside beside true e false f rest =
        ap (climbed chain links lines (standings_of lines depth n) (before + l.count))
        (run_passed doc chain links p l.count before (element_of l.element) (siblings_of lines (suc depth)) (siblings_of lines depth)
        (subst (IsRow doc p before) (line_here l lines depth e) row))
        ∙ beside (before + l.count) rest
        (row_past doc p before l.count (element_of l.element) (siblings_of lines (suc depth)) (siblings_of lines depth)
        (subst (IsRow doc p before) (line_here l lines depth e) row))
        ∙ ap (λ (path : List ℕ). is_reached (found doc chain links (p ++ path))) (behind_both before l.count (path_below lines depth n))
    by inside beside false e c f (h, rest) = beside before rest (subst (IsRow doc p before) (line_deeper l lines depth e h) row)

-- ---- Lines of a document lead to each of them

abbrev IsOne : List RunLine → ℕ → Type 0
IsOne lines n = IsSomeAnd (slice_get lines n) (λ l. l.count ≡ 1)

same_depth : (m e : ℕ) → nat_lt e m ≡ true → nat_lt (suc e) m ≡ false → (m == suc e) ≡ true
same_depth m e h k = grind arith

above_below : (m k e : ℕ) → (m == suc e) ≡ true → nat_lt (suc e) k ≡ true → m < k
above_below m k e h j = grind arith

one_deeper : (m k e : ℕ) → (m == suc e) ≡ true → k ≤ suc m → nat_lt (suc (suc e)) k ≡ false
one_deeper m k e h low = grind arith

yet_deeper : (m e : ℕ) → nat_lt e m ≡ true → (m == suc e) ≡ false → suc e < m
yet_deeper m e h k = grind arith

leads : (lines : List RunLine) (e n d c : ℕ) → LinesFollow d c lines → IsOne lines n → is_below e lines n ≡ true → is_below (suc e) lines n ≡ false → Leads lines (suc e) n
leads [] e n d c follow one deep near = absurd one
leads (l ∷ lines) e zero d c (some, low, single, has, follow) one deep near =
    (depth_here (nat_lt e l.depth) (nat_lt (suc e) l.depth) refl refl deep near, one)
  where
    depth_here : (a b : Bool) → nat_lt e l.depth ≡ a → nat_lt (suc e) l.depth ≡ b → (a && true) ≡ true → (b && true) ≡ false → (l.depth == suc e) ≡ true
    depth_here true false ea eb h k = same_depth l.depth e ea eb
    depth_here true true ea eb h k = absurd (false≢true (sym k))
    depth_here false b ea eb h k = absurd (false≢true h)
leads (l ∷ lines) e (suc n) d c (some, low, single, has, follow) one deep near =
    by (leads lines (suc e) n l.depth l.count follow one) (leads lines e n l.depth l.count follow one) (l.depth == suc e) refl (is_below (suc e) lines n) refl
  where
    deeper : (nat_lt e l.depth ≡ true) × (is_below e lines n ≡ true)
    deeper = and_parts (nat_lt e l.depth) (is_below e lines n) deep

    single_above : (ls : List RunLine) → LinesFollow l.depth l.count ls → IsOne ls n → (l.depth == suc e) ≡ true → is_below (suc e) ls n ≡ true → l.count ≡ 1
    single_above [] follow one here below = absurd one
    single_above (m ∷ ms) (some, low, single, has, follow) one here below =
        single (above_below l.depth m.depth e here (and_parts (nat_lt (suc e) m.depth) (list_all (λ r. nat_lt (suc e) r.depth) (take n ms)) below).0)

    near_above : (ls : List RunLine) → LinesFollow l.depth l.count ls → IsOne ls n → (l.depth == suc e) ≡ true → is_below (suc (suc e)) ls n ≡ false
    near_above [] follow one here = absurd one
    near_above (m ∷ ms) (some, low, single, has, follow) one here =
        ap (λ b. b && list_all (λ r. nat_lt (suc (suc e)) r.depth) (take n ms)) (one_deeper l.depth m.depth e here low)

    by : (is_below (suc e) lines n ≡ true → is_below (suc (suc e)) lines n ≡ false → Leads lines (suc (suc e)) n) →
        (is_below e lines n ≡ true → is_below (suc e) lines n ≡ false → Leads lines (suc e) n) →
        (b : Bool) → (l.depth == suc e) ≡ b → (c : Bool) → is_below (suc e) lines n ≡ c →
        MatchBool b (MatchBool c ((l.count ≡ 1) × Leads lines (suc (suc e)) n) (Leads lines (suc e) n)) ((suc e < l.depth) × Leads lines (suc e) n)
    by inside beside true h true k = (single_above lines follow one h k, inside k (near_above lines follow one h))
    by inside beside true h false k = beside deeper.1 k
    by inside beside false h true k = absurd (false≢true (sym near ∙ ap (λ b. b && is_below (suc e) lines n) (lt-ltb (suc e) l.depth (yet_deeper l.depth e deeper.0 h)) ∙ k))
    by inside beside false h false k = (yet_deeper l.depth e deeper.0 h, beside deeper.1 k)

all_below_root : (lines : List RunLine) (n d c : ℕ) → LinesFollow d c lines → is_below 0 lines n ≡ true
all_below_root [] n d c follow = refl
all_below_root (l ∷ lines) zero d c (some, low, single, has, follow) = ap (λ b. b && true) (lt-ltb 0 l.depth some)
all_below_root (l ∷ lines) (suc n) d c (some, low, single, has, follow) =
    ap (λ b. b && is_below 0 lines n) (lt-ltb 0 l.depth some) ∙ all_below_root lines n l.depth l.count follow

first_near : (lines : List RunLine) (n : ℕ) → LinesFollow 0 1 lines → IsOne lines n → is_below 1 lines n ≡ false
first_near [] n follow one = absurd one
first_near (l ∷ lines) n (some, low, single, has, follow) one = ap (λ b. b && list_all (λ r. nat_lt 1 r.depth) (take n lines)) (le-ltb 1 l.depth low)

-- ---- The whole document

root_found : (root_is_child : Bool) (chain : List (List Simple)) (links : List Combinator) (l : RunLine) (lines : List RunLine) →
    root_reached root_is_child chain links l lines ≡ found (document_of root_is_child (l ∷ lines)) chain links []
root_found root_is_child chain links l lines =
    ap (λ rs. located (chain_among chain (element_of l.element) (root_among root_is_child (has_one_at lines 1))) links rs) (at_root doc chain links)
    ∙ ap (λ ts. located ts links (arrived doc chain links [])) (sym (chain_same doc [] root (root_among root_is_child (has_one_at lines 1)) refl around chain))
    ∙ at_itself doc chain links []
  where
    doc : Document
    doc = document_of root_is_child (l ∷ lines)

    root : ElementAt
    root = record { element = element_of l.element; children = siblings_of lines 1; later = none }

    around : Around (document_of root_is_child (l ∷ lines)) [] (record { element = element_of l.element; children = siblings_of lines 1; later = none }) (root_among root_is_child (has_one_at lines 1))
    around = record { number = refl; from_end = refl; root = refl; children = not_not (is_none (siblings_of lines 1)) }

chain_found : (root_is_child : Bool) (chain : List (List Simple)) (links : List Combinator) (lines : List RunLine) (n : ℕ) → AreLines lines → IsOne lines n →
    matches_from (document_of root_is_child lines) chain links (path_of lines n) ≡ chain_climbs root_is_child chain links lines n
chain_found root_is_child chain links [] n are one = absurd are
chain_found root_is_child chain links (l ∷ lines) zero are one =
    sym (ap is_reached (root_found root_is_child chain links l lines) ∙ reached_matches (document_of root_is_child (l ∷ lines)) chain links [])
chain_found root_is_child chain links (l ∷ lines) (suc n) (top, single, follow) one =
    sym (
    ap (λ rs. climbed chain links lines (standings_of lines 1 n) 0 (map from_child rs)) (root_found root_is_child chain links l lines)
    ∙ ap (climbed chain links lines (standings_of lines 1 n) 0) (at_child (document_of root_is_child (l ∷ lines)) chain links [])
    ∙ climb (document_of root_is_child (l ∷ lines)) chain links lines 1 n 0 []
    (leads lines 0 n 0 1 follow one (all_below_root lines n 0 1 follow) (first_near lines n follow one))
    (λ i path. ap (λ (k : ℕ). element_at (document_of root_is_child (l ∷ lines)) (k ∷ path)) (none_first i))
    ∙ ap (λ (path : List ℕ). is_reached (found (document_of root_is_child (l ∷ lines)) chain links path)) (behind_none (path_below lines 1 n))
    ∙ reached_matches (document_of root_is_child (l ∷ lines)) chain links (path_below lines 1 n)
    )

pub matching_climbs : (x : Example) (selector : SelectorParts) → KeepsRules x → matches (expand x) (target_of x) selector ≡ climbs x selector
matching_climbs x selector keeps =
    ap (λ b. same_pseudo x.pseudo selector.pseudo && b) (chain_found x.doc.root_is_child selector.chain selector.links x.doc.lines x.marked keeps.lines keeps.marked)
