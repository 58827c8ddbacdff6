-- Each selector that the grammar derives and that keeps to the limits is read.
use Rattle.std.proofs.Common.{◌≡◌, ◌≤◌, ◌<◌, ◌+◌, ◌||◌, ◌&&◌, ℕ, Bool, true, false, cond, Option, None, Result, Ok, Err, List, [], ◌∷◌, ◌++◌, length, refl, sym, ap, ap₂, ◌∙◌, subst, append_assoc, length-append, zero-add, arith}
use Rattle.std.specs.Prelude.{nat_le, reverse}
use Rattle.std.specs.List.{AllByRecursion}
use Rattle.std.proofs.lemmas.Bool.{false≢true, true≢false}
use Rattle.std.proofs.lemmas.Bool.Decides.{nat_tests}
use Rattle.std.proofs.lemmas.List.{append-nil, length-reverse, reverse-reverse}
use Rattle.std.proofs.lemmas.List.Sums.{sum_by-append}
use Rattle.css_model.specs.declared.reason.Reason.{Reason}
use Rattle.css_model.specs.declared.selector.Combinator.{Combinator}
use Rattle.css_model.specs.declared.selector.Combinator.TheVariants.{Inside}
use Rattle.css_model.specs.declared.selector.Pseudo.{Pseudo}
use Rattle.css_model.specs.declared.selector.Simple.{Simple}
use Rattle.css_model.specs.declared.token.Gap.{Gap}
use Rattle.css_model.specs.declared.token.Gap.TheVariants as gap
use Rattle.css_model.specs.Documents.SelectorParts.{SelectorParts}
use Rattle.css_model.specs.Selectors.Compounds.{SoFar, and_element, and_simple, and_type, begin, begins_compound, by_compound, go_on, in_compound, is_stepped_test, nothing_yet, or_universal, step, with_element, with_link, with_simple}
use Rattle.css_model.specs.Selectors.PseudoElements.{pseudo_element_at}
use Rattle.css_model.specs.Selectors.Reading.{finish, left_after, read_from, selector_of_terms, state_after, unless_refused}
use Rattle.css_model.specs.Selectors.Refusals.{Read}
use Rattle.css_model.specs.Selectors.Simples.{begins_simple}
use Rattle.css_model.specs.Selectors.Terms.{Term, combinator_of, right_behind}
use Rattle.css_model.specs.Selectors.Types.{begins_type}
use Rattle.css_model.specs.Sheets.Limits.{max_compounds, max_simples, max_stepped}
use Rattle.css_model.specs.Text.Characters.{colon}
use Rattle.css_model.specs.Text.Kept.{is_white_gap}
use Rattle.css_model.specs.Text.Lexemes.{is_sign_of}
use Rattle.selector_laws.specs.Grammar.{IsCompound, IsFront, IsLast, IsPseudoElement, IsSelector, last_gap}
use Rattle.selector_laws.specs.Grammar.IsCompound.{of_type, of_simple, more}
use Rattle.selector_laws.specs.Grammar.IsFront.{at_start, by_sign, by_white}
use Rattle.selector_laws.specs.Grammar.IsLast.{plain as plain_last, behind, alone}
use Rattle.selector_laws.specs.Grammar.IsPseudoElement.{one_colon, two_colons}
use Rattle.selector_laws.specs.Limits.{KeepsCompound, KeepsLimits, stepped_in, stepped_in_chain}
use Rattle.selector_laws.proofs.DerivedStates.{last_gap-append, or_universal_some, some_simple, some_simples}
use Rattle.selector_laws.proofs.Lists.{all_reverse, sum_reverse}
use Rattle.selector_laws.proofs.ReadTests.{HasRoom, ReadsSimple, behind_is, ident_is, sign_is, simple_read, type_read}

-- steps: what a state answers at a term
entered : (s : SoFar) (g : Gap) (x : Term) (xs : List Term) → s.pseudo ≡ None → s.compound ≡ [] → step s s.pseudo g x xs ≡ begin s x xs
entered s g x xs pseudo none = ap (λ p. step s p g x xs) pseudo ∙ ap (λ c. by_compound s c g x xs) none

in_some : (s : SoFar) (g : Gap) (x : Term) (xs : List Term) → s.pseudo ≡ None → 1 ≤ length s.compound → step s s.pseudo g x xs ≡ in_compound s (combinator_of x.kind) g x xs
in_some s g x xs pseudo some = ap (λ p. step s p g x xs) pseudo ∙ by s.compound some
  where
    by : (c : List Simple) → 1 ≤ length c → by_compound s c g x xs ≡ in_compound s (combinator_of x.kind) g x xs
    by [] none = absurd (omega arith)
    by (c ∷ cs) some' = refl

at_touch : (s : SoFar) (g : Gap) (x : Term) (xs : List Term) → is_white_gap g ≡ false → in_compound s None g x xs ≡ go_on s x xs
at_touch s gap.White x xs touches = absurd (true≢false touches)
at_touch s gap.Nothing x xs touches = refl
at_touch s gap.Comments x xs touches = refl

at_white : (s : SoFar) (g : Gap) (x : Term) (xs : List Term) → is_white_gap g ≡ true → in_compound s None g x xs ≡ begin (with_link s Inside) x xs
at_white s gap.White x xs white = refl
at_white s gap.Nothing x xs white = absurd (false≢true white)
at_white s gap.Comments x xs white = absurd (false≢true white)

-- what is read behind a step
answer_behind : SoFar → Term → List Term → Read SoFar → Result SelectorParts Reason
answer_behind s x xs r = unless_refused r (read_from (state_after s r) x.gap (left_after r) xs)

state_free : (s t : SoFar) (x : Term) (xs : List Term) (r : Read SoFar) → answer_behind s x xs r ≡ answer_behind t x xs r
unfolding answer_behind
state_free s t x xs (Err reason) = refl
state_free s t x xs (Ok read) = refl

step_alike : (s t : SoFar) (g h : Gap) (x : Term) (xs : List Term) → step s s.pseudo g x xs ≡ step t t.pseudo h x xs → read_from s g 0 (x ∷ xs) ≡ read_from t h 0 (x ∷ xs)
unfolding answer_behind
step_alike s t g h x xs same = ap (answer_behind s x xs) same ∙ state_free s t x xs (step t t.pseudo h x xs)

skip : (s : SoFar) (x : Term) (xs others : List Term) → read_from s x.gap (length xs) (xs ++ others) ≡ read_from s (last_gap (x ∷ xs)) 0 others
skip s x [] others = refl
skip s x (y ∷ ys) others = skip s y ys others

passed : (s new : SoFar) (g : Gap) (x : Term) (xs others : List Term) (n : ℕ) → step s s.pseudo g x (xs ++ others) ≡ Ok (new, n) → n ≡ length (x ∷ xs)
    → read_from s g 0 (x ∷ (xs ++ others)) ≡ read_from new (last_gap (x ∷ xs)) 0 others
unfolding answer_behind
passed s new g x xs others n reads size =
    ap (answer_behind s x (xs ++ others)) (reads ∙ ap (λ (m : ℕ). let r : Read SoFar = Ok (new, m) in r) size) ∙ skip new x xs others

-- an empty compound: the gap before it does not count
gap_free : (s : SoFar) (g h : Gap) (x : Term) (xs : List Term) → s.pseudo ≡ None → s.compound ≡ [] → read_from s g 0 (x ∷ xs) ≡ read_from s h 0 (x ∷ xs)
gap_free s g h x xs pseudo none = step_alike s s g h x xs (entered s g x xs pseudo none ∙ sym (entered s h x xs pseudo none))

white_links : (s : SoFar) (g h : Gap) (x : Term) (xs : List Term) → s.pseudo ≡ None → 1 ≤ length s.compound → combinator_of x.kind ≡ None → is_white_gap g ≡ true
    → read_from s g 0 (x ∷ xs) ≡ read_from (with_link s Inside) h 0 (x ∷ xs)
white_links s g h x xs pseudo some no_link white =
    step_alike s (with_link s Inside) g h x xs
    (in_some s g x xs pseudo some ∙ ap (λ o. in_compound s o g x xs) no_link ∙ at_white s g x xs white
    ∙ sym (entered (with_link s Inside) h x xs pseudo refl))

not_full : (n m : ℕ) → n < m → nat_le m n ≡ false
not_full n m h = grind (arith, nat_tests)

-- one more simple selector
count_one : (simple : Simple) → stepped_in (simple ∷ []) ≡ cond (is_stepped_test simple.test) 1 0
count_one simple = zero-add (cond (is_stepped_test simple.test) 1 0)

room_in : (stepped : ℕ) (simple : Simple) → stepped + stepped_in (simple ∷ []) ≤ max_stepped → HasRoom stepped simple.test
room_in stepped simple few h =
    let one : stepped_in (simple ∷ []) ≡ 1 = count_one simple ∙ ap (λ (b : Bool). cond b 1 0) h in
    omega (arith, few, one)

go_on_reads : (s : SoFar) (terms : List Term) (simple : Simple) (r : ReadsSimple s.stepped terms simple) (others : List Term) → length s.compound < max_simples
    → go_on s r.first (r.later ++ others) ≡ Ok (with_simple s simple, length terms)
go_on_reads s terms simple r others space =
    rw (r.begins others, not_full (length s.compound) max_simples space) (ap (and_simple s) (r.reads others))

widened : (t a b c d f : Bool) → (a || b || c || (d && f)) ≡ true → (t || a || b || c || d) ≡ true
widened true a b c d f h = refl
widened false true b c d f h = refl
widened false false true c d f h = refl
widened false false false true d f h = refl
widened false false false false true f h = refl
widened false false false false false f h = absurd (false≢true h)

begin_reads : (s : SoFar) (terms : List Term) (simple : Simple) (r : ReadsSimple s.stepped terms simple) (others : List Term) → length s.chain < max_compounds
    → length s.compound < max_simples → begin s r.first (r.later ++ others) ≡ Ok (with_simple s simple, length terms)
begin_reads s terms simple r others room space =
    let begins : begins_compound r.first ≡ true = widened (begins_type r.first) _ _ _ _ _ (r.begins others) in
    rw (begins, not_full (length s.chain) max_compounds room, r.no_type) (go_on_reads s terms simple r others space)

-- states that hold a compound
abbrev with_compound : SoFar → List Simple → SoFar
with_compound s c = record { chain = s.chain; links = s.links; compound = c; pseudo = s.pseudo; stepped = s.stepped + stepped_in c }

record HasSpace (s : SoFar) (c : List Simple) : Type 0 where
  chain : length s.chain < max_compounds
  simples : length c ≤ max_simples
  stepped : s.stepped + stepped_in c ≤ max_stepped

state_of : SoFar → List Simple → ℕ → SoFar
state_of s c n = record { chain = s.chain; links = s.links; compound = c; pseudo = s.pseudo; stepped = n }

first_is : (s : SoFar) (simple : Simple) → s.compound ≡ [] → with_simple s simple ≡ with_compound s (simple ∷ [])
unfolding state_of
first_is s simple none = ap₂ (state_of s) (ap (λ c. c ++ simple ∷ []) none) (ap (λ n. s.stepped + n) (sym (count_one simple)))

next_is : (s : SoFar) (some : List Simple) (simple : Simple) → with_simple (with_compound s some) simple ≡ with_compound s (some ++ simple ∷ [])
unfolding state_of
next_is s some simple =
    let app = sum_by-append (λ x. cond (is_stepped_test x.test) 1 0) some (simple ∷ []) in
    let one = count_one simple in
    ap (state_of s (some ++ simple ∷ []))
    (let same : (s.stepped + stepped_in some) + cond (is_stepped_test simple.test) 1 0 ≡ s.stepped + stepped_in (some ++ simple ∷ []) = omega (arith, app, one) in same)

compound_read : (terms : List Term) (c : List Simple) → IsCompound terms c → (s : SoFar) → s.compound ≡ [] → s.pseudo ≡ None → HasSpace s c → (g : Gap) (others : List Term)
    → read_from s g 0 (terms ++ others) ≡ read_from (with_compound s c) (last_gap terms) 0 others
compound_read terms c (of_type x test t) s none pseudo space g others =
    let r = type_read x test t in
    let here : begin s x others ≡ Ok (with_simple s (record { negated = false; test = test }), 1) =
    rw (r.begins, not_full (length s.chain) max_compounds space.chain) (ap (and_type s) r.reads) in
    passed s (with_simple s (record { negated = false; test = test })) g x [] others 1 (entered s g x others pseudo none ∙ here) refl
    ∙ ap (λ n. read_from n x.gap 0 others) (first_is s (record { negated = false; test = test }) none)
compound_read terms c (of_simple ts simple d) s none pseudo space g others =
    let r = simple_read s.stepped ts simple d (room_in s.stepped simple space.stepped) in
    let empty : length s.compound ≡ 0 = ap (λ xs. length xs) none in
    ap (λ xs. read_from s g 0 (xs ++ others)) r.is
    ∙ passed s (with_simple s simple) g r.first r.later others (length ts)
    (entered s g r.first (r.later ++ others) pseudo none ∙ begin_reads s ts simple r others space.chain (omega (arith, empty))) (ap (λ xs. length xs) r.is)
    ∙ ap₂ (λ n xs. read_from n (last_gap xs) 0 others) (first_is s simple none) (sym r.is)
compound_read terms c (more front rest some simple d touches e) s none pseudo space g others =
    let longer = length-append some (simple ∷ []) in
    let app = sum_by-append (λ x. cond (is_stepped_test x.test) 1 0) some (simple ∷ []) in
    let before : HasSpace s some = record { chain = space.chain; simples = omega (arith, longer, space.simples); stepped = omega (arith, app, space.stepped) } in
    let now = with_compound s some in
    let r = simple_read now.stepped rest simple e (room_in now.stepped simple (omega (arith, app, space.stepped))) in
    ap (read_from s g 0) (append_assoc front rest others)
    ∙ compound_read front some d s none pseudo before g (rest ++ others)
    ∙ ap (λ xs. read_from now (last_gap front) 0 (xs ++ others)) r.is
    ∙ passed now (with_simple now simple) (last_gap front) r.first r.later others (length rest)
    (in_some now (last_gap front) r.first (r.later ++ others) pseudo (some_simples front some d)
    ∙ ap (λ o. in_compound now o (last_gap front) r.first (r.later ++ others)) r.no_link
    ∙ at_touch now (last_gap front) r.first (r.later ++ others) touches
    ∙ go_on_reads now rest simple r others (omega (arith, longer, space.simples)))
    (ap (λ xs. length xs) r.is)
    ∙ ap₂ (λ n h. read_from n h 0 others) (next_is s some simple) (ap last_gap (sym r.is) ∙ sym (last_gap-append front rest (some_simple rest simple e)))

-- the first term of a compound is no combinator
record BeginsWith (terms : List Term) : Type 0 where
  first : Term
  later : List Term
  is : terms ≡ first ∷ later
  no_link : combinator_of first.kind ≡ None

simple_begins : (terms : List Term) (simple : Simple) (stepped : ℕ) → ReadsSimple stepped terms simple → BeginsWith terms
simple_begins terms simple stepped r = record { first = r.first; later = r.later; is = r.is; no_link = r.no_link }

compound_begins : (terms : List Term) (c : List Simple) → IsCompound terms c → BeginsWith terms
compound_begins terms c (of_type x test t) = record { first = x; later = []; is = refl; no_link = (type_read x test t).no_link }
compound_begins terms c (of_simple ts simple d) = simple_begins ts simple 0 (simple_read 0 ts simple d (λ h. omega arith))
compound_begins terms c (more front rest some simple d touches e) =
    let b = compound_begins front some d in
    record { first = b.first; later = b.later ++ rest; is = ap (λ xs. xs ++ rest) b.is; no_link = b.no_link }

-- the compounds before the last one
fronted : List (List Simple) → List Combinator → SoFar
fronted chain links = record { chain = chain; links = links; compound = []; pseudo = None; stepped = stepped_in_chain chain }

record ChainSpace (chain : List (List Simple)) : Type 0 where
  few : length chain < max_compounds
  short : AllByRecursion (λ c. length c ≤ max_simples) chain
  stepped : stepped_in_chain chain ≤ max_stepped

all_front : {A : Type 0} (P : A → Type 0) (xs ys : List A) → AllByRecursion P (xs ++ ys) → AllByRecursion P xs
all_front P [] ys all = tt
all_front P (x ∷ xs) ys all = (all.0, all_front P xs ys all.1)

all_last : {A : Type 0} (P : A → Type 0) (xs : List A) (y : A) → AllByRecursion P (xs ++ y ∷ []) → P y
all_last P [] y all = all.0
all_last P (x ∷ xs) y all = all_last P xs y all.1

stepped_last : (chain : List (List Simple)) (c : List Simple) → stepped_in_chain (chain ++ c ∷ []) ≡ stepped_in_chain chain + stepped_in c
stepped_last chain c =
    let app = sum_by-append stepped_in chain (c ∷ []) in
    let one : stepped_in_chain (c ∷ []) ≡ stepped_in c = zero-add (stepped_in c) in
    omega (arith, app, one)

space_before : (chain : List (List Simple)) (c : List Simple) → ChainSpace (chain ++ c ∷ []) → ChainSpace chain
space_before chain c space =
    let longer = length-append chain (c ∷ []) in
    let counts = stepped_last chain c in
    record { few = omega (arith, longer, space.few); short = all_front (λ d. length d ≤ max_simples) chain (c ∷ []) space.short; stepped = omega (arith, counts, space.stepped) }

space_for : (chain : List (List Simple)) (links : List Combinator) (c : List Simple) → length chain < max_compounds → length c ≤ max_simples
    → stepped_in_chain (chain ++ c ∷ []) ≤ max_stepped → HasSpace (fronted chain links) c
unfolding fronted
space_for chain links c few short stepped =
    let counts = stepped_last chain c in
    record { chain = few; simples = short; stepped = omega (arith, counts, stepped) }

linked_is : (chain : List (List Simple)) (links : List Combinator) (c : List Simple) (link : Combinator)
    → with_link (with_compound (fronted chain links) c) link ≡ fronted (chain ++ c ∷ []) (links ++ link ∷ [])
unfolding fronted
linked_is chain links c link =
    ap (λ (n : ℕ). let s : SoFar = record { chain = chain ++ c ∷ []; links = links ++ link ∷ []; compound = []; pseudo = None; stepped = n } in s) (sym (stepped_last chain c))

front_read : (front : List Term) (chain : List (List Simple)) (links : List Combinator) → IsFront front chain links → ChainSpace chain → (x : Term) (xs : List Term)
    → combinator_of x.kind ≡ None → (h : Gap) → read_from nothing_yet gap.Nothing 0 (front ++ x ∷ xs) ≡ read_from (fronted chain links) h 0 (x ∷ xs)
unfolding fronted
front_read front chain links at_start space x xs no_link h = gap_free nothing_yet gap.Nothing h x xs refl refl
front_read front chain links (by_sign before rest y others earlier c link d compound signs) space x xs no_link h =
    let b = compound_begins rest c compound in
    let s = fronted others earlier in
    let now = with_compound s c in
    let less = space_before others c space in
    let longer = length-append others (c ∷ []) in
    ap (read_from nothing_yet gap.Nothing 0)
    (append_assoc (before ++ rest) (y ∷ []) (x ∷ xs) ∙ append_assoc before rest (y ∷ x ∷ xs) ∙ ap (λ zs. before ++ (zs ++ (y ∷ x ∷ xs))) b.is)
    ∙ front_read before others earlier d less b.first (b.later ++ (y ∷ x ∷ xs)) b.no_link gap.Nothing
    ∙ ap (λ zs. read_from s gap.Nothing 0 (zs ++ (y ∷ x ∷ xs))) (sym b.is)
    ∙ compound_read rest c compound s refl refl (space_for others earlier c less.few (all_last (λ e. length e ≤ max_simples) others c space.short) space.stepped) gap.Nothing (y ∷ x ∷ xs)
    ∙ passed now (with_link now link) (last_gap rest) y [] (x ∷ xs) 1
    (in_some now (last_gap rest) y (x ∷ xs) refl (some_simples rest c compound) ∙ ap (λ o. in_compound now o (last_gap rest) y (x ∷ xs)) signs) refl
    ∙ ap (λ t. read_from t y.gap 0 (x ∷ xs)) (linked_is others earlier c link)
    ∙ gap_free (fronted (others ++ c ∷ []) (earlier ++ link ∷ [])) y.gap h x xs refl refl
front_read front chain links (by_white before rest others earlier c d compound white) space x xs no_link h =
    let b = compound_begins rest c compound in
    let s = fronted others earlier in
    let now = with_compound s c in
    let less = space_before others c space in
    ap (read_from nothing_yet gap.Nothing 0) (append_assoc before rest (x ∷ xs) ∙ ap (λ zs. before ++ (zs ++ (x ∷ xs))) b.is)
    ∙ front_read before others earlier d less b.first (b.later ++ (x ∷ xs)) b.no_link gap.Nothing
    ∙ ap (λ zs. read_from s gap.Nothing 0 (zs ++ (x ∷ xs))) (sym b.is)
    ∙ compound_read rest c compound s refl refl (space_for others earlier c less.few (all_last (λ e. length e ≤ max_simples) others c space.short) space.stepped) gap.Nothing (x ∷ xs)
    ∙ white_links now (last_gap rest) h x xs refl (some_simples rest c compound) no_link white
    ∙ ap (λ t. read_from t h 0 (x ∷ xs)) (linked_is others earlier c Inside)

-- pseudo-elements
record ReadsElement (terms : List Term) (element : Pseudo) : Type 0 where
  first : Term
  later : List Term
  is : terms ≡ first ∷ later
  not_simple : begins_simple first later ≡ false
  colons : is_sign_of colon first.kind ≡ true
  begins : begins_compound first ≡ true
  no_type : begins_type first ≡ false
  no_link : combinator_of first.kind ≡ None
  reads : pseudo_element_at (right_behind first.gap later) ≡ Ok (element, length terms)

element_read : (terms : List Term) (element : Pseudo) → IsPseudoElement terms element → ReadsElement terms element
element_read terms element (one_colon sign x e colons touches names row) =
    let k = sign_is colon sign.kind colons in
    let i = ident_is x.kind names in
    let t = behind_is sign.gap (x ∷ []) touches in
    rw e (record {
      first = sign;
      later = x ∷ [];
      is = refl;
      not_simple = rw (k, t, i, row) refl;
      colons = colons;
      begins = rw k refl;
      no_type = rw k refl;
      no_link = rw k refl;
      reads = rw (t, i, row) refl;
    })
element_read terms element (two_colons first second x e colons touches colons' touches' names row) =
    let k = sign_is colon first.kind colons in
    let l = sign_is colon second.kind colons' in
    let i = ident_is x.kind names in
    let t = behind_is first.gap (second ∷ x ∷ []) touches in
    let u = behind_is second.gap (x ∷ []) touches' in
    rw e (record {
      first = first;
      later = second ∷ x ∷ [];
      is = refl;
      not_simple = rw (k, t, l) refl;
      colons = colons;
      begins = rw k refl;
      no_type = rw k refl;
      no_link = rw k refl;
      reads = rw (t, l, u, i, row) refl;
    })

element_goes : (s : SoFar) (terms : List Term) (element : Pseudo) (r : ReadsElement terms element) → go_on s r.first r.later ≡ Ok (with_element s element, length terms)
element_goes s terms element r = rw (r.not_simple, r.colons) (ap (and_element s) r.reads)

-- the end
finished : (s : SoFar) (c : List Simple) → 1 ≤ length c → finish s c ≡ Ok (record { chain = reverse (s.chain ++ c ∷ []); links = reverse s.links; pseudo = s.pseudo })
finished s [] some = absurd (omega arith)
finished s (c ∷ cs) some = refl

last_begins : (terms : List Term) (c : List Simple) (pseudo : Option Pseudo) → IsLast terms c pseudo → BeginsWith terms
last_begins terms c pseudo (plain_last compound p) = compound_begins terms c compound
last_begins terms c pseudo (behind front rest element e compound touches d p) =
    let b = compound_begins front c compound in
    record { first = b.first; later = b.later ++ rest; is = e ∙ ap (λ xs. xs ++ rest) b.is; no_link = b.no_link }
last_begins terms c pseudo (alone element d cs p) =
    let r = element_read terms element d in
    record { first = r.first; later = r.later; is = r.is; no_link = r.no_link }

last_read : (terms : List Term) (c : List Simple) (pseudo : Option Pseudo) → IsLast terms c pseudo → (s : SoFar) → s.compound ≡ [] → s.pseudo ≡ None → HasSpace s c
    → (g : Gap) → read_from s g 0 terms ≡ Ok (record { chain = reverse (s.chain ++ c ∷ []); links = reverse s.links; pseudo = pseudo })
last_read terms c pseudo (plain_last compound p) s none empty space g =
    ap (read_from s g 0) (sym (append-nil terms)) ∙ compound_read terms c compound s none empty space g []
    ∙ finished (with_compound s c) c (some_simples terms c compound)
    ∙ ap (λ o. let r : Result SelectorParts Reason = Ok (record { chain = reverse (s.chain ++ c ∷ []); links = reverse s.links; pseudo = o }) in r) (empty ∙ sym p)
last_read terms c pseudo (behind front rest element e compound touches d p) s none empty space g =
    let now = with_compound s c in
    let r = element_read rest element d in
    let some = some_simples front c compound in
    let kept = or_universal_some c some in
    ap (read_from s g 0) (e ∙ ap (λ xs. front ++ xs) r.is) ∙ compound_read front c compound s none empty space g (r.first ∷ r.later)
    ∙ ap (λ xs. read_from now (last_gap front) 0 (r.first ∷ xs)) (sym (append-nil r.later))
    ∙ passed now (with_element now element) (last_gap front) r.first r.later [] (length rest)
    (ap (λ xs. step now now.pseudo (last_gap front) r.first xs) (append-nil r.later)
    ∙ in_some now (last_gap front) r.first r.later empty some
    ∙ ap (λ o. in_compound now o (last_gap front) r.first r.later) r.no_link
    ∙ at_touch now (last_gap front) r.first r.later touches ∙ element_goes now rest element r)
    (ap (λ xs. length xs) r.is)
    ∙ ap (finish (with_element now element)) kept ∙ finished (with_element now element) c some
    ∙ ap (λ o. let x : Result SelectorParts Reason = Ok (record { chain = reverse (s.chain ++ c ∷ []); links = reverse s.links; pseudo = o }) in x) (sym p)
last_read terms c pseudo (alone element d cs p) s none empty space g =
    let r = element_read terms element d in
    let any = ap or_universal none in
    let here : begin s r.first r.later ≡ Ok (with_element s element, length terms) =
    rw (r.begins, not_full (length s.chain) max_compounds space.chain, r.no_type) (element_goes s terms element r) in
    ap (read_from s g 0) r.is ∙ ap (λ xs. read_from s g 0 (r.first ∷ xs)) (sym (append-nil r.later))
    ∙ passed s (with_element s element) g r.first r.later [] (length terms)
    (ap (λ xs. step s s.pseudo g r.first xs) (append-nil r.later) ∙ entered s g r.first r.later empty none ∙ here) (ap (λ xs. length xs) r.is)
    ∙ ap (finish (with_element s element)) any
    ∙ ap₂ (λ x o. let y : Result SelectorParts Reason = Ok (record { chain = reverse (s.chain ++ x ∷ []); links = reverse s.links; pseudo = o }) in y) (sym cs) (sym p)

pub read : (terms : List Term) (selector : SelectorParts) → IsSelector terms selector → KeepsLimits selector → selector_of_terms terms ≡ Ok selector
unfolding fronted
read terms selector d keeps =
    let whole = d.compounds ++ d.simples ∷ [] in
    let chain : selector.chain ≡ reverse whole = ap (λ (s : SelectorParts). s.chain) d.is in
    let turned : length (reverse whole) ≡ length whole = length-reverse whole in
    let longer = length-append d.compounds (d.simples ∷ []) in
    let lengths : length selector.chain ≡ length (reverse whole) = ap (λ xs. length xs) chain in
    let room : length d.compounds < max_compounds = omega (arith, lengths, turned, longer, keeps.few) in
    let compounds : AllByRecursion KeepsCompound whole =
    subst (AllByRecursion KeepsCompound) (reverse-reverse whole) (all_reverse KeepsCompound (reverse whole) (subst (AllByRecursion KeepsCompound) chain keeps.compounds)) in
    let counted : stepped_in_chain selector.chain ≡ stepped_in_chain whole = ap stepped_in_chain chain ∙ sum_reverse stepped_in whole in
    let stepped : stepped_in_chain whole ≤ max_stepped = omega (arith, counted, keeps.stepped) in
    let counts = stepped_last d.compounds d.simples in
    let short = shorten whole compounds in
    let space : ChainSpace d.compounds = record { few = room; short = all_front (λ c. length c ≤ max_simples) d.compounds (d.simples ∷ []) short; stepped = omega (arith, counts, stepped) } in
    let b = last_begins d.rest d.simples d.pseudo d.last in
    ap selector_of_terms (d.parts ∙ ap (λ xs. d.front ++ xs) b.is)
    ∙ front_read d.front d.compounds d.links d.before space b.first b.later b.no_link gap.Nothing
    ∙ ap (read_from (fronted d.compounds d.links) gap.Nothing 0) (sym b.is)
    ∙ last_read d.rest d.simples d.pseudo d.last (fronted d.compounds d.links) refl refl
    (space_for d.compounds d.links d.simples room (all_last (λ c. length c ≤ max_simples) d.compounds d.simples short) stepped) gap.Nothing
    ∙ ap (λ s. let r : Result SelectorParts Reason = Ok s in r) (sym d.is)
  where
    shorten : (xs : List (List Simple)) → AllByRecursion KeepsCompound xs → AllByRecursion (λ c. length c ≤ max_simples) xs
    shorten [] all = tt
    shorten (x ∷ xs) all = (all.0.few, shorten xs all.1)
