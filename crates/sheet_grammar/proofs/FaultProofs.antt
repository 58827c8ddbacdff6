-- A source has a fault exactly if it has that by the grammar.
use Rattle.std.proofs.Common.{ℕ, zero, suc, ◌+◌, ◌<◌, ◌≤◌, ◌≡◌, Bool, true, false, cond, ltb, List, [], ◌∷◌, ◌++◌, Result, Err, Option, Some, None, length, refl, sym, ap, ◌∙◌, subst, arith}
use Rattle.std.specs.Prelude.{slice_get}
use Rattle.std.specs.List.{filter, find, list_any}
use Rattle.std.specs.Option.{option_map}
use Rattle.std.specs.Str.{IsUtf8}
use Rattle.std.specs.Str.Lossy.{utf8_valid_len}
use Rattle.std.proofs.lemmas.Bool.{le-ltb, lt-ltb, ltb-false, ltb-true, or_from, or_parts}
use Rattle.std.proofs.lemmas.Str.{utf8_valid_len-IsUtf8, utf8_valid_len_le}
use Rattle.css_model.specs.declared.fault.FaultKind.{FaultKind}
use Rattle.css_model.specs.declared.fault.FaultKind.TheVariants as fault_kind
use Rattle.css_model.specs.declared.fault.SheetFault.{SheetFault}
use Rattle.css_model.specs.declared.sheet.Item.{Item}
use Rattle.css_model.specs.declared.token.Lexeme.{Lexeme}
use Rattle.css_model.specs.declared.token.Token.{Token}
use Rattle.css_model.specs.declared.token.TokenFault.{TokenFault}
use Rattle.css_model.specs.Sheets.Items.{is_whole, items}
use Rattle.css_model.specs.Sheets.Limits.{max_bytes, max_items, max_pairs}
use Rattle.css_model.specs.Sheets.Sheet.{is_namespace, namespace_at, pairs_of, read_items, sheet_of, sheet_of_stream, sheet_of_tokens, start_of, token_fault, too_deep, too_many_items, too_many_pairs, unclosed}
use Rattle.css_model.specs.Text.Lexemes.{lexemes, piece_of}
use Rattle.css_model.specs.Text.Tokens.{Stream, tokens}
use Rattle.css_tokens.proofs.ForCallers.{not_utf8_longer, whole_is_utf8}
use Rattle.selector_laws.specs.Grammar.{SelectorsAreReadExactly}
use Rattle.token_grammar.proofs.ForCallers.{tokens_are_those_of_the_grammar}
use Rattle.sheet_grammar.specs.Faults.{IsFault, IsFaultOfTokens, IsFirst}
use Rattle.sheet_grammar.specs.Faults.IsFault.{too_long, not_utf8, in_token, of_tokens}
use Rattle.sheet_grammar.specs.Faults.IsFaultOfTokens.{too_deep as is_too_deep, end_inside, namespace, too_many_items as has_too_many_items, too_many_pairs as has_too_many_pairs}
use Rattle.sheet_grammar.specs.Faults.IsFirst.{first}
use Rattle.sheet_grammar.specs.Items.{AreItems}
use Rattle.sheet_grammar.specs.Laws.{FaultsAreThoseOfTheGrammar}
use Rattle.sheet_grammar.specs.Sheet.{AreRead, is_deep}
use Rattle.sheet_grammar.specs.Values.{AreOpened}
use Rattle.sheet_grammar.proofs.ItemProofs.{items_are_those_of_the_grammar}
use Rattle.sheet_grammar.proofs.SheetProofs.{find_none, get_past, items_are_read, items_read_as, judged, map_none, none_found, pairs_from, pairs_more, past_get, short_or, utf8_or}
use Rattle.sheet_grammar.proofs.StackProofs.{brackets_match, opened_values}

-- a fault at a place
abbrev made : FaultKind → ℕ → SheetFault
made k n = record { kind = k; at = n }

-- ---- the first that passes

found_first : {A : Type 0} (p : A → Bool) (xs : List A) (x : A) → IsFirst p xs x → find p xs ≡ Some x
found_first p xs x (first before after e none is) = ap (find p) e ∙ go p before after x none is
  where
    go : {A : Type 0} (p : A → Bool) (before after : List A) (x : A) → list_any p before ≡ false → p x ≡ true → find p (before ++ x ∷ after) ≡ Some x
    go p [] after x none is = ap (λ (b : Bool). cond b (Some x) (find p after)) is
    go p (y ∷ ys) after x none is =
        let two = or_parts (p y) (list_any p ys) none in
        ap (λ (b : Bool). cond b (Some y) (find p (ys ++ x ∷ after))) two.0 ∙ go p ys after x two.1 is

first_found : {A : Type 0} (p : A → Bool) (xs : List A) (x : A) → find p xs ≡ Some x → IsFirst p xs x
first_found {A = A} p [] x e = absurd (cc (e))
first_found {A = A} p (y ∷ ys) x e = by (p y) refl (λ (e : find p ys ≡ Some x). first_found p ys x e)
  where
    later_first : p y ≡ false → IsFirst p ys x → IsFirst p (y ∷ ys) x
    later_first none (first before after joined apart is) =
        first (y ∷ before) after (ap (λ (t : List A). y ∷ t) joined) (or_from (p y) (list_any p before) none apart) is

    by : (b : Bool) → p y ≡ b → (find p ys ≡ Some x → IsFirst p ys x) → IsFirst p (y ∷ ys) x
    by true is later =
        let somes = sym (ap (λ (b : Bool). cond b (Some y) (find p ys)) is) ∙ e in
        let same : y ≡ x = cc (somes) in
        subst (IsFirst p (y ∷ ys)) same (first [] ys refl refl is)
    by false none later = later_first none (later (sym (ap (λ (b : Bool). cond b (Some y) (find p ys)) none) ∙ e))

map_some : {A B : Type 0} (f : A → B) (o : Option A) (y : B) → option_map f o ≡ Some y → (x : A) × (o ≡ Some x) × (f x ≡ y)
map_some f None y e = absurd (cc (e))
map_some f (Some x) y e = let same : f x ≡ y = cc (e) in (x, refl, same)

-- ---- numbers of items and of pairs

get_at : {A : Type 0} (before after : List A) (x : A) (n : ℕ) → length before ≡ n → slice_get (before ++ x ∷ after) n ≡ Some x
get_at [] after x zero size = refl
get_at [] after x (suc n) size = absurd (omega (arith, size))
get_at (y ∷ ys) after x zero size = absurd (omega (arith, size))
get_at (y ∷ ys) after x (suc n) size = get_at ys after x n (omega (arith, size))

record At {A : Type 0} (xs : List A) (n : ℕ) (x : A) : Type 0 where
  before : List A
  after : List A
  joined : xs ≡ before ++ x ∷ after
  size : length before ≡ n

at_get : {A : Type 0} (xs : List A) (n : ℕ) (x : A) → slice_get xs n ≡ Some x → At xs n x
at_get {A = A} [] n x e = absurd (cc (e))
at_get {A = A} (y ∷ ys) zero x e =
    let same : y ≡ x = cc (e) in
    record { before = []; after = ys; joined = ap (λ (y : A). y ∷ ys) same; size = refl }
at_get {A = A} (y ∷ ys) (suc n) x e =
    let a = at_get ys n x e in
    record { before = y ∷ a.before; after = a.after; joined = ap (λ (t : List A). y ∷ t) a.joined; size = ap suc a.size }

many_pairs : (n : ℕ) (before after : List Item) (x : Item) → pairs_from n before ≤ max_pairs → max_pairs < pairs_from n before + pairs_of x
    → too_many_pairs n (before ++ x ∷ after) ≡ Some (start_of x)
many_pairs n [] after x few many =
    ap (λ (b : Bool). cond b (Some (start_of x)) (too_many_pairs (n + pairs_of x) after)) (lt-ltb max_pairs (n + pairs_of x) many)
many_pairs n (y ∷ ys) after x few many =
    let test : ltb max_pairs (n + pairs_of y) ≡ false = le-ltb max_pairs (n + pairs_of y) (omega (arith, few, pairs_more (n + pairs_of y) ys)) in
    ap (λ (b : Bool). cond b (Some (start_of y)) (too_many_pairs (n + pairs_of y) (ys ++ x ∷ after))) test ∙ many_pairs (n + pairs_of y) ys after x few many

record ManyPairs (n : ℕ) (xs : List Item) (at : ℕ) : Type 0 where
  before : List Item
  after : List Item
  item : Item
  joined : xs ≡ before ++ item ∷ after
  few : pairs_from n before ≤ max_pairs
  many : max_pairs < pairs_from n before + pairs_of item
  place : start_of item ≡ at

pairs_many : (n : ℕ) (xs : List Item) (at : ℕ) → n ≤ max_pairs → too_many_pairs n xs ≡ Some at → ManyPairs n xs at
pairs_many n [] at le e = absurd (cc (e))
pairs_many n (x ∷ xs) at le e = by (ltb max_pairs (n + pairs_of x)) refl (λ (le : n + pairs_of x ≤ max_pairs) (e : too_many_pairs (n + pairs_of x) xs ≡ Some at). pairs_many (n + pairs_of x) xs at le e)
  where
    by : (b : Bool) → ltb max_pairs (n + pairs_of x) ≡ b → (n + pairs_of x ≤ max_pairs → too_many_pairs (n + pairs_of x) xs ≡ Some at → ManyPairs (n + pairs_of x) xs at)
        → ManyPairs n (x ∷ xs) at
    by true is later =
        let somes = sym (ap (λ (b : Bool). cond b (Some (start_of x)) (too_many_pairs (n + pairs_of x) xs)) is) ∙ e in
        let place : start_of x ≡ at = cc (somes) in
        record { before = []; after = xs; item = x; joined = refl; few = le; many = ltb-true max_pairs (n + pairs_of x) is; place = place }
    by false is later =
        let m = later (ltb-false max_pairs (n + pairs_of x) is) (sym (ap (λ (b : Bool). cond b (Some (start_of x)) (too_many_pairs (n + pairs_of x) xs)) is) ∙ e) in
        record { before = x ∷ m.before; after = m.after; item = m.item; joined = ap (λ (t : List Item). x ∷ t) m.joined; few = m.few; many = m.many; place = m.place }

-- ---- what the grammar takes for a fault is read as one

judged_same : (a b c d e a' b' c' d' e' : Option ℕ) (read : List Item) → a ≡ a' → b ≡ b' → c ≡ c' → d ≡ d' → e ≡ e' → judged a b c d e read ≡ judged a' b' c' d' e' read
judged_same a b c d e a' b' c' d' e' read p q r s t =
    ap (λ (o : Option ℕ). judged o b c d e read) p
    ∙ (ap (λ (o : Option ℕ). judged a' o c d e read) q
    ∙ (ap (λ (o : Option ℕ). judged a' b' o d e read) r
    ∙ (ap (λ (o : Option ℕ). judged a' b' c' o e read) s ∙ ap (λ (o : Option ℕ). judged a' b' c' d' o read) t)))

module _ (exact : SelectorsAreReadExactly) (source : List ℕ) (ts : List Token) where
  -- the tests of tokens
  abbrev judged_here : Result (List Item) SheetFault
  judged_here =
      judged (too_deep (lexemes ts)) (unclosed ts) (namespace_at source (filter is_whole (items (lexemes ts)))) (too_many_items (read_items source (filter is_whole (items (lexemes ts)))))
      (too_many_pairs 0 (read_items source (filter is_whole (items (lexemes ts))))) (read_items source (filter is_whole (items (lexemes ts))))

  here_is : (a b c d e : Option ℕ) → too_deep (lexemes ts) ≡ a → unclosed ts ≡ b → namespace_at source (filter is_whole (items (lexemes ts))) ≡ c
      → too_many_items (read_items source (filter is_whole (items (lexemes ts)))) ≡ d → too_many_pairs 0 (read_items source (filter is_whole (items (lexemes ts)))) ≡ e
      → judged_here ≡ judged a b c d e (read_items source (filter is_whole (items (lexemes ts))))
  here_is a b c d e p q r s t =
      judged_same (too_deep (lexemes ts)) (unclosed ts) (namespace_at source (filter is_whole (items (lexemes ts)))) (too_many_items (read_items source (filter is_whole (items (lexemes ts)))))
      (too_many_pairs 0 (read_items source (filter is_whole (items (lexemes ts))))) a b c d e (read_items source (filter is_whole (items (lexemes ts)))) p q r s t

  -- what is known where no bracket is too deep, and none is left open
  shallow_none : (xs : List Lexeme) → lexemes ts ≡ xs → list_any is_deep xs ≡ false → too_deep (lexemes ts) ≡ None
  shallow_none xs same none = ap too_deep same ∙ ap (option_map (λ (x : Lexeme). x.span.start)) (find_none is_deep xs none)

  raw_is : (xs : List Lexeme) (left : Option ℕ) (found : List (List Lexeme)) → lexemes ts ≡ xs → AreOpened None 0 left xs → left ≡ None → AreItems xs found
      → filter is_whole (items (lexemes ts)) ≡ found
  raw_is xs left found same opened none are =
      ap (λ (t : List Lexeme). filter is_whole (items t)) same ∙ (items_are_those_of_the_grammar xs found (opened_values None 0 left xs opened none)).0 are

  tokens_judged : (xs : List Lexeme) (left : Option ℕ) (f : SheetFault) → lexemes ts ≡ xs → unclosed ts ≡ left → AreOpened None 0 left xs → IsFaultOfTokens source xs left f
      → judged_here ≡ Err f
  tokens_judged xs left f same open_is opened (is_too_deep x is) =
      here_is (Some x.span.start) (unclosed ts) (namespace_at source (filter is_whole (items (lexemes ts)))) (too_many_items (read_items source (filter is_whole (items (lexemes ts)))))
      (too_many_pairs 0 (read_items source (filter is_whole (items (lexemes ts)))))
      (ap too_deep same ∙ ap (option_map (λ (x : Lexeme). x.span.start)) (found_first is_deep xs x is)) refl refl refl refl
  tokens_judged xs left f same open_is opened (end_inside at none e) =
      here_is None (Some at) (namespace_at source (filter is_whole (items (lexemes ts)))) (too_many_items (read_items source (filter is_whole (items (lexemes ts)))))
      (too_many_pairs 0 (read_items source (filter is_whole (items (lexemes ts))))) (shallow_none xs same none) (open_is ∙ e) refl refl refl
  tokens_judged xs left f same open_is opened (namespace found item none e are is) =
      here_is None None (Some (piece_of item).start) (too_many_items (read_items source (filter is_whole (items (lexemes ts)))))
      (too_many_pairs 0 (read_items source (filter is_whole (items (lexemes ts))))) (shallow_none xs same none) (open_is ∙ e)
      (ap (namespace_at source) (raw_is xs left found same opened e are)
      ∙ ap (option_map (λ (item : List Lexeme). (piece_of item).start)) (found_first (is_namespace source) found item is)) refl refl
  tokens_judged xs left f same open_is opened (has_too_many_items found before after x none e are apart are_read size) =
      let read : read_items source (filter is_whole (items (lexemes ts))) ≡ before ++ x ∷ after =
      ap (read_items source) (raw_is xs left found same opened e are) ∙ items_read_as exact source found (before ++ x ∷ after) are_read in
      here_is None None None (Some (start_of x)) (too_many_pairs 0 (read_items source (filter is_whole (items (lexemes ts))))) (shallow_none xs same none) (open_is ∙ e)
      (ap (namespace_at source) (raw_is xs left found same opened e are) ∙ ap (option_map (λ (item : List Lexeme). (piece_of item).start)) (find_none (is_namespace source) found apart))
      (ap too_many_items read ∙ ap (option_map start_of) (get_at before after x max_items size)) refl
  tokens_judged xs left f same open_is opened (has_too_many_pairs found before after x none e are apart are_read short few many) =
      let read : read_items source (filter is_whole (items (lexemes ts))) ≡ before ++ x ∷ after =
      ap (read_items source) (raw_is xs left found same opened e are) ∙ items_read_as exact source found (before ++ x ∷ after) are_read in
      here_is None None None None (Some (start_of x)) (shallow_none xs same none) (open_is ∙ e)
      (ap (namespace_at source) (raw_is xs left found same opened e are) ∙ ap (option_map (λ (item : List Lexeme). (piece_of item).start)) (find_none (is_namespace source) found apart))
      (ap too_many_items read ∙ ap (option_map start_of) (get_past (before ++ x ∷ after) max_items short)) (ap (too_many_pairs 0) read ∙ many_pairs 0 before after x few many)

  -- ---- and what is read as a fault is one

  abbrev Faulty : SheetFault → Type 0
  Faulty f = IsFaultOfTokens source (lexemes ts) (unclosed ts) f

  -- no item is left out
  raw_items : unclosed ts ≡ None → AreItems (lexemes ts) (filter is_whole (items (lexemes ts)))
  raw_items none =
      let both = (brackets_match ts (lexemes ts) (unclosed ts)).1 (refl, refl) in
      (items_are_those_of_the_grammar (lexemes ts) (filter is_whole (items (lexemes ts))) (opened_values None 0 (unclosed ts) (lexemes ts) both.1 none)).1 refl

  no_deep : too_deep (lexemes ts) ≡ None → list_any is_deep (lexemes ts) ≡ false
  no_deep e = none_found is_deep (lexemes ts) (map_none (λ (x : Lexeme). x.span.start) (find is_deep (lexemes ts)) e)

  no_namespace : namespace_at source (filter is_whole (items (lexemes ts))) ≡ None → list_any (is_namespace source) (filter is_whole (items (lexemes ts))) ≡ false
  no_namespace e =
      none_found (is_namespace source) (filter is_whole (items (lexemes ts)))
      (map_none (λ (item : List Lexeme). (piece_of item).start) (find (is_namespace source) (filter is_whole (items (lexemes ts)))) e)

  -- the fault at a place
  placed : (k : FaultKind) (n m : ℕ) → n ≡ m → Faulty (made k n) → (f : SheetFault) → made k m ≡ f → Faulty f
  placed k n m same is f e = subst Faulty (ap (λ (at : ℕ). made k at) same ∙ e) is

  judged_fault : (a b c d e : Option ℕ) → too_deep (lexemes ts) ≡ a → unclosed ts ≡ b → namespace_at source (filter is_whole (items (lexemes ts))) ≡ c
      → too_many_items (read_items source (filter is_whole (items (lexemes ts)))) ≡ d → too_many_pairs 0 (read_items source (filter is_whole (items (lexemes ts)))) ≡ e
      → (f : SheetFault) → judged a b c d e (read_items source (filter is_whole (items (lexemes ts)))) ≡ Err f → Faulty f
  judged_fault (Some n) b c d e p q r s t f h =
      let same : made fault_kind.TooDeep n ≡ f = cc (h) in
      let m = map_some (λ (x : Lexeme). x.span.start) (find is_deep (lexemes ts)) n p in
      placed fault_kind.TooDeep m.0.span.start n m.2 (is_too_deep m.0 (first_found is_deep (lexemes ts) m.0 m.1)) f same
  judged_fault None (Some n) c d e p q r s t f h =
      let same : made fault_kind.EndInside n ≡ f = cc (h) in
      placed fault_kind.EndInside n n refl (end_inside n (no_deep p) q) f same
  judged_fault None None (Some n) d e p q r s t f h =
      let same : made fault_kind.Namespace n ≡ f = cc (h) in
      let m = map_some (λ (item : List Lexeme). (piece_of item).start) (find (is_namespace source) (filter is_whole (items (lexemes ts)))) n r in
      placed fault_kind.Namespace (piece_of m.0).start n m.2
      (namespace (filter is_whole (items (lexemes ts))) m.0 (no_deep p) q (raw_items q) (first_found (is_namespace source) (filter is_whole (items (lexemes ts))) m.0 m.1)) f same
  judged_fault None None None (Some n) e p q r s t f h =
      let same : made fault_kind.TooManyItems n ≡ f = cc (h) in
      let m = map_some start_of (slice_get (read_items source (filter is_whole (items (lexemes ts)))) max_items) n s in
      let a = at_get (read_items source (filter is_whole (items (lexemes ts)))) max_items m.0 m.1 in
      let read = subst (AreRead source (filter is_whole (items (lexemes ts)))) a.joined (items_are_read exact source (lexemes ts) (filter is_whole (items (lexemes ts))) (raw_items q)) in
      placed fault_kind.TooManyItems (start_of m.0) n m.2
      (has_too_many_items (filter is_whole (items (lexemes ts))) a.before a.after m.0 (no_deep p) q (raw_items q) (no_namespace r) read a.size) f same
  judged_fault None None None None (Some n) p q r s t f h =
      let same : made fault_kind.TooManyPairs n ≡ f = cc (h) in
      let m = pairs_many 0 (read_items source (filter is_whole (items (lexemes ts)))) n (omega arith) t in
      let read = subst (AreRead source (filter is_whole (items (lexemes ts)))) m.joined (items_are_read exact source (lexemes ts) (filter is_whole (items (lexemes ts))) (raw_items q)) in
      let short = past_get (read_items source (filter is_whole (items (lexemes ts)))) max_items (map_none start_of (slice_get (read_items source (filter is_whole (items (lexemes ts)))) max_items) s) in
      placed fault_kind.TooManyPairs (start_of m.item) n m.place
      (has_too_many_pairs (filter is_whole (items (lexemes ts))) m.before m.after m.item (no_deep p) q (raw_items q) (no_namespace r) read
      (subst (λ (t : List Item). length t ≤ max_items) m.joined short) m.few m.many) f same
  judged_fault None None None None None p q r s t f h = absurd (cc (h))

-- ---- sources

fault_read : SelectorsAreReadExactly → (source : List ℕ) (f : SheetFault) → IsFault source f → sheet_of source ≡ Err f
fault_read exact source f (too_long long) =
    ap
    (λ (b : Bool). cond b (Err (made fault_kind.TooLong max_bytes))
    (cond (ltb (utf8_valid_len source) (length source)) (Err (made fault_kind.NotUtf8 (utf8_valid_len source)))
    (sheet_of_stream source (tokens source true).fault (tokens source true).tokens)))
    (lt-ltb max_bytes (length source) long)
fault_read exact source f (not_utf8 short invalid) =
    short_or source _ _ short
    ∙ ap
    (λ (b : Bool). cond b (Err (made fault_kind.NotUtf8 (utf8_valid_len source))) (sheet_of_stream source (tokens source true).fault (tokens source true).tokens))
    (lt-ltb (utf8_valid_len source) (length source) (not_utf8_longer source invalid))
fault_read exact source f (in_token ts g short utf8 are) =
    short_or source _ _ short
    ∙ (utf8_or source _ _ utf8 ∙ ap (λ (t : Stream). sheet_of_stream source t.fault t.tokens) ((tokens_are_those_of_the_grammar source true ts (Some g)).0 are))
fault_read exact source f (of_tokens ts xs left g short utf8 are lexed opened fault) =
    let two = (brackets_match ts xs left).0 (lexed, opened) in
    short_or source _ _ short
    ∙ (utf8_or source _ _ utf8
    ∙ (ap (λ (t : Stream). sheet_of_stream source t.fault t.tokens) ((tokens_are_those_of_the_grammar source true ts None).0 are) ∙ tokens_judged exact source ts xs left g two.0 two.1 opened fault))

fault_is : SelectorsAreReadExactly → (source : List ℕ) (f : SheetFault) → sheet_of source ≡ Err f → IsFault source f
fault_is exact source f h = by (ltb max_bytes (length source)) refl (ltb (utf8_valid_len source) (length source)) refl h
  where
    with_tokens : length source ≤ max_bytes → IsUtf8 source → (ts : List Token) → tokens source true ≡ record { tokens = ts; fault = None } → sheet_of_tokens source ts ≡ Err f → IsFault source f
    with_tokens short utf8 ts stream e =
        let both = (brackets_match ts (lexemes ts) (unclosed ts)).1 (refl, refl) in
        of_tokens ts (lexemes ts) (unclosed ts) f short utf8 ((tokens_are_those_of_the_grammar source true ts None).1 stream) both.0 both.1
        (judged_fault exact source ts (too_deep (lexemes ts)) (unclosed ts) (namespace_at source (filter is_whole (items (lexemes ts))))
        (too_many_items (read_items source (filter is_whole (items (lexemes ts))))) (too_many_pairs 0 (read_items source (filter is_whole (items (lexemes ts))))) refl refl refl refl refl f e)

    with_stream : length source ≤ max_bytes → IsUtf8 source → (g : Option TokenFault) → (tokens source true).fault ≡ g → sheet_of_stream source g (tokens source true).tokens ≡ Err f → IsFault source f
    with_stream short utf8 (Some g) is e =
        let same : token_fault g ≡ f = cc (e) in
        let stream : tokens source true ≡ record { tokens = (tokens source true).tokens; fault = Some g } =
        ap (λ (o : Option TokenFault). let s : Stream = record { tokens = (tokens source true).tokens; fault = o } in s) is in
        subst (IsFault source) same (in_token (tokens source true).tokens g short utf8 ((tokens_are_those_of_the_grammar source true (tokens source true).tokens (Some g)).1 stream))
    with_stream short utf8 None is e =
        let stream : tokens source true ≡ record { tokens = (tokens source true).tokens; fault = None } =
        ap (λ (o : Option TokenFault). let s : Stream = record { tokens = (tokens source true).tokens; fault = o } in s) is in
        with_tokens short utf8 (tokens source true).tokens stream e

    by : (a : Bool) → ltb max_bytes (length source) ≡ a → (b : Bool) → ltb (utf8_valid_len source) (length source) ≡ b
        → cond a (Err (made fault_kind.TooLong max_bytes)) (cond b (Err (made fault_kind.NotUtf8 (utf8_valid_len source)))
        (sheet_of_stream source (tokens source true).fault (tokens source true).tokens)) ≡ Err f
        → IsFault source f
    by true a b is h =
        let same : made fault_kind.TooLong max_bytes ≡ f = cc (h) in
        subst (IsFault source) same (too_long (ltb-true max_bytes (length source) a))
    by false a true is h =
        let same : made fault_kind.NotUtf8 (utf8_valid_len source) ≡ f = cc (h) in
        let less = ltb-true (utf8_valid_len source) (length source) is in
        subst (IsFault source) same (not_utf8 (ltb-false max_bytes (length source) a) (λ utf8. omega (arith, less, utf8_valid_len-IsUtf8 source utf8)))
    by false a false is h =
        let size : utf8_valid_len source ≡ length source = omega (arith, ltb-false (utf8_valid_len source) (length source) is, utf8_valid_len_le source) in
        with_stream (ltb-false max_bytes (length source) a) (whole_is_utf8 source size) (tokens source true).fault refl h

pub faults_are_those_of_the_grammar : SelectorsAreReadExactly → FaultsAreThoseOfTheGrammar
faults_are_those_of_the_grammar exact source f = (λ is. fault_read exact source f is, λ e. fault_is exact source f e)
