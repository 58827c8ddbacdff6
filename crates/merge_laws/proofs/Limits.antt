-- A sheet that is read keeps the limits.
use Rattle.std.proofs.Common.{◌≡◌, inl, inr, ℕ, ◌+◌, ◌≤◌, Bool, true, false, cond, List, [], ◌∷◌, length, Option, Some, None, option_map, filter, slice_get, Ok, Err, nat_lt, refl, sym, ◌∙◌, subst, arith}
use Rattle.std.specs.Str.Lossy.{utf8_valid_len}
use Rattle.std.proofs.lemmas.Option.{slice_get_cases}
use Rattle.css_model.specs.declared.fault.FaultKind.TheVariants.{TooLong, NotUtf8, EndInside, TooDeep, Namespace, TooManyItems, TooManyPairs}
use Rattle.css_model.specs.declared.fault.SheetFault.{SheetFault}
use Rattle.css_model.specs.declared.limits.TheConstants.{MAX_BYTES, MAX_ITEMS, MAX_PAIRS}
use Rattle.css_model.specs.declared.sheet.Item.{Item}
use Rattle.css_model.specs.declared.token.Token.{Token}
use Rattle.css_model.specs.declared.token.TokenFault.{TokenFault}
use Rattle.css_model.specs.Sheets.Items.{items, is_whole}
use Rattle.css_model.specs.Text.Lexemes.{lexemes}
use Rattle.css_model.specs.Sheets.Sheet.{read_items, too_deep, unclosed, namespace_at, pairs_of, start_of, too_many_items, too_many_pairs, sheet_of_stream, sheet_of}
use Rattle.css_model.specs.Sheets.Fault.{fault_of, unless}
use Rattle.css_model.specs.Text.Tokens.{tokens}
use Rattle.css_model.specs.Sheets.ComesFrom.{pair_count}

-- none of the faults is there where something is read
without_faults : (a b c d e : Option SheetFault) (x y : List Item) → unless (a ∷ b ∷ c ∷ d ∷ e ∷ []) x ≡ Ok y → (d ≡ None) × (e ≡ None) × (x ≡ y)
without_faults None None None None None x y is = (refl, refl, cc)
without_faults None None None None (Some f) x y is = absurd cc
without_faults None None None (Some f) e x y is = absurd cc
without_faults None None (Some f) d e x y is = absurd cc
without_faults None (Some f) c d e x y is = absurd cc
without_faults (Some f) b c d e x y is = absurd cc

no_place : {A B : Type 0} → (f : A → B) (o : Option A) → option_map f o ≡ None → o ≡ None
no_place f None is = refl
no_place f (Some x) is = absurd cc

few_items : (items : List Item) → too_many_items items ≡ None → length items ≤ MAX_ITEMS
few_items items is = elim (slice_get_cases items MAX_ITEMS).1 [
  | inl within ↦ absurd (let some : Some within.0 ≡ None = sym within.2 ∙ no_place start_of (slice_get items MAX_ITEMS) is in cc)
  | inr past ↦ past.0
]

few_pairs : (n : ℕ) (items : List Item) → n ≤ MAX_PAIRS → too_many_pairs n items ≡ None → n + pair_count items ≤ MAX_PAIRS
few_pairs n [] within is = omega (arith, within)
few_pairs n (item ∷ items) within is = by_sum (nat_lt MAX_PAIRS (n + pairs_of item)) refl is (few_pairs (n + pairs_of item) items)
  where
    by_sum : (many : Bool) → nat_lt MAX_PAIRS (n + pairs_of item) ≡ many → cond many (Some (start_of item)) (too_many_pairs (n + pairs_of item) items) ≡ None
        → (n + pairs_of item ≤ MAX_PAIRS → too_many_pairs (n + pairs_of item) items ≡ None → (n + pairs_of item) + pair_count items ≤ MAX_PAIRS) → n + (pairs_of item + pair_count items) ≤ MAX_PAIRS
    by_sum true test found rest = absurd cc
    by_sum false test none rest = let few : n + pairs_of item ≤ MAX_PAIRS = grind (arith, test) in omega (arith, rest few none)

not_longer : (limit n : ℕ) → nat_lt limit n ≡ false → n ≤ limit
not_longer limit n test = grind (arith, test)

stream_limits : (source : List ℕ) (fault : Option TokenFault) (ts : List Token) (read : List Item) → sheet_of_stream source fault ts ≡ Ok read → (length read ≤ MAX_ITEMS) × (pair_count read ≤ MAX_PAIRS)
stream_limits source (Some f) ts read is = absurd cc
stream_limits source None ts read is =
    let raw = filter is_whole (items (lexemes ts)) in
    let whole = read_items source raw in
    let none = without_faults (fault_of TooDeep (too_deep (lexemes ts))) (fault_of EndInside (unclosed ts)) (fault_of Namespace (namespace_at source raw))
    (fault_of TooManyItems (too_many_items whole)) (fault_of TooManyPairs (too_many_pairs 0 whole)) whole read is in
    let counted : too_many_items whole ≡ None = no_place _ (too_many_items whole) none.0 in
    let paired : too_many_pairs 0 whole ≡ None = no_place _ (too_many_pairs 0 whole) none.1 in
    let sum = few_pairs 0 whole (omega arith) paired in
    let few : pair_count whole ≤ MAX_PAIRS = omega (arith, sum) in
    subst (λ (xs : List Item). (length xs ≤ MAX_ITEMS) × (pair_count xs ≤ MAX_PAIRS)) none.2 (few_items whole counted, few)

pub within_limits : (source : List ℕ) (items : List Item) → sheet_of source ≡ Ok items → (length source ≤ MAX_BYTES) × (length items ≤ MAX_ITEMS) × (pair_count items ≤ MAX_PAIRS)
within_limits source read is = by_length (nat_lt MAX_BYTES (length source)) refl is
  where
    by_code : (broken : Bool) → cond broken (Err (record { kind = NotUtf8; at = utf8_valid_len source })) (sheet_of_stream source (tokens source true).fault (tokens source true).tokens) ≡ Ok read → (length read ≤ MAX_ITEMS) × (pair_count read ≤ MAX_PAIRS)
    by_code true same = absurd cc
    by_code false same = stream_limits source (tokens source true).fault (tokens source true).tokens read same

    by_length : (long : Bool) → nat_lt MAX_BYTES (length source) ≡ long
        → cond long (Err (record { kind = TooLong; at = MAX_BYTES })) (cond (nat_lt (utf8_valid_len source) (length source)) (Err (record { kind = NotUtf8; at = utf8_valid_len source })) (sheet_of_stream source (tokens source true).fault (tokens source true).tokens)) ≡ Ok read
        → (length source ≤ MAX_BYTES) × (length read ≤ MAX_ITEMS) × (pair_count read ≤ MAX_PAIRS)
    by_length true test same = absurd cc
    by_length false test same = let few = by_code (nat_lt (utf8_valid_len source) (length source)) same in (not_longer MAX_BYTES (length source) test, few.0, few.1)
