-- The items of balanced tokens are those of the grammar.
use Rattle.std.proofs.Common.{ℕ, zero, suc, ◌+◌, ◌<◌, ◌≤◌, ◌≡◌, ◌⊎◌, inl, inr, Bool, true, false, cond, ◌&&◌, ◌==◌, List, [], ◌∷◌, ◌++◌, Option, Some, None, length, refl, sym, ap, ◌∙◌, subst, arith, append_assoc}
use Rattle.std.specs.Prelude.{is_some}
use Rattle.std.specs.List.{filter, list_any}
use Rattle.std.proofs.lemmas.Bool.{and_from, and_parts, and_right, eq-eqb, eqb-true, false≢true, ne_eqb, or_cases, or_from, or_parts, true≢false}
use Rattle.std.proofs.lemmas.List.{append-nil, length-append}
use Rattle.css_model.specs.declared.token.Lexeme.{Lexeme}
use Rattle.css_model.specs.declared.token.TokenKind.{TokenKind}
use Rattle.css_model.specs.declared.token.TokenKind.TheVariants as kind
use Rattle.css_model.specs.Sheets.Items.{ends_prelude, is_at_rule, is_between_items, is_whole, item_len, items, opens_block}
use Rattle.css_model.specs.Text.Characters.{close_curly, open_curly, semicolon}
use Rattle.css_model.specs.Text.Lexemes.{closer_of, is_sign_at, is_sign_of, opens}
use Rattle.list_facts.proofs.Cuts.{None_of, none_append}
use Rattle.sheet_grammar.specs.Items.{AreItems, IsBlock, IsPrelude, begins_between}
use Rattle.sheet_grammar.specs.Items.AreItems.{at_end as no_items, skipped, at_rule, qualified_rule, dropped}
use Rattle.sheet_grammar.specs.Items.IsAtRule.{with_block, with_semicolon, at_end}
use Rattle.sheet_grammar.specs.Items.IsBlock.{block as a_block}
use Rattle.sheet_grammar.specs.Laws.{ItemsAreThoseOfTheGrammar}
use Rattle.sheet_grammar.specs.Values.{AreValues}
use Rattle.sheet_grammar.specs.Values.AreValues.{nothing, single, block}
use Rattle.sheet_grammar.proofs.ItemLemmas.{ItemFact, any_of_none, at_rule_fact, between_front, between_step, block_fact, ended_here, flag_front, items_step, no_ends, none_above, sign_at}

-- ---- what the grammar takes is read

with_item : (item rest : List Lexeme) (found : List (List Lexeme)) → ItemFact item rest → filter is_whole (items rest) ≡ found → filter is_whole (items (item ++ rest)) ≡ item ∷ found
with_item item rest found f later =
    ap (filter is_whole) (items_step item rest f.some f.first f.len)
    ∙ (ap (λ (b : Bool). cond b (item ∷ filter is_whole (items rest)) (filter is_whole (items rest))) f.whole ∙ ap (λ (t : List (List Lexeme)). item ∷ t) later)

pub no_block : (at : Bool) (xs : List Lexeme) → list_any (ends_prelude at) xs ≡ false → list_any opens_block xs ≡ false
no_block at [] none = refl
no_block at (x ∷ xs) none =
    let two = or_parts (ends_prelude at x) (list_any (ends_prelude at) xs) none in
    or_from (opens_block x) (list_any opens_block xs) (or_parts (opens_block x) (at && is_sign_at semicolon 0 x) two.0).0 (no_block at xs two.1)

without_block : (prelude : List Lexeme) → 0 < length prelude → is_at_rule prelude ≡ false → IsPrelude prelude → filter is_whole (items prelude) ≡ []
without_block prelude some flag p =
    let len : item_len (prelude ++ []) ≡ length prelude = ap item_len (append-nil prelude) ∙ ended_here prelude p some in
    let step : items prelude ≡ prelude ∷ [] = ap items (sym (append-nil prelude)) ∙ items_step prelude [] some p.first len in
    let none : is_whole prelude ≡ false = or_from (is_at_rule prelude) (list_any opens_block prelude) flag (no_block (is_at_rule prelude) prelude p.apart) in
    ap (filter is_whole) step ∙ ap (λ (b : Bool). let t : List (List Lexeme) = cond b (prelude ∷ []) [] in t) none

pub items_read : (xs : List Lexeme) (found : List (List Lexeme)) → AreItems xs found → filter is_whole (items xs) ≡ found
items_read xs found no_items = refl
items_read xs found (skipped x rest others is later) = ap (filter is_whole) (between_step x rest is) ∙ items_read rest others later
items_read xs found (at_rule item rest others is later) = with_item item rest others (at_rule_fact item rest is) (items_read rest others later)
items_read xs found (qualified_rule item rest prelude inside others is later) =
    with_item item rest others (block_fact item rest prelude is.block inside is.joined is.is_prelude is.is_block) (items_read rest others later)
items_read xs found (dropped prelude some flag p) = without_block prelude some flag p

-- ---- the prelude at the front of values

-- what ends it
data PreludeEnd (flag : Bool) : List Lexeme → Type 0 where
  nothing_left : PreludeEnd flag []
  semicolon_next : (y : Lexeme) (rest : List Lexeme) → flag ≡ true → is_sign_at semicolon 0 y ≡ true → AreValues None 0 rest → PreludeEnd flag (y ∷ rest)
  block_next : (x y : Lexeme) (inside rest : List Lexeme) → is_sign_at open_curly 0 x ≡ true → AreValues (Some close_curly) 1 inside → is_sign_at close_curly 1 y ≡ true
      → AreValues None 0 rest → PreludeEnd flag (x ∷ (inside ++ y ∷ rest))

record FrontPrelude (flag : Bool) (xs : List Lexeme) : Type 0 where
  prelude : List Lexeme
  rest : List Lexeme
  joined : xs ≡ prelude ++ rest
  values : AreValues None 0 prelude
  apart : None_of (ends_prelude flag) prelude
  ending : PreludeEnd flag rest

curly_opens : (k : TokenKind) → is_sign_of open_curly k ≡ true → closer_of k ≡ Some close_curly
curly_opens (kind.Sign c) is = ap (λ (c : ℕ). closer_of (kind.Sign c)) (eqb-true c open_curly is)
curly_opens _ is = absurd (false≢true is)

semicolon_opens : (k : TokenKind) → is_sign_of semicolon k ≡ true → closer_of k ≡ None
semicolon_opens (kind.Sign c) is = ap (λ (c : ℕ). closer_of (kind.Sign c)) (eqb-true c semicolon is)
semicolon_opens _ is = absurd (false≢true is)

outer_values : (around : Option ℕ) (depth : ℕ) (xs : List Lexeme) → AreValues around depth xs → around ≡ None → depth ≡ 0 → AreValues None 0 xs
outer_values around depth xs are e z = subst (λ (d : ℕ). AreValues None d xs) z (subst (λ (o : Option ℕ). AreValues o depth xs) e are)

front_prelude : (flag : Bool) (around : Option ℕ) (depth : ℕ) (xs : List Lexeme) → AreValues around depth xs → around ≡ None → depth ≡ 0 → FrontPrelude flag xs
front_prelude flag around depth xs (nothing a d) e z = record { prelude = []; rest = []; joined = refl; values = nothing None 0; apart = tt; ending = nothing_left }
front_prelude flag around depth xs (single a d x rest no_open no_close level later) e z = by (ends_prelude flag x) refl (front_prelude flag a d rest later e z)
  where
    semicolon_here : (opens_block x ≡ true) ⊎ ((flag && is_sign_at semicolon 0 x) ≡ true) → FrontPrelude flag (x ∷ rest)
    semicolon_here (inl opening) =
        let some : opens x.kind ≡ true = ap is_some (curly_opens x.kind (sign_at open_curly 0 x opening)) in
        absurd (true≢false (sym some ∙ no_open))
    semicolon_here (inr both) =
        let two = and_parts flag (is_sign_at semicolon 0 x) both in
        record { prelude = []; rest = x ∷ rest; joined = refl; values = nothing None 0; apart = tt; ending = semicolon_next x rest two.0 two.1 (outer_values a d rest later e z) }

    by : (b : Bool) → ends_prelude flag x ≡ b → FrontPrelude flag rest → FrontPrelude flag (x ∷ rest)
    by true is f = semicolon_here (or_cases (opens_block x) (flag && is_sign_at semicolon 0 x) is)
    by false is f = record {
      prelude = x ∷ f.prelude;
      rest = f.rest;
      joined = ap (λ (t : List Lexeme). x ∷ t) f.joined;
      values = single None 0 x f.prelude no_open refl (level ∙ z) f.values;
      apart = (is, f.apart);
      ending = f.ending;
    }
front_prelude flag around depth xs (block a d c x y inside rest no_close opening level values closing deeper later) e z = by (ends_prelude flag x) refl (front_prelude flag a d rest later e z)
  where
    inner : AreValues (Some c) 1 inside
    inner = subst (λ (d : ℕ). AreValues (Some c) (suc d) inside) z values

    block_here : (opens_block x ≡ true) ⊎ ((flag && is_sign_at semicolon 0 x) ≡ true) → FrontPrelude flag (x ∷ (inside ++ y ∷ rest))
    block_here (inl opens_it) =
        let somes : ◌≡◌ {A = Option ℕ} (Some c) (Some close_curly) = sym opening ∙ curly_opens x.kind (sign_at open_curly 0 x opens_it) in
        let same : c ≡ close_curly = cc (somes) in
        record {
          prelude = [];
          rest = x ∷ (inside ++ y ∷ rest);
          joined = refl;
          values = nothing None 0;
          apart = tt;
          ending = block_next x y inside rest opens_it (subst (λ (c : ℕ). AreValues (Some c) 1 inside) same inner)
              (and_from (is_sign_of close_curly y.kind) (y.level == 1) (ap (λ (c : ℕ). is_sign_of c y.kind) (sym same) ∙ closing) (eq-eqb y.level 1 (deeper ∙ ap suc z)))
              (outer_values a d rest later e z);
        }
    block_here (inr both) =
        let sign = sign_at semicolon 0 x (and_parts flag (is_sign_at semicolon 0 x) both).1 in
        let somes : ◌≡◌ {A = Option ℕ} (Some c) None = sym opening ∙ semicolon_opens x.kind sign in
        absurd (cc (somes))

    by : (b : Bool) → ends_prelude flag x ≡ b → FrontPrelude flag rest → FrontPrelude flag (x ∷ (inside ++ y ∷ rest))
    by true is f = block_here (or_cases (opens_block x) (flag && is_sign_at semicolon 0 x) is)
    by false is f = record {
      prelude = x ∷ (inside ++ y ∷ f.prelude);
      rest = f.rest;
      joined = ap (λ (t : List Lexeme). x ∷ t) (ap (λ (t : List Lexeme). inside ++ y ∷ t) f.joined ∙ sym (append_assoc inside (y ∷ f.prelude) f.rest));
      values = block None 0 c x y inside f.prelude refl opening (level ∙ z) inner closing (deeper ∙ ap suc z) f.values;
      apart = (
        is,
        none_append (ends_prelude flag) inside (y ∷ f.prelude)
            (no_ends flag inside (none_above (Some c) 1 inside inner open_curly 0 (omega arith)) (none_above (Some c) 1 inside inner semicolon 0 (omega arith)))
            (or_from (opens_block y) (flag && is_sign_at semicolon 0 y) (deep open_curly) (and_right flag (is_sign_at semicolon 0 y) (deep semicolon)), f.apart),
      );
      ending = f.ending;
    }
      where
        deep : (b : ℕ) → is_sign_at b 0 y ≡ false
        deep b = and_right (is_sign_of b y.kind) (y.level == 0) (ne_eqb y.level 0 (λ e. absurd (omega (arith, deeper, e))))

-- ---- what is read is what the grammar takes

front_flag : (prelude rest xs : List Lexeme) (flag : Bool) → xs ≡ prelude ++ rest → PreludeEnd flag rest → (is_at_rule xs ≡ is_at_rule prelude) × (begins_between xs ≡ begins_between prelude)
front_flag prelude rest xs flag joined nothing_left = let same = joined ∙ append-nil prelude in (ap is_at_rule same, ap begins_between same)
front_flag prelude rest xs flag joined (semicolon_next y others at is are) =
    let sign = sign_at semicolon 0 y is in
    (ap is_at_rule joined ∙ flag_front prelude y others semicolon sign, ap begins_between joined ∙ between_front prelude y others semicolon sign)
front_flag prelude rest xs flag joined (block_next x y inside others is inner closing are) =
    let sign = sign_at open_curly 0 x is in
    (ap is_at_rule joined ∙ flag_front prelude x (inside ++ y ∷ others) open_curly sign, ap begins_between joined ∙ between_front prelude x (inside ++ y ∷ others) open_curly sign)

abbrev SomeItems : List Lexeme → Type 0
SomeItems xs = (found : List (List Lexeme)) × AreItems xs found

-- what follows a token between items
between_rest : (around : Option ℕ) (depth : ℕ) (xs : List Lexeme) → AreValues around depth xs → around ≡ None → depth ≡ 0 → (x : Lexeme) (rest : List Lexeme) → xs ≡ x ∷ rest
    → is_between_items x.kind ≡ true → AreValues None 0 rest
between_rest around depth xs (nothing a d) e z y ys same is = absurd (cc (same))
between_rest around depth xs (single a d x rest no_open no_close level later) e z y ys same is =
    let others : rest ≡ ys = cc (same) in
    subst (AreValues None 0) others (outer_values a d rest later e z)
between_rest around depth xs (block a d c x y inside rest no_close opening level values closing deeper later) e z u ys same is =
    let first : x ≡ u = cc (same) in
    let none : closer_of x.kind ≡ None = ap (λ (u : Lexeme). closer_of u.kind) first ∙ by u.kind is in
    let somes : ◌≡◌ {A = Option ℕ} (Some c) None = sym opening ∙ none in
    absurd (cc (somes))
  where
    by : (k : TokenKind) → is_between_items k ≡ true → closer_of k ≡ None
    by kind.CommentOpen is = refl
    by kind.CommentClose is = refl
    by _ is = absurd (false≢true is)

some_items : (n : ℕ) (xs : List Lexeme) → length xs ≤ n → AreValues None 0 xs → SomeItems xs
some_items n [] short are = ([], no_items)
some_items zero (x ∷ xs) short are = absurd (omega (arith, short))
some_items (suc n) (x ∷ xs) short are = by (is_between_items x.kind) refl (λ (xs : List Lexeme) (short : length xs ≤ n) (are : AreValues None 0 xs). some_items n xs short are)
  where
    skip : is_between_items x.kind ≡ true → SomeItems xs → SomeItems (x ∷ xs)
    skip is later = (later.0, skipped x xs later.0 is later.1)

    with_front : is_between_items x.kind ≡ false → (prelude rest : List Lexeme) → x ∷ xs ≡ prelude ++ rest → AreValues None 0 prelude → None_of (ends_prelude (is_at_rule (x ∷ xs))) prelude
        → PreludeEnd (is_at_rule (x ∷ xs)) rest → ((xs : List Lexeme) → length xs ≤ n → AreValues None 0 xs → SomeItems xs) → SomeItems (x ∷ xs)
    with_front apart prelude rest joined values none ending later = at (is_at_rule prelude) refl rest joined ending
      where
        flags : (is_at_rule (x ∷ xs) ≡ is_at_rule prelude) × (begins_between (x ∷ xs) ≡ begins_between prelude)
        flags = front_flag prelude rest (x ∷ xs) (is_at_rule (x ∷ xs)) joined ending

        is_prelude : IsPrelude prelude
        is_prelude = record {
          values = values;
          apart = ap (λ (f : Bool). list_any (ends_prelude f) prelude) (sym flags.0) ∙ any_of_none (ends_prelude (is_at_rule (x ∷ xs))) prelude none;
          first = sym flags.1 ∙ apart;
        }

        -- an item and what follows it
        back : (item others : List Lexeme) → x ∷ xs ≡ item ++ others → SomeItems (item ++ others) → SomeItems (x ∷ xs)
        back item others e some = subst SomeItems (sym e) some

        shorter : (item others : List Lexeme) → x ∷ xs ≡ item ++ others → 0 < length item → length others ≤ n
        shorter item others e some = omega (arith, ap (λ (t : List Lexeme). length t) e, length-append item others, some, short)

        block_item : (f : Bool) → is_at_rule prelude ≡ f → (item others inside text : List Lexeme) → item ≡ prelude ++ text → IsBlock text inside → SomeItems others → SomeItems (item ++ others)
        block_item true flag item others inside text e is more = (item ∷ more.0, at_rule item others more.0 (with_block prelude text inside e flag is_prelude is) more.1)
        block_item false flag item others inside text e is more =
            (item ∷ more.0, qualified_rule item others prelude inside more.0 (record { block = text; joined = e; no_at_rule = flag; is_prelude = is_prelude; is_block = is }) more.1)

        at : (f : Bool) → is_at_rule prelude ≡ f → (rest : List Lexeme) → x ∷ xs ≡ prelude ++ rest → PreludeEnd (is_at_rule (x ∷ xs)) rest → SomeItems (x ∷ xs)
        at true flag rest e nothing_left = back prelude [] e (prelude ∷ [], at_rule prelude [] [] (at_end flag is_prelude refl) no_items)
        at false flag rest e nothing_left =
            let whole : x ∷ xs ≡ prelude = e ∙ append-nil prelude in
            subst SomeItems (sym whole) ([], dropped prelude (omega (arith, ap (λ (t : List Lexeme). length t) whole)) flag is_prelude)
        at f flag rest e (semicolon_next y others at_rule_is is are) =
            let item = prelude ++ y ∷ [] in
            let whole : x ∷ xs ≡ item ++ others = e ∙ sym (append_assoc prelude (y ∷ []) others) in
            let more = later others (shorter item others whole (omega (arith, length-append prelude (y ∷ [])))) are in
            back item others whole (item ∷ more.0, at_rule item others more.0 (with_semicolon prelude y refl (sym flags.0 ∙ at_rule_is) is_prelude is) more.1)
        at f flag rest e (block_next u y inside others is inner closing are) =
            let text = u ∷ (inside ++ y ∷ []) in
            let item = prelude ++ text in
            let whole : x ∷ xs ≡ item ++ others =
            e ∙ (ap (λ (t : List Lexeme). prelude ++ u ∷ t) (sym (append_assoc inside (y ∷ []) others)) ∙ sym (append_assoc prelude text others)) in
            let more = later others (shorter item others whole (omega (arith, length-append prelude text))) are in
            back item others whole (block_item f flag item others inside text refl (a_block u y refl is inner closing) more)

    by : (b : Bool) → is_between_items x.kind ≡ b → ((xs : List Lexeme) → length xs ≤ n → AreValues None 0 xs → SomeItems xs) → SomeItems (x ∷ xs)
    by true is later = skip is (later xs (omega (arith, short)) (between_rest None 0 (x ∷ xs) are refl refl x xs refl is))
    by false is later =
        let f = front_prelude (is_at_rule (x ∷ xs)) None 0 (x ∷ xs) are refl refl in
        with_front is f.prelude f.rest f.joined f.values f.apart f.ending later

pub items_are_those_of_the_grammar : ItemsAreThoseOfTheGrammar
items_are_those_of_the_grammar xs found are = (λ is. items_read xs found is, λ e. back e (some_items (length xs) xs (omega arith) are))
  where
    back : filter is_whole (items xs) ≡ found → SomeItems xs → AreItems xs found
    back e some = subst (AreItems xs) (sym (items_read xs some.0 some.1) ∙ e) some.1
