-- What is printed for the items of a sheet fits in the room of their tokens, and begins with the first of them.
use Rattle.std.proofs.Common.{ℕ, suc, ◌+◌, ◌<◌, ◌≤◌, ◌≡◌, Bool, true, false, cond, List, [], ◌∷◌, ◌++◌, Some, None, Result, Ok, Err, length, map, refl, sym, ap, ◌∙◌, subst, arith, append_assoc}
use Rattle.std.specs.Prelude.{⊤, ◌||◌, if◌then◌else◌}
use Rattle.std.specs.List.{AllByRecursion, before_first, after_first, position_or_len, slice_split, onto_first, list_any, filter, filter_map, join_with_byte}
use Rattle.std.proofs.lemmas.Bool.{cond-true, cond-false}
use Rattle.std.proofs.lemmas.List.{length-append}
use Rattle.std.proofs.lemmas.List.Folds.{list_any-append}
use Rattle.css_model.specs.declared.reason.Reason.{Reason}
use Rattle.css_model.specs.declared.sheet.DeclItem.{DeclItem}
use Rattle.css_model.specs.declared.sheet.Item.{Item}
use Rattle.css_model.specs.declared.sheet.Item.TheVariants.{Rule, KeptRule, KeptBlock}
use Rattle.css_model.specs.declared.sheet.Piece.{Piece}
use Rattle.css_model.specs.declared.sheet.SelItem.{SelItem}
use Rattle.css_model.specs.declared.token.Lexeme.{Lexeme}
use Rattle.css_model.specs.Text.Characters.{comma, semicolon, open_curly, close_curly}
use Rattle.css_model.specs.Sheets.Declarations.{declaration, is_nested}
use Rattle.css_model.specs.Sheets.Items.{is_at_rule, opens_block, closes_block, selector_parts, block, entries}
use Rattle.css_model.specs.Text.Kept.{Solid, solid, spelled, behind_last, gap_text, kept}
use Rattle.css_model.specs.Text.Lexemes.{is_sign_at, piece_of}
use Rattle.css_model.specs.Sheets.Printed.{printed_selector, printed_declaration, printed_rule, printed_item}
use Rattle.css_model.specs.Lists.{all_of, before_all}
use Rattle.css_model.specs.Sheets.PrintedSelector.{selector_text as printed_text, printed_argument, printed_from, term_bytes}
use Rattle.css_model.specs.Sheets.Selectors.{selector_item, selectors}
use Rattle.css_model.specs.Documents.SelectorParts.{SelectorParts}
use Rattle.css_model.specs.Selectors.Reading.{selector_of_lexemes}
use Rattle.css_model.specs.Selectors.Terms.{depth_behind_term, first_term, more_of_term}
use Rattle.css_model.specs.Selectors.Tokens.{selector_token}
use Rattle.css_model.specs.Sheets.Sheet.{item_of, rule_of, rule_or_block}
use Rattle.css_model.specs.Text.Source.{text_at}
use Rattle.css_model.specs.Sheets.Spelling.{lexemes_of, tokens_in, kept_text}
use Rattle.list_facts.proofs.Cuts.{before_here, before_later, after_some}
use Rattle.sheet_laws.proofs.ForCallers.{IsClosedRule, closed_rule, or_true, StandsIn, stands_inside, IsPart, split_stands, stands_taken, AreAscending, stand_alone, IsRawItem, selector_in}
use Rattle.list_facts.proofs.Sums.{total}
use Rattle.list_facts.proofs.Elements.{all_with}
use Rattle.print_laws.proofs.Length.Parts.{total_cut, total_split, total_chosen, total_all, join_size, kept_size, weight_some, declaration_size}
use Rattle.print_laws.proofs.Length.Room.{cost, weight, Fits}

-- tokens that have room stand in order
pub fits_ascending : (source : List ℕ) (at from : ℕ) (xs : List Lexeme) (to : ℕ) → at ≤ from → Fits source from xs to → AreAscending at xs
fits_ascending source at from [] to le fits = tt
fits_ascending source at from (x ∷ xs) to le (low, some, fits) =
    (omega (arith, le, low), some, fits_ascending source x.span.«end» (x.span.«end» + cost source x) xs to (omega arith) fits)

weight_positive : (source : List ℕ) (x : Lexeme) → 0 < weight source x
weight_positive source x = omega (arith, weight_some source x)

pub total_filter : {A : Type 0} (f : A → ℕ) (p : A → Bool) (xs : List A) → total f (filter p xs) ≤ total f xs
total_filter f p [] = omega arith
total_filter f p (x ∷ xs) = which (p x) (total_filter f p xs)
  where
    which : (b : Bool) → total f (filter p xs) ≤ total f xs → total f (if b then x ∷ filter p xs else filter p xs) ≤ f x + total f xs
    which true later = omega (arith, later)
    which false later = omega (arith, later)

-- a text that begins with a token's bytes
pub record BeginsWith (source : List ℕ) (x : Lexeme) (text : List ℕ) : Type 0 where
  pub more : List ℕ
  pub is : text ≡ text_at source x.span ++ more

pub begins_more : (source : List ℕ) (x : Lexeme) (text behind : List ℕ) → BeginsWith source x text → BeginsWith source x (text ++ behind)
begins_more source x text behind b =
    record { more = b.more ++ behind; is = ap (λ (cs : List ℕ). cs ++ behind) b.is ∙ append_assoc (text_at source x.span) b.more behind }

abbrev pub BeginsAs : List ℕ → List Lexeme → List ℕ → Type 0
BeginsAs source [] text = ⊤
BeginsAs source (x ∷ xs) text = BeginsWith source x text

-- what is printed for tokens
pub record IsPrint (source : List ℕ) (xs : List Lexeme) (text : List ℕ) : Type 0 where
  pub size : length text ≤ total (weight source) xs
  pub begins : BeginsAs source xs text

spelled_begins : (source : List ℕ) (last : Solid → List ℕ) (xs : List Lexeme) → BeginsAs source xs (spelled last (map (solid source) xs))
spelled_begins source last [] = tt
spelled_begins source last (x ∷ []) = record { more = last (solid source x); is = refl }
spelled_begins source last (x ∷ y ∷ ys) = record { more = _; is = append_assoc (text_at source x.span) _ (spelled last (map (solid source) (y ∷ ys))) }

-- the first part of a prelude is empty or begins with its first token
abbrev Starts : Lexeme → List (List Lexeme) → Type 0
Starts x [] = ⊥
Starts x ([] ∷ parts) = ⊤
Starts x ((y ∷ part) ∷ parts) = y ≡ x

parts_start : (x : Lexeme) (xs : List Lexeme) → Starts x (selector_parts (x ∷ xs))
parts_start x xs = which (opens_block x) refl
  where
    onto : (parts : List (List Lexeme)) → Starts x (onto_first x parts)
    onto [] = refl
    onto (part ∷ parts) = refl

    cut : (b : Bool) (parts : List (List Lexeme)) → Starts x (cond b ([] ∷ parts) (onto_first x parts))
    cut true parts = tt
    cut false parts = onto parts

    which : (b : Bool) → opens_block x ≡ b → Starts x (selector_parts (x ∷ xs))
    which true is = subst (λ (ys : List Lexeme). Starts x (slice_split (is_sign_at comma 0) ys)) (sym (before_here opens_block x xs is)) tt
    which false is =
        let front = before_first opens_block xs in
        subst (λ (ys : List Lexeme). Starts x (slice_split (is_sign_at comma 0) ys)) (sym (before_later opens_block x xs is))
        (cut (is_sign_at comma 0 x) (slice_split (is_sign_at comma 0) front))

-- the printed text of a selector of the source is no longer than its tokens' kept text
abbrev pub AreShort : List ℕ → Type 0
AreShort source = (part : List Lexeme) (s : SelectorParts) → StandsIn (lexemes_of source) part → selector_of_lexemes source part ≡ Ok s
    → length (printed_text (map (solid source) part)) ≤ length (kept (map (solid source) part))

module _ (source : List ℕ) (at : ℕ) (ascending : AreAscending at (lexemes_of source)) (short : AreShort source) where
  alone : (xs : List Lexeme) → StandsIn (lexemes_of source) xs → tokens_in source (piece_of xs) ≡ xs
  alone xs stands = stand_alone at (lexemes_of source) xs ascending stands

  pub block_print : (xs : List Lexeme) → StandsIn (lexemes_of source) xs → IsPrint source xs (kept_text source (piece_of xs))
  block_print xs stands =
      let P : List Lexeme → Type 0 = λ (ys : List Lexeme). IsPrint source xs (spelled behind_last (map (solid source) ys)) in
      let here : P xs = record { size = kept_size source xs; begins = spelled_begins source behind_last xs } in
      subst P (sym (alone xs stands)) here

  selector_text : (part : List Lexeme) (s : SelItem) → StandsIn (lexemes_of source) part → selector_item source part ≡ Ok s
      → printed_selector source s ≡ printed_text (map (solid source) part)
  selector_text part s stands is =
      ap (λ (piece : Piece). printed_text (map (solid source) (tokens_in source piece))) (selector_in source part s is).1
      ∙ ap (λ (xs : List Lexeme). printed_text (map (solid source) xs)) (alone part stands)

  selector_size : (part : List Lexeme) (s : SelItem) → StandsIn (lexemes_of source) part → selector_item source part ≡ Ok s
      → suc (length (printed_selector source s)) ≤ suc (total (weight source) part)
  selector_size part s stands is =
      omega (arith, ap length (selector_text part s stands is), short part s.selector stands (selector_in source part s is).0, kept_size source part)

  -- the parts of the prelude of an item
  parts_stand : (item : List Lexeme) → StandsIn (lexemes_of source) item → AllByRecursion (StandsIn (lexemes_of source)) (selector_parts item)
  parts_stand item stands =
      let prelude = before_first opens_block item in
      let inside : StandsIn (lexemes_of source) prelude = stands_inside (lexemes_of source) item prelude stands (stands_taken (position_or_len opens_block item) item) in
      all_with (IsPart (is_sign_at comma 0) prelude) (StandsIn (lexemes_of source)) (λ part p. stands_inside (lexemes_of source) prelude part inside p.stands)
      (selector_parts item) (split_stands (is_sign_at comma 0) prelude)

  -- the text of a selector begins with its first token
  text_begins : (y : Lexeme) (part : List Lexeme) → BeginsWith source y (printed_text (map (solid source) (y ∷ part)))
  text_begins y part =
      let s = solid source y in
      let t = first_term 0 (selector_token s) (map selector_token (map (solid source) part)) in
      let rest = printed_from (depth_behind_term 0 (selector_token s)) (more_of_term (selector_token s) (map selector_token (map (solid source) part))) (map (solid source) part) in
      let bytes = text_at source y.span in
      let behind = gap_text (term_bytes s t) t.gap in
      record {
        more = (printed_argument t.argument ++ behind) ++ rest;
        is = ap (λ (cs : List ℕ). cs ++ rest) (append_assoc bytes (printed_argument t.argument) behind) ∙ append_assoc bytes (printed_argument t.argument ++ behind) rest;
      }

  selectors_begin : (x : Lexeme) (parts : List (List Lexeme)) → Starts x parts → AllByRecursion (StandsIn (lexemes_of source)) parts → (read : List SelItem)
      → all_of (selector_item source) parts ≡ Ok read → BeginsWith source x (join_with_byte comma (map (printed_selector source) read))
  selectors_begin x [] starts stand read is = absurd starts
  selectors_begin x ([] ∷ parts) starts stand read is = absurd cc
  selectors_begin x ((y ∷ part) ∷ parts) starts (stands, stand) read is = which (selector_item source (y ∷ part)) refl (all_of (selector_item source) parts) is
    where
      joined : (s : SelItem) (ss : List SelItem) → BeginsWith source x (printed_selector source s) → BeginsWith source x (join_with_byte comma (map (printed_selector source) (s ∷ ss)))
      joined s [] b = b
      joined s (t ∷ ts) b = begins_more source x (printed_selector source s) (comma ∷ join_with_byte comma (map (printed_selector source) (t ∷ ts))) b

      which : (r : Result SelItem Reason) → selector_item source (y ∷ part) ≡ r → (rest : Result (List SelItem) Reason) → before_all r rest ≡ Ok read
          → BeginsWith source x (join_with_byte comma (map (printed_selector source) read))
      which (Err reason) here rest e = absurd cc
      which (Ok s) here (Err reason) e = absurd cc
      which (Ok s) here (Ok ss) e =
          let same : s ∷ ss ≡ read = cc in
          let begins : BeginsWith source x (printed_selector source s) =
          subst (BeginsWith source x) (sym (selector_text (y ∷ part) s stands here))
          (subst (λ (z : Lexeme). BeginsWith source z (printed_text (map (solid source) (y ∷ part)))) starts (text_begins y part)) in
          subst (λ (read : List SelItem). BeginsWith source x (join_with_byte comma (map (printed_selector source) read))) same (joined s ss begins)

  -- the block of a rule has its end
  block_closes : (item : List Lexeme) → IsClosedRule item → (list_any opens_block item ≡ true) × (list_any closes_block (after_first opens_block item) ≡ true)
  block_closes item c =
      let last = c.last ∷ [] in
      let opens : list_any opens_block (c.front ++ last) ≡ true =
      list_any-append opens_block c.front last ∙ ap (λ (b : Bool). b || list_any opens_block last) c.has_block in
      let closes : list_any closes_block (after_first opens_block (c.front ++ last)) ≡ true =
      ap (list_any closes_block) (after_some opens_block c.front last c.has_block)
      ∙ list_any-append closes_block (after_first opens_block c.front) last
      ∙ ap (λ (b : Bool). list_any closes_block (after_first opens_block c.front) || (b || false)) c.closes
      ∙ or_true (list_any closes_block (after_first opens_block c.front)) in
      (ap (list_any opens_block) c.whole ∙ opens, ap (λ (xs : List Lexeme). list_any closes_block (after_first opens_block xs)) c.whole ∙ closes)

  rule_size : (item : List Lexeme) → StandsIn (lexemes_of source) item → IsClosedRule item → (read : List SelItem) → selectors source item ≡ Ok read
      → length (printed_rule source (record { selectors = read; decls = filter_map (declaration source) (entries item) })) ≤ total (weight source) item
  rule_size item stands closed read is =
      let w = weight source in
      let f : List Lexeme → ℕ = λ (part : List Lexeme). suc (total w part) in
      let decls = filter_map (declaration source) (entries item) in
      let front = join_with_byte comma (map (printed_selector source) read) in
      let inside = join_with_byte semicolon (map (printed_declaration source) decls) in
      let prelude = before_first opens_block item in
      let whole : length ((front ++ (open_curly ∷ inside)) ++ (close_curly ∷ [])) ≡ length front + suc (length inside) + 1 =
      length-append (front ++ (open_curly ∷ inside)) (close_curly ∷ []) ∙ ap (λ (n : ℕ). n + 1) (length-append front (open_curly ∷ inside)) in
      let read_size = total_all (StandsIn (lexemes_of source)) f (λ s. suc (length (printed_selector source s))) (selector_item source) selector_size (selector_parts item) (parts_stand item stands) read is in
      let front_size = join_size comma (printed_selector source) read in
      let parts_size = total_split w (weight_positive source) (is_sign_at comma 0) prelude in
      let decls_size = total_chosen f (λ d. suc (length (printed_declaration source d))) (declaration source) (λ entry d e. omega (arith, declaration_size source entry d e)) (entries item) in
      let inside_size = join_size semicolon (printed_declaration source) decls in
      let entries_size = total_split w (weight_positive source) (is_sign_at semicolon 1) (block item) in
      let ends = block_closes item closed in
      let outer = total_cut w (weight_positive source) opens_block item ends.0 in
      let inner = total_cut w (weight_positive source) closes_block (after_first opens_block item) ends.1 in
      let here : length ((front ++ (open_curly ∷ inside)) ++ (close_curly ∷ [])) ≤ total w item =
      omega (arith, whole, read_size, front_size, parts_size, decls_size, inside_size, entries_size, outer, inner) in
      here

  rule_begins : (item : List Lexeme) → StandsIn (lexemes_of source) item → (read : List SelItem) (decls : List DeclItem) → selectors source item ≡ Ok read
      → BeginsAs source item (printed_rule source (record { selectors = read; decls = decls }))
  rule_begins [] stands read decls is = tt
  rule_begins (x ∷ xs) stands read decls is =
      let front = join_with_byte comma (map (printed_selector source) read) in
      let inside = join_with_byte semicolon (map (printed_declaration source) decls) in
      begins_more source x (front ++ (open_curly ∷ inside)) (close_curly ∷ [])
      (begins_more source x front (open_curly ∷ inside) (selectors_begin x (selector_parts (x ∷ xs)) (parts_start x xs) (parts_stand (x ∷ xs) stands) read is))

  -- what is printed for an item that is read of tokens
  pub item_print : (item : List Lexeme) → IsRawItem (lexemes_of source) item → (x : Item) → item_of source item ≡ Some x → IsPrint source item (printed_item source x)
  item_print item raw x e = which (is_at_rule item) refl
    where
      stands : StandsIn (lexemes_of source) item
      stands = raw.is_item.stands

      P : Item → Type 0
      P y = IsPrint source item (printed_item source y)

      kept : IsPrint source item (kept_text source (piece_of item))
      kept = block_print item stands

      as_is : (y : Item) → P y → Some y ≡ Some x → P x
      as_is y p same = let here : y ≡ x = cc in subst P here p

      rule : is_at_rule item ≡ false → (r : Result (List SelItem) Reason) → selectors source item ≡ r → (ds : List DeclItem) → filter_map (declaration source) (entries item) ≡ ds
          → rule_of (piece_of item) r ds ≡ Some x → P x
      rule qualified (Err reason) is ds decls here = as_is (KeptRule _) kept here
      rule qualified (Ok read) is [] decls here = absurd cc
      rule qualified (Ok read) is (d ∷ ds) decls here =
          let Q : List DeclItem → Type 0 = λ (ds : List DeclItem). IsPrint source item (printed_rule source (record { selectors = read; decls = ds })) in
          let closed = closed_rule item qualified (raw.is_item.ended raw.is_kept qualified) in
          let whole : Q (filter_map (declaration source) (entries item)) = record {
            size = rule_size item stands closed read is;
            begins = rule_begins item stands read (filter_map (declaration source) (entries item)) is;
          } in
          as_is (Rule (record { selectors = read; decls = d ∷ ds })) (subst Q decls whole) here

      block_or_rule : is_at_rule item ≡ false → (b : Bool)
          → rule_or_block (piece_of item) (selectors source item) (cond b None (Some (filter_map (declaration source) (entries item)))) ≡ Some x → P x
      block_or_rule qualified true here = as_is (KeptBlock (piece_of item)) kept here
      block_or_rule qualified false here = rule qualified (selectors source item) refl (filter_map (declaration source) (entries item)) refl here

      which : (b : Bool) → is_at_rule item ≡ b → P x
      which true is = as_is (KeptBlock (piece_of item)) kept (sym (cond-true _ _ _ is) ∙ e)
      which false is = block_or_rule is (list_any (is_nested source) (entries item)) (sym (cond-false _ _ _ is) ∙ e)
