-- A rule is read as it was from what is printed for it.
use Rattle.std.proofs.Common.{◌≡◌, ◌≢◌, subst, ℕ, Bool, true, false, not, List, [], ◌∷◌, ◌++◌, map, Some, None, Ok, refl, sym, ◌∙◌, ap, append_assoc}
use Rattle.std.proofs.lemmas.Bool.{false≢true}
use Rattle.std.specs.Prelude.{◌||◌, if◌then◌else◌}
use Rattle.std.specs.List.{AllZip, AllByRecursion, before_first, slice_split, list_any, filter_map}
use Rattle.css_model.specs.declared.sheet.DeclItem.{DeclItem}
use Rattle.css_model.specs.declared.sheet.Item.TheVariants.{Rule, KeptBlock}
use Rattle.css_model.specs.declared.sheet.SelItem.{SelItem}
use Rattle.css_model.specs.declared.token.Lexeme.{Lexeme}
use Rattle.css_model.specs.Text.Characters.{comma, semicolon, open_curly, close_curly}
use Rattle.css_model.specs.Sheets.Declarations.{declaration, is_nested}
use Rattle.css_model.specs.Sheets.Items.{opens_block, closes_block, is_at_rule, is_whole, selector_parts, entries}
use Rattle.css_model.specs.Text.Lexemes.{is_sign_at, piece_of}
use Rattle.css_model.specs.Sheets.RuleParts.{RuleParts}
use Rattle.css_model.specs.Sheets.Sheet.{item_of, rule_or_block}
use Rattle.sheet_laws.proofs.Printed.Blocks.{IsOfDeclaration, IsDeclarationAgain, AreDeclarationsAgain, declarations_again, declarations_no_semicolon, declarations_no_close}
use Rattle.list_facts.proofs.Cuts.{None_of, before_at, after_at}
use Rattle.sheet_laws.proofs.Printed.Items.{begins_item, ends_in, ends_with_block, is_ended, is_nil}
use Rattle.sheet_laws.proofs.Printed.Joins.{StandsIn, AreCut, is_shown_sign, none_shown, none_joined, cut_joined, stands_front, wider}
use Rattle.sheet_laws.proofs.Printed.Kept.{qualified_at}
use Rattle.list_facts.proofs.Zips.{cut_at, cons_head, cons_tail, cons_not_empty}
use Rattle.sheet_laws.proofs.Printed.Preludes.{IsOfSelector, IsSelectorAgain, AreSelectorsAgain, selectors_again, selectors_no_sign, selectors_start, selector_no_at, starts_rule, starts_append}
use Rattle.sheet_laws.proofs.Shown.Alike.{or_true}
use Rattle.sheet_laws.proofs.Shown.Tokens.{Shown, shown, joined, sign_shown, selector_shown, declaration_shown, rule_shown}

-- tokens that are shown as those of a rule begin an item that is no at-rule
starts_shown : (source : List ℕ) (ys : List Lexeme) → starts_rule (map (shown source) ys) ≡ true → (begins_item ys ≡ true) × (is_at_rule ys ≡ false)
starts_shown source [] starts = absurd (false≢true starts)
starts_shown source (y ∷ ys) starts = let parts = selector_no_at y.kind starts in (ap not parts.1, parts.0)

any_at : {A : Type 0} (p : A → Bool) (xs : List A) (x : A) (more : List A) → p x ≡ true → list_any p (xs ++ x ∷ more) ≡ true
any_at p [] x more is = ap (λ (b : Bool). b || list_any p more) is
any_at p (y ∷ ys) x more is = ap (λ (b : Bool). p y || b) (any_at p ys x more is) ∙ or_true (p y)

block_at : (xs : List Lexeme) (x : Lexeme) → None_of closes_block xs → closes_block x ≡ true → ends_with_block (xs ++ x ∷ []) ≡ true
block_at [] x fail is = ap (λ (b : Bool). if b then true else false) is
block_at (y ∷ ys) x fail is = ap (λ (b : Bool). if b then is_nil (ys ++ x ∷ []) else ends_with_block (ys ++ x ∷ [])) fail.0 ∙ block_at ys x fail.1 is

ends_at : (front : List Lexeme) (first : Lexeme) (inside : List Lexeme) (last : Lexeme) → None_of opens_block front → opens_block first ≡ true → None_of closes_block inside → closes_block last ≡ true
    → ends_in false (front ++ first ∷ (inside ++ last ∷ [])) ≡ true
ends_at [] first inside last none is fail closes =
    ap (λ (b : Bool). if b then ends_with_block (inside ++ last ∷ []) else ends_in false (inside ++ last ∷ [])) is ∙ block_at inside last fail closes
ends_at (x ∷ xs) first inside last none is fail closes =
    let rest = xs ++ first ∷ (inside ++ last ∷ []) in
    ap (λ (b : Bool). if b then ends_with_block rest else ends_in false rest) none.0 ∙ ends_at xs first inside last none.1 is fail closes

ended_rule : (ys : List Lexeme) → is_at_rule ys ≡ false → ends_in false ys ≡ true → is_ended ys ≡ true
ended_rule [] qualified ends = absurd (false≢true ends)
ended_rule (y ∷ ys) qualified ends = ap (λ (b : Bool). ends_in b (y ∷ ys)) qualified ∙ ends

-- the tokens of a rule: a prelude, `{`, a block and `}`
record IsRuleCut (new : List ℕ) (ys : List Lexeme) (prelude block : List Shown) : Type 0 where
  front : List Lexeme
  first : Lexeme
  inside : List Lexeme
  last : Lexeme
  whole : ys ≡ front ++ first ∷ (inside ++ last ∷ [])
  is_front : map (shown new) front ≡ prelude
  is_inside : map (shown new) inside ≡ block
  opens : opens_block first ≡ true
  closes : closes_block last ≡ true

cut_rule : (new : List ℕ) (ys : List Lexeme) (prelude block : List Shown) → map (shown new) ys ≡ prelude ++ sign_shown open_curly 0 ∷ block ++ sign_shown close_curly 1 ∷ []
    → IsRuleCut new ys prelude block
cut_rule new ys prelude block e =
    let outer = cut_at (shown new) ys (prelude ++ sign_shown open_curly 0 ∷ block) (sign_shown close_curly 1 ∷ []) e in
    let inner = cut_at (shown new) outer.upper prelude (sign_shown open_curly 0 ∷ block) outer.is_front in
    by_lists inner.upper inner.lower outer.lower (outer.whole ∙ ap (λ zs. zs ++ outer.lower) inner.whole) inner.is_front inner.is_behind outer.is_behind
  where
    by_lists : (front behind end : List Lexeme) → ys ≡ front ++ behind ++ end → map (shown new) front ≡ prelude → map (shown new) behind ≡ sign_shown open_curly 0 ∷ block
        → map (shown new) end ≡ sign_shown close_curly 1 ∷ [] → IsRuleCut new ys prelude block
    by_lists front [] end whole p b c = absurd (cons_not_empty (sign_shown open_curly 0) block (sym b))
    by_lists front (first ∷ inside) [] whole p b c = absurd (cons_not_empty (sign_shown close_curly 1) [] (sym c))
    by_lists front (first ∷ inside) (last ∷ next ∷ more) whole p b c =
        absurd (cons_not_empty (shown new next) (map (shown new) more) (cons_tail (shown new last) (sign_shown close_curly 1) (map (shown new) (next ∷ more)) [] c))
    by_lists front (first ∷ inside) (last ∷ []) whole p b c =
        record {
          front = front;
          first = first;
          inside = inside;
          last = last;
          whole = whole ∙ append_assoc front (first ∷ inside) (last ∷ []);
          is_front = p;
          is_inside = cons_tail (shown new first) (sign_shown open_curly 0) (map (shown new) inside) block b;
          opens = ap (is_shown_sign open_curly 0) (cons_head (shown new first) (sign_shown open_curly 0) (map (shown new) inside) block b);
          closes = ap (is_shown_sign close_curly 1) (cons_head (shown new last) (sign_shown close_curly 1) [] [] c);
        }

-- a rule whose selectors and declarations are those of a source
pub record IsOfRule (source : List ℕ) (r : RuleParts) : Type 0 where
  pub has_selectors : r.selectors ≢ []
  pub has_declarations : r.decls ≢ []
  pub selectors : AllByRecursion (IsOfSelector source) r.selectors
  pub decls : AllByRecursion (IsOfDeclaration source) r.decls

-- a rule that is read from tokens with these among them
pub record IsRuleAgain (new old : List ℕ) (whole : List Lexeme) (r' r : RuleParts) : Type 0 where
  pub selectors : AllZip (IsSelectorAgain new old whole) r'.selectors r.selectors
  pub decls : AllZip (IsDeclarationAgain new old) r'.decls r.decls

pub record IsReadRule (new old : List ℕ) (ys : List Lexeme) (r : RuleParts) : Type 0 where
  pub rule : RuleParts
  pub reads : item_of new ys ≡ Some (Rule rule)
  pub again : IsRuleAgain new old ys rule r
  pub begins : begins_item ys ≡ true
  pub qualified : is_at_rule ys ≡ false
  pub ended : is_ended ys ≡ true
  pub whole : is_whole ys ≡ true

rule_reads : (new old : List ℕ) (ys : List Lexeme) (read : List SelItem) (items : List DeclItem) (d : DeclItem) (ds : List DeclItem) → AllZip (IsDeclarationAgain new old) items (d ∷ ds)
    → rule_or_block (piece_of ys) (Ok read) (Some items) ≡ Some (Rule (record { selectors = read; decls = items }))
rule_reads new old ys read [] d ds z = absurd z
rule_reads new old ys read (item ∷ items) d ds z = refl

rule_by_lists : (new old : List ℕ) (ys : List Lexeme) (s : SelItem) (ss : List SelItem) (d : DeclItem) (ds : List DeclItem) → AllByRecursion (IsOfSelector old) (s ∷ ss) → AllByRecursion (IsOfDeclaration old) (d ∷ ds)
    → map (shown new) ys ≡ rule_shown old (record { selectors = s ∷ ss; decls = d ∷ ds }) → IsReadRule new old ys (record { selectors = s ∷ ss; decls = d ∷ ds })
rule_by_lists new old ys s ss d ds selectors decls e =
    record {
      rule = record { selectors = read.items; decls = declared.items };
      reads = reads;
      again = record { selectors = read.each; decls = declared.each };
      begins = starts.0;
      qualified = starts.1;
      ended = ended_rule ys starts.1 (ap (ends_in false) cut.whole ∙ ends_at cut.front cut.first cut.inside cut.last no_open cut.opens no_close cut.closes);
      whole = ap (λ b. b || list_any opens_block ys) starts.1 ∙ ap (list_any opens_block) cut.whole ∙ any_at opens_block cut.front cut.first (cut.inside ++ cut.last ∷ []) cut.opens;
    }
  where
    prelude : List Shown
    prelude = joined (sign_shown comma 0) (map (selector_shown old) (s ∷ ss))

    block : List Shown
    block = joined (sign_shown semicolon 1) (map (declaration_shown old) (d ∷ ds))

    cut : IsRuleCut new ys prelude block
    cut = cut_rule new ys prelude block e

    starts : (begins_item ys ≡ true) × (is_at_rule ys ≡ false)
    starts = starts_shown new ys
        (ap starts_rule e ∙ starts_append (prelude ++ sign_shown open_curly 0 ∷ block) (sign_shown close_curly 1 ∷ []) (selectors_start old (sign_shown comma 0) s ss (sign_shown open_curly 0 ∷ block) selectors.0))

    no_open : None_of opens_block cut.front
    no_open = none_shown new open_curly 0 cut.front prelude cut.is_front (none_joined (is_shown_sign open_curly 0) (sign_shown comma 0) (map (selector_shown old) (s ∷ ss)) refl (selectors_no_sign old open_curly 0 (s ∷ ss) refl selectors))

    no_close : None_of closes_block cut.inside
    no_close = none_shown new close_curly 1 cut.inside block cut.is_inside (none_joined (is_shown_sign close_curly 1) (sign_shown semicolon 1) (map (declaration_shown old) (d ∷ ds)) refl (declarations_no_close old (d ∷ ds) decls))

    parts : AreCut new comma 0 cut.front (map (selector_shown old) (s ∷ ss))
    parts = cut_joined new comma 0 (sign_shown comma 0) refl cut.front (selector_shown old s) (map (selector_shown old) ss) cut.is_front (selectors_no_sign old comma 0 (s ∷ ss) refl selectors)

    entries_cut : AreCut new semicolon 1 cut.inside (map (declaration_shown old) (d ∷ ds))
    entries_cut = cut_joined new semicolon 1 (sign_shown semicolon 1) refl cut.inside (declaration_shown old d) (map (declaration_shown old) ds) cut.is_inside (declarations_no_semicolon old (d ∷ ds) decls)

    front_in : StandsIn ys cut.front
    front_in = subst (λ zs. StandsIn zs cut.front) (sym cut.whole) (stands_front cut.front (cut.first ∷ (cut.inside ++ cut.last ∷ [])))

    read : AreSelectorsAgain new old ys parts.parts (s ∷ ss)
    read = selectors_again new old ys parts.parts (s ∷ ss) selectors (wider new ys cut.front parts.parts (map (selector_shown old) (s ∷ ss)) front_in parts.each)

    declared : AreDeclarationsAgain new old entries_cut.parts (d ∷ ds)
    declared = declarations_again new old cut.inside entries_cut.parts (d ∷ ds) decls entries_cut.each

    is_parts : selector_parts ys ≡ parts.parts
    is_parts =
        ap selector_parts cut.whole
        ∙ ap (slice_split (is_sign_at comma 0)) (before_at opens_block cut.front cut.first (cut.inside ++ cut.last ∷ []) no_open cut.opens)
        ∙ parts.split

    is_entries : entries ys ≡ entries_cut.parts
    is_entries =
        ap entries cut.whole
        ∙ ap (λ zs. slice_split (is_sign_at semicolon 1) (before_first closes_block zs)) (after_at opens_block cut.front cut.first (cut.inside ++ cut.last ∷ []) no_open cut.opens)
        ∙ ap (slice_split (is_sign_at semicolon 1)) (before_at closes_block cut.inside cut.last [] no_close cut.closes)
        ∙ entries_cut.split

    reads : item_of new ys ≡ Some (Rule (record { selectors = read.items; decls = declared.items }))
    reads =
        ap (λ b. if b then Some (KeptBlock (piece_of ys)) else qualified_at new (piece_of ys) (selector_parts ys) (entries ys)) starts.1
        ∙ ap (λ ps. qualified_at new (piece_of ys) ps (entries ys)) is_parts
        ∙ ap (λ es. qualified_at new (piece_of ys) parts.parts es) is_entries
        ∙ ap (λ x. rule_or_block (piece_of ys) x (if list_any (is_nested new) entries_cut.parts then None else Some (filter_map (declaration new) entries_cut.parts))) read.reads
        ∙ ap (λ b. rule_or_block (piece_of ys) (Ok read.items) (if b then None else Some (filter_map (declaration new) entries_cut.parts))) declared.plain
        ∙ ap (λ xs. rule_or_block (piece_of ys) (Ok read.items) (Some xs)) declared.reads
        ∙ rule_reads new old ys read.items declared.items d ds declared.each

-- Tokens that are shown as a rule's are read as this rule.
pub rule_again : (new old : List ℕ) (ys : List Lexeme) (r : RuleParts) → IsOfRule old r → map (shown new) ys ≡ rule_shown old r → IsReadRule new old ys r
rule_again new old ys r sound e = by_lists r.selectors r.decls sound.has_selectors sound.has_declarations sound.selectors sound.decls e
  where
    by_lists : (ss : List SelItem) (ds : List DeclItem) → ss ≢ [] → ds ≢ [] → AllByRecursion (IsOfSelector old) ss → AllByRecursion (IsOfDeclaration old) ds
        → map (shown new) ys ≡ rule_shown old (record { selectors = ss; decls = ds }) → IsReadRule new old ys (record { selectors = ss; decls = ds })
    by_lists [] ds some some_decl selectors decls e = absurd (some refl)
    by_lists (s ∷ ss) [] some some_decl selectors decls e = absurd (some_decl refl)
    by_lists (s ∷ ss) (d ∷ ds) some some_decl selectors decls e = rule_by_lists new old ys s ss d ds selectors decls e
