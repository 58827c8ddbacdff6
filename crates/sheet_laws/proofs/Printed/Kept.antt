-- A kept item says what it says in the source.
use Rattle.std.proofs.Common.{◌≡◌, subst, ℕ, Bool, true, false, List, [], ◌∷◌, ◌++◌, map, Option, Some, None, Result, Ok, Err, refl, ◌∙◌, ap}
use Rattle.std.specs.Prelude.{if◌then◌else◌}
use Rattle.std.specs.List.{AllZip, list_any, filter_map}
use Rattle.css_model.specs.declared.reason.Reason.{Reason}
use Rattle.css_model.specs.declared.sheet.DeclItem.{DeclItem}
use Rattle.css_model.specs.declared.sheet.Item.{Item}
use Rattle.css_model.specs.declared.sheet.Item.TheVariants.{Rule, KeptRule, KeptBlock}
use Rattle.css_model.specs.declared.sheet.Piece.{Piece}
use Rattle.css_model.specs.declared.sheet.SelItem.{SelItem}
use Rattle.css_model.specs.declared.token.Lexeme.{Lexeme}
use Rattle.css_model.specs.Text.Characters.{open_curly, close_curly}
use Rattle.css_model.specs.Sheets.Declarations.{declaration, declarations, is_nested}
use Rattle.css_model.specs.Sheets.Items.{is_at_rule, opens_block, closes_block, selector_parts, entries}
use Rattle.css_model.specs.Text.Lexemes.{piece_of}
use Rattle.css_model.specs.Lists.{all_of}
use Rattle.css_model.specs.Selectors.Reasons.{number_of}
use Rattle.css_model.specs.Sheets.Selectors.{selector_item}
use Rattle.css_model.specs.Sheets.Sheet.{rule_of, rule_or_block, item_of}
use Rattle.sheet_laws.proofs.Shown.Alike.{IsLike, AreClosable, like_last_of_item, item_like}
use Rattle.sheet_laws.proofs.Printed.Entries.{IsPrinted, SaySame, at_rule_like, sign_like, like_of, printed_like}
use Rattle.sheet_laws.proofs.Printed.Items.{IsClosedRule, is_ended, closed_rule, parts_without_last, entries_without_last}
use Rattle.list_facts.proofs.Zips.{AreBoth, AllLast, zip_any}
use Rattle.sheet_laws.proofs.Printed.Selectors.{AreBothRead, TestSame, selectors_printed, declarations_printed}
use Rattle.sheet_laws.proofs.Shown.Values.{IsInner, IsLastOfItem}

-- items at these places that say the same, where the text of a kept one is not looked at
abbrev pub SameAt : Piece → Piece → Item → Item → Type 0
SameAt piece' piece (Rule r') (Rule r) = AllZip TestSame r'.selectors r.selectors × AllZip SaySame r'.decls r.decls
SameAt piece' piece (Rule r') (KeptRule k) = ⊥
SameAt piece' piece (Rule r') (KeptBlock p) = ⊥
SameAt piece' piece (KeptRule k') (Rule r) = ⊥
SameAt piece' piece (KeptRule k') (KeptRule k) = (k'.piece ≡ piece') × (k.piece ≡ piece) × (k'.decls ≡ k.decls) × (k'.reason ≡ k.reason)
SameAt piece' piece (KeptRule k') (KeptBlock p) = ⊥
SameAt piece' piece (KeptBlock p') (Rule r) = ⊥
SameAt piece' piece (KeptBlock p') (KeptRule k) = ⊥
SameAt piece' piece (KeptBlock p') (KeptBlock p) = (p' ≡ piece') × (p ≡ piece)

pub decls_same : (ds' ds : List DeclItem) → AllZip SaySame ds' ds → map (λ d. d.decl) ds' ≡ map (λ d. d.decl) ds
decls_same [] [] z = refl
decls_same [] (d ∷ ds) z = absurd z
decls_same (d' ∷ ds') [] z = absurd z
decls_same (d' ∷ ds') (d ∷ ds) z = ap (λ x. x ∷ map (λ d. d.decl) ds') z.0 ∙ ap (λ xs. d.decl ∷ xs) (decls_same ds' ds z.1)

rule_same : (piece' piece : Piece) (read' read : Result (List SelItem) Reason) (ds' ds : List DeclItem) → AreBothRead (AllZip TestSame) read' read → AllZip SaySame ds' ds
    → AreBoth (SameAt piece' piece) (rule_of piece' read' ds') (rule_of piece read ds)
rule_same piece' piece (Err reason') (Err reason) ds' ds both z = (refl, refl, decls_same ds' ds z, ap number_of both)
rule_same piece' piece (Err reason') (Ok read) ds' ds both z = absurd both
rule_same piece' piece (Ok read') (Err reason) ds' ds both z = absurd both
rule_same piece' piece (Ok read') (Ok read) [] [] both z = tt
rule_same piece' piece (Ok read') (Ok read) [] (d ∷ ds) both z = absurd z
rule_same piece' piece (Ok read') (Ok read) (d' ∷ ds') [] both z = absurd z
rule_same piece' piece (Ok read') (Ok read) (d' ∷ ds') (d ∷ ds) both z = (both, z)

rule_or_block_same : (piece' piece : Piece) (read' read : Result (List SelItem) Reason) (ds' ds : Option (List DeclItem)) → AreBothRead (AllZip TestSame) read' read → AreBoth (AllZip SaySame) ds' ds
    → AreBoth (SameAt piece' piece) (rule_or_block piece' read' ds') (rule_or_block piece read ds)
rule_or_block_same piece' piece read' read None None both z = (refl, refl)
rule_or_block_same piece' piece read' read None (Some ds) both z = absurd z
rule_or_block_same piece' piece read' read (Some ds') None both z = absurd z
rule_or_block_same piece' piece read' read (Some ds') (Some ds) both z = rule_same piece' piece read' read ds' ds both z

-- a list of printed tokens without its last one
record IsCutLast (new old : List ℕ) (ys front : List Lexeme) (last : Lexeme) : Type 0 where
  upper : List Lexeme
  end : Lexeme
  whole : ys ≡ upper ++ end ∷ []
  fronts : AllZip (IsPrinted new old) upper front
  ends : IsLike new old end last

cut_last : (new old : List ℕ) (ys front : List Lexeme) (last : Lexeme) → AllLast (IsInner new old) (IsLastOfItem new old) ys (front ++ last ∷ []) → AreClosable old (front ++ last ∷ [])
    → IsCutLast new old ys front last
cut_last new old [] [] last z each = absurd z
cut_last new old [] (x ∷ front) last z each = absurd z
cut_last new old (y ∷ []) [] last z each =
    record { upper = []; end = y; whole = refl; fronts = tt; ends = like_last_of_item new old y last z each.0 }
cut_last new old (y ∷ after ∷ ys) [] last z each = absurd z
cut_last new old (y ∷ []) (x ∷ []) last z each = absurd z
cut_last new old (y ∷ []) (x ∷ next ∷ front) last z each = absurd z
cut_last new old (y ∷ after ∷ ys) (x ∷ []) last z each =
    let rest = cut_last new old (after ∷ ys) [] last z.1 each.1 in
    record { upper = y ∷ rest.upper; end = rest.end; whole = ap (λ zs. y ∷ zs) rest.whole; fronts = ((z.0, each.0), rest.fronts); ends = rest.ends }
cut_last new old (y ∷ after ∷ ys) (x ∷ next ∷ front) last z each =
    let rest = cut_last new old (after ∷ ys) (next ∷ front) last z.1 each.1 in
    record { upper = y ∷ rest.upper; end = rest.end; whole = ap (λ zs. y ∷ zs) rest.whole; fronts = ((z.0, each.0), rest.fronts); ends = rest.ends }

-- a qualified rule, in the words of its tokens
abbrev pub qualified_at : List ℕ → Piece → List (List Lexeme) → List (List Lexeme) → Option Item
qualified_at source piece parts entries =
    rule_or_block piece (all_of (selector_item source) parts) (if list_any (is_nested source) entries then None else Some (filter_map (declaration source) entries))

qualified_item : (source : List ℕ) (xs front : List Lexeme) (last : Lexeme) → xs ≡ front ++ last ∷ [] → list_any opens_block front ≡ true → closes_block last ≡ true
    → is_at_rule xs ≡ false → item_of source xs ≡ qualified_at source (piece_of xs) (selector_parts front) (entries front)
qualified_item source xs front last whole has closes qualified =
    ap (λ (b : Bool). if b then Some (KeptBlock (piece_of xs)) else qualified_at source (piece_of xs) (selector_parts xs) (entries xs)) qualified
    ∙ ap (λ parts. qualified_at source (piece_of xs) parts (entries xs)) (ap selector_parts whole ∙ parts_without_last front last has)
    ∙ ap (λ es. qualified_at source (piece_of xs) (selector_parts front) es) (ap entries whole ∙ entries_without_last front last has closes)

cut_item_same : (new old : List ℕ) (ys xs : List Lexeme) (closed : IsClosedRule xs) → IsCutLast new old ys closed.front closed.last → is_at_rule ys ≡ false → is_at_rule xs ≡ false
    → AreBoth (SameAt (piece_of ys) (piece_of xs)) (item_of new ys) (item_of old xs)
cut_item_same new old ys xs closed cut qualified' qualified =
    let has : list_any opens_block cut.upper ≡ true =
    zip_any (IsLike new old) opens_block opens_block (sign_like new old open_curly 0) cut.upper closed.front (like_of new old cut.upper closed.front cut.fronts) ∙ closed.has_block in
    let closes : closes_block cut.end ≡ true = sign_like new old close_curly 1 cut.end closed.last cut.ends ∙ closed.closes in
    rw (qualified_item new ys cut.upper cut.end cut.whole has closes qualified', qualified_item old xs closed.front closed.last closed.whole closed.has_block closed.closes qualified)
    (rule_or_block_same (piece_of ys) (piece_of xs) (all_of (selector_item new) (selector_parts cut.upper)) (all_of (selector_item old) (selector_parts closed.front))
    (declarations new cut.upper) (declarations old closed.front)
    (selectors_printed new old cut.upper closed.front cut.fronts) (declarations_printed new old cut.upper closed.front cut.fronts))

-- An item that says what another one does, where it does so without the last token of a closed rule.
item_same : (new old : List ℕ) (ys xs : List Lexeme) → AllZip (IsLike new old) ys xs → ((closed : IsClosedRule xs) → IsCutLast new old ys closed.front closed.last)
    → (is_at_rule xs ≡ false → is_ended xs ≡ true) → AreBoth (SameAt (piece_of ys) (piece_of xs)) (item_of new ys) (item_of old xs)
item_same new old ys xs like cut ended = which (is_at_rule xs) refl
  where
    same : is_at_rule ys ≡ is_at_rule xs
    same = at_rule_like new old ys xs like

    which : (b : Bool) → is_at_rule xs ≡ b → AreBoth (SameAt (piece_of ys) (piece_of xs)) (item_of new ys) (item_of old xs)
    which true is = rw (same, is) (refl, refl)
    which false is = let closed = closed_rule xs is (ended is) in cut_item_same new old ys xs closed (cut closed) (same ∙ is) is

-- An item whose tokens are printed as they stand is the item that it was.
pub kept_item_same : (new old : List ℕ) (ys xs : List Lexeme) → AllLast (IsInner new old) (IsLastOfItem new old) ys xs → AreClosable old xs
    → (is_at_rule xs ≡ false → is_ended xs ≡ true) → AreBoth (SameAt (piece_of ys) (piece_of xs)) (item_of new ys) (item_of old xs)
kept_item_same new old ys xs z each =
    item_same new old ys xs (item_like new old ys xs z each)
    (λ closed. cut_last new old ys closed.front closed.last (subst (λ zs. AllLast (IsInner new old) (IsLastOfItem new old) ys zs) closed.whole z) (subst (AreClosable old) closed.whole each))

cut_inner : (new old : List ℕ) (ys front : List Lexeme) (last : Lexeme) → AllZip (IsPrinted new old) ys (front ++ last ∷ []) → IsCutLast new old ys front last
cut_inner new old [] [] last z = absurd z
cut_inner new old [] (x ∷ front) last z = absurd z
cut_inner new old (y ∷ []) [] last z = record { upper = []; end = y; whole = refl; fronts = tt; ends = printed_like new old y last z.0 }
cut_inner new old (y ∷ next ∷ ys) [] last z = absurd z.1
cut_inner new old (y ∷ ys) (x ∷ front) last z =
    let rest = cut_inner new old ys front last z.1 in
    record { upper = y ∷ rest.upper; end = rest.end; whole = ap (λ zs. y ∷ zs) rest.whole; fronts = (z.0, rest.fronts); ends = rest.ends }

-- So is one whose tokens are printed before others.
pub inner_item_same : (new old : List ℕ) (ys xs : List Lexeme) → AllZip (IsPrinted new old) ys xs → (is_at_rule xs ≡ false → is_ended xs ≡ true)
    → AreBoth (SameAt (piece_of ys) (piece_of xs)) (item_of new ys) (item_of old xs)
inner_item_same new old ys xs z =
    item_same new old ys xs (like_of new old ys xs z) (λ closed. cut_inner new old ys closed.front closed.last (subst (λ zs. AllZip (IsPrinted new old) ys zs) closed.whole z))
