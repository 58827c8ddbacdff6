-- A text that is printed for a block is read as one kept block, without a fault.
use Rattle.std.proofs.Common.{◌≡◌, ℕ, ◌==◌, ◌≤◌, nat_lt, Bool, true, false, List, [], ◌∷◌, length, Option, Some, None, Result, Ok, Err, refl, ◌∙◌, ap, arith}
use Rattle.std.specs.Prelude.{◌&&◌, if◌then◌else◌}
use Rattle.std.specs.List.{cons_option, find}
use Rattle.std.specs.Option.{option_map}
use Rattle.std.specs.Str.{IsUtf8}
use Rattle.std.specs.Str.Lossy.{utf8_valid_len}
use Rattle.std.proofs.lemmas.Bool.{cond-true, le-ltb}
use Rattle.std.proofs.lemmas.Str.{utf8_valid_len-IsUtf8}
use Rattle.css_model.specs.declared.fault.FaultKind.TheVariants.{TooLong, NotUtf8, EndInside, TooDeep, Namespace, TooManyItems, TooManyPairs}
use Rattle.css_model.specs.declared.fault.SheetFault.{SheetFault}
use Rattle.css_model.specs.declared.sheet.Item.{Item}
use Rattle.css_model.specs.declared.sheet.Item.TheVariants.{KeptBlock}
use Rattle.css_model.specs.declared.token.Lexeme.{Lexeme}
use Rattle.css_model.specs.Sheets.Fault.{fault_of, unless}
use Rattle.css_model.specs.Sheets.Items.{is_at_rule}
use Rattle.css_model.specs.Sheets.Limits.{max_bytes, max_depth}
use Rattle.css_model.specs.Sheets.Sheet.{is_namespace, namespace_at, read_items, sheet_of, sheet_of_stream, sheet_of_tokens, too_deep, too_many_items, too_many_pairs, unclosed}
use Rattle.css_model.specs.Sheets.Sound.{raw_items}
use Rattle.css_model.specs.Sheets.Spelling.{lexemes_of}
use Rattle.css_model.specs.Text.Lexemes.{opens, piece_of}
use Rattle.css_model.specs.Text.Tokens.{tokens}
use Rattle.list_facts.proofs.Cuts.{None_of}

-- a text of one item, and what the tests of a sheet look at
pub record IsOneItem (text : List ℕ) (ys : List Lexeme) : Type 0 where
  pub short : length text ≤ max_bytes
  pub utf8 : IsUtf8 text
  pub clean : (tokens text true).fault ≡ None
  pub closed : unclosed (tokens text true).tokens ≡ None
  pub shallow : None_of (λ x. opens x.kind && x.level == max_depth) (lexemes_of text)
  pub raw : raw_items text ≡ ys ∷ []
  pub at_rule : is_at_rule ys ≡ true
  pub no_namespace : is_namespace text ys ≡ false

none_found : {A : Type 0} (p : A → Bool) (xs : List A) → None_of p xs → find p xs ≡ None
none_found p [] none = refl
none_found p (x ∷ xs) none = ap (λ (b : Bool). if b then Some x else find p xs) none.0 ∙ none_found p xs none.1

-- what is read, unless one of these places is that of a fault
abbrev by_places : Option ℕ → Option ℕ → Option ℕ → List Item → Result (List Item) SheetFault
by_places deep unclosed_ namespace read =
    unless
    (fault_of TooDeep deep ∷ fault_of EndInside unclosed_ ∷ fault_of Namespace namespace ∷ fault_of TooManyItems (too_many_items read) ∷ fault_of TooManyPairs (too_many_pairs 0 read) ∷ [])
    read

pub reads_one : (text : List ℕ) (ys : List Lexeme) → IsOneItem text ys → sheet_of text ≡ Ok (KeptBlock (piece_of ys) ∷ [])
reads_one text ys one =
    ap (λ b. if b then Err (record { kind = TooLong; at = max_bytes })
    else if nat_lt (utf8_valid_len text) (length text) then Err (record { kind = NotUtf8; at = utf8_valid_len text }) else sheet_of_stream text (tokens text true).fault (tokens text true).tokens)
    (le-ltb max_bytes (length text) one.short)
    ∙ ap (λ b. if b then Err (record { kind = NotUtf8; at = utf8_valid_len text }) else sheet_of_stream text (tokens text true).fault (tokens text true).tokens)
    (le-ltb (utf8_valid_len text) (length text) valid)
    ∙ ap (λ f. sheet_of_stream text f (tokens text true).tokens) one.clean
    ∙ of_tokens
  where
    valid : length text ≤ utf8_valid_len text
    valid = let same = utf8_valid_len-IsUtf8 text one.utf8 in omega (arith, same)

    not_deep : too_deep (lexemes_of text) ≡ None
    not_deep = ap (option_map (λ x. x.span.start)) (none_found (λ x. opens x.kind && x.level == max_depth) (lexemes_of text) one.shallow)

    no_name : namespace_at text (raw_items text) ≡ None
    no_name =
        ap (λ raw. option_map (λ item. (piece_of item).start) (find (is_namespace text) raw)) one.raw
        ∙ ap (option_map (λ item. (piece_of item).start)) (none_found (is_namespace text) (ys ∷ []) (one.no_namespace, tt))

    read : read_items text (raw_items text) ≡ KeptBlock (piece_of ys) ∷ []
    read = ap (read_items text) one.raw ∙ ap (λ (o : Option Item). cons_option o []) (cond-true _ _ _ one.at_rule)

    of_tokens : sheet_of_tokens text (tokens text true).tokens ≡ Ok (KeptBlock (piece_of ys) ∷ [])
    of_tokens =
        ap (λ deep. by_places deep (unclosed (tokens text true).tokens) (namespace_at text (raw_items text)) (read_items text (raw_items text))) not_deep
        ∙ ap (λ closed. by_places None closed (namespace_at text (raw_items text)) (read_items text (raw_items text))) one.closed
        ∙ ap (λ names. by_places None None names (read_items text (raw_items text))) no_name
        ∙ ap (by_places None None None) read
