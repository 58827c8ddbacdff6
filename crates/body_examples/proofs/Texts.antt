-- What texts are read as and printed as: tokens, selectors, sheets, blocks of media, documents.
use Rattle.std.proofs.Common.{◌≡◌, ℕ, List, [], ◌∷◌, Result, Ok, Err, None, false, map, refl}
use Rattle.std.specs.Char.{encode_utf8}
use Rattle.std.specs.Prelude.{codes}
use Rattle.std.specs.Str.{chars, is_utf8}
use Rattle.std.specs.Str.Lossy.{utf8_valid_len, utf8_lossy}
use Rattle.std.specs.Fmt.{digits}
use Rattle.body_examples.proofs.Values.{a_class, class, features, inside}
use Rattle.css_model.specs.declared.fault.SheetFault.{SheetFault}
use Rattle.css_model.specs.declared.reason.Reason.TheVariants.{NotAllowed, PseudoClass}
use Rattle.css_model.specs.declared.selector.Test.TheVariants.{Kind}
use Rattle.css_model.specs.declared.sheet.Item.{Item}
use Rattle.css_model.specs.Selectors.Reading.{selector_of}
use Rattle.css_model.specs.Sheets.Printed.{printed}
use Rattle.css_model.specs.Sheets.Sheet.{sheet_of}
use Rattle.doc_text.specs.DocText.{attribute_field, doc_text}
use Rattle.media_groups.specs.Opened.{opened_of}
use Rattle.media_groups.specs.Printed.{printed_opened}

-- what is made of a sheet without a fault
abbrev pub of_sheet : (List Item → List ℕ) → Result (List Item) SheetFault → List ℕ
of_sheet f (Ok items) = f items
of_sheet f (Err fault) = []

-- ---- Selectors

one_class : selector_of (codes ".a") ≡ Ok a_class
unfolding utf8_valid_len is_utf8 chars encode_utf8 utf8_lossy
one_class = refl

-- the last compound is read, and it is the first of the chain
two_compounds : selector_of (codes "a .b") ≡ Ok (inside (Kind (codes "a")) (class (codes "b")))
unfolding utf8_valid_len is_utf8 chars encode_utf8 utf8_lossy
two_compounds = refl

-- a negation inside a negation is no selector
negation_inside_a_negation : selector_of (codes ":not(:not(a))") ≡ Err NotAllowed
unfolding utf8_valid_len is_utf8 chars encode_utf8 utf8_lossy
negation_inside_a_negation = refl

-- of two reasons the first one counts
first_reason : selector_of (codes ":foo a,") ≡ Err PseudoClass
unfolding utf8_valid_len is_utf8 chars encode_utf8 utf8_lossy
first_reason = refl

-- ---- The printed text of a sheet

abbrev print : List ℕ → List ℕ
print source = of_sheet (printed source) (sheet_of source)

-- white space between compounds is a combinator
white_between_compounds_stays : print (codes "a  .b{c:d}") ≡ codes "a .b{c:d}"
unfolding utf8_valid_len is_utf8 chars encode_utf8 utf8_lossy
white_between_compounds_stays = refl

last_rule_is_printed : print (codes "a{b:c}d{e:f}") ≡ codes "a{b:c}d{e:f}"
unfolding utf8_valid_len is_utf8 chars encode_utf8 utf8_lossy
last_rule_is_printed = refl

-- ---- Opened blocks: which items they are, and their printed text

abbrev opened : List ℕ → List ℕ
opened source = of_sheet (λ items. map (λ m. m.item) (opened_of items source)) (sheet_of source)

both_blocks_are_opened : opened (codes "@media x{a{b:c}}@media y{d{e:f}}") ≡ 0 ∷ 1 ∷ []
unfolding utf8_valid_len is_utf8 chars encode_utf8 utf8_lossy
both_blocks_are_opened = refl

none_before_an_import : opened (codes "@media x{a{b:c}}@import y;") ≡ []
unfolding utf8_valid_len is_utf8 chars encode_utf8 utf8_lossy
none_before_an_import = refl

one_after_an_import : opened (codes "@import y;@media x{a{b:c}}") ≡ 1 ∷ []
unfolding utf8_valid_len is_utf8 chars encode_utf8 utf8_lossy
one_after_an_import = refl

no_other_at_rule : opened (codes "@page{a:b}") ≡ []
unfolding utf8_valid_len is_utf8 chars encode_utf8 utf8_lossy
no_other_at_rule = refl

abbrev print_with_blocks : List ℕ → List ℕ
print_with_blocks source = of_sheet (λ items. printed_opened items source) (sheet_of source)

-- each block is printed with its own body
bodies_are_printed : print_with_blocks (codes "@media x { a { b : c } } @media y{d{e:f}}") ≡ codes "@media x{a{b:c}}@media y{d{e:f}}"
unfolding utf8_valid_len is_utf8 chars encode_utf8 utf8_lossy
bodies_are_printed = refl

-- ---- The text of a document

equals_sign_of_an_attribute : attribute_field (codes "id", codes "a b") ≡ codes "id=a%20b"
unfolding encode_utf8
equals_sign_of_an_attribute = refl

second_line_is_marked : doc_text (record {
  doc = record {
    root_is_child = false;
    lines = record { depth = 0; count = 1; element = features (codes "x") } ∷ record { depth = 1; count = 1; element = features (codes "li") } ∷ [];
  };
  marked = 1;
  pseudo = None;
}) ≡ codes "child 0 pseudo none\n0 1 - x\n1 1 * li\n"
unfolding encode_utf8 digits
second_line_is_marked = refl
