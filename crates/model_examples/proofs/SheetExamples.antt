-- What small sheets are read as, and what is printed of them: each theorem is by computation.
use Rattle.std.proofs.Common.{◌≡◌, ℕ, Bool, true, false, List, [], ◌∷◌, ◌++◌, map, None, Result, Ok, Err, refl}
use Rattle.std.specs.Prelude.{codes}
use Rattle.std.specs.Char.{encode_utf8}
use Rattle.std.specs.Str.{chars, is_utf8}
use Rattle.std.specs.Str.Lossy.{utf8_valid_len, utf8_lossy}
use Rattle.css_model.specs.declared.fault.FaultKind.TheVariants.{NotUtf8, BadString, EndInside, Namespace}
use Rattle.css_model.specs.declared.fault.SheetFault.{SheetFault}
use Rattle.css_model.specs.declared.selector.Combinator.TheVariants.{Child, Inside}
use Rattle.css_model.specs.declared.selector.Op.TheVariants.{Equal, Word}
use Rattle.css_model.specs.declared.selector.Simple.{Simple}
use Rattle.css_model.specs.declared.selector.Test.{Test}
use Rattle.css_model.specs.declared.selector.Test.TheVariants.{Any, Attr, Id, Kind}
use Rattle.css_model.specs.declared.sheet.Decl.{Decl}
use Rattle.css_model.specs.declared.sheet.DeclItem.{DeclItem}
use Rattle.css_model.specs.declared.sheet.Item.{Item}
use Rattle.css_model.specs.declared.sheet.Item.TheVariants.{Rule, KeptRule, KeptBlock}
use Rattle.css_model.specs.declared.sheet.Piece.{Piece}
use Rattle.css_model.specs.declared.sheet.SelItem.{SelItem}
use Rattle.css_model.specs.declared.token.Gap.TheVariants as gap
use Rattle.css_model.specs.Text.Characters.{backslash, carriage_return, line_feed, quote, space}
use Rattle.css_model.specs.Sheets.Printed.{printed}
use Rattle.css_model.specs.Sheets.Spelling.{lexemes_of}
use Rattle.css_model.specs.Text.Tokens.{byte_order_mark}
use Rattle.css_model.specs.Sheets.Sheet.{sheet_of}

-- ---- How to write sheets

abbrev piece : ℕ → ℕ → Piece
piece start «end» = record { start = start; «end» = «end» }

abbrev decl : List ℕ → List ℕ → Bool → Decl
decl name value important = record { name = name; value = value; important = important }

abbrev simple : Test → Simple
simple test = record { negated = false; test = test }

abbrev class : List ℕ → Test
class name = Attr (record { name = codes "class"; op = Word; value = name })

-- a selector of one test at a place, and a declaration whose name and value stand at places
abbrev selector : Test → Piece → SelItem
selector test at = record { selector = record { chain = (simple test ∷ []) ∷ []; links = []; pseudo = None }; piece = at }

abbrev declares : Decl → Piece → Piece → DeclItem
declares d name value = record { decl = d; name = name; value = value }

abbrev rule : List SelItem → List DeclItem → Item
rule selectors decls = Rule (record { selectors = selectors; decls = decls })

abbrev kept_rule : Piece → ℕ → List Decl → Item
kept_rule at reason decls = KeptRule (record { piece = at; decls = decls; reason = reason })

-- what is printed of a sheet that is read
abbrev print_read : List ℕ → Result (List Item) SheetFault → Result (List ℕ) SheetFault
print_read source (Ok items) = Ok (printed source items)
print_read source (Err fault) = Err fault

abbrev print : List ℕ → Result (List ℕ) SheetFault
print source = print_read source (sheet_of source)

-- ---- Tokens that are no white space

-- what stands behind each: comments alone, white space with or without comments, nothing
gaps : map (λ x. x.gap) (lexemes_of (codes "a/**/b /**/c/**/ d")) ≡ gap.Comments ∷ gap.White ∷ gap.White ∷ gap.Nothing ∷ []
gaps = refl

-- how many brackets are open where each begins: a bracket stands outside itself at its start and inside at
-- its end, and one that closes nothing leaves the others open
levels : map (λ x. x.level) (lexemes_of (codes "a{b(]c)}d")) ≡ 0 ∷ 0 ∷ 1 ∷ 2 ∷ 2 ∷ 2 ∷ 1 ∷ 0 ∷ []
levels = refl

-- ---- Style rules

-- white space between the parts, and a last `;`
spaced : sheet_of (codes "a { color : red ; }") ≡ Ok (rule (selector (Kind (codes "a")) (piece 0 1) ∷ []) (declares (decl (codes "color") (codes "red") false) (piece 4 9) (piece 12 15) ∷ []) ∷ [])
unfolding utf8_valid_len is_utf8 chars encode_utf8 utf8_lossy
spaced = refl

spaced_print : print (codes "a { color : red ; }") ≡ Ok (codes "a{color:red}")
unfolding utf8_valid_len is_utf8 chars encode_utf8 utf8_lossy
spaced_print = refl

-- several selectors and declarations
several : sheet_of (codes ".a,#b{top:0;left:1px}") ≡ Ok (rule (selector (class (codes "a")) (piece 0 2) ∷ selector (Id (codes "b")) (piece 3 5) ∷ []) (declares (decl (codes "top") (codes "0") false) (piece 6 9) (piece 10 11) ∷ declares (decl (codes "left") (codes "1px") false) (piece 12 16) (piece 17 20) ∷ []) ∷ [])
unfolding utf8_valid_len is_utf8 chars encode_utf8 utf8_lossy
several = refl

several_print : print (codes ".a,#b{top:0;left:1px}") ≡ Ok (codes ".a,#b{top:0;left:1px}")
unfolding utf8_valid_len is_utf8 chars encode_utf8 utf8_lossy
several_print = refl

-- a type and a property without their case, but a value with it; they are printed as they stand
capitals : sheet_of (codes "A{TOP:0 Auto}") ≡ Ok (rule (selector (Kind (codes "a")) (piece 0 1) ∷ []) (declares (decl (codes "top") (codes "0 Auto") false) (piece 2 5) (piece 6 12) ∷ []) ∷ [])
unfolding utf8_valid_len is_utf8 chars encode_utf8 utf8_lossy
capitals = refl

capitals_print : print (codes "A{TOP:0 Auto}") ≡ Ok (codes "A{TOP:0 Auto}")
unfolding utf8_valid_len is_utf8 chars encode_utf8 utf8_lossy
capitals_print = refl

-- comments around and in a selector
comment_behind : sheet_of (codes ".a/**/{b:c}") ≡ Ok (rule (selector (class (codes "a")) (piece 0 2) ∷ []) (declares (decl (codes "b") (codes "c") false) (piece 7 8) (piece 9 10) ∷ []) ∷ [])
unfolding utf8_valid_len is_utf8 chars encode_utf8 utf8_lossy
comment_behind = refl

comment_inside : sheet_of (codes "./**/a{b:c}") ≡ Ok (rule (selector (class (codes "a")) (piece 0 6) ∷ []) (declares (decl (codes "b") (codes "c") false) (piece 7 8) (piece 9 10) ∷ []) ∷ [])
unfolding utf8_valid_len is_utf8 chars encode_utf8 utf8_lossy
comment_inside = refl

comment_print : print (codes "./**/a{b:c}") ≡ Ok (codes ".a{b:c}")
unfolding utf8_valid_len is_utf8 chars encode_utf8 utf8_lossy
comment_print = refl

-- in a value a comment parts two names
comment_in_value : sheet_of (codes "a{b/**/:/**/c/**/d}") ≡ Ok (rule (selector (Kind (codes "a")) (piece 0 1) ∷ []) (declares (decl (codes "b") (codes "c/**/d") false) (piece 2 3) (piece 12 18) ∷ []) ∷ [])
unfolding utf8_valid_len is_utf8 chars encode_utf8 utf8_lossy
comment_in_value = refl

-- selectors of several compounds
combinators : sheet_of (codes "a b>.c{d:e}") ≡ Ok (rule (record { selector = record { chain = (simple (class (codes "c")) ∷ []) ∷ (simple (Kind (codes "b")) ∷ []) ∷ (simple (Kind (codes "a")) ∷ []) ∷ []; links = Child ∷ Inside ∷ []; pseudo = None }; piece = piece 0 6 } ∷ []) (declares (decl (codes "d") (codes "e") false) (piece 7 8) (piece 9 10) ∷ []) ∷ [])
unfolding utf8_valid_len is_utf8 chars encode_utf8 utf8_lossy
combinators = refl

-- a comma inside a bracket parts no selectors
bracket : sheet_of (codes "[a='b,c'],*{d:e}") ≡ Ok (rule (selector (Attr (record { name = codes "a"; op = Equal; value = codes "b,c" })) (piece 0 9) ∷ selector Any (piece 10 11) ∷ []) (declares (decl (codes "d") (codes "e") false) (piece 12 13) (piece 14 15) ∷ []) ∷ [])
unfolding utf8_valid_len is_utf8 chars encode_utf8 utf8_lossy
bracket = refl

-- `important` with an escape
important : sheet_of (codes "a{b:c ! " ++ backslash ∷ codes "69mportant }") ≡ Ok (rule (selector (Kind (codes "a")) (piece 0 1) ∷ []) (declares (decl (codes "b") (codes "c") true) (piece 2 3) (piece 4 5) ∷ []) ∷ [])
unfolding utf8_valid_len is_utf8 chars encode_utf8 utf8_lossy
important = refl

important_print : print (codes "a{b:c ! " ++ backslash ∷ codes "69mportant }") ≡ Ok (codes "a{b:c!important}")
unfolding utf8_valid_len is_utf8 chars encode_utf8 utf8_lossy
important_print = refl

-- `<!--` and `-->` are skipped between items
between_items : sheet_of (codes "<!--a{b:c}-->d{e:f}") ≡ Ok (rule (selector (Kind (codes "a")) (piece 4 5) ∷ []) (declares (decl (codes "b") (codes "c") false) (piece 6 7) (piece 8 9) ∷ []) ∷ rule (selector (Kind (codes "d")) (piece 13 14) ∷ []) (declares (decl (codes "e") (codes "f") false) (piece 15 16) (piece 17 18) ∷ []) ∷ [])
unfolding utf8_valid_len is_utf8 chars encode_utf8 utf8_lossy
between_items = refl

-- ---- Values

-- a custom property may hold a block
custom_block : sheet_of (codes "a{--x:{b:c}}") ≡ Ok (rule (selector (Kind (codes "a")) (piece 0 1) ∷ []) (declares (decl (codes "--x") (codes "{b:c}") false) (piece 2 5) (piece 6 11) ∷ []) ∷ [])
unfolding utf8_valid_len is_utf8 chars encode_utf8 utf8_lossy
custom_block = refl

-- and white space alone, which is a value of its own
custom_white : sheet_of (codes "a{--x: }") ≡ Ok (rule (selector (Kind (codes "a")) (piece 0 1) ∷ []) (declares (decl (codes "--x") (codes " ") false) (piece 2 5) (piece 6 7) ∷ []) ∷ [])
unfolding utf8_valid_len is_utf8 chars encode_utf8 utf8_lossy
custom_white = refl

custom_empty : sheet_of (codes "a{--x:}") ≡ Ok (rule (selector (Kind (codes "a")) (piece 0 1) ∷ []) (declares (decl (codes "--x") [] false) (piece 2 5) (piece 6 6) ∷ []) ∷ [])
unfolding utf8_valid_len is_utf8 chars encode_utf8 utf8_lossy
custom_empty = refl

-- of any other property this is an empty value
empty_value : sheet_of (codes "a{x: }") ≡ Ok (rule (selector (Kind (codes "a")) (piece 0 1) ∷ []) (declares (decl (codes "x") [] false) (piece 2 3) (piece 4 4) ∷ []) ∷ [])
unfolding utf8_valid_len is_utf8 chars encode_utf8 utf8_lossy
empty_value = refl

-- White space behind an escape of hex digits would belong to it if the comment between them went: one is
-- printed for it.
open_escape : sheet_of (codes "a{c:" ++ backslash ∷ codes "1/**/ }") ≡ Ok (rule (selector (Kind (codes "a")) (piece 0 1) ∷ []) (declares (decl (codes "c") (backslash ∷ codes "1 ") false) (piece 2 3) (piece 4 6) ∷ []) ∷ [])
unfolding utf8_valid_len is_utf8 chars encode_utf8 utf8_lossy
open_escape = refl

open_escape_print : print (codes "a{c:" ++ backslash ∷ codes "1/**/ }") ≡ Ok (codes "a{c:" ++ backslash ∷ codes "1 }")
unfolding utf8_valid_len is_utf8 chars encode_utf8 utf8_lossy
open_escape_print = refl

-- between two tokens a second one is
open_escape_inside : print (codes "a{c:" ++ backslash ∷ codes "1/**/ d}") ≡ Ok (codes "a{c:" ++ backslash ∷ codes "1  d}")
unfolding utf8_valid_len is_utf8 chars encode_utf8 utf8_lossy
open_escape_inside = refl

-- a `)` that closes nothing
stray_in_value : sheet_of (codes "a{b:)}") ≡ Ok (rule (selector (Kind (codes "a")) (piece 0 1) ∷ []) (declares (decl (codes "b") (codes ")") false) (piece 2 3) (piece 4 5) ∷ []) ∷ [])
unfolding utf8_valid_len is_utf8 chars encode_utf8 utf8_lossy
stray_in_value = refl

-- ---- What is dropped

-- rules that declare nothing, and entries that are no declarations
dropped : sheet_of (codes "a{}b{c}d{e:f;;g;h:i}") ≡ Ok (rule (selector (Kind (codes "d")) (piece 7 8) ∷ []) (declares (decl (codes "e") (codes "f") false) (piece 9 10) (piece 11 12) ∷ declares (decl (codes "h") (codes "i") false) (piece 16 17) (piece 18 19) ∷ []) ∷ [])
unfolding utf8_valid_len is_utf8 chars encode_utf8 utf8_lossy
dropped = refl

-- a qualified rule without its block
without_block : sheet_of (codes "a{b:c}d") ≡ Ok (rule (selector (Kind (codes "a")) (piece 0 1) ∷ []) (declares (decl (codes "b") (codes "c") false) (piece 2 3) (piece 4 5) ∷ []) ∷ [])
unfolding utf8_valid_len is_utf8 chars encode_utf8 utf8_lossy
without_block = refl

-- ---- Kept rules: with a selector outside the profile

unknown_pseudo_class : sheet_of (codes "a:is(b){c:d}") ≡ Ok (kept_rule (piece 0 12) 1 (decl (codes "c") (codes "d") false ∷ []) ∷ [])
unfolding utf8_valid_len is_utf8 chars encode_utf8 utf8_lossy
unknown_pseudo_class = refl

unknown_pseudo_element : sheet_of (codes "a::marker{c:d}") ≡ Ok (kept_rule (piece 0 14) 2 (decl (codes "c") (codes "d") false ∷ []) ∷ [])
unfolding utf8_valid_len is_utf8 chars encode_utf8 utf8_lossy
unknown_pseudo_element = refl

with_namespace : sheet_of (codes "a|b{c:d}") ≡ Ok (kept_rule (piece 0 8) 3 (decl (codes "c") (codes "d") false ∷ []) ∷ [])
unfolding utf8_valid_len is_utf8 chars encode_utf8 utf8_lossy
with_namespace = refl

empty_selector : sheet_of (codes "a,{b:c}") ≡ Ok (kept_rule (piece 0 7) 10 (decl (codes "b") (codes "c") false ∷ []) ∷ [])
unfolding utf8_valid_len is_utf8 chars encode_utf8 utf8_lossy
empty_selector = refl

no_prelude : sheet_of (codes "{b:c}") ≡ Ok (kept_rule (piece 0 5) 10 (decl (codes "b") (codes "c") false ∷ []) ∷ [])
unfolding utf8_valid_len is_utf8 chars encode_utf8 utf8_lossy
no_prelude = refl

-- a `;` does not end a qualified rule
semicolon : sheet_of (codes "a;b{c:d}") ≡ Ok (kept_rule (piece 0 8) 10 (decl (codes "c") (codes "d") false ∷ []) ∷ [])
unfolding utf8_valid_len is_utf8 chars encode_utf8 utf8_lossy
semicolon = refl

-- a `)` that closes nothing
stray : sheet_of (codes "a){b:c}") ≡ Ok (kept_rule (piece 0 7) 10 (decl (codes "b") (codes "c") false ∷ []) ∷ [])
unfolding utf8_valid_len is_utf8 chars encode_utf8 utf8_lossy
stray = refl

-- white space between `.` and a name
apart : sheet_of (codes ". a{b:c}") ≡ Ok (kept_rule (piece 0 8) 10 (decl (codes "b") (codes "c") false ∷ []) ∷ [])
unfolding utf8_valid_len is_utf8 chars encode_utf8 utf8_lossy
apart = refl

-- the reason is that against the first such selector
first_reason : sheet_of (codes "a b,c|d,e:is(f){g:h}") ≡ Ok (kept_rule (piece 0 20) 3 (decl (codes "g") (codes "h") false ∷ []) ∷ [])
unfolding utf8_valid_len is_utf8 chars encode_utf8 utf8_lossy
first_reason = refl

-- one that declares nothing is kept too
kept_without_declaration : sheet_of (codes "a:is(b){}") ≡ Ok (kept_rule (piece 0 9) 1 [] ∷ [])
unfolding utf8_valid_len is_utf8 chars encode_utf8 utf8_lossy
kept_without_declaration = refl

-- a kept rule is printed as it stands, with one space for white space
kept_print : print (codes "a:is( b )  >  b { c : d ; }") ≡ Ok (codes "a:is( b ) > b { c : d ; }")
unfolding utf8_valid_len is_utf8 chars encode_utf8 utf8_lossy
kept_print = refl

-- ---- Kept blocks

-- a rule with a nested rule
nested : sheet_of (codes "a{b:c;&:hover{d:e}}") ≡ Ok (KeptBlock (piece 0 19) ∷ [])
unfolding utf8_valid_len is_utf8 chars encode_utf8 utf8_lossy
nested = refl

-- a block in a property that is not custom is as one
block_as_value : sheet_of (codes "a{b:{c:d}}") ≡ Ok (KeptBlock (piece 0 10) ∷ [])
unfolding utf8_valid_len is_utf8 chars encode_utf8 utf8_lossy
block_as_value = refl

-- at-rules, with a block or without
at_rules : sheet_of (codes "@media x{a{b:c}}d{e:f}") ≡ Ok (KeptBlock (piece 0 16) ∷ rule (selector (Kind (codes "d")) (piece 16 17) ∷ []) (declares (decl (codes "e") (codes "f") false) (piece 18 19) (piece 20 21) ∷ []) ∷ [])
unfolding utf8_valid_len is_utf8 chars encode_utf8 utf8_lossy
at_rules = refl

-- what stands before an `@import` decides whether that one counts
before_import : sheet_of (codes "a{b:c}@import x;d{e:f}") ≡ Ok (KeptBlock (piece 0 6) ∷ KeptBlock (piece 6 16) ∷ rule (selector (Kind (codes "d")) (piece 16 17) ∷ []) (declares (decl (codes "e") (codes "f") false) (piece 18 19) (piece 20 21) ∷ []) ∷ [])
unfolding utf8_valid_len is_utf8 chars encode_utf8 utf8_lossy
before_import = refl

-- a backslash before a newline is a token of its own, and its newline stays
lone_backslash : print (codes "@a " ++ backslash ∷ carriage_return ∷ line_feed ∷ codes ";") ≡ Ok (codes "@a " ++ backslash ∷ line_feed ∷ codes ";")
unfolding utf8_valid_len is_utf8 chars encode_utf8 utf8_lossy
lone_backslash = refl

-- ---- Faults

-- the outermost bracket that is open at the end
open_block : sheet_of (codes "a{b:(") ≡ Err (record { kind = EndInside; at = 1 })
unfolding utf8_valid_len is_utf8 chars encode_utf8 utf8_lossy
open_block = refl

-- `@namespace` without case, anywhere
namespace : sheet_of (codes "a{b:c}@NameSpace x;") ≡ Err (record { kind = Namespace; at = 6 })
unfolding utf8_valid_len is_utf8 chars encode_utf8 utf8_lossy
namespace = refl

-- the end inside a bracket is told first
order_of_faults : sheet_of (codes "@namespace x;a{") ≡ Err (record { kind = EndInside; at = 14 })
unfolding utf8_valid_len is_utf8 chars encode_utf8 utf8_lossy
order_of_faults = refl

-- but what is no token before both
bad_string : sheet_of (codes "@namespace x;a{" ++ quote ∷ line_feed ∷ []) ≡ Err (record { kind = BadString; at = 15 })
unfolding utf8_valid_len is_utf8 chars encode_utf8 utf8_lossy
bad_string = refl

-- and bytes that are not UTF-8 before that
not_utf8 : sheet_of (97 ∷ 0xFF ∷ quote ∷ []) ≡ Err (record { kind = NotUtf8; at = 1 })
unfolding utf8_valid_len is_utf8 chars encode_utf8 utf8_lossy
not_utf8 = refl

-- ---- Byte order marks

-- at the start of a sheet one is skipped
mark_at_start : print (byte_order_mark ++ codes "a{b:c}") ≡ Ok (codes "a{b:c}")
unfolding utf8_valid_len is_utf8 chars encode_utf8 utf8_lossy
mark_at_start = refl

-- behind other text it is a name, before which a space is printed: at the start it would be skipped
mark_as_name : print (codes "<!--" ++ byte_order_mark ++ codes "{b:c}") ≡ Ok (space ∷ byte_order_mark ++ codes "{b:c}")
unfolding utf8_valid_len is_utf8 chars encode_utf8 utf8_lossy
mark_as_name = refl
