-- The text of a document with one element marked (own): a line for the whole, and then one for each line of
-- the document, as in
--     child 0 pseudo none
--     0 1 - x
--     1 1 * a +text :link :hover id=
use Rattle.std.specs.Prelude.{ℕ, suc, ◌/◌, ◌%◌, ◌+◌, ◌==◌, ◌||◌, nat_lt, Bool, true, false, if◌then◌else◌, List, [], ◌∷◌, ◌++◌, map, Option, Some, None, codes, decimal}
use Rattle.std.specs.Char.{is_ascii_alphanumeric}
use Rattle.std.specs.List.{filter, flat_map}
use Rattle.std.specs.Str.{encode_utf8_all}
use Rattle.css_model.specs.declared.example.Example.{Example}
use Rattle.css_model.specs.declared.example.RunLine.{RunLine}
use Rattle.css_model.specs.declared.selector.Flag.{Flag}
use Rattle.css_model.specs.declared.selector.Flag.TheVariants.{Link, Visited, Hover, Active, Focus, Target, Enabled, Disabled, Checked}
use Rattle.css_model.specs.declared.selector.Pseudo.{Pseudo}
use Rattle.css_model.specs.declared.selector.Pseudo.TheVariants.{FirstLine, FirstLetter, Before, After}
use Rattle.css_model.specs.Documents.FeatureParts.{FeatureParts}
use Rattle.css_model.specs.Documents.Features.{flags_of}
use Rattle.css_model.specs.Text.Characters.{dash, line_feed, percent, space}

-- ---- Names and values

-- an ASCII letter or digit, `_` or `-`
abbrev pub is_plain : ℕ → Bool
is_plain b = is_ascii_alphanumeric b || (b == 0x5F || b == dash)

-- an upper-case hex digit
abbrev pub hex_digit : ℕ → ℕ
hex_digit d = if nat_lt d 10 then 0x30 + d else 0x37 + d

-- A byte: itself where it is plain, else `%` and its two hex digits.
abbrev pub escaped_byte : ℕ → List ℕ
escaped_byte b = if is_plain b then b ∷ [] else percent ∷ hex_digit (b / 16) ∷ hex_digit (b % 16) ∷ []

abbrev pub escaped : List ℕ → List ℕ
escaped text = flat_map escaped_byte (encode_utf8_all text)

-- ---- A line: fields with one space between each two

abbrev pub flag_field : Flag → List ℕ
flag_field Link = codes ":link"
flag_field Visited = codes ":visited"
flag_field Hover = codes ":hover"
flag_field Active = codes ":active"
flag_field Focus = codes ":focus"
flag_field Target = codes ":target"
flag_field Enabled = codes ":enabled"
flag_field Disabled = codes ":disabled"
flag_field Checked = codes ":checked"

abbrev pub all_flags : List Flag
all_flags = Link ∷ Visited ∷ Hover ∷ Active ∷ Focus ∷ Target ∷ Enabled ∷ Disabled ∷ Checked ∷ []

abbrev pub flag_fields : ℕ → List (List ℕ)
flag_fields bits = map flag_field (filter (flags_of bits) all_flags)

-- one of these fields with a space before it, if it is there
abbrev pub one_flag : ℕ → Flag → List ℕ
one_flag bits flag = if flags_of bits flag then space ∷ flag_field flag else []

abbrev pub equals_sign : ℕ
equals_sign = 0x3D

abbrev pub attribute_field : List ℕ × List ℕ → List ℕ
attribute_field a = escaped a.0 ++ equals_sign ∷ escaped a.1

abbrev pub text_fields : Bool → List (List ℕ)
text_fields true = codes "+text" ∷ []
text_fields false = []

-- what an element has beside its type
abbrev pub more_fields : FeatureParts → List (List ℕ)
more_fields f = text_fields f.text ++ (flag_fields f.flags ++ map attribute_field f.attrs)

abbrev pub mark_field : Bool → List ℕ
mark_field true = codes "*"
mark_field false = codes "-"

-- fields, with a space before each
abbrev pub spaced : List (List ℕ) → List ℕ
spaced fields = flat_map (λ field. space ∷ field) fields

-- a line, by whether it is the marked one
abbrev pub line_text : Bool → RunLine → List ℕ
line_text marked l = decimal l.depth ++ spaced (decimal l.count ∷ mark_field marked ∷ escaped l.element.kind ∷ more_fields l.element)

-- ---- The whole text

abbrev pub pseudo_name : Option Pseudo → List ℕ
pseudo_name None = codes "none"
pseudo_name (Some FirstLine) = codes "first-line"
pseudo_name (Some FirstLetter) = codes "first-letter"
pseudo_name (Some Before) = codes "before"
pseudo_name (Some After) = codes "after"

abbrev pub child_name : Bool → List ℕ
child_name true = codes "child 1 pseudo "
child_name false = codes "child 0 pseudo "

abbrev pub head_text : Bool → Option Pseudo → List ℕ
head_text root_is_child pseudo = child_name root_is_child ++ pseudo_name pseudo

-- whether the line of this number is the marked one, if there is one
abbrev pub is_marked : Option ℕ → ℕ → Bool
is_marked None k = false
is_marked (Some marked) k = marked == k

-- the lines from this number on
abbrev pub line_texts : Option ℕ → ℕ → List RunLine → List (List ℕ)
line_texts marked k [] = []
line_texts marked k (l ∷ lines) = line_text (is_marked marked k) l ∷ line_texts marked (suc k) lines

abbrev pub doc_lines : Example → List (List ℕ)
doc_lines x = head_text x.doc.root_is_child x.pseudo ∷ line_texts (Some x.marked) 0 x.doc.lines

-- lines, each with its end
abbrev pub ended : List (List ℕ) → List ℕ
ended lines = flat_map (λ line. line ++ line_feed ∷ []) lines

abbrev pub doc_text : Example → List ℕ
doc_text x = ended (doc_lines x)
