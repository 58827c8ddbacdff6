-- What the functions take from the fields of a line, whether or not they stand as they should.
use Rattle.std.specs.Prelude.{ℕ, ◌+◌, ◌-◌, ◌*◌, ◌==◌, ◌&&◌, ◌<◌, ◌^◌, nat_le, nat_lt, not, Bool, true, if◌then◌else◌, List, [], ◌∷◌, length, bit_or, codes}
use Rattle.std.specs.Cmp.Lexicographic.{slice_cmp}
use Rattle.std.specs.Ordering.{is_lt, nat_cmp}
use Rattle.std.specs.List.{All, flat_map, list_all, list_any}
use Rattle.css_model.specs.declared.example.RunLine.{RunLine}
use Rattle.css_model.specs.Documents.Document.{IsText}
use Rattle.css_model.specs.Documents.FeatureParts.{FeatureParts}
use Rattle.css_model.specs.Documents.RunDocuments.{AreRunFeatures}
use Rattle.css_model.specs.Lists.{same_text}
use Rattle.css_model.specs.Text.Characters.{percent}
use Rattle.css_model.specs.Text.Names.{code_points}
use Rattle.doc_text.specs.DocText.{equals_sign}
use Rattle.doc_text.specs.Lines.{holds}

-- the value of a hex digit, and 0 of any other byte
abbrev pub nibble : ℕ → ℕ
nibble c = if nat_le 0x30 c && nat_le c 0x39 then c - 0x30 else if nat_le 0x41 c && nat_le c 0x46 then c - 0x37 else 0

-- bytes, with one in place of each `%` and the two bytes behind it
abbrev pub unescaped : List ℕ → List ℕ
unescaped [] = []
unescaped (c ∷ []) = c ∷ []
unescaped (c ∷ a ∷ []) = c ∷ a ∷ []
unescaped (c ∷ a ∷ b ∷ rest) = if c == percent then (nibble a * 16 + nibble b) ∷ unescaped rest else c ∷ unescaped (a ∷ b ∷ rest)

abbrev pub unescaped_text : List ℕ → List ℕ
unescaped_text bytes = code_points (unescaped bytes)

-- whether `+text` is among fields
abbrev pub has_text : List (List ℕ) → Bool
has_text fields = list_any (λ field. same_text field (codes "+text")) fields

-- the bit of a flag's field, and 0 of any other
abbrev pub flag_bit : List ℕ → ℕ
flag_bit field =
    if same_text field (codes ":link") then 1
    else if same_text field (codes ":visited") then 2
    else if same_text field (codes ":hover") then 4
    else if same_text field (codes ":active") then 8
    else if same_text field (codes ":focus") then 16
    else if same_text field (codes ":target") then 32
    else if same_text field (codes ":enabled") then 64
    else if same_text field (codes ":disabled") then 128
    else if same_text field (codes ":checked") then 256
    else 0

-- bits together with those of fields
abbrev pub flags_with : ℕ → List (List ℕ) → ℕ
flags_with bits [] = bits
flags_with bits (field ∷ fields) = flags_with (bit_or bits (flag_bit field)) fields

-- the bytes before the first byte of this kind, and those behind it
abbrev pub before : ℕ → List ℕ → List ℕ
before at [] = []
before at (c ∷ text) = if c == at then [] else c ∷ before at text

abbrev pub behind : ℕ → List ℕ → List ℕ
behind at [] = []
behind at (c ∷ text) = if c == at then text else behind at text

-- the attribute of a field with `=`
abbrev pub attribute_of : List ℕ → List (List ℕ × List ℕ)
attribute_of field = if holds equals_sign field then (unescaped_text (before equals_sign field), unescaped_text (behind equals_sign field)) ∷ [] else []

abbrev pub attributes_of : List (List ℕ) → List (List ℕ × List ℕ)
attributes_of fields = flat_map attribute_of fields

-- a line as it may stand in a document, of whatever depth
pub record IsLine (l : RunLine) : Type 0 where
  pub features : AreRunFeatures l.element
  pub some : 0 < l.count
  pub count : l.count < 2 ^ 32
  pub depth : l.depth < 2 ^ 32

-- The same as tests that compute, of features whose texts are texts.

abbrev pub AreTexts : List (List ℕ × List ℕ) → Type 0
AreTexts attributes = All (λ a. IsText a.0 × IsText a.1) attributes

-- no name is empty
abbrev pub have_names : List (List ℕ × List ℕ) → Bool
have_names attributes = list_all (λ a. not (length a.0 == 0)) attributes

-- the names ascend behind this one
abbrev pub ascend_behind : List ℕ → List (List ℕ × List ℕ) → Bool
ascend_behind name [] = true
ascend_behind name (a ∷ attributes) = is_lt (slice_cmp nat_cmp name a.0) && ascend_behind a.0 attributes

abbrev pub ascend : List (List ℕ × List ℕ) → Bool
ascend [] = true
ascend (a ∷ attributes) = ascend_behind a.0 attributes

abbrev pub are_features : FeatureParts → Bool
are_features f = nat_lt f.flags 512 && (not (length f.kind == 0) && (have_names f.attrs && ascend f.attrs))
