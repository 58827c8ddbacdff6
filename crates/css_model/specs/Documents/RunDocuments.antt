-- Documents written in lines (own). A line stands for some equal elements side by side, at a depth below
-- the root; the deeper lines that follow it are their children. One line is marked: it is the element that
-- an example is about.
use Rattle.std.specs.Prelude.{◌≡◌, ◌≢◌, ℕ, zero, suc, ◌+◌, ◌<◌, ◌≤◌, ◌^◌, ◌==◌, nat_lt, Bool, true, false, if◌then◌else◌, List, [], ◌∷◌, map, take, slice_get, Option, Some, None, IsSomeAnd}
use Rattle.std.specs.Cmp.Lexicographic.{slice_cmp}
use Rattle.std.specs.Ordering.{nat_cmp}
use Rattle.std.specs.List.{All, list_all}
use Rattle.std.specs.List.Sorted.{IsStrictlySortedBy}
use Rattle.css_model.specs.declared.example.Example.{Example}
use Rattle.css_model.specs.declared.example.RunLine.{RunLine}
use Rattle.css_model.specs.Documents.Document.{Element, Siblings, none, first, Document, Target, IsText}
use Rattle.css_model.specs.Documents.FeatureParts.{FeatureParts}
use Rattle.css_model.specs.Documents.Features.{element_of}
use Rattle.css_model.specs.Documents.RunDocumentParts.{RunDocumentParts}

-- ---- The document that lines stand for

-- so many equal elements with these children, and behind them other siblings
abbrev pub repeated : ℕ → Element → Siblings → Siblings → Siblings
repeated zero e children later = later
repeated (suc n) e children later = first e children (repeated n e children later)

-- The elements of this depth that lines begin with. A line of this depth stands for `count` of them, whose
-- children are the elements of the next depth that follow; a line of less depth ends them.
abbrev pub siblings_of : List RunLine → ℕ → Siblings
siblings_of [] depth = none
siblings_of (l ∷ lines) depth =
    if l.depth == depth then repeated l.count (element_of l.element) (siblings_of lines (suc depth)) (siblings_of lines depth)
    else if nat_lt l.depth depth then none
    else siblings_of lines depth

-- an element without anything: the root where there is no line
abbrev pub no_element : Element
no_element = record { kind = []; attributes = []; flags = λ flag. false; text = false }

-- the document of lines: the first line is the root
abbrev pub document_of : Bool → List RunLine → Document
document_of root_is_child [] = record { root = no_element; children = none; root_is_child = root_is_child }
document_of root_is_child (l ∷ lines) = record { root = element_of l.element; children = siblings_of lines 1; root_is_child = root_is_child }

-- ---- The path of a line's first element

-- whether the line of this number, from 0, and all before it are deeper: then it stands below the line that
-- these follow
abbrev pub is_below : ℕ → List RunLine → ℕ → Bool
is_below depth lines n = list_all (λ l. nat_lt depth l.depth) (take (suc n) lines)

-- a path behind some more siblings
abbrev pub behind : ℕ → List ℕ → List ℕ
behind count [] = []
behind count (i ∷ path) = (count + i) ∷ path

-- The path to the line of this number, from the elements of this depth that lines begin with: its index
-- among these, and then its path below the line of this depth under which it stands.
abbrev pub path_below : List RunLine → ℕ → ℕ → List ℕ
path_below [] depth n = []
path_below (l ∷ lines) depth zero = 0 ∷ []
path_below (l ∷ lines) depth (suc n) =
    if l.depth == depth then (if is_below depth lines n then 0 ∷ path_below lines (suc depth) n else behind l.count (path_below lines depth n))
    else path_below lines depth n

-- the path of the line of this number: that of the first line is the root's
abbrev pub path_of : List RunLine → ℕ → List ℕ
path_of [] n = []
path_of (l ∷ lines) zero = []
path_of (l ∷ lines) (suc n) = path_below lines 1 n

-- ---- What an example stands for

-- its document: each line stands for `count` equal elements side by side at its depth, with the deeper lines
-- that follow as their children
abbrev pub expand : Example → Document
expand x = document_of x.doc.root_is_child x.doc.lines

-- its target: the element of the marked line, or a pseudo-element of it
abbrev pub target_of : Example → Target
target_of x = record { path = path_of x.doc.lines x.marked; pseudo = x.pseudo }

-- ---- The rules that an example keeps

-- the features of a line: its texts are texts, neither its type nor the name of an attribute is empty, the
-- names ascend by code points, so that none stands twice, and its flags are among the nine
pub record AreRunFeatures (f : FeatureParts) : Type 0 where
  pub kind : IsText f.kind × (f.kind ≢ [])
  pub attributes : All (λ a. IsText a.0 × (a.0 ≢ []) × IsText a.1) f.attrs
  pub ascending : IsStrictlySortedBy (slice_cmp nat_cmp) (map (λ a. a.0) f.attrs)
  pub flags : f.flags < 2 ^ 9

-- The lines behind a line of this depth and count: each is at most one deeper than the line before it, which
-- then stands for one element; none has the depth of the root, and each stands for an element.
abbrev pub LinesFollow : (depth count : ℕ) → List RunLine → Type 0
LinesFollow depth count [] = Unit {0}
LinesFollow depth count (l ∷ lines) =
    (0 < l.depth) × (l.depth ≤ suc depth) × (depth < l.depth → count ≡ 1) × (0 < l.count) × LinesFollow l.depth l.count lines

-- lines of a document: the first one stands for the root
abbrev pub AreLines : List RunLine → Type 0
AreLines [] = ⊥
AreLines (l ∷ lines) = (l.depth ≡ 0) × (l.count ≡ 1) × LinesFollow 0 1 lines

-- An example keeps the rules: its lines are those of a document, the features of each are as they may be,
-- and the marked line stands for one element.
pub record KeepsRules (x : Example) : Type 0 where
  pub lines : AreLines x.doc.lines
  pub features : All (λ l. AreRunFeatures l.element) x.doc.lines
  pub marked : IsSomeAnd (slice_get x.doc.lines x.marked) (λ l. l.count ≡ 1)
