-- Which selectors meet, which pairs weigh, and which sheets keep which: on small sheets.
use Rattle.std.proofs.Common.{◌≡◌, ◌≢◌, ℕ, true, false, Bool, Option, List, [], ◌∷◌, Some, None, refl, sym, ap, ◌∙◌, subst, inl, inr, arith}
use Rattle.std.specs.Prelude.{codes, IsSomeAnd}
use Rattle.std.specs.Cmp.Lexicographic.{bytes_decides}
use Rattle.std.specs.List.{All}
use Rattle.std.proofs.lemmas.Bool.{false≢true}
use Rattle.std.proofs.lemmas.List.Elements.{All-cons, All-nil, All-head}
use Rattle.model_examples.proofs.LegalExamples.{text, attribute_texts, single}
use Rattle.model_examples.proofs.MatchingExamples.{element, attribute, document, at, plain, simple, class}
use Rattle.cascade_laws.proofs.ForCallers.{matches-words}
use Rattle.list_facts.proofs.Members.{Contains-here}
use Rattle.css_model.specs.declared.selector.Specificity.{Specificity}
use Rattle.css_model.specs.declared.selector.Test.TheVariants.{Kind}
use Rattle.css_model.specs.declared.sheet.Decl.{Decl}
use Rattle.css_model.specs.declared.sheet.Item.{Item}
use Rattle.css_model.specs.declared.sheet.Item.TheVariants.{KeptRule, KeptBlock}
use Rattle.css_model.specs.declared.sheet.Piece.{Piece}
use Rattle.css_model.specs.Documents.Document.{element_at, Attribute, none, Document, ElementAt, IsText, IsLegalElement, IsLegal}
use Rattle.css_model.specs.Cascade.Family.{Related}
use Rattle.css_model.specs.declared.family.Family.{Family}
use Rattle.css_model.specs.declared.family.Family.TheVariants as family
use Rattle.css_model.specs.Documents.Matching.{SimpleHolds}
use Rattle.css_model.specs.Cascade.Order.{Meet, Weigh, kept_content, Keeps}
use Rattle.css_model.specs.Documents.SelectorParts.{SelectorParts}
use Rattle.css_model.specs.Sheets.Spelling.{Content, Block}
use Rattle.cascade_laws.proofs.ForCallers.{weigh_back, meet_back, earlier_one, later_one, nowhere, one, pair, member_of_one, other_order, free_order, over_kept, free_of_kept}

-- ---- Which selectors meet

abbrev pub a_class : SelectorParts
a_class = simple (plain (class (codes "a")) ∷ [])

abbrev pub b_class : SelectorParts
b_class = simple (plain (class (codes "b")) ∷ [])

abbrev pub a_type : SelectorParts
a_type = simple (plain (Kind (codes "a")) ∷ [])

abbrev pub b_type : SelectorParts
b_type = simple (plain (Kind (codes "b")) ∷ [])

-- `<div class="a b"></div>`
abbrev pub both_classes : Document
both_classes = document (element (codes "div") (attribute (codes "class") (codes "a b") ∷ [])) none

pub both_classes_are_legal : IsLegal both_classes
both_classes_are_legal = record {
  elements = All-cons IsLegalElement both_classes.root [] (record {
    kind = text (codes "div") refl;
    attributes = All-cons (λ (x : Attribute). IsText x.name × IsText x.value) (attribute (codes "class") (codes "a b")) [] (attribute_texts (codes "class") (codes "a b") refl refl) (All-nil (λ (x : Attribute). IsText x.name × IsText x.value));
    names = single (λ (x y : Attribute). x.name ≢ y.name) (attribute (codes "class") (codes "a b"));
    links = λ h g. false≢true h;
    controls = λ h g. false≢true h;
  }) (All-nil IsLegalElement);
  ids = λ i j d l m. absurd (omega arith);
}

-- an element may have two classes
pub classes_meet : Meet a_class b_class
classes_meet = record {
  doc = both_classes;
  target = at [];
  legal = both_classes_are_legal;
  first = matches-words both_classes (at []) a_class refl;
  second = matches-words both_classes (at []) b_class refl;
}

-- but not two types
pub types_are_apart : Meet a_type b_type → ⊥
types_are_apart m = which (element_at m.doc m.target.path) m.first.element m.second.element
  where
    which : (o : Option ElementAt) → IsSomeAnd o (λ here. All (λ s. SimpleHolds m.doc m.target.path here s) (plain (Kind (codes "a")) ∷ [])) →
        IsSomeAnd o (λ here. All (λ s. SimpleHolds m.doc m.target.path here s) (plain (Kind (codes "b")) ∷ [])) → ⊥
    which None h g = absurd h
    which (Some here) h g =
        let a_here : here.element.kind ≡ codes "a" = All-head (λ s. SimpleHolds m.doc m.target.path here s) (plain (Kind (codes "a"))) [] h in
        let b_here : here.element.kind ≡ codes "b" = All-head (λ s. SimpleHolds m.doc m.target.path here s) (plain (Kind (codes "b"))) [] g in
        false≢true ((bytes_decides (codes "a") (codes "b")).1 (sym a_here ∙ b_here))

-- ---- Which pairs weigh

abbrev pub decl : List ℕ → List ℕ → Bool → Decl
decl name value important = record { name = name; value = value; important = important }

abbrev pub red : Decl
red = decl (codes "color") (codes "red") false

abbrev pub blue : Decl
blue = decl (codes "color") (codes "blue") false

colors_weigh : Weigh (pair a_class red) (pair b_class blue)
colors_weigh = record {
  different = λ e. false≢true ((bytes_decides (codes "red") (codes "blue")).1 (ap (λ (d : Decl). d.value) e));
  names = inr (inr refl);
  importance = refl;
  specificity = refl;
}

type_colors_weigh : Weigh (pair a_type red) (pair b_type blue)
type_colors_weigh = record { different = colors_weigh.different; names = colors_weigh.names; importance = refl; specificity = refl }

-- equal declarations do not: whichever wins, the same is set
equal_ones : Weigh (pair a_class red) (pair b_class red) → ⊥
equal_ones w = w.different refl

-- nor does a class against a type, or what is important against what is not
other_specificity : Weigh (pair a_class red) (pair b_type blue) → ⊥
other_specificity w = absurd (let e : 1 ≡ 0 = ap (λ (s : Specificity). s.b) w.specificity in omega arith)

abbrev important_blue : Decl
important_blue = decl (codes "color") (codes "blue") true

other_importance : Weigh (pair a_class red) (pair b_class important_blue) → ⊥
other_importance w = false≢true w.importance

-- nor do properties of two families, but those of one family do, and `all` with any
abbrev name_of : Family → List ℕ
name_of (family.Named name) = name
name_of _ = []

color_and_top : Related (codes "color") (codes "top") → ⊥
color_and_top (inl e) = absurd cc
color_and_top (inr (inl e)) = absurd cc
color_and_top (inr (inr e)) = false≢true ((bytes_decides (codes "color") (codes "inset")).1 (ap name_of e))

abbrev pub top : Decl
top = decl (codes "top") (codes "0") false

other_family : Weigh (pair a_class red) (pair b_class top) → ⊥
other_family w = color_and_top w.names

one_family : Related (codes "margin") (codes "margin-top")
one_family = inr (inr refl)

all_properties : Related (codes "all") (codes "top")
all_properties = inl refl

-- `.a{color:red}.b{color:blue}` and `.b{color:blue}.a{color:red}`
classes_in_other_order : (source source' : List ℕ) → Keeps source (one a_class red ∷ one b_class blue ∷ []) source' (one b_class blue ∷ one a_class red ∷ []) → ⊥
classes_in_other_order source source' = other_order source source' a_class b_class red blue colors_weigh classes_meet

-- the same of `a` and `b`
types_in_other_order : (source source' : List ℕ) → Keeps source (one a_type red ∷ one b_type blue ∷ []) source' (one b_type blue ∷ one a_type red ∷ [])
types_in_other_order source source' = free_order source source' a_type b_type red blue (λ weigh meet. types_are_apart meet)

-- `.a{color:red}.b{top:0}` and `.b{top:0}.a{color:red}`
families_in_other_order : (source source' : List ℕ) → Keeps source (one a_class red ∷ one b_class top ∷ []) source' (one b_class top ∷ one a_class red ∷ [])
families_in_other_order source source' = free_order source source' a_class b_class red top (λ weigh meet. other_family weigh)

-- ---- A pair counts by its last place

-- `.a{color:red}.b{color:blue}.a{color:red}` and `.b{color:blue}.a{color:red}`, but not `.a{color:red}.b{color:blue}`
earlier_red_goes : (source : List ℕ) → Keeps source (one a_class red ∷ one b_class blue ∷ one a_class red ∷ []) source (one b_class blue ∷ one a_class red ∷ [])
earlier_red_goes source = earlier_one source a_class b_class red blue

later_red_stays : (source source' : List ℕ) → Keeps source (one a_class red ∷ one b_class blue ∷ one a_class red ∷ []) source' (one a_class red ∷ one b_class blue ∷ []) → ⊥
later_red_stays source source' = later_one source source' a_class b_class red blue (weigh_back (pair a_class red) (pair b_class blue) colors_weigh) (meet_back a_class b_class classes_meet)

-- ---- Kept items

-- a kept block may apply anything
block_stays : (source source' : List ℕ) (piece piece' : Piece) → Keeps source (one a_class red ∷ KeptBlock piece ∷ []) source' (KeptBlock piece' ∷ one a_class red ∷ []) → ⊥
block_stays source source' piece piece' = over_kept source source' a_class red (KeptBlock piece) (KeptBlock piece') refl refl tt

-- a kept rule of one declaration
abbrev kept_rule : Decl → Item
kept_rule d = KeptRule (record { piece = nowhere; decls = d ∷ []; reason = 1 })

-- it applies nothing but its own declarations, but by any selector
blue_rule_stays : (source source' : List ℕ) → Keeps source (one a_class red ∷ kept_rule blue ∷ []) source' (kept_rule blue ∷ one a_class red ∷ []) → ⊥
blue_rule_stays source source' = over_kept source source' a_class red (kept_rule blue) (kept_rule blue) refl refl (blue, Contains-here blue [], record { names = inr (inr refl); importance = refl })

top_rule_moves : (source : List ℕ) → Keeps source (one a_class red ∷ kept_rule top ∷ []) source (kept_rule top ∷ one a_class red ∷ [])
top_rule_moves source = free_of_kept source source a_class red (kept_rule top) (kept_rule top) refl refl refl
    (λ w. color_and_top (subst (λ (d : Decl). Related (codes "color") d.name) (sym (member_of_one top w.0 w.1)) w.2.names))

important_rule_moves : (source : List ℕ) → Keeps source (one a_class red ∷ kept_rule important_blue ∷ []) source (kept_rule important_blue ∷ one a_class red ∷ [])
important_rule_moves source = free_of_kept source source a_class red (kept_rule important_blue) (kept_rule important_blue) refl refl refl
    (λ w. false≢true (w.2.importance ∙ sym (ap (λ (d : Decl). d.important) (member_of_one important_blue w.0 w.1))))

-- kept items keep their order: `@x;@y;` and `@y;@x;`
abbrev piece : ℕ → ℕ → Piece
piece start «end» = record { start = start; «end» = «end» }

abbrev two_blocks : List Item
two_blocks = KeptBlock (piece 0 3) ∷ KeptBlock (piece 3 6) ∷ []

abbrev first_text : List Content → List ℕ
first_text (Block text ∷ rest) = text
first_text _ = []

first_block : kept_content (codes "@x;@y;") two_blocks ≡ Block (codes "@x;") ∷ Block (codes "@y;") ∷ []
first_block = refl

blocks_in_other_order : Keeps (codes "@x;@y;") two_blocks (codes "@y;@x;") two_blocks → ⊥
blocks_in_other_order keeps = false≢true ((bytes_decides (codes "@x;") (codes "@y;")).1 (ap first_text keeps.kept))

-- but may be spelled with other white space and comments: `@x  y;` and `@x/**/ y;`
spelled_apart : kept_content (codes "@x  y;") (KeptBlock (piece 0 6) ∷ []) ≡ kept_content (codes "@x/**/ y;") (KeptBlock (piece 0 9) ∷ [])
spelled_apart = refl
