-- The grammar of selectors (Selectors 3, section 10.1), as what terms derive: without an order in which they are
-- read, and without a limit.
use Rattle.std.specs.Prelude.{◌≡◌, ◌||◌, true, false, reverse, List, [], ◌∷◌, ◌++◌, Option, Some, None, Ok, codes, ◌↔◌, map, ℕ}
use Rattle.css_model.specs.declared.position.AnB.{AnB}
use Rattle.css_model.specs.declared.selector.Combinator.{Combinator}
use Rattle.css_model.specs.declared.selector.Combinator.TheVariants.{Inside}
use Rattle.css_model.specs.declared.selector.Op.{Op}
use Rattle.css_model.specs.declared.selector.Op.TheVariants.{Equal, Present, Word}
use Rattle.css_model.specs.declared.selector.Pseudo.{Pseudo}
use Rattle.css_model.specs.declared.selector.Simple.{Simple}
use Rattle.css_model.specs.declared.selector.Test.{Test}
use Rattle.css_model.specs.declared.selector.Test.TheVariants.{Any, Id, Kind}
use Rattle.css_model.specs.declared.token.Gap.{Gap}
use Rattle.css_model.specs.declared.token.Gap.TheVariants as gap
use Rattle.css_model.specs.declared.token.Lexeme.{Lexeme}
use Rattle.css_model.specs.Documents.SelectorParts.{SelectorParts}
use Rattle.css_model.specs.Lists.{same_text}
use Rattle.css_model.specs.Selectors.Attributes.{attribute_test}
use Rattle.css_model.specs.Selectors.Classes.{is_name}
use Rattle.css_model.specs.Selectors.PseudoClasses.{plain_pseudo_classes, position_functions}
use Rattle.css_model.specs.Selectors.PseudoElements.{is_pseudo_element, pseudo_elements}
use Rattle.css_model.specs.Selectors.Reading.{selector_of_lexemes, selector_of_terms}
use Rattle.css_model.specs.Selectors.Terms.{Term, combinator_of, op_of, terms}
use Rattle.css_model.specs.Selectors.Tokens.{equals_sign, is_function, is_gapless, is_id_hash, is_string, is_word, row_of}
use Rattle.css_model.specs.Text.Characters.{close_round, close_square, colon, dot, open_square, star}
use Rattle.css_model.specs.Text.Kept.{is_white_gap, solid}
use Rattle.css_model.specs.Text.Lexemes.{is_delim_of, is_ident, is_sign_of}
use Rattle.css_model.specs.Text.Names.{code_points, lower}
use Rattle.selector_laws.specs.Limits.{KeepsLimits}

-- what stands behind the last of these terms
abbrev pub last_gap : List Term → Gap
last_gap [] = gap.Nothing
last_gap (x ∷ []) = x.gap
last_gap (x ∷ y ∷ ys) = last_gap (y ∷ ys)

-- an attribute selector: `[name]`, `[name=value]`, or `[name~=value]` and its kin (section 6.3)
pub data IsAttribute (terms : List Term) (test : Test) : Type 0 where
  present : (bracket name close : Term) → terms ≡ bracket ∷ name ∷ close ∷ [] → is_sign_of open_square bracket.kind ≡ true → is_name name ≡ true
      → is_sign_of close_square close.kind ≡ true → test ≡ attribute_test (lower (code_points name.name)) Present [] → IsAttribute terms test
  equal : (bracket name sign value close : Term) → terms ≡ bracket ∷ name ∷ sign ∷ value ∷ close ∷ [] → is_sign_of open_square bracket.kind ≡ true
      → is_name name ≡ true → is_delim_of equals_sign sign.kind ≡ true → (is_ident value.kind || is_string value.kind) ≡ true
      → is_sign_of close_square close.kind ≡ true → test ≡ attribute_test (lower (code_points name.name)) Equal (code_points value.name) → IsAttribute terms test
  matching : (bracket name first second value close : Term) (op : Op) → terms ≡ bracket ∷ name ∷ first ∷ second ∷ value ∷ close ∷ []
      → is_sign_of open_square bracket.kind ≡ true → is_name name ≡ true → op_of first.kind ≡ Some op → is_delim_of equals_sign second.kind ≡ true
      → is_gapless first.gap ≡ true → same_text (lower (code_points name.name)) (codes "id") ≡ false → (is_ident value.kind || is_string value.kind) ≡ true
      → is_sign_of close_square close.kind ≡ true → test ≡ attribute_test (lower (code_points name.name)) op (code_points value.name) → IsAttribute terms test

-- a hash, a class, an attribute selector or a pseudo-class (sections 6.3 to 6.6)
pub data IsTest (terms : List Term) (test : Test) : Type 0 where
  id : (x : Term) → terms ≡ x ∷ [] → is_id_hash x.kind ≡ true → test ≡ Id (code_points x.name) → IsTest terms test
  class : (sign x : Term) → terms ≡ sign ∷ x ∷ [] → is_delim_of dot sign.kind ≡ true → is_white_gap sign.gap ≡ false → is_name x ≡ true
      → test ≡ attribute_test (codes "class") Word (code_points x.name) → IsTest terms test
  of_attribute : IsAttribute terms test → IsTest terms test
  pseudo_class : (sign x : Term) → terms ≡ sign ∷ x ∷ [] → is_sign_of colon sign.kind ≡ true → is_white_gap sign.gap ≡ false
      → is_ident x.kind ≡ true → is_pseudo_element x ≡ false → row_of x.name plain_pseudo_classes ≡ Some test → IsTest terms test
  position : (sign x : Term) (make : AnB → Test) (argument : AnB) → terms ≡ sign ∷ x ∷ [] → is_sign_of colon sign.kind ≡ true
      → is_white_gap sign.gap ≡ false → is_function x.kind ≡ true → row_of x.name position_functions ≡ Some make → x.argument ≡ Ok argument
      → test ≡ make argument → IsTest terms test

-- a type selector or the universal selector (sections 6.1 and 6.2)
pub data IsType (x : Term) (test : Test) : Type 0 where
  universal : is_delim_of star x.kind ≡ true → test ≡ Any → IsType x test
  named : is_ident x.kind ≡ true → x.dashed ≡ false → test ≡ Kind (lower (code_points x.name)) → IsType x test

-- what may be negated
pub data IsNegated (terms : List Term) (test : Test) : Type 0 where
  of_type : (x : Term) → terms ≡ x ∷ [] → IsType x test → IsNegated terms test
  of_test : IsTest terms test → IsNegated terms test

-- a simple selector other than a type, or its negation (section 6.6.7)
pub data IsSimple (terms : List Term) (simple : Simple) : Type 0 where
  plain : (test : Test) → IsTest terms test → simple ≡ record { negated = false; test = test } → IsSimple terms simple
  negation : (sign function close : Term) (inside : List Term) (test : Test) → terms ≡ sign ∷ function ∷ (inside ++ close ∷ [])
      → is_sign_of colon sign.kind ≡ true → is_white_gap sign.gap ≡ false → is_function function.kind ≡ true → is_word (codes "not") function.name ≡ true
      → IsNegated inside test → is_sign_of close_round close.kind ≡ true → simple ≡ record { negated = true; test = test } → IsSimple terms simple

-- a sequence of simple selectors, each right behind the one before (section 4)
pub data IsCompound : List Term → List Simple → Type 0 where
  of_type : (x : Term) (test : Test) → IsType x test → IsCompound (x ∷ []) ((record { negated = false; test = test }) ∷ [])
  of_simple : (terms : List Term) (simple : Simple) → IsSimple terms simple → IsCompound terms (simple ∷ [])
  more : (front rest : List Term) (some : List Simple) (simple : Simple) → IsCompound front some → is_white_gap (last_gap front) ≡ false
      → IsSimple rest simple → IsCompound (front ++ rest) (some ++ simple ∷ [])

-- a pseudo-element, behind one colon or two (section 7)
pub data IsPseudoElement (terms : List Term) (element : Pseudo) : Type 0 where
  one_colon : (sign x : Term) → terms ≡ sign ∷ x ∷ [] → is_sign_of colon sign.kind ≡ true → is_white_gap sign.gap ≡ false → is_ident x.kind ≡ true
      → row_of x.name pseudo_elements ≡ Some element → IsPseudoElement terms element
  two_colons : (first second x : Term) → terms ≡ first ∷ second ∷ x ∷ [] → is_sign_of colon first.kind ≡ true → is_white_gap first.gap ≡ false
      → is_sign_of colon second.kind ≡ true → is_white_gap second.gap ≡ false → is_ident x.kind ≡ true
      → row_of x.name pseudo_elements ≡ Some element → IsPseudoElement terms element

-- the last compound, with the pseudo-element right behind it if there is one; before one alone `*` is not written
pub data IsLast (terms : List Term) (simples : List Simple) (pseudo : Option Pseudo) : Type 0 where
  plain : IsCompound terms simples → pseudo ≡ None → IsLast terms simples pseudo
  behind : (front rest : List Term) (element : Pseudo) → terms ≡ front ++ rest → IsCompound front simples → is_white_gap (last_gap front) ≡ false
      → IsPseudoElement rest element → pseudo ≡ Some element → IsLast terms simples pseudo
  alone : (element : Pseudo) → IsPseudoElement terms element → simples ≡ (record { negated = false; test = Any }) ∷ [] → pseudo ≡ Some element
      → IsLast terms simples pseudo

-- compounds, each with the combinator behind it: a sign, or white space alone (section 8)
pub data IsFront : List Term → List (List Simple) → List Combinator → Type 0 where
  at_start : IsFront [] [] []
  by_sign : (front rest : List Term) (x : Term) (chain : List (List Simple)) (links : List Combinator) (simples : List Simple) (link : Combinator)
      → IsFront front chain links → IsCompound rest simples → combinator_of x.kind ≡ Some link
      → IsFront (front ++ rest ++ x ∷ []) (chain ++ simples ∷ []) (links ++ link ∷ [])
  by_white : (front rest : List Term) (chain : List (List Simple)) (links : List Combinator) (simples : List Simple)
      → IsFront front chain links → IsCompound rest simples → is_white_gap (last_gap rest) ≡ true
      → IsFront (front ++ rest) (chain ++ simples ∷ []) (links ++ Inside ∷ [])

-- a selector: its parts stand from right to left
pub record IsSelector (terms : List Term) (selector : SelectorParts) : Type 0 where
  pub front : List Term
  pub rest : List Term
  pub compounds : List (List Simple)
  pub links : List Combinator
  pub simples : List Simple
  pub pseudo : Option Pseudo
  pub parts : terms ≡ front ++ rest
  pub before : IsFront front compounds links
  pub last : IsLast rest simples pseudo
  pub is : selector ≡ record { chain = reverse (compounds ++ simples ∷ []); links = reverse links; pseudo = pseudo }

-- what is read is derived by the grammar
abbrev pub ReadSelectorsAreDerived : Type 0
ReadSelectorsAreDerived = (terms : List Term) (selector : SelectorParts) → selector_of_terms terms ≡ Ok selector → IsSelector terms selector

-- a part of a prelude is read as a selector exactly where the grammar derives that one from its terms and it keeps
-- to the limits
abbrev pub SelectorsAreReadExactly : Type 0
SelectorsAreReadExactly =
    (source : List ℕ) (part : List Lexeme) (selector : SelectorParts) →
    (selector_of_lexemes source part ≡ Ok selector) ↔ (IsSelector (terms (map (solid source) part)) selector × KeepsLimits selector)
