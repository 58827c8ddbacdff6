-- What stands in a selector text where a reason against it comes (own).
use Rattle.std.specs.Prelude.{ℕ, ◌≡◌, ◌⊎◌, ◌+◌, ◌&&◌, ◌||◌, Bool, true, false, List, [], ◌∷◌, ◌++◌, length, map, Some, None, Ok, Err, codes}
use Rattle.css_model.specs.declared.position.AnB.{AnB}
use Rattle.css_model.specs.declared.reason.Reason.{Reason}
use Rattle.css_model.specs.declared.reason.Reason.TheVariants as reason
use Rattle.css_model.specs.declared.selector.Combinator.{Combinator}
use Rattle.css_model.specs.declared.selector.Op.{Op}
use Rattle.css_model.specs.declared.selector.Simple.{Simple}
use Rattle.css_model.specs.declared.selector.Test.{Test}
use Rattle.css_model.specs.declared.token.Lexeme.{Lexeme}
use Rattle.css_model.specs.Documents.SelectorParts.{SelectorParts}
use Rattle.css_model.specs.Lists.{same_text}
use Rattle.css_model.specs.Positions.Range.{is_stepped}
use Rattle.css_model.specs.Selectors.Classes.{is_name}
use Rattle.css_model.specs.Selectors.Compounds.{begins_compound}
use Rattle.css_model.specs.Selectors.PseudoClasses.{plain_pseudo_classes, position_functions}
use Rattle.css_model.specs.Selectors.PseudoElements.{is_pseudo_element, pseudo_elements}
use Rattle.css_model.specs.Selectors.Reading.{selector_of_lexemes}
use Rattle.css_model.specs.Selectors.Simples.{begins_simple}
use Rattle.css_model.specs.Selectors.Terms.{Term, op_of, terms}
use Rattle.css_model.specs.Selectors.Tokens.{bar, equals_sign, is_function, is_gapless, is_string, is_word, row_of}
use Rattle.css_model.specs.Text.Characters.{colon, open_square}
use Rattle.css_model.specs.Text.Kept.{is_white_gap, solid}
use Rattle.css_model.specs.Text.Lexemes.{is_delim_of, is_ident, is_sign_of}
use Rattle.css_model.specs.Text.Names.{code_points, lower}
use Rattle.css_model.specs.Sheets.Limits.{max_compounds, max_simples, max_stepped}
use Rattle.selector_laws.specs.Grammar.{IsCompound, IsFront, IsSelector, last_gap}
use Rattle.selector_laws.specs.Limits.{KeepsLimits, stepped_in, stepped_in_chain}

-- a colon with a name right behind it that no pseudo-class of its kind has: neither `not` nor one in the tables
pub data IsUnknownClass : List Term → Type 0 where
  plain : (sign name : Term) (rest : List Term) → is_sign_of colon sign.kind ≡ true → is_white_gap sign.gap ≡ false → is_ident name.kind ≡ true
      → is_pseudo_element name ≡ false → row_of name.name plain_pseudo_classes ≡ None → IsUnknownClass (sign ∷ name ∷ rest)
  function : (sign name : Term) (rest : List Term) → is_sign_of colon sign.kind ≡ true → is_white_gap sign.gap ≡ false → is_function name.kind ≡ true
      → is_word (codes "not") name.name ≡ false → row_of name.name position_functions ≡ None → IsUnknownClass (sign ∷ name ∷ rest)

-- two colons with a name right behind them that no pseudo-element has, or a function
pub data IsUnknownElement : List Term → Type 0 where
  plain : (first second name : Term) (rest : List Term) → is_sign_of colon first.kind ≡ true → is_white_gap first.gap ≡ false
      → is_sign_of colon second.kind ≡ true → is_white_gap second.gap ≡ false → is_ident name.kind ≡ true
      → row_of name.name pseudo_elements ≡ None → IsUnknownElement (first ∷ second ∷ name ∷ rest)
  function : (first second name : Term) (rest : List Term) → is_sign_of colon first.kind ≡ true → is_white_gap first.gap ≡ false
      → is_sign_of colon second.kind ≡ true → is_white_gap second.gap ≡ false → is_function name.kind ≡ true
      → IsUnknownElement (first ∷ second ∷ name ∷ rest)

-- a function of a position whose argument is refused for this reason
pub data IsArgumentRefused (reason : Reason) : List Term → Type 0 where
  argument : (sign name : Term) (rest : List Term) (make : AnB → Test) → is_sign_of colon sign.kind ≡ true → is_white_gap sign.gap ≡ false
      → is_function name.kind ≡ true → row_of name.name position_functions ≡ Some make → name.argument ≡ Err reason
      → IsArgumentRefused reason (sign ∷ name ∷ rest)

-- whether terms end with `[` and the name of an attribute
abbrev pub opens_match : List Term → Bool
opens_match [] = false
opens_match (b ∷ []) = false
opens_match (b ∷ n ∷ []) = is_sign_of open_square b.kind && is_name n
opens_match (x ∷ b ∷ n ∷ xs) = opens_match (b ∷ n ∷ xs)

-- whether `=` stands right behind a sign
abbrev pub equals_follows : Term → List Term → Bool
equals_follows sign [] = false
equals_follows sign (x ∷ xs) = is_delim_of equals_sign x.kind && is_gapless sign.gap

-- a bar behind these terms that is not the first sign of `|=` behind the name of an attribute
pub data IsBar (before : List Term) : List Term → Type 0 where
  elsewhere : (x : Term) (rest : List Term) → is_delim_of bar x.kind ≡ true → opens_match before ≡ false → IsBar before (x ∷ rest)
  alone : (x : Term) (rest : List Term) → is_delim_of bar x.kind ≡ true → equals_follows x rest ≡ false → IsBar before (x ∷ rest)

-- an ident behind the value of an attribute test, which stands behind `=`
pub data IsFlag : List Term → Type 0 where
  flag : (sign value x : Term) (rest : List Term) → is_delim_of equals_sign sign.kind ≡ true → (is_ident value.kind || is_string value.kind) ≡ true
      → is_ident x.kind ≡ true → IsFlag (sign ∷ value ∷ x ∷ rest)

-- a test of the attribute `id` by an operator of two signs
pub data IsTestOfId : List Term → Type 0 where
  of_id : (bracket name first second : Term) (rest : List Term) (op : Op) → is_sign_of open_square bracket.kind ≡ true → is_name name ≡ true
      → same_text (lower (code_points name.name)) (codes "id") ≡ true → op_of first.kind ≡ Some op → is_delim_of equals_sign second.kind ≡ true
      → is_gapless first.gap ≡ true → IsTestOfId (bracket ∷ name ∷ first ∷ second ∷ rest)

-- a term that begins a compound
pub data IsCompoundStart : List Term → Type 0 where
  start : (x : Term) (rest : List Term) → begins_compound x ≡ true → IsCompoundStart (x ∷ rest)

-- a term that begins a simple selector other than a type
pub data IsSimpleStart : List Term → Type 0 where
  start : (x : Term) (rest : List Term) → begins_simple x rest ≡ true → IsSimpleStart (x ∷ rest)

-- a position whose step has a size of 2 or more
pub data IsSteppedPosition : List Term → Type 0 where
  stepped : (sign name : Term) (rest : List Term) (make : AnB → Test) (argument : AnB) → is_sign_of colon sign.kind ≡ true
      → is_white_gap sign.gap ≡ false → is_function name.kind ≡ true → row_of name.name position_functions ≡ Some make
      → name.argument ≡ Ok argument → is_stepped argument ≡ true → IsSteppedPosition (sign ∷ name ∷ rest)

-- what is read of a compound: nothing yet, or simple selectors that may go on
pub data IsBegun (terms : List Term) (simples : List Simple) : Type 0 where
  nothing : terms ≡ [] → simples ≡ [] → IsBegun terms simples
  some : IsCompound terms simples → is_white_gap (last_gap terms) ≡ false → IsBegun terms simples

-- terms that the grammar derives as whole compounds with their combinators, and what is read of the next one
pub record HaveRead (terms : List Term) (chain : List (List Simple)) (simples : List Simple) : Type 0 where
  pub front : List Term
  pub rest : List Term
  pub links : List Combinator
  pub parts : terms ≡ front ++ rest
  pub before : IsFront front chain links
  pub begun : IsBegun rest simples

-- as many whole compounds as a selector may have
pub record AreAllCompounds (terms : List Term) : Type 0 where
  pub chain : List (List Simple)
  pub read : HaveRead terms chain []
  pub number : length chain ≡ max_compounds

-- as many simple selectors of the last compound as one may have
pub record AreAllSimples (terms : List Term) : Type 0 where
  pub chain : List (List Simple)
  pub simples : List Simple
  pub read : HaveRead terms chain simples
  pub number : length simples ≡ max_simples

-- `:not(` or nothing
pub data IsOpening : List Term → Type 0 where
  nothing : IsOpening []
  negation : (sign name : Term) → is_sign_of colon sign.kind ≡ true → is_function name.kind ≡ true → is_word (codes "not") name.name ≡ true
      → IsOpening (sign ∷ name ∷ [])

-- as many positions whose step has a size of 2 or more as a selector may have
pub record AreAllStepped (terms : List Term) : Type 0 where
  pub whole : List Term
  pub opening : List Term
  pub parts : terms ≡ whole ++ opening
  pub opens : IsOpening opening
  pub chain : List (List Simple)
  pub simples : List Simple
  pub read : HaveRead whole chain simples
  pub number : stepped_in_chain chain + stepped_in simples ≡ max_stepped

-- What stands before and behind the place where the reason comes. Of a limit it is all that may be there, and behind it
-- what is one too many. Of terms that are not allowed nothing is said.
abbrev pub StandsAt : Reason → List Term → List Term → Type 0
StandsAt reason.PseudoClass before after = IsUnknownClass after
StandsAt reason.PseudoElement before after = IsUnknownElement after
StandsAt reason.Namespace before after = IsBar before after ⊎ IsArgumentRefused reason.Namespace after
StandsAt reason.CaseFlag before after = IsFlag after
StandsAt reason.IdTest before after = IsTestOfId after
StandsAt reason.TooManyCompounds before after = AreAllCompounds before × IsCompoundStart after
StandsAt reason.TooManySimples before after = AreAllSimples before × IsSimpleStart after
StandsAt reason.PositionOutOfRange before after = IsArgumentRefused reason.PositionOutOfRange after
StandsAt reason.TooManyStepped before after = AreAllStepped before × IsSteppedPosition after
StandsAt reason.NotAllowed before after = Unit {0}

-- what the reason names stands behind some of these terms
pub record Stands (reason : Reason) (terms : List Term) : Type 0 where
  pub before : List Term
  pub after : List Term
  pub parts : terms ≡ before ++ after
  pub at : StandsAt reason before after

-- in each part of a prelude that is refused as a selector stands what the reason names
abbrev pub RefusalsStandAtTheirTokens : Type 0
RefusalsStandAtTheirTokens =
    (source : List ℕ) (part : List Lexeme) (reason : Reason) → selector_of_lexemes source part ≡ Err reason → Stands reason (terms (map (solid source) part))

-- and whatever the reason, the grammar derives no selector within the limits from its terms
abbrev pub RefusedAreNoSelectors : Type 0
RefusedAreNoSelectors =
    (source : List ℕ) (part : List Lexeme) (reason : Reason) (selector : SelectorParts) → selector_of_lexemes source part ≡ Err reason
    → IsSelector (terms (map (solid source) part)) selector → KeepsLimits selector → ⊥
