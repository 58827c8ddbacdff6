-- Terms behind which a bar is no operator: they do not end with `[`, nor with `[` and a name.
use Rattle.std.proofs.Common.{◌≡◌, ◌&&◌, Bool, true, false, not, Option, Some, List, [], ◌∷◌, ◌++◌, refl, sym, ap, ◌∙◌, subst, append_assoc, arith}
use Rattle.std.proofs.lemmas.Bool.{false≢true}
use Rattle.std.proofs.lemmas.List.{append-nil}
use Rattle.std.proofs.lemmas.Bool.Decides.{nat_tests}
use Rattle.css_model.specs.declared.selector.Combinator.{Combinator}
use Rattle.css_model.specs.declared.selector.Op.{Op}
use Rattle.css_model.specs.declared.selector.Pseudo.{Pseudo}
use Rattle.css_model.specs.declared.selector.Simple.{Simple}
use Rattle.css_model.specs.declared.selector.Test.{Test}
use Rattle.css_model.specs.declared.token.Gap.{Gap}
use Rattle.css_model.specs.declared.token.TokenKind.{TokenKind}
use Rattle.css_model.specs.declared.token.TokenKind.TheVariants as kind
use Rattle.css_model.specs.Selectors.Classes.{is_name}
use Rattle.css_model.specs.Selectors.Compounds.{SoFar}
use Rattle.css_model.specs.Selectors.Terms.{Term, combinator_of, op_of}
use Rattle.css_model.specs.Selectors.Tokens.{is_function, is_id_hash}
use Rattle.css_model.specs.Text.Characters.{close_round, close_square, colon, dot, open_square, star}
use Rattle.css_model.specs.Text.Lexemes.{is_delim_of, is_ident, is_sign_of}
use Rattle.selector_laws.specs.Grammar.{IsAttribute, IsCompound, IsFront, IsLast, IsNegated, IsPseudoElement, IsSimple, IsTest, IsType}
use Rattle.selector_laws.specs.Grammar.IsAttribute.{present, equal, matching}
use Rattle.selector_laws.specs.Grammar.IsCompound.{of_type, of_simple, more}
use Rattle.selector_laws.specs.Grammar.IsFront.{at_start, by_sign, by_white}
use Rattle.selector_laws.specs.Grammar.IsLast.{plain as plain_last, behind, alone}
use Rattle.selector_laws.specs.Grammar.IsNegated.{of_type as negated_type, of_test}
use Rattle.selector_laws.specs.Grammar.IsPseudoElement.{one_colon, two_colons}
use Rattle.selector_laws.specs.Grammar.IsSimple.{plain, negation}
use Rattle.selector_laws.specs.Grammar.IsTest.{id, class, of_attribute, pseudo_class, position}
use Rattle.selector_laws.specs.Grammar.IsType.{universal, named}
use Rattle.selector_laws.proofs.ForCallers.{Current, Stands}
use Rattle.selector_laws.specs.Reason.Refusals.{opens_match}

-- whether terms end with `[`
abbrev pub ends_open : List Term → Bool
ends_open [] = false
ends_open (x ∷ []) = is_sign_of open_square x.kind
ends_open (x ∷ y ∷ ys) = ends_open (y ∷ ys)

pub record IsCalm (terms : List Term) : Type 0 where
  pub apart : opens_match terms ≡ false
  pub shut : ends_open terms ≡ false

opens_last : (xs : List Term) (x : Term) → opens_match (xs ++ x ∷ []) ≡ (ends_open xs && is_name x)
opens_last [] x = refl
opens_last (a ∷ []) x = refl
opens_last (a ∷ b ∷ []) x = refl
opens_last (a ∷ b ∷ c ∷ xs) x = opens_last (b ∷ c ∷ xs) x

ends_last : (xs : List Term) (x : Term) → ends_open (xs ++ x ∷ []) ≡ is_sign_of open_square x.kind
ends_last [] x = refl
ends_last (a ∷ []) x = refl
ends_last (a ∷ b ∷ xs) x = ends_last (b ∷ xs) x

-- right behind calm terms and one more a bar is no operator
pub apart_behind : (xs : List Term) (x : Term) → IsCalm xs → opens_match (xs ++ x ∷ []) ≡ false
apart_behind xs x calm = opens_last xs x ∙ ap (λ (b : Bool). b && is_name x) calm.shut

and_false : (a : Bool) → (a && false) ≡ false
and_false true = refl
and_false false = refl

-- nor is it behind a term that is no name
pub apart_unnamed : (xs : List Term) (x : Term) → is_name x ≡ false → opens_match (xs ++ x ∷ []) ≡ false
apart_unnamed xs x unnamed = opens_last xs x ∙ ap (λ (b : Bool). ends_open xs && b) unnamed ∙ and_false (ends_open xs)

-- nor behind two terms of which the first is not `[`
pub apart_two : (xs : List Term) (x y : Term) → is_sign_of open_square x.kind ≡ false → opens_match (xs ++ x ∷ y ∷ []) ≡ false
apart_two xs x y shut =
    ap opens_match (sym (append_assoc xs (x ∷ []) (y ∷ []))) ∙ opens_last (xs ++ x ∷ []) y ∙ ap (λ (b : Bool). b && is_name y) (ends_last xs x ∙ shut)

pub calm_one : (xs : List Term) (x : Term) → IsCalm xs → is_sign_of open_square x.kind ≡ false → IsCalm (xs ++ x ∷ [])
calm_one xs x calm shut = record { apart = apart_behind xs x calm; shut = ends_last xs x ∙ shut }

pub calm_two : (xs : List Term) (x y : Term) → IsCalm xs → is_sign_of open_square x.kind ≡ false → is_sign_of open_square y.kind ≡ false → IsCalm (xs ++ x ∷ y ∷ [])
calm_two xs x y calm first second = subst IsCalm (append_assoc xs (x ∷ []) (y ∷ [])) (calm_one (xs ++ x ∷ []) y (calm_one xs x calm first) second)

calm_end : (xs : List Term) (x : Term) → is_name x ≡ false → is_sign_of open_square x.kind ≡ false → IsCalm (xs ++ x ∷ [])
calm_end xs x unnamed shut = record { apart = apart_unnamed xs x unnamed; shut = ends_last xs x ∙ shut }

pub calm_nothing : IsCalm []
calm_nothing = record { apart = refl; shut = refl }

-- ---- kinds of tokens that are not `[`, or no name

pub ident_shut : (k : TokenKind) → is_ident k ≡ true → is_sign_of open_square k ≡ false
ident_shut kind.Ident is = refl
ident_shut _ is = absurd (false≢true is)

pub function_shut : (k : TokenKind) → is_function k ≡ true → is_sign_of open_square k ≡ false
function_shut kind.Function is = refl
function_shut _ is = absurd (false≢true is)

hash_shut : (k : TokenKind) → is_id_hash k ≡ true → is_sign_of open_square k ≡ false
hash_shut kind.IdHash is = refl
hash_shut _ is = absurd (false≢true is)

pub delim_shut : (c : _) (k : TokenKind) → is_delim_of c k ≡ true → is_sign_of open_square k ≡ false
delim_shut c (kind.Delim d) is = refl
delim_shut c _ is = absurd (false≢true is)

pub colon_shut : (k : TokenKind) → is_sign_of colon k ≡ true → is_sign_of open_square k ≡ false
colon_shut (kind.Sign c) is = grind (arith, nat_tests)
colon_shut _ is = absurd (false≢true is)

square_shut : (k : TokenKind) → is_sign_of close_square k ≡ true → is_sign_of open_square k ≡ false
square_shut (kind.Sign c) is = grind (arith, nat_tests)
square_shut _ is = absurd (false≢true is)

round_shut : (k : TokenKind) → is_sign_of close_round k ≡ true → is_sign_of open_square k ≡ false
round_shut (kind.Sign c) is = grind (arith, nat_tests)
round_shut _ is = absurd (false≢true is)

link_shut : (k : TokenKind) (link : Combinator) → combinator_of k ≡ Some link → is_sign_of open_square k ≡ false
link_shut (kind.Delim c) link is = refl
link_shut _ link is = absurd (let none : ⊥ = cc in none)

sign_unnamed : (k : TokenKind) (c : _) → is_sign_of c k ≡ true → is_ident k ≡ false
sign_unnamed (kind.Sign d) c is = refl
sign_unnamed _ c is = absurd (false≢true is)

delim_no_ident : (k : TokenKind) (c : _) → is_delim_of c k ≡ true → is_ident k ≡ false
delim_no_ident (kind.Delim d) c is = refl
delim_no_ident _ c is = absurd (false≢true is)

op_no_ident : (k : TokenKind) (op : Op) → op_of k ≡ Some op → is_ident k ≡ false
op_no_ident (kind.Delim d) op is = refl
op_no_ident _ op is = absurd (let none : ⊥ = cc in none)

pub unnamed : (x : Term) → is_ident x.kind ≡ false → is_name x ≡ false
unnamed x no_ident = ap (λ (b : Bool). b && not x.only_dashes) no_ident

pub unnamed_sign : (x : Term) (c : _) → is_sign_of c x.kind ≡ true → is_name x ≡ false
unnamed_sign x c is = unnamed x (sign_unnamed x.kind c is)

pub unnamed_delim : (x : Term) (c : _) → is_delim_of c x.kind ≡ true → is_name x ≡ false
unnamed_delim x c is = unnamed x (delim_no_ident x.kind c is)

pub unnamed_op : (x : Term) (op : Op) → op_of x.kind ≡ Some op → is_name x ≡ false
unnamed_op x op is = unnamed x (op_no_ident x.kind op is)

-- ---- what is derived is calm

-- at the end of terms that are equal to these
along : (done : List Term) (terms used : List Term) → terms ≡ used → IsCalm (done ++ used) → IsCalm (done ++ terms)
along done terms used same calm = subst (λ (xs : List Term). IsCalm (done ++ xs)) (sym same) calm

closes : (done front : List Term) (close : Term) → is_sign_of close_square close.kind ≡ true → IsCalm (done ++ (front ++ close ∷ []))
closes done front close is =
    subst IsCalm (append_assoc done front (close ∷ [])) (calm_end (done ++ front) close (unnamed_sign close close_square is) (square_shut close.kind is))

attribute_calm : (done terms : List Term) (test : Test) → IsAttribute terms test → IsCalm (done ++ terms)
attribute_calm done terms test (present bracket name close e opens names shut is) = along done terms _ e (closes done (bracket ∷ name ∷ []) close shut)
attribute_calm done terms test (equal bracket name sign value close e opens names signs values shut is) =
    along done terms _ e (closes done (bracket ∷ name ∷ sign ∷ value ∷ []) close shut)
attribute_calm done terms test (matching bracket name first second value close op e opens names ops signs gapless apart values shut is) =
    along done terms _ e (closes done (bracket ∷ name ∷ first ∷ second ∷ value ∷ []) close shut)

name_ident : (x : Term) → is_name x ≡ true → is_ident x.kind ≡ true
name_ident x is = first_of (is_ident x.kind) _ is
  where
    first_of : (a b : Bool) → (a && b) ≡ true → a ≡ true
    first_of true b h = refl
    first_of false b h = absurd (false≢true h)

test_calm : (done terms : List Term) (test : Test) → IsCalm done → IsTest terms test → IsCalm (done ++ terms)
test_calm done terms test calm (id x e hash is) = along done terms _ e (calm_one done x calm (hash_shut x.kind hash))
test_calm done terms test calm (class sign x e dots touches names is) =
    along done terms _ e (calm_two done sign x calm (delim_shut dot sign.kind dots) (ident_shut x.kind (name_ident x names)))
test_calm done terms test calm (of_attribute a) = attribute_calm done terms test a
test_calm done terms test calm (pseudo_class sign x e colons touches names only row) =
    along done terms _ e (calm_two done sign x calm (colon_shut sign.kind colons) (ident_shut x.kind names))
test_calm done terms test calm (position sign x make argument e colons touches calls row reads is) =
    along done terms _ e (calm_two done sign x calm (colon_shut sign.kind colons) (function_shut x.kind calls))

type_calm : (done : List Term) (x : Term) (test : Test) → IsCalm done → IsType x test → IsCalm (done ++ x ∷ [])
type_calm done x test calm (universal stars is) = calm_one done x calm (delim_shut star x.kind stars)
type_calm done x test calm (named names dashes is) = calm_one done x calm (ident_shut x.kind names)

pub negated_calm : (done terms : List Term) (test : Test) → IsCalm done → IsNegated terms test → IsCalm (done ++ terms)
negated_calm done terms test calm (negated_type x e t) = along done terms _ e (type_calm done x test calm t)
negated_calm done terms test calm (of_test t) = test_calm done terms test calm t

simple_calm : (done terms : List Term) (simple : Simple) → IsCalm done → IsSimple terms simple → IsCalm (done ++ terms)
simple_calm done terms simple calm (plain test t is) = test_calm done terms test calm t
simple_calm done terms simple calm (negation sign function close inside test e colons touches calls word n shut is) =
    along done terms _ e
    (subst IsCalm (append_assoc done (sign ∷ function ∷ inside) (close ∷ []))
    (calm_end (done ++ sign ∷ function ∷ inside) close (unnamed_sign close close_round shut) (round_shut close.kind shut)))

element_calm : (done terms : List Term) (element : Pseudo) → IsCalm done → IsPseudoElement terms element → IsCalm (done ++ terms)
element_calm done terms element calm (one_colon sign x e colons touches names row) =
    along done terms _ e (calm_two done sign x calm (colon_shut sign.kind colons) (ident_shut x.kind names))
element_calm done terms element calm (two_colons first second x e colons touches again close names row) =
    along done terms _ e
    (subst IsCalm (append_assoc done (first ∷ []) (second ∷ x ∷ []))
    (calm_two (done ++ first ∷ []) second x (calm_one done first calm (colon_shut first.kind colons)) (colon_shut second.kind again) (ident_shut x.kind names)))

compound_calm : (done terms : List Term) (simples : List Simple) → IsCalm done → IsCompound terms simples → IsCalm (done ++ terms)
compound_calm done terms simples calm (of_type x test t) = type_calm done x test calm t
compound_calm done terms simples calm (of_simple ts simple s) = simple_calm done ts simple calm s
compound_calm done terms simples calm (more front rest some simple c touches s) =
    subst IsCalm (append_assoc done front rest) (simple_calm (done ++ front) rest simple (compound_calm done front some calm c) s)

last_calm : (done terms : List Term) (simples : List Simple) (pseudo : Option Pseudo) → IsCalm done → IsLast terms simples pseudo → IsCalm (done ++ terms)
last_calm done terms simples pseudo calm (plain_last c is) = compound_calm done terms simples calm c
last_calm done terms simples pseudo calm (behind front rest element e c touches p is) =
    along done terms _ e (subst IsCalm (append_assoc done front rest) (element_calm (done ++ front) rest element (compound_calm done front simples calm c) p))
last_calm done terms simples pseudo calm (alone element p only is) = element_calm done terms element calm p

front_calm : (terms : List Term) (chain : List (List Simple)) (links : List Combinator) → IsFront terms chain links → IsCalm terms
front_calm terms chain links at_start = calm_nothing
front_calm terms chain links (by_sign front rest x some others simples link f c is) =
    calm_one (front ++ rest) x (compound_calm front rest simples (front_calm front some others f) c) (link_shut x.kind link is)
front_calm terms chain links (by_white front rest some others simples f c white) = compound_calm front rest simples (front_calm front some others f) c

current_calm : (done rest : List Term) (g : Gap) (s : SoFar) → IsCalm done → Current rest g s → IsCalm (done ++ rest)
current_calm done rest g s calm (Current.begins nothing none p) = along done rest [] nothing (subst IsCalm (sym (append-nil done)) calm)
current_calm done rest g s calm (Current.goes_on c gaps p) = compound_calm done rest s.compound calm c
current_calm done rest g s calm (Current.ends element l p) = last_calm done rest s.compound _ calm l

pub stands_calm : (done : List Term) (g : Gap) (s : SoFar) → Stands done g s → IsCalm done
stands_calm done g s stands =
    subst IsCalm (sym stands.parts) (current_calm stands.front stands.rest g s (front_calm stands.front s.chain s.links stands.before) stands.current)
