-- So do the tests of each compound of a selector.
use Rattle.std.proofs.Common.{Option, List, [], ◌∷◌, ◌++◌, sym, ap, subst}
use Rattle.std.specs.List.{AllByRecursion}
use Rattle.css_model.specs.declared.selector.Combinator.{Combinator}
use Rattle.css_model.specs.declared.selector.Pseudo.{Pseudo}
use Rattle.css_model.specs.declared.selector.Simple.{Simple}
use Rattle.css_model.specs.Documents.SelectorParts.{SelectorParts}
use Rattle.css_model.specs.Selectors.Terms.{Term}
use Rattle.selector_laws.proofs.ForCallers.{all_append, all_reverse}
use Rattle.selector_laws.specs.Grammar.{IsCompound, IsFront, IsLast, IsSelector}
use Rattle.selector_laws.specs.Grammar.IsCompound.{of_type, of_simple, more}
use Rattle.selector_laws.specs.Grammar.IsFront.{at_start, by_sign, by_white}
use Rattle.selector_laws.specs.Grammar.IsLast.{plain, behind, alone}
use Rattle.pair_laws.specs.Profile.Named.{HasName, HaveNames}
use Rattle.pair_laws.proofs.Profile.NamedTests.{AreNamed, left_all, right_all, simple_named, type_named}
use Rattle.pair_laws.proofs.Profile.NamedTokens.{IsNamedTerm}

compound_named : (terms : List Term) (simples : List Simple) → AreNamed terms → IsCompound terms simples → HaveNames simples
compound_named terms simples all (of_type x test t) = (type_named x test all.0 t, tt)
compound_named terms simples all (of_simple ts simple d) = (simple_named ts simple all d, tt)
compound_named terms simples all (more front rest some simple d touches e) =
    all_append (λ (s : Simple). HasName s.test) some (simple ∷ []) (compound_named front some (left_all IsNamedTerm front rest all) d) (simple_named rest simple (right_all IsNamedTerm front rest all) e, tt)

front_named : (terms : List Term) (chain : List (List Simple)) (links : List Combinator) → AreNamed terms → IsFront terms chain links → AllByRecursion HaveNames chain
front_named terms chain links all at_start = tt
front_named terms chain links all (by_sign before rest y others earlier c link d compound signs) =
    let both = left_all IsNamedTerm (before ++ rest) (y ∷ []) all in
    all_append HaveNames others (c ∷ []) (front_named before others earlier (left_all IsNamedTerm before rest both) d) (compound_named rest c (right_all IsNamedTerm before rest both) compound, tt)
front_named terms chain links all (by_white before rest others earlier c d compound white) =
    all_append HaveNames others (c ∷ []) (front_named before others earlier (left_all IsNamedTerm before rest all) d) (compound_named rest c (right_all IsNamedTerm before rest all) compound, tt)

last_named : (terms : List Term) (simples : List Simple) (pseudo : Option Pseudo) → AreNamed terms → IsLast terms simples pseudo → HaveNames simples
last_named terms simples pseudo all (plain c is) = compound_named terms simples all c
last_named terms simples pseudo all (behind front rest element e c touches p is) = compound_named front simples (left_all IsNamedTerm front rest (subst AreNamed e all)) c
last_named terms simples pseudo all (alone element p e is) = subst HaveNames (sym e) (tt, tt)

pub selector_named : (terms : List Term) (selector : SelectorParts) → AreNamed terms → IsSelector terms selector → AllByRecursion HaveNames selector.chain
selector_named terms selector all s =
    let both = subst AreNamed s.parts all in
    let before = front_named s.front s.compounds s.links (left_all IsNamedTerm s.front s.rest both) s.before in
    let last = last_named s.rest s.simples s.pseudo (right_all IsNamedTerm s.front s.rest both) s.last in
    subst (AllByRecursion HaveNames) (ap (λ (x : SelectorParts). x.chain) (sym s.is)) (all_reverse HaveNames (s.compounds ++ s.simples ∷ []) (all_append HaveNames s.compounds (s.simples ∷ []) before (last, tt)))
