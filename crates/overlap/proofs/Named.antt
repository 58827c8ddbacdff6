-- The names of a selector of the profile, as the document of a shape asks for them.
use Rattle.std.proofs.Common.{List, [], ◌∷◌}
use Rattle.std.specs.List.{AllByRecursion}
use Rattle.css_model.specs.declared.selector.Simple.{Simple}
use Rattle.css_model.specs.declared.selector.Test.{Test}
use Rattle.css_model.specs.declared.selector.Test.TheVariants.{Any, Kind, Id, Attr, Nth, NthLast, OnlyChild, Root, Empty, State}
use Rattle.element_laws.specs.Names as element
use Rattle.pair_laws.specs.Profile.Named as profile

named_test : (test : Test) → profile.HasName test → element.HasName test
named_test Any h = h
named_test (Kind v) h = h
named_test (Id v) h = h
named_test (Attr v) h = h
named_test (Nth v) h = h
named_test (NthLast v) h = h
named_test OnlyChild h = h
named_test Root h = h
named_test Empty h = h
named_test (State v) h = h

named : (simples : List Simple) → profile.HaveNames simples → element.HaveNames simples
named [] h = h
named (s ∷ simples) h = (named_test s.test h.0, named simples h.1)

pub named_chain : (chain : List (List Simple)) → AllByRecursion profile.HaveNames chain → AllByRecursion element.HaveNames chain
named_chain [] h = h
named_chain (c ∷ chain) h = (named c h.0, named_chain chain h.1)
