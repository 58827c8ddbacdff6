-- What matches at an element, compound by compound.
use Rattle.std.proofs.Common.{◌≡◌, Bool, true, false, ◌&&◌, List, [], ◌∷◌, drop, refl, ap}
use Rattle.css_model.specs.declared.selector.Combinator.{Combinator}
use Rattle.css_model.specs.declared.selector.Simple.{Simple}
use Rattle.css_model.specs.Documents.Document.{Element}
use Rattle.cascade_laws.specs.declared.reaching.Reached.{Reached}
use Rattle.cascade_laws.specs.declared.reaching.Surroundings.{Surroundings}
use Rattle.cascade_laws.specs.Eval.Reaching.{located, put_here}
use Rattle.cascade_laws.specs.Eval.Surrounded.{chain_among, compound_among}
use Rattle.line_match.specs.Runs.{is_led}

alone : (b : Bool) → b ≡ (b && true)
alone true = refl
alone false = refl

never : (b : Bool) → false ≡ (b && false)
never true = refl
never false = refl

pub located_first : (c : List Simple) (chain : List (List Simple)) (e : Element) (s : Surroundings) (links : List Combinator) (r : Reached) (rs : List Reached) →
    located (chain_among (c ∷ chain) e s) links (r ∷ rs) ≡ put_here (compound_among e s c && is_led chain links rs) r ∷ located (chain_among chain e s) (drop 1 links) rs
located_first c [] e s links r rs = ap (λ b. put_here b r ∷ []) (alone (compound_among e s c))
located_first c (d ∷ chain) e s [] r rs = ap (λ b. put_here b r ∷ located (chain_among (d ∷ chain) e s) [] rs) (never (compound_among e s c))
located_first c (d ∷ chain) e s (link ∷ links) r rs = refl
