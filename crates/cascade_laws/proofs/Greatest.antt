-- The greatest entry of a list, and the winner.
use Rattle.std.proofs.Common.{◌≡◌, false, List, [], ◌∷◌, Option, Some, None, refl, sym, ap, ◌∙◌}
use Rattle.std.specs.Option.{MatchOption, IfSome, option_map}
use Rattle.std.specs.List.{All, Contains, filter}
use Rattle.std.proofs.lemmas.Bool.{cond_both, false≢true, false_from_ne_true}
use Rattle.std.proofs.lemmas.List.Elements.{All-cons, All-nil, All-weaker, All-same}
use Rattle.list_facts.proofs.Members.{Contains-here, Contains-there, Contains-filter, All-of_filter, filter-none, none-filter}
use Rattle.cascade_laws.proofs.Ranking.{exceeds-irreflexive, exceeds-transitive}
use Rattle.css_model.specs.Cascade.Winner.{AppliedDeclaration, rank, outranks, greater, greatest, Understood, is_understood, outcome}
use Rattle.cascade_laws.specs.Winning.{IsGreatest}

-- e stands in the list, and no entry of the list outranks it
pub record IsTop (es : List AppliedDeclaration) (e : AppliedDeclaration) : Type 0 where
  pub inside : Contains es e
  pub above : All (λ f. outranks f e ≡ false) es

-- one entry more
greater-top : (e : AppliedDeclaration) (es : List AppliedDeclaration) (o : Option AppliedDeclaration) → MatchOption o (es ≡ []) (IsTop es) → MatchOption (greater e o) ⊥ (IsTop (e ∷ es))
greater-top e es None none = record {
  inside = Contains-here e es;
  above = All-cons (λ f. outranks f e ≡ false) e es (exceeds-irreflexive (rank e)) (All-same (λ f. outranks f e ≡ false) es [] none (All-nil (λ f. outranks f e ≡ false)));
}
greater-top e es (Some f) top = cond_both (outranks e f) (Some e) (Some f) (λ o. MatchOption o ⊥ (IsTop (e ∷ es)))
    (λ wins. record {
      inside = Contains-here e es;
      above = All-cons (λ g. outranks g e ≡ false) e es (exceeds-irreflexive (rank e))
          (All-weaker (λ g. outranks g f ≡ false) (λ g. outranks g e ≡ false)
          (λ g below. false_from_ne_true (outranks g e) (λ over. false≢true (sym below ∙ exceeds-transitive (rank g) (rank e) (rank f) over wins))) es top.above);
    })
    (λ loses. record { inside = Contains-there e es f top.inside; above = All-cons (λ g. outranks g f ≡ false) e es loses top.above })

or_none : (e : AppliedDeclaration) (es : List AppliedDeclaration) (o : Option AppliedDeclaration) → MatchOption o ⊥ (IsTop (e ∷ es)) → MatchOption o (e ∷ es ≡ []) (IsTop (e ∷ es))
or_none e es None h = absurd h
or_none e es (Some f) h = h

pub greatest-top : (es : List AppliedDeclaration) → MatchOption (greatest es) (es ≡ []) (IsTop es)
greatest-top [] = refl
greatest-top (e ∷ es) = or_none e es (greater e (greatest es)) (greater-top e es (greatest es) (greatest-top es))

-- the greatest of those that are understood
chosen : (us : List Understood) (es : List AppliedDeclaration) (o : Option AppliedDeclaration) → MatchOption o (filter (is_understood us) es ≡ []) (IsTop (filter (is_understood us) es)) →
    IfSome (option_map outcome o) (λ w. (e : AppliedDeclaration) × IsGreatest us es e × (w ≡ outcome e))
chosen us es None h = tt
chosen us es (Some e) h = (
  e,
  record {
    applied = (Contains-filter (is_understood us) es e h.inside).0;
    understood = (Contains-filter (is_understood us) es e h.inside).1;
    greatest = All-of_filter (is_understood us) (λ f. outranks f e ≡ false) es h.above;
  },
  refl,
)

pub winner-greatest : (us : List Understood) (es : List AppliedDeclaration) → IfSome (option_map outcome (greatest (filter (is_understood us) es))) (λ w. (e : AppliedDeclaration) × IsGreatest us es e × (w ≡ outcome e))
winner-greatest us es = chosen us es (greatest (filter (is_understood us) es)) (greatest-top (filter (is_understood us) es))

none_chosen : (fs : List AppliedDeclaration) (o : Option AppliedDeclaration) → MatchOption o (fs ≡ []) (IsTop fs) → option_map outcome o ≡ None → fs ≡ []
none_chosen fs None h e = h
none_chosen fs (Some f) h e = cc

pub winner-none : (us : List Understood) (es : List AppliedDeclaration) → option_map outcome (greatest (filter (is_understood us) es)) ≡ None → All (λ e. is_understood us e ≡ false) es
winner-none us es e = none-filter (is_understood us) es (none_chosen (filter (is_understood us) es) (greatest (filter (is_understood us) es)) (greatest-top (filter (is_understood us) es)) e)

pub none-winner : (us : List Understood) (es : List AppliedDeclaration) → All (λ e. is_understood us e ≡ false) es → option_map outcome (greatest (filter (is_understood us) es)) ≡ None
none-winner us es h = ap (λ fs. option_map outcome (greatest fs)) (filter-none (is_understood us) es h)
