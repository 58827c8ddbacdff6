-- What each compound of a selector of the profile keeps to.
use Rattle.std.proofs.Common.{ℕ, ◌+◌, ◌*◌, ◌≡◌, ◌≤◌, ◌⊎◌, Bool, true, false, not, ◌||◌, Option, Some, None, Result, Ok, Err, List, [], ◌∷◌, length, refl, ap, ◌∙◌, subst, inl, inr, arith, codes}
use Rattle.std.specs.List.{AllByRecursion}
use Rattle.std.specs.Cmp.Lexicographic.{bytes_decides}
use Rattle.std.proofs.lemmas.Bool.{and_from}
use Rattle.std.proofs.lemmas.List.{length-append}
use Rattle.list_facts.proofs.Sums.{total}
use Rattle.css_model.specs.declared.reason.Reason.{Reason}
use Rattle.css_model.specs.declared.selector.Op.{Op}
use Rattle.css_model.specs.declared.selector.Op.TheVariants.{Present, Equal}
use Rattle.css_model.specs.declared.selector.Simple.{Simple}
use Rattle.css_model.specs.declared.selector.Test.{Test}
use Rattle.css_model.specs.declared.selector.Test.TheVariants.{Attr}
use Rattle.css_model.specs.declared.token.TokenFault.{TokenFault}
use Rattle.css_model.specs.declared.token.TokenFlaw.{TokenFlaw}
use Rattle.css_model.specs.Documents.SelectorParts.{SelectorParts}
use Rattle.css_model.specs.Lists.{same_text}
use Rattle.css_model.specs.Selectors.Profile.{IsInProfile}
use Rattle.css_model.specs.Selectors.Reading.{selector_of_lexemes, selector_of_terms, unless_fault}
use Rattle.css_model.specs.Selectors.Terms.{terms}
use Rattle.css_model.specs.Sheets.Limits.{max_bytes}
use Rattle.css_model.specs.Text.Lexemes.{lexemes}
use Rattle.css_model.specs.Text.Tokens.{fault_behind, parts, text_of, tokens}
use Rattle.css_tokens.proofs.ForCallers.{parts_are_lexed, parts_join}
use Rattle.token_laws.proofs.ForCallers.{solids_are_lexemes}
use Rattle.token_laws.specs.Solids.{solids}
use Rattle.selector_laws.proofs.ForCallers.{derived, read_keeps}
use Rattle.selector_laws.specs.Limits.{KeepsCompound, KeepsLimits, KeepsTest}
use Rattle.compound_fit.specs.Conditions.{has_plain_tests, is_plain_id}
use Rattle.compound_fit.specs.Ids.{is_plain}
use Rattle.pair_laws.proofs.Profile.DerivedChains.{IsWithin, selector_wide, simples_wide}
use Rattle.pair_laws.proofs.Profile.DerivedTests.{room}
use Rattle.pair_laws.proofs.Profile.NamedChains.{selector_named}
use Rattle.pair_laws.proofs.Profile.NamedTokens.{terms_named}
use Rattle.pair_laws.proofs.Profile.Sizes.{terms_of_parts}
use Rattle.pair_laws.specs.Profile.Named.{ProfileHasNames}

-- what is read of a text whose tokens have no fault
read_whole : (fault : Option TokenFault) (read : Result SelectorParts Reason) (x : SelectorParts) → unless_fault fault read ≡ Ok x → read ≡ Ok x
read_whole None read x e = e
read_whole (Some fault) (Ok selector) x e = absurd (let bad : ⊥ = cc in bad)
read_whole (Some fault) (Err reason) x e = absurd (let bad : ⊥ = cc in bad)

no_fault : (fault : Option TokenFault) (read : Result SelectorParts Reason) (x : SelectorParts) → unless_fault fault read ≡ Ok x → fault ≡ None
no_fault None read x e = refl
no_fault (Some fault) (Ok selector) x e = absurd (let bad : ⊥ = cc in bad)
no_fault (Some fault) (Err reason) x e = absurd (let bad : ⊥ = cc in bad)

no_flaw : (at : ℕ) (flaw : Option TokenFlaw) → fault_behind at flaw ≡ None → flaw ≡ None
no_flaw at None e = refl
no_flaw at (Some flaw) e = absurd (let bad : ⊥ = cc in bad)

read : (x : SelectorParts) (p : IsInProfile x) → selector_of_lexemes p.text (lexemes (tokens p.text false).tokens) ≡ Ok x
read x p = read_whole (tokens p.text false).fault (selector_of_lexemes p.text (lexemes (tokens p.text false).tokens)) x p.reads

pub limits : (x : SelectorParts) → IsInProfile x → KeepsLimits x
limits x p = read_keeps p.text (lexemes (tokens p.text false).tokens) x (read x p)

-- the values of a compound are short
few_wide : (x : SelectorParts) → IsInProfile x → (n : ℕ) × (3 * n ≤ max_bytes) × AllByRecursion (IsWithin n) x.chain
few_wide x p =
    let ps = (parts p.text).parts in
    let same = solids_are_lexemes p.text 0 in
    let reads : selector_of_terms (terms (solids ps)) ≡ Ok x = subst (λ ss. selector_of_terms (terms ss) ≡ Ok x) same (read x p) in
    let joined = parts_join p.text in
    let size : length p.text ≡ length (text_of ps) + length joined.0 = ap length joined.1 ∙ length-append (text_of ps) joined.0 in
    let few = terms_of_parts ps in
    let most = p.short in
    (total room (terms (solids ps)), omega (arith, few, size, most), selector_wide (terms (solids ps)) x (derived (terms (solids ps)) x reads))

-- a compound whose tests of `id` are plain, and in whose values few code points from U+10000 on stand
pub record IsFine (simples : List Simple) : Type 0 where
  pub plain : has_plain_tests simples ≡ true
  pub few : 3 * simples_wide simples ≤ max_bytes

pub fine_nothing : IsFine []
fine_nothing = record { plain = refl; few = omega arith }

op_plain : (op : Op) → (op ≡ Present) ⊎ (op ≡ Equal) → is_plain op ≡ true
op_plain op (inl is) = rw is refl
op_plain op (inr is) = rw is refl

test_plain : (test : Test) → KeepsTest test → is_plain_id test ≡ true
test_plain (Attr t) keeps = by (same_text t.name (codes "id")) refl
  where
    by : (b : Bool) → same_text t.name (codes "id") ≡ b → (not b || is_plain t.op) ≡ true
    by true is = op_plain t.op (keeps ((bytes_decides t.name (codes "id")).0 is))
    by false is = refl
test_plain _ keeps = refl

simples_plain : (simples : List Simple) → AllByRecursion (λ simple. KeepsTest simple.test) simples → has_plain_tests simples ≡ true
simples_plain [] all = refl
simples_plain (s ∷ simples) all = and_from (is_plain_id s.test) (has_plain_tests simples) (test_plain s.test all.0) (simples_plain simples all.1)

all_fine : (n : ℕ) (chain : List (List Simple)) → 3 * n ≤ max_bytes → AllByRecursion (IsWithin n) chain → AllByRecursion KeepsCompound chain → AllByRecursion IsFine chain
all_fine n [] most within keeps = tt
all_fine n (c ∷ cs) most within keeps =
    let le : simples_wide c ≤ n = within.0 in
    let k : KeepsCompound c = keeps.0 in
    (record { plain = simples_plain c k.tests; few = omega (arith, le, most) }, all_fine n cs most within.1 keeps.1)

pub chain_fine : (x : SelectorParts) → IsInProfile x → AllByRecursion IsFine x.chain
chain_fine x p = let s = few_wide x p in all_fine s.0 x.chain s.1 s.2 (limits x p).compounds

-- the names of its tests
pub chain_named : ProfileHasNames
chain_named x p =
    let ps = (parts p.text).parts in
    let same = solids_are_lexemes p.text 0 in
    let reads : selector_of_terms (terms (solids ps)) ≡ Ok x = subst (λ ss. selector_of_terms (terms ss) ≡ Ok x) same (read x p) in
    selector_named (terms (solids ps)) x (terms_named ps (parts_are_lexed p.text (no_flaw _ (parts p.text).flaw (no_fault (tokens p.text false).fault _ x p.reads)))) (derived (terms (solids ps)) x reads)
