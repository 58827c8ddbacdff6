-- Tokens that stand one block deeper.
use Rattle.std.proofs.Common.{◌≡◌, ℕ, suc, ◌==◌, Bool, true, false, cond, List, [], ◌∷◌, ◌++◌, map, length, Option, Some, None, refl, sym, ◌∙◌, ap, subst, arith}
use Rattle.std.specs.Prelude.{◌&&◌}
use Rattle.std.proofs.lemmas.List.{length-append}
use Rattle.css_model.specs.declared.token.Gap.{Gap}
use Rattle.css_model.specs.declared.token.Gap.TheVariants as gap
use Rattle.css_model.specs.declared.token.TokenKind.{TokenKind}
use Rattle.css_model.specs.Text.Characters.{close_curly}
use Rattle.css_model.specs.Text.Lexemes.{closer_of, is_sign_of}
use Rattle.css_model.specs.Text.Tokens.{Part}
use Rattle.list_facts.proofs.Cuts.{None_of}
use Rattle.sheet_laws.proofs.ForCallers.{Shown}
use Rattle.print_laws.proofs.ForCallers.{Chain, IsTold, chain-first, chain-none, closers_after, gap_parts, opened_by, parts_of, token_part}

-- a token with one more bracket open before it
abbrev pub deeper : Shown → Shown
deeper s = record { kind = s.kind; bytes = s.bytes; gap = s.gap; level = suc s.level }

-- a `}` inside no bracket: it would close a block that stands around it
abbrev pub is_stray : Shown → Bool
is_stray s = is_sign_of close_curly s.kind && s.level == 0

-- levels are not printed
pub parts_deeper : (ss : List Shown) → parts_of (map deeper ss) ≡ parts_of ss
parts_deeper [] = refl
parts_deeper (s ∷ ss) = ap (λ (ps : List Part). token_part s ∷ (gap_parts s.kind s.gap ++ ps)) (parts_deeper ss)

told_deeper : (g : Gap) (ss : List Shown) → IsTold g ss → IsTold g (map deeper ss)
told_deeper gap.Comments [] told = absurd told
told_deeper gap.Comments (s ∷ ss) told = tt
told_deeper gap.Nothing ss told = tt
told_deeper gap.White ss told = tt

opened_deeper : (o : Option ℕ) (cs : List ℕ) → opened_by o (cs ++ close_curly ∷ []) ≡ opened_by o cs ++ close_curly ∷ []
opened_deeper None cs = refl
opened_deeper (Some c) cs = refl

-- the brackets behind a token that does not close the block around it
pub closers_deeper : (k : TokenKind) (cs : List ℕ) → is_sign_of close_curly k && length cs == 0 ≡ false
    → closers_after k (cs ++ close_curly ∷ []) ≡ closers_after k cs ++ close_curly ∷ []
closers_deeper k [] stays = which (is_sign_of close_curly k) stays
  where
    which : (b : Bool) → b && true ≡ false → cond b [] (opened_by (closer_of k) (close_curly ∷ [])) ≡ opened_by (closer_of k) [] ++ close_curly ∷ []
    which true stays = absurd cc
    which false stays = opened_deeper (closer_of k) []
closers_deeper k (c ∷ cs) stays = which (is_sign_of c k)
  where
    which : (b : Bool) → cond b (cs ++ close_curly ∷ []) (opened_by (closer_of k) (c ∷ cs ++ close_curly ∷ [])) ≡ cond b cs (opened_by (closer_of k) (c ∷ cs)) ++ close_curly ∷ []
    which true = refl
    which false = opened_deeper (closer_of k) (c ∷ cs)

-- tokens of which none closes the block around them, inside that block
pub chain_deeper : (cs ds : List ℕ) (ss : List Shown) → Chain cs ss ds → None_of is_stray ss → Chain (cs ++ close_curly ∷ []) (map deeper ss) (ds ++ close_curly ∷ [])
chain_deeper cs ds [] c stays = subst (λ (es : List ℕ). Chain (cs ++ close_curly ∷ []) [] (es ++ close_curly ∷ [])) c.ends (chain-none (cs ++ close_curly ∷ []))
chain_deeper cs ds (s ∷ ss) c stays =
    let level : s.level ≡ length cs = c.chain.1 in
    chain-first (cs ++ close_curly ∷ []) (closers_after s.kind cs ++ close_curly ∷ []) (ds ++ close_curly ∷ []) (deeper s) (map deeper ss) c.chain.0
    (omega (arith, level, length-append cs (close_curly ∷ [])))
    (told_deeper s.gap ss c.chain.2)
    (closers_deeper s.kind cs (ap (λ (n : ℕ). is_sign_of close_curly s.kind && n == 0) (sym level) ∙ stays.0))
    (chain_deeper (closers_after s.kind cs) ds ss (record { chain = c.chain.3; ends = c.ends }) stays.1)
