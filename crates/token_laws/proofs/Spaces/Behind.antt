-- Which tokens end in an open escape, and what is read of a token and white space.
use Rattle.std.proofs.Common.{ℕ, suc, ◌<◌, ◌+◌, ◌≤◌, ◌≡◌, inl, inr, Bool, true, false, cond, ltb, List, [], ◌∷◌, ◌++◌, Some, length, refl, sym, ap, ◌∙◌, arith, append_assoc, Option}
use Rattle.std.proofs.lemmas.Bool.{false≢true, le-ltb}
use Rattle.std.proofs.lemmas.List.{length-append, drop_at}
use Rattle.css_model.specs.declared.token.TokenKind.{TokenKind}
use Rattle.css_model.specs.declared.token.TokenKind.TheVariants as kind
use Rattle.css_model.specs.Text.Characters.{space, quote, backslash}
use Rattle.css_model.specs.Text.Kept.{is_lone, is_open}
use Rattle.css_model.specs.Text.Lexemes.{is_white_kind}
use Rattle.css_model.specs.Text.Units.{white_unit}
use Rattle.css_model.specs.Text.TokenAt.{rule_at, part_at, within, done}
use Rattle.token_laws.proofs.Spaces.Rules.{near_len, Nearly, Apart}
use Rattle.token_laws.specs.Alike.{ends_itself}
use Rattle.token_laws.proofs.Spaces.Tokens.{rule_near}
use Rattle.token_laws.specs.SpaceBehind.{IsRead, KeepsQuote, SpaceEnds, SpaceCloses, SelfEndedAreShut, LastCloses}
use Rattle.token_laws.proofs.Spaces.LastBytes.{LastIs, last_closed, done_len}
use Rattle.token_laws.proofs.Ends.Alike.{alike_space}
use Rattle.token_laws.proofs.Ends.Rests.{looks_byte}
use Rattle.token_laws.proofs.Ends.Rules.{part_again}
use Rattle.css_tokens.proofs.ForCallers.{part_rule, part_len}

-- what is read of a token before a white space
part_nearly : (v old more : List ℕ) (k : TokenKind) → Apart v more → is_lone k ≡ false → is_white_kind k ≡ false → part_at (v ++ old) ≡ done k (length v)
    → Nearly k v (rule_at (v ++ space ∷ more))
part_nearly [] old more k apart other solid is = absurd (let len = part_len old (Some k, 0) is in omega (arith, len.0))
part_nearly (c ∷ cs) old more k apart other solid is = rule_near old more k c cs apart other solid (part_rule (c ∷ cs ++ old) (Some k, suc (length cs)) is).0

within_done : (text : List ℕ) (k : TokenKind) (n : ℕ) → n ≤ length text → rule_at text ≡ done k n → part_at text ≡ done k n
within_done text k n fits is =
    let short : ltb (length text) n ≡ false = le-ltb (length text) n fits in
    ap (within text) is ∙ (rw short refl)

near_fits : (v more : List ℕ) → near_len v ≤ length (v ++ space ∷ more)
near_fits v more = which (is_open v) (length-append v (space ∷ more))
  where
    which : (b : Bool) → length (v ++ space ∷ more) ≡ length v + suc (length more) → cond b (suc (length v)) (length v) ≤ length (v ++ space ∷ more)
    which true len = omega (arith, len)
    which false len = omega (arith, len)

pub not_lone : (k : TokenKind) → is_lone k ≡ false → ◌≡◌ {A = Option TokenKind} (Some k) (Some (kind.Delim backslash)) → ⊥
not_lone k other is = let same : k ≡ kind.Delim backslash = cc in false≢true (sym other ∙ ap is_lone same)

-- a token that ends itself is the same before a white space
itself_again : (v old rest : List ℕ) (k : TokenKind) → IsRead v old k → ends_itself (Some k) ≡ true → KeepsQuote old rest → part_at (v ++ space ∷ rest) ≡ done k (length v)
itself_again v old rest k solid itself keeps =
    part_again v old (space ∷ rest) (Some k) (λ goes_on. absurd (false≢true (sym goes_on ∙ itself)))
    (looks_byte (Some k) v old space rest refl (not_lone k solid.no_lone) (λ _ _ _ _ quoted. keeps quoted)) solid.read

-- so one that ends itself takes no white space
itself_shut : (v old : List ℕ) (k : TokenKind) → IsRead v old k → ends_itself (Some k) ≡ true → is_open v ≡ false
itself_shut v old k solid itself =
    which (part_nearly v old (quote ∷ []) k (record { no_name = λ _. refl; no_round = λ _. refl }) solid.no_lone solid.no_white solid.read)
  where
    same : part_at (v ++ space ∷ quote ∷ []) ≡ done k (length v)
    same = itself_again v old (quote ∷ []) k solid itself (λ _. refl)

    shut : (b : Bool) → cond b (suc (length v)) (length v) ≡ length v → b ≡ false
    shut true longer = absurd (omega (arith, longer))
    shut false longer = refl

    which : Nearly k v (rule_at (v ++ space ∷ quote ∷ [])) → is_open v ≡ false
    which (inl near) =
        let here = within_done (v ++ space ∷ quote ∷ []) k (near_len v) (near_fits v (quote ∷ [])) near in
        shut (is_open v) (done_len k k (near_len v) (length v) (sym here ∙ same))
    which (inr ends) = ends.closed

closed_apart : (v more : List ℕ) → is_open v ≡ false → Apart v more
closed_apart v more closed = record { no_name = λ is. absurd (false≢true (sym closed ∙ is)); no_round = λ is. absurd (false≢true (sym closed ∙ is)) }

pub space_ends : SpaceEnds
space_ends v old rest k solid shut keeps =
    let len : near_len v ≡ length v = rw shut refl in
    which len (part_nearly v old rest k (closed_apart v rest shut) solid.no_lone solid.no_white solid.read)
  where
    which : near_len v ≡ length v → Nearly k v (rule_at (v ++ space ∷ rest)) → part_at (v ++ space ∷ rest) ≡ done k (length v)
    which len (inl same) = within_done (v ++ space ∷ rest) k (length v) (omega (arith, len, near_fits v rest)) (same ∙ ap (done k) len)
    which len (inr shut) = itself_again v old rest k solid shut.itself keeps

open_takes : (v old rest : List ℕ) (k : TokenKind) → IsRead v old k → is_open v ≡ true → part_at (v ++ space ∷ space ∷ rest) ≡ done k (suc (length v))
open_takes v old rest k solid open_end =
    let len : near_len v ≡ suc (length v) = rw open_end refl in
    let read = which len (part_nearly v old (space ∷ rest) k (record { no_name = λ _. refl; no_round = λ _. refl }) solid.no_lone solid.no_white solid.read) in
    within_done (v ++ space ∷ space ∷ rest) k (suc (length v)) (omega (arith, len, near_fits v (space ∷ rest))) read
  where
    which : near_len v ≡ suc (length v) → Nearly k v (rule_at (v ++ space ∷ space ∷ rest)) → rule_at (v ++ space ∷ space ∷ rest) ≡ done k (suc (length v))
    which len (inl same) = same ∙ ap (done k) len
    which len (inr shut) = absurd (false≢true (sym shut.closed ∙ open_end))

pub self_ended_are_shut : SelfEndedAreShut
self_ended_are_shut v old k solid itself = itself_shut v old k solid itself

last_at : (w : List ℕ) (x : ℕ) → LastIs x (w ++ x ∷ [])
last_at w x = record { at = length w; is = drop_at w (x ∷ []) (length w) refl }

pub last_closes : LastCloses
last_closes w x old k solid no_digit no_backslash =
    last_closed x (w ++ x ∷ []) (record { no_digit = no_digit; no_backslash = no_backslash }) (last_at w x)

pub space_closes : SpaceCloses
space_closes v old rest k solid is =
    let whole : (v ++ space ∷ []) ++ space ∷ [] ≡ v ++ space ∷ space ∷ [] = append_assoc v (space ∷ []) (space ∷ []) in
    let len : suc (length v) ≡ length (v ++ space ∷ []) = omega (arith, length-append v (space ∷ [])) in
    let read : part_at ((v ++ space ∷ []) ++ space ∷ []) ≡ done k (length (v ++ space ∷ [])) = ap part_at whole ∙ open_takes v old [] k solid is ∙ ap (done k) len in (
      open_takes v old rest k solid is,
      last_closes v space (space ∷ []) k (record { no_white = solid.no_white; no_lone = solid.no_lone; read = read }) refl refl,
    )

-- white space right behind an open token would belong to it, if it goes on where more of it follows
pub open_apart : (v old : List ℕ) (k : TokenKind) → IsRead v old k → is_open v ≡ true → (ends_itself (Some k) ≡ false → 0 < white_unit old) → ⊥
open_apart v old k solid is white =
    let new = space ∷ space ∷ quote ∷ [] in
    let still = part_again v old new (Some k) (λ goes_on. alike_space old (space ∷ quote ∷ []) (white goes_on))
    (looks_byte (Some k) v old space (space ∷ quote ∷ []) refl (not_lone k solid.no_lone) (λ _ _ _ _ _. refl)) solid.read in
    let more = (space_closes v old (quote ∷ []) k solid is).0 in
    let len = done_len k k (length v) (suc (length v)) (sym still ∙ more) in
    omega (arith, len)
