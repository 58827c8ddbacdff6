-- Parts with a sign between them are cut into these parts again.
use Rattle.std.proofs.Common.{◌≡◌, subst, ℕ, ◌==◌, Bool, true, false, List, [], ◌∷◌, ◌++◌, map, refl, sym, ◌∙◌, ap, append_assoc, append-nil}
use Rattle.std.specs.Prelude.{◌&&◌}
use Rattle.std.specs.List.{AllZip, AllByRecursion, slice_split}
use Rattle.css_model.specs.declared.token.Lexeme.{Lexeme}
use Rattle.css_model.specs.Text.Lexemes.{is_sign_of, is_sign_at}
use Rattle.list_facts.proofs.Cuts.{None_of, none_append, split_none, split_at}
use Rattle.list_facts.proofs.Zips.{cut_at, cons_head, cons_tail, cons_not_empty}
use Rattle.sheet_laws.proofs.Shown.Tokens.{Shown, shown, joined}

-- a sign of this level among tokens that are shown
abbrev pub is_shown_sign : ℕ → ℕ → Shown → Bool
is_shown_sign b level s = is_sign_of b s.kind && s.level == level

pub none_shown : (source : List ℕ) (b level : ℕ) (ys : List Lexeme) (ss : List Shown) → map (shown source) ys ≡ ss → None_of (is_shown_sign b level) ss → None_of (is_sign_at b level) ys
none_shown source b level [] ss e fail = tt
none_shown source b level (y ∷ ys) [] e fail = absurd (cons_not_empty (shown source y) (map (shown source) ys) e)
none_shown source b level (y ∷ ys) (s ∷ ss) e fail = (
  ap (is_shown_sign b level) (cons_head (shown source y) s (map (shown source) ys) ss e) ∙ fail.0,
  none_shown source b level ys ss (cons_tail (shown source y) s (map (shown source) ys) ss e) fail.1,
)

pub none_joined : (p : Shown → Bool) (sign : Shown) (parts : List (List Shown)) → p sign ≡ false → AllByRecursion (None_of p) parts → None_of p (joined sign parts)
none_joined p sign [] other each = tt
none_joined p sign (part ∷ []) other each = each.0
none_joined p sign (part ∷ next ∷ parts) other each = none_append p part (sign ∷ joined sign (next ∷ parts)) each.0 (other, none_joined p sign (next ∷ parts) other each.1)

-- one list stands in another
pub record StandsIn {A : Type 0} (whole part : List A) : Type 0 where
  pub front : List A
  pub behind : List A
  pub is : whole ≡ front ++ part ++ behind

pub stands_whole : {A : Type 0} (xs : List A) → StandsIn xs xs
stands_whole xs = record { front = []; behind = []; is = sym (append-nil xs) }

pub stands_front : {A : Type 0} (xs ys : List A) → StandsIn (xs ++ ys) xs
stands_front xs ys = record { front = []; behind = ys; is = refl }

pub stands_behind : {A : Type 0} (xs ys : List A) → StandsIn (xs ++ ys) ys
stands_behind xs ys = record { front = xs; behind = []; is = sym (append-nil (xs ++ ys)) }

pub stands_inside : {A : Type 0} (xs ys zs : List A) → StandsIn xs ys → StandsIn ys zs → StandsIn xs zs
stands_inside {A = A} xs ys zs outer inner =
    record {
      front = outer.front ++ inner.front;
      behind = inner.behind ++ outer.behind;
      is = outer.is ∙ ap (λ (t : List A). outer.front ++ t ++ outer.behind) inner.is ∙ regroup outer.front inner.front zs inner.behind outer.behind;
    }
  where
    regroup : (a b c d e : List A) → a ++ (b ++ c ++ d) ++ e ≡ a ++ b ++ c ++ (d ++ e)
    regroup a b c d e =
        ap (λ (t : List A). t ++ e) (sym (append_assoc a (b ++ c) d) ∙ ap (λ (t : List A). t ++ d) (sym (append_assoc a b c)))
        ∙ append_assoc (a ++ b ++ c) d e

-- the parts of a list that is shown as parts with a sign between them
abbrev pub ArePartsOf : List ℕ → List Lexeme → List (List Lexeme) → List (List Shown) → Type 0
ArePartsOf source whole parts shown_parts = AllZip (λ part ss. (map (shown source) part ≡ ss) × StandsIn whole part) parts shown_parts

pub record AreCut (source : List ℕ) (b level : ℕ) (ys : List Lexeme) (ss : List (List Shown)) : Type 0 where
  pub parts : List (List Lexeme)
  pub split : slice_split (is_sign_at b level) ys ≡ parts
  pub each : ArePartsOf source ys parts ss

pub wider : (source : List ℕ) (whole behind : List Lexeme) (parts : List (List Lexeme)) (ss : List (List Shown)) → StandsIn whole behind → ArePartsOf source behind parts ss → ArePartsOf source whole parts ss
wider source whole behind [] [] inside each = tt
wider source whole behind [] (s ∷ ss) inside each = absurd each
wider source whole behind (part ∷ parts) [] inside each = absurd each
wider source whole behind (part ∷ parts) (s ∷ ss) inside each = ((each.0.0, stands_inside whole behind part inside each.0.1), wider source whole behind parts ss inside each.1)

pub cut_joined : (source : List ℕ) (b level : ℕ) (sign : Shown) → is_shown_sign b level sign ≡ true → (ys : List Lexeme) (part : List Shown) (parts : List (List Shown))
    → map (shown source) ys ≡ joined sign (part ∷ parts) → AllByRecursion (None_of (is_shown_sign b level)) (part ∷ parts) → AreCut source b level ys (part ∷ parts)
cut_joined source b level sign is ys part [] e fail =
    record { parts = ys ∷ []; split = split_none (is_sign_at b level) ys (none_shown source b level ys part e fail.0); each = ((e, stands_whole ys), tt) }
cut_joined source b level sign is ys part (next ∷ parts) e fail =
    let cut = cut_at (shown source) ys part (sign ∷ joined sign (next ∷ parts)) e in
    behind_sign cut.upper cut.lower cut.whole cut.is_front cut.is_behind (λ zs. cut_joined source b level sign is zs next parts)
  where
    behind_sign : (upper lower : List Lexeme) → ys ≡ upper ++ lower → map (shown source) upper ≡ part → map (shown source) lower ≡ sign ∷ joined sign (next ∷ parts)
        → ((zs : List Lexeme) → map (shown source) zs ≡ joined sign (next ∷ parts) → AllByRecursion (None_of (is_shown_sign b level)) (next ∷ parts) → AreCut source b level zs (next ∷ parts))
        → AreCut source b level ys (part ∷ next ∷ parts)
    behind_sign upper [] whole front behind again = absurd (cons_not_empty sign (joined sign (next ∷ parts)) (sym behind))
    behind_sign upper (y ∷ lower) whole front behind again =
        let later = cons_tail (shown source y) sign (map (shown source) lower) (joined sign (next ∷ parts)) behind in
        let here = ap (is_shown_sign b level) (cons_head (shown source y) sign (map (shown source) lower) (joined sign (next ∷ parts)) behind) ∙ is in
        let rest = again lower later fail.1 in
        record {
          parts = upper ∷ rest.parts;
          split = ap (slice_split (is_sign_at b level)) whole
              ∙ split_at (is_sign_at b level) upper y lower (none_shown source b level upper part front fail.0) here
              ∙ ap (λ zs. upper ∷ zs) rest.split;
          each = (
            (front, subst (λ zs. StandsIn zs upper) (sym whole) (stands_front upper (y ∷ lower))),
            wider source ys lower rest.parts (next ∷ parts)
                (subst (λ zs. StandsIn zs lower) (sym whole) (stands_inside (upper ++ y ∷ lower) (y ∷ lower) lower (stands_behind upper (y ∷ lower)) (stands_behind (y ∷ []) lower))) rest.each,
          );
        }
