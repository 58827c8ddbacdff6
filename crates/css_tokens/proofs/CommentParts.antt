-- A comment that is a part of a text, as the public words say it.
use Rattle.std.proofs.Common.{ℕ, zero, suc, ◌+◌, ◌<◌, ◌≤◌, ◌≡◌, Bool, true, false, ◌&&◌, ◌==◌, List, [], ◌∷◌, ◌++◌, Result, Option, Ok, Err, Some, None, length, drop, take, refl, sym, ap, ◌∙◌, subst, arith}
use Rattle.std.proofs.lemmas.Bool.{false≢true, and_parts, eqb-true}
use Rattle.std.proofs.lemmas.List.{length-take-le}
use Rattle.css_model.specs.declared.token.TokenKind.{TokenKind}
use Rattle.css_model.specs.declared.token.TokenKind.TheVariants as kind
use Rattle.css_model.specs.declared.token.TokenFlaw.{TokenFlaw}
use Rattle.css_model.specs.declared.token.TokenFlaw.TheVariants as flaw
use Rattle.css_model.specs.Text.Characters.{slash, star, begins}
use Rattle.css_model.specs.Text.Runs.{run}
use Rattle.css_model.specs.Text.Units.{comment_unit}
use Rattle.css_model.specs.Text.TokenAt.{Shape, rule_at, part_at, slash_shape, comment_shape, done}
use Rattle.css_tokens.specs.Laws.{IsInside, comment_of}
use Rattle.css_tokens.proofs.CommentLemmas.{close, closes}
use Rattle.css_tokens.proofs.PartLemmas.{Holds, if_so, rule_holds, part_rule}

-- what a run of what stands inside a comment ends at is its end, where a star stands there
pub star_closes : (cs : List ℕ) → begins star (drop (run comment_unit cs) cs) ≡ true → closes (drop (run comment_unit cs) cs) ≡ true
star_closes [] starred = absurd (false≢true starred)
star_closes (c ∷ cs) starred = which (closes (c ∷ cs)) refl (λ later. star_closes cs later)
  where
    which : (b : Bool) → closes (c ∷ cs) ≡ b → (begins star (drop (run comment_unit cs) cs) ≡ true → closes (drop (run comment_unit cs) cs) ≡ true)
        → closes (drop (run comment_unit (c ∷ cs)) (c ∷ cs)) ≡ true
    which true here rest = rw here here
    which false here rest =
        let later : begins star (drop (run comment_unit cs) cs) ≡ true = rw here at starred in
        rw here (rest later)

begins_take : (b n : ℕ) (cs : List ℕ) → begins b (take (suc n) cs) ≡ begins b cs
begins_take b n [] = refl
begins_take b n (c ∷ cs) = refl

-- the same run, where the text is cut behind the end of the comment
run_cut : (cs : List ℕ) → closes (drop (run comment_unit cs) cs) ≡ true → run comment_unit (take (run comment_unit cs + 2) cs) ≡ run comment_unit cs
run_cut [] closed = absurd (false≢true closed)
run_cut (c ∷ cs) closed = which (closes (c ∷ cs)) refl (λ later. run_cut cs later)
  where
    which : (b : Bool) → closes (c ∷ cs) ≡ b → (closes (drop (run comment_unit cs) cs) ≡ true → run comment_unit (take (run comment_unit cs + 2) cs) ≡ run comment_unit cs)
        → run comment_unit (take (run comment_unit (c ∷ cs) + 2) (c ∷ cs)) ≡ run comment_unit (c ∷ cs)
    which true here later =
        let cut : closes (c ∷ take 1 cs) ≡ true = ap (λ b. c == star && b) (begins_take slash 0 cs) ∙ here in
        rw (here, cut) refl
    which false here later =
        let n = run comment_unit cs in
        let ended : closes (drop n cs) ≡ true = rw here at closed in
        let size : suc n + 2 ≡ suc (n + 2) = omega arith in
        let more : n + 2 ≡ suc (n + 1) = omega arith in
        let same : begins slash (take (n + 2) cs) ≡ begins slash cs = ap (λ (m : ℕ). begins slash (take m cs)) more ∙ begins_take slash (n + 1) cs in
        let cut : closes (c ∷ take (n + 2) cs) ≡ false = ap (λ b. c == star && b) same ∙ here in
        let rest : run comment_unit (take (n + 2) cs) ≡ n = later ended in
        rw (here, size, cut) (ap suc rest)

-- the text up to the end of the comment
take_closed : (cs : List ℕ) (n : ℕ) → closes (drop n cs) ≡ true → take (n + 2) cs ≡ take n cs ++ close
take_closed [] zero closed = absurd (false≢true closed)
take_closed [] (suc n) closed = absurd (false≢true closed)
take_closed (c ∷ []) zero closed = absurd (false≢true (and_parts (c == star) false closed).1)
take_closed (c ∷ d ∷ ds) zero closed =
    let both = and_parts (c == star) (d == slash) closed in
    let first = eqb-true c star both.0 in
    let second = eqb-true d slash both.1 in
    rw (first, second) refl
take_closed (c ∷ cs) (suc n) closed =
    let size : suc n + 2 ≡ suc (n + 2) = omega arith in
    rw size (ap (λ (rest : List ℕ). c ∷ rest) (take_closed cs n closed))

inside_short : (cs : List ℕ) (n : ℕ) → closes (drop n cs) ≡ true → n ≤ length cs
inside_short [] zero closed = omega arith
inside_short [] (suc n) closed = absurd (false≢true closed)
inside_short (c ∷ cs) zero closed = omega arith
inside_short (c ∷ cs) (suc n) closed = let later = inside_short cs n closed in omega (arith, later)

-- a comment of n bytes stands at the front of a text
pub record CommentHere (text : List ℕ) (n : ℕ) : Type 0 where
  pub inside : List ℕ
  pub is_inside : IsInside inside
  pub reads : take n text ≡ comment_of inside

comment_here : (c d : ℕ) (ds : List ℕ) → c ≡ slash → d ≡ star → begins star (drop (run comment_unit ds) ds) ≡ true
    → CommentHere (c ∷ d ∷ ds) (4 + run comment_unit ds)
comment_here c d ds first second starred =
    let n = run comment_unit ds in
    let closed = star_closes ds starred in
    let front = take_closed ds n closed in
    let len : length (take n ds) ≡ n = length-take-le n ds (inside_short ds n closed) in
    let size : 4 + n ≡ suc (suc (n + 2)) = omega arith in
    record {
      inside = take n ds;
      is_inside = ap (λ (cs : List ℕ). run comment_unit cs) (sym front) ∙ run_cut ds closed ∙ sym len;
      reads = ap (λ (m : ℕ). take m (c ∷ d ∷ ds)) size ∙ ap (λ (cs : List ℕ). c ∷ d ∷ cs) front
          ∙ ap (λ (b : ℕ). b ∷ d ∷ (take n ds ++ close)) first ∙ ap (λ (b : ℕ). slash ∷ b ∷ (take n ds ++ close)) second;
    }

-- a part without a kind is a comment
record NoneIsComment (text : List ℕ) (s : Shape) : Type 0 where
  comment : s.0 ≡ None → CommentHere text s.1

token_kind : (text : List ℕ) (k : TokenKind) (n : ℕ) → 0 < n → NoneIsComment text (Some k, n)
token_kind text k n positive = record { comment = λ (none : ◌≡◌ {A = Option TokenKind} (Some k) None). absurd (cc) }

slash_comment : (c : ℕ) (cs : List ℕ) → c == slash ≡ true → Holds (NoneIsComment (c ∷ cs)) (slash_shape cs)
slash_comment c [] is = record { holds = token_kind (c ∷ []) (kind.Delim slash) 1 (omega arith) }
slash_comment c (d ∷ ds) is =
    let P : Shape → Type 0 = NoneIsComment (c ∷ d ∷ ds) in
    let token = token_kind (c ∷ d ∷ ds) in
    let n = run comment_unit ds in
    let cut : Holds P (Err flaw.EndInside) = record { holds = tt } in
    let single : Holds P (done (kind.Delim slash) 1) = record { holds = token (kind.Delim slash) 1 (omega arith) } in
    let whole : d == star ≡ true → begins star (drop n ds) ≡ true → Holds P (Ok (None, 4 + n)) =
    λ (starred : d == star ≡ true) (ended : begins star (drop n ds) ≡ true).
    record { holds = record { comment = λ _. comment_here c d ds (eqb-true c slash is) (eqb-true d star starred) ended } } in
    if_so P token (d == star) (comment_shape ds) (done (kind.Delim slash) 1)
    (λ starred. if_so P token (begins star (drop n ds)) (Ok (None, 4 + n)) (Err flaw.EndInside) (whole starred) cut)
    single

rule_comment : (text : List ℕ) → Holds (NoneIsComment text) (rule_at text)
rule_comment [] = record { holds = tt }
rule_comment (c ∷ cs) = rule_holds (NoneIsComment (c ∷ cs)) (token_kind (c ∷ cs)) c cs (slash_comment c cs)

pub part_comment : (text : List ℕ) (n : ℕ) → part_at text ≡ Ok (None, n) → CommentHere text n
part_comment text n is =
    let Read : Result Shape TokenFlaw → Type 0 = Holds (NoneIsComment text) in
    let rule = part_rule text (None, n) is in
    (subst Read rule.0 (rule_comment text)).holds.comment refl
