-- The parts of a text by their kinds: white space, comments, and tokens that are neither.
use Rattle.std.proofs.Common.{ℕ, suc, ◌<◌, ◌≤◌, ◌≡◌, ◌⊎◌, inl, inr, Bool, true, false, cond, ◌==◌, List, [], ◌∷◌, ◌++◌, Option, Some, None, Ok, length, drop, refl, sym, ap, ◌∙◌, arith, append_assoc}
use Rattle.std.proofs.lemmas.Bool.{false≢true, eq-eqb, eqb-true}
use Rattle.std.proofs.lemmas.List.{drop_at}
use Rattle.css_model.specs.declared.token.TokenKind.{TokenKind}
use Rattle.css_model.specs.declared.token.TokenKind.TheVariants as kind
use Rattle.css_model.specs.Text.Characters.{backslash, slash, is_white, begins, first_passes}
use Rattle.css_model.specs.Text.Kept.{is_lone}
use Rattle.css_model.specs.Text.Lexemes.{is_white_kind}
use Rattle.css_model.specs.Text.Runs.{run}
use Rattle.css_model.specs.Text.Units.{white_unit}
use Rattle.css_model.specs.Text.TokenAt.{part_at, is_quote, after_white}
use Rattle.css_model.specs.Text.Tokens.{Part, text_of}
use Rattle.css_tokens.specs.Lexed.{IsLexed}
use Rattle.css_tokens.proofs.ForCallers.{part_len, part_rule, run_none}
use Rattle.token_laws.proofs.Parts.Kinds.{RuleKind, rule_kind}
use Rattle.token_laws.proofs.Ends.RuleBounds.{quote_is}

pub record WhiteIs (k : Option TokenKind) (v rest : List ℕ) : Type 0 where
  pub kind : k ≡ Some kind.White
  pub first : first_passes is_white v ≡ true
  pub row : run white_unit (v ++ rest) ≡ length v

pub record CommentIs (k : Option TokenKind) (v : List ℕ) : Type 0 where
  pub kind : k ≡ None
  pub first : begins slash v ≡ true
  pub len : 4 ≤ length v

pub record SolidIs (k : Option TokenKind) (v : List ℕ) : Type 0 where
  pub token : TokenKind
  pub kind : k ≡ Some token
  pub solid : is_white_kind token ≡ false
  pub some : 0 < length v
  pub first : first_passes is_white v ≡ false
  pub lone : is_lone token ≡ true → v ≡ backslash ∷ []

abbrev pub PartIs : Option TokenKind → List ℕ → List ℕ → Type 0
PartIs k v rest = WhiteIs k v rest ⊎ (CommentIs k v ⊎ SolidIs k v)

pub part_is : (k : Option TokenKind) (v rest : List ℕ) → part_at (v ++ rest) ≡ Ok (k, length v) → PartIs k v rest
part_is k [] rest is = absurd (let len = part_len rest (k, 0) is in omega (arith, len.0))
part_is k (c ∷ cs) rest is = which (rule_kind c (cs ++ rest) (k, suc (length cs)) (part_rule (c ∷ cs ++ rest) (k, suc (length cs)) is).0)
  where
    alone : (cs : List ℕ) → c ≡ backslash → suc (length cs) ≡ 1 → c ∷ cs ≡ backslash ∷ []
    alone [] first one = ap (λ (c : ℕ). c ∷ []) first
    alone (d ∷ ds) first one = absurd (omega (arith, one))

    which : RuleKind c (cs ++ rest) (k, suc (length cs)) → PartIs k (c ∷ cs) rest
    which (inl white) = inl (record { kind = white.kind; first = white.white; row = sym white.len })
    which (inr (inl comment)) = inr (inl (record { kind = comment.kind; first = eq-eqb c slash comment.first; len = comment.len }))
    which (inr (inr solid)) = inr (inr (record {
      token = solid.kind;
      kind = solid.is;
      solid = solid.solid;
      some = omega arith;
      first = solid.no_white;
      lone = λ lone. let is = solid.lone lone in alone cs is.0 is.1;
    }))

-- the first byte of a text that begins with a part
pub first_of : (test : ℕ → Bool) (v rest : List ℕ) → 0 < length v → first_passes test (v ++ rest) ≡ first_passes test v
first_of test [] rest some = absurd (omega arith)
first_of test (c ∷ cs) rest some = refl

-- where no white space begins
pub white_none_of : (text : List ℕ) → first_passes is_white text ≡ false → white_unit text ≡ 0
white_none_of [] none = refl
white_none_of (c ∷ cs) none = rw none refl

pub after_white_none : (text : List ℕ) → first_passes is_white text ≡ false → after_white text ≡ text
after_white_none text none = ap (λ (n : ℕ). drop n text) (run_none white_unit text (white_none_of text none))

-- a comment or white space
abbrev pub is_gap : Option TokenKind → Bool
is_gap None = true
is_gap (Some k) = is_white_kind k

-- the bytes in front of the first solid, and those from it on
abbrev pub gap_bytes : List Part → List ℕ
gap_bytes [] = []
gap_bytes (p ∷ ps) = cond (is_gap p.kind) (p.bytes ++ gap_bytes ps) []

abbrev pub from_solid : List Part → List ℕ
from_solid [] = []
from_solid (p ∷ ps) = cond (is_gap p.kind) (from_solid ps) (p.bytes ++ text_of ps)

pub gap_cut : (ps : List Part) → text_of ps ≡ gap_bytes ps ++ from_solid ps
gap_cut [] = refl
gap_cut (p ∷ ps) = which (is_gap p.kind) (gap_cut ps)
  where
    which : (b : Bool) → text_of ps ≡ gap_bytes ps ++ from_solid ps
        → p.bytes ++ text_of ps ≡ cond b (p.bytes ++ gap_bytes ps) [] ++ cond b (from_solid ps) (p.bytes ++ text_of ps)
    which true later = ap (λ (rest : List ℕ). p.bytes ++ rest) later ∙ sym (append_assoc p.bytes (gap_bytes ps) (from_solid ps))
    which false later = refl

-- from a solid on no white space begins
pub solid_no_white : (ps : List Part) → IsLexed ps → first_passes is_white (from_solid ps) ≡ false
solid_no_white [] lexed = refl
solid_no_white (p ∷ ps) (here, lexed) = which (part_is p.kind p.bytes (text_of ps) here) (solid_no_white ps lexed)
  where
    which : PartIs p.kind p.bytes (text_of ps) → first_passes is_white (from_solid ps) ≡ false → first_passes is_white (from_solid (p ∷ ps)) ≡ false
    which (inl white) later = rw white.kind later
    which (inr (inl comment)) later = rw comment.kind later
    which (inr (inr solid)) later = rw (solid.kind, solid.solid) (first_of is_white p.bytes (text_of ps) solid.some ∙ solid.first)

-- parts whose text begins with a quote begin with a solid
quote_solid : (ps : List Part) → IsLexed ps → first_passes is_quote (text_of ps) ≡ true → from_solid ps ≡ text_of ps
quote_solid [] lexed quote = refl
quote_solid (p ∷ ps) (here, lexed) quote = which (part_is p.kind p.bytes (text_of ps) here)
  where
    no_white : (v rest : List ℕ) → first_passes is_white v ≡ true → first_passes is_quote (v ++ rest) ≡ true → ⊥
    no_white [] rest white quote = false≢true white
    no_white (c ∷ cs) rest white quote = quote_is (λ (c : ℕ). is_white c ≡ true → ⊥) false≢true false≢true c quote white

    no_slash : (v rest : List ℕ) → begins slash v ≡ true → first_passes is_quote (v ++ rest) ≡ true → ⊥
    no_slash [] rest first quote = false≢true first
    no_slash (c ∷ cs) rest first quote = quote_is (λ (c : ℕ). (c == slash) ≡ true → ⊥) false≢true false≢true c quote first

    which : PartIs p.kind p.bytes (text_of ps) → from_solid (p ∷ ps) ≡ p.bytes ++ text_of ps
    which (inl white) = absurd (no_white p.bytes (text_of ps) white.first quote)
    which (inr (inl comment)) = absurd (no_slash p.bytes (text_of ps) comment.first quote)
    which (inr (inr solid)) = rw (solid.kind, solid.solid) refl

pub slash_first : (v rest : List ℕ) → begins slash v ≡ true → begins slash (v ++ rest) ≡ true
slash_first [] rest first = absurd (false≢true first)
slash_first (c ∷ cs) rest first = first

pub slash_unquoted : (text : List ℕ) → begins slash text ≡ true → first_passes is_quote (after_white text) ≡ true → ⊥
slash_unquoted [] first quote = false≢true first
slash_unquoted (c ∷ cs) first quote =
    let none : is_white c ≡ false = rw (eqb-true c slash first) refl in
    let is : is_quote c ≡ true = ap (first_passes is_quote) (sym (after_white_none (c ∷ cs) none)) ∙ quote in
    quote_is (λ (c : ℕ). (c == slash) ≡ true → ⊥) false≢true false≢true c is first

-- white space in front of a quote is a gap before it
pub quote_behind : (ps : List Part) → IsLexed ps → first_passes is_quote (after_white (text_of ps)) ≡ true → first_passes is_quote (from_solid ps) ≡ true
quote_behind [] lexed quote = quote
quote_behind (p ∷ ps) (here, lexed) quote = which (part_is p.kind p.bytes (text_of ps) here)
  where
    which : PartIs p.kind p.bytes (text_of ps) → first_passes is_quote (from_solid (p ∷ ps)) ≡ true
    which (inl white) =
        let rest : after_white (p.bytes ++ text_of ps) ≡ text_of ps = ap (λ (n : ℕ). drop n (p.bytes ++ text_of ps)) white.row ∙ drop_at p.bytes (text_of ps) (length p.bytes) refl in
        let is : first_passes is_quote (text_of ps) ≡ true = ap (first_passes is_quote) (sym rest) ∙ quote in
        rw white.kind (ap (first_passes is_quote) (quote_solid ps lexed is) ∙ is)
    which (inr (inl comment)) = absurd (slash_unquoted (p.bytes ++ text_of ps) (slash_first p.bytes (text_of ps) comment.first) quote)
    which (inr (inr solid)) =
        let none : first_passes is_white (p.bytes ++ text_of ps) ≡ false = first_of is_white p.bytes (text_of ps) solid.some ∙ solid.first in
        rw (solid.kind, solid.solid) (ap (first_passes is_quote) (sym (after_white_none (p.bytes ++ text_of ps) none)) ∙ quote)
