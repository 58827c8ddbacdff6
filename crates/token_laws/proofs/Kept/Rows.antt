-- Kept text is read back as the parts that it is made of.
use Rattle.std.proofs.Common.{ℕ, suc, ◌<◌, ◌≡◌, Bool, true, false, cond, not, ◌==◌, ◌&&◌, ◌||◌, List, [], ◌∷◌, ◌++◌, Option, Some, Ok, length, refl, sym, ap, ◌∙◌, subst, arith, append_assoc}
use Rattle.std.proofs.lemmas.Bool.{false≢true, eqb-true}
use Rattle.std.proofs.lemmas.List.{length-append}
use Rattle.css_model.specs.declared.token.Gap.{Gap}
use Rattle.css_model.specs.declared.token.Gap.TheVariants as gap
use Rattle.css_model.specs.declared.token.TokenKind.{TokenKind}
use Rattle.css_model.specs.declared.token.TokenKind.TheVariants as kind
use Rattle.css_model.specs.Text.Characters.{backslash, slash, star, space, line_feed, exclamation_mark, open_round, is_sign, is_white, first_passes}
use Rattle.css_model.specs.Text.Kept.{is_lone, is_open, is_white_gap}
use Rattle.css_model.specs.Text.Lexemes.{is_white_kind}
use Rattle.css_model.specs.Text.Units.{white_unit}
use Rattle.css_model.specs.Text.TokenAt.{part_at, done, is_quote}
use Rattle.css_model.specs.Text.Tokens.{Part, text_of}
use Rattle.token_laws.specs.Alike.{LooksThrough, EndsAlike, begins_dashes}
use Rattle.css_tokens.specs.Lexed.{IsLexed}
use Rattle.token_laws.specs.SpaceBehind.{KeepsQuote}
use Rattle.token_laws.specs.Solids.{gap_before, closed, is_function, IsBehind}
use Rattle.token_laws.proofs.Ends.Alike.{alike_byte}
use Rattle.token_laws.proofs.Ends.Rests.{is_plain, looks_byte, ends_nil, ends_bang, ends_feed, space_read, comment_read}
use Rattle.token_laws.proofs.Ends.Anywhere.{ends_sign, sign_each}
use Rattle.token_laws.proofs.Ends.Rows.{ends_front}
use Rattle.token_laws.proofs.Ends.Rules.{part_again, rule_part}
use Rattle.css_tokens.proofs.ForCallers.{run_none}
use Rattle.token_laws.proofs.Spaces.Front.{ends_before_open}
use Rattle.token_laws.proofs.Spaces.Behind.{not_lone, space_ends, space_closes}
use Rattle.token_laws.proofs.Kept.Parts.{part_of, feed, one_space, empty_comment, gap_part, gap_parts, last_parts, last_of}
use Rattle.token_laws.proofs.Parts.Facts.{first_of, white_none_of, after_white_none, from_solid, solid_no_white, quote_behind, slash_unquoted}
use Rattle.token_laws.proofs.Parts.Solids.{lone_is, plain_of, comment_first, begins_solid}

-- parts in place of these, from their first solid on
pub record KeptRow (ps new : List Part) : Type 0 where
  pub lexed : IsLexed new
  pub first : (test : ℕ → Bool) → first_passes test (text_of new) ≡ first_passes test (from_solid ps)
  pub ends : begins_solid ps ≡ true → (q : Part) → EndsAlike q (text_of ps) (text_of new)

abbrev pub token : TokenKind → List ℕ → Part
token k v = record { kind = Some k; bytes = v }

-- a token that is read where it stands
pub record IsToken (k : TokenKind) (v : List ℕ) (ps : List Part) : Type 0 where
  pub here : part_at (v ++ text_of ps) ≡ Ok (Some k, length v)
  pub later : IsLexed ps
  pub solid : is_white_kind k ≡ false
  pub some : 0 < length v
  pub first : first_passes is_white v ≡ false
  pub lone : is_lone k ≡ true → v ≡ backslash ∷ []

-- a token that is read before other parts as well
plain_row : (k : TokenKind) (v : List ℕ) (ps G : List Part) → IsToken k v ps → IsLexed G → part_at (v ++ text_of G) ≡ Ok (Some k, length v) → LooksThrough (Some k) (text_of ps) (text_of G)
    → KeptRow (token k v ∷ ps) (token k v ∷ G)
plain_row k v ps G is lexed read through = record {
  lexed = (read, lexed);
  first = λ test. first_of test v (text_of G) is.some ∙ sym (rw is.solid (first_of test v (text_of ps) is.some));
  ends = λ _ q. ends_front q (token k v) ps G (is.here, is.later) (read, lexed) through;
}

-- one that ends alike
alike_row : (k : TokenKind) (v : List ℕ) (ps G : List Part) → IsToken k v ps → IsLexed G → EndsAlike (token k v) (text_of ps) (text_of G) → KeptRow (token k v ∷ ps) (token k v ∷ G)
alike_row k v ps G is lexed ends = plain_row k v ps G is lexed (part_again v (text_of ps) (text_of G) (Some k) ends.alike ends.looks is.here) ends.through

-- one that takes a white space
open_row : (k : TokenKind) (v : List ℕ) (ps G : List Part) → IsToken k v ps → is_open v ≡ true → IsLexed G → part_at ((v ++ space ∷ []) ++ text_of G) ≡ Ok (Some k, length (v ++ space ∷ []))
    → KeptRow (token k v ∷ ps) (token k (v ++ space ∷ []) ∷ G)
open_row k v ps G is open_end lexed read =
    let whole : (v ++ space ∷ []) ++ text_of G ≡ v ++ space ∷ text_of G = append_assoc v (space ∷ []) (text_of G) in
    record {
      lexed = (read, lexed);
      first = λ test. ap (first_passes test) whole ∙ first_of test v (space ∷ text_of G) is.some ∙ sym (rw is.solid (first_of test v (text_of ps) is.some));
      ends = λ _ q. subst (EndsAlike q (v ++ text_of ps)) (sym whole) (ends_before_open q v (text_of ps) (space ∷ text_of G) open_end is.first);
    }

feed_read : (rest : List ℕ) → white_unit rest ≡ 0 → part_at (line_feed ∷ rest) ≡ Ok (Some kind.White, 1)
feed_read rest none = rule_part (line_feed ∷ rest) (Some kind.White) 1 (ap (λ (n : ℕ). Ok (Some kind.White, suc n)) (run_none white_unit rest none)) (omega arith)

through_other : (k : TokenKind) (old new : List ℕ) → is_white_kind k ≡ false → begins_dashes new ≡ false → LooksThrough (Some k) old new
through_other k old new solid none = record { at_bang = λ _ _. none; at_white = λ white _. absurd (no_white white) }
  where
    no_white : ◌≡◌ {A = Option TokenKind} (Some k) (Some kind.White) → ⊥
    no_white white = let same : k ≡ kind.White = cc in false≢true (sym solid ∙ ap is_white_kind same)

-- a lone backslash, and its newline
lone_row : (k : TokenKind) (v : List ℕ) (ps N : List Part) → IsToken k v ps → is_lone k ≡ true → IsLexed N → white_unit (text_of N) ≡ 0 → KeptRow (token k v ∷ ps) (token k v ∷ feed ∷ N)
lone_row k v ps N is lone lexed none =
    alike_row k v ps (feed ∷ N) is (feed_read (text_of N) none, lexed) (ends_feed (token k v) (text_of ps) (text_of N) (ap (λ (k : TokenKind). Some k) (lone_is k lone)))

-- an empty comment behind a token that a comment followed
comment_row : (k : TokenKind) (v : List ℕ) (ps N : List Part) → IsToken k v ps → is_lone k ≡ false → gap_before false ps ≡ gap.Comments → IsLexed N
    → KeptRow (token k v ∷ ps) (token k v ∷ empty_comment ∷ N)
comment_row k v ps N is other comments lexed =
    let rest = star ∷ star ∷ slash ∷ text_of N in
    alike_row k v ps (empty_comment ∷ N) is (comment_read (text_of N), lexed) (record {
      alike = λ _. alike_byte slash (text_of ps) rest refl;
      looks = looks_byte (Some k) v (text_of ps) slash rest refl (not_lone k other) (λ _ _ _ _ quoted. absurd (slash_unquoted (text_of ps) (comment_first ps is.later comments) quoted));
      through = through_other k (text_of ps) (slash ∷ rest) is.solid refl;
    })

kept_no_white : (ps N : List Part) → IsLexed ps → KeptRow ps N → first_passes is_white (text_of N) ≡ false
kept_no_white ps N lexed row = row.first is_white ∙ solid_no_white ps lexed

-- a space behind a token that white space followed
space_row : (k : TokenKind) (v : List ℕ) (ps N : List Part) → IsToken k v ps → is_lone k ≡ false → is_open v ≡ false → KeptRow ps N → KeptRow (token k v ∷ ps) (token k v ∷ one_space ∷ N)
space_row k v ps N is other shut row =
    let no_white = kept_no_white ps N is.later row in
    let keeps : KeepsQuote (text_of ps) (text_of N) =
    λ quoted. ap (first_passes is_quote) (after_white_none (text_of N) no_white) ∙ row.first is_quote ∙ quote_behind ps is.later quoted in
    let read = space_ends v (text_of ps) (text_of N) k (record { no_white = is.solid; no_lone = other; read = is.here }) shut keeps in
    plain_row k v ps (one_space ∷ N) is (space_read (text_of N) (white_none_of (text_of N) no_white), row.lexed) read (through_other k (text_of ps) (space ∷ text_of N) is.solid refl)

closed_read : (k : TokenKind) (v : List ℕ) (ps : List Part) (rest : List ℕ) → IsToken k v ps → is_lone k ≡ false → is_open v ≡ true
    → part_at ((v ++ space ∷ []) ++ space ∷ rest) ≡ Ok (Some k, length (v ++ space ∷ []))
closed_read k v ps rest is other open_end =
    let read = (space_closes v (text_of ps) rest k (record { no_white = is.solid; no_lone = other; read = is.here }) open_end).0 in
    let len : suc (length v) ≡ length (v ++ space ∷ []) = omega (arith, length-append v (space ∷ [])) in
    ap part_at (append_assoc v (space ∷ []) (space ∷ rest)) ∙ read ∙ ap (done k) len

pub middle_row : (k : TokenKind) (v : List ℕ) (ps N : List Part) → IsToken k v ps → KeptRow ps N → (gap_before false ps ≡ gap.Nothing → begins_solid ps ≡ true)
    → KeptRow (token k v ∷ ps) (part_of (closed (record { kind = k; bytes = v; gap = gap_before false ps })) ∷ (gap_parts (record { kind = k; bytes = v; gap = gap_before false ps }) ++ N))
middle_row k v ps N is row next = which (is_lone k) refl (gap_before false ps) refl (is_open v) refl
  where
    which : (l : Bool) → is_lone k ≡ l → (g : Gap) → gap_before false ps ≡ g → (o : Bool) → is_open v ≡ o
        → KeptRow (token k v ∷ ps) (part_of (cond (not l && (is_white_gap g && o)) (record { kind = k; bytes = v ++ space ∷ []; gap = gap_before false ps }) (record { kind = k; bytes = v; gap = gap_before false ps }))
        ∷ (cond l (feed ∷ []) (gap_part g) ++ N))
    which true lone g behind o is_o = lone_row k v ps N is lone row.lexed (white_none_of (text_of N) (kept_no_white ps N is.later row))
    which false lone gap.Nothing behind o is_o = alike_row k v ps N is row.lexed (row.ends (next behind) (token k v))
    which false lone gap.Comments behind o is_o = comment_row k v ps N is lone behind row.lexed
    which false lone gap.White behind false is_o = space_row k v ps N is lone is_o row
    which false lone gap.White behind true is_o =
        open_row k v ps (one_space ∷ N) is is_o
        (space_read (text_of N) (white_none_of (text_of N) (kept_no_white ps N is.later row)), row.lexed) (closed_read k v ps (text_of N) is lone is_o)

-- a token before what may stand behind
ends_behind : (p : Part) (old rest : List ℕ) → is_plain p.kind ≡ true → IsBehind rest → EndsAlike p old rest
ends_behind p old [] plain behind = ends_nil p old plain
ends_behind p old (c ∷ cs) plain (ender, bang) = which (is_sign c) (c == open_round) (c == exclamation_mark) refl refl refl ender
  where
    which : (s r b : Bool) → is_sign c ≡ s → (c == open_round) ≡ r → (c == exclamation_mark) ≡ b → ((s && not r) || b) ≡ true → EndsAlike p old (c ∷ cs)
    which true false b sign round mark is = ends_sign p old c cs plain sign round
    which s r true sign round mark is =
        let at = eqb-true c exclamation_mark mark in
        subst (λ (c : ℕ). EndsAlike p old (c ∷ cs)) (sym at) (ends_bang p old cs plain (bang at))
    which true true false sign round mark is = absurd (false≢true is)
    which false r false sign round mark is = absurd (false≢true is)

pub behind_no_white : (text : List ℕ) → IsBehind text → first_passes is_white text ≡ false
behind_no_white [] behind = refl
behind_no_white (c ∷ cs) (ender, bang) = which (is_sign c) (not (c == open_round)) (c == exclamation_mark) refl refl ender
  where
    which : (s r b : Bool) → is_sign c ≡ s → (c == exclamation_mark) ≡ b → ((s && r) || b) ≡ true → is_white c ≡ false
    which true r b sign mark is = sign_each (λ (c : ℕ). is_white c ≡ false) refl refl refl refl refl refl refl refl refl c sign
    which false r true sign mark is = rw (eqb-true c exclamation_mark mark) refl
    which false r false sign mark is = absurd (false≢true is)

-- a last token of this kind ends alike before these parts, and a lone backslash is not before white space
pub record LastMay (k : TokenKind) (rest : List Part) : Type 0 where
  pub ends : is_lone k ≡ false → (v old : List ℕ) → EndsAlike (token k v) old (text_of rest)
  pub white : is_lone k ≡ true → white_unit (text_of rest) ≡ 0

pub may_behind : (k : TokenKind) (rest : List Part) → is_white_kind k ≡ false → is_function k ≡ false → IsBehind (text_of rest) → LastMay k rest
may_behind k rest solid called behind = record {
  ends = λ other v old. ends_behind (token k v) old (text_of rest) (plain_of k solid called other) behind;
  white = λ _. white_none_of (text_of rest) (behind_no_white (text_of rest) behind);
}

-- the last token
pub last_row : (value : Bool) (k : TokenKind) (v : List ℕ) (ps rest : List Part) → IsToken k v ps → IsLexed rest → LastMay k rest
    → KeptRow (token k v ∷ ps) (part_of (last_of value (record { kind = k; bytes = v; gap = gap_before false ps })) ∷ (last_parts (record { kind = k; bytes = v; gap = gap_before false ps }) ++ rest))
last_row value k v ps rest is lexed may = which value (is_lone k) refl (is_white_gap (gap_before false ps)) (is_open v) refl
  where
    plain : is_lone k ≡ false → KeptRow (token k v ∷ ps) (token k v ∷ rest)
    plain lone = alike_row k v ps rest is lexed (may.ends lone v (text_of ps))

    opened : is_lone k ≡ false → is_open v ≡ true → KeptRow (token k v ∷ ps) (token k (v ++ space ∷ []) ∷ rest)
    opened lone is_o =
        let w = v ++ space ∷ [] in
        let ends = may.ends lone w (space ∷ []) in
        open_row k v ps rest is is_o lexed (part_again w (space ∷ []) (text_of rest) (Some k) ends.alike ends.looks (closed_read k v ps [] is lone is_o))

    lone_last : is_lone k ≡ true → KeptRow (token k v ∷ ps) (token k v ∷ feed ∷ rest)
    lone_last lone = lone_row k v ps rest is lone lexed (may.white lone)

    which : (value l : Bool) → is_lone k ≡ l → (w o : Bool) → is_open v ≡ o
        → KeptRow (token k v ∷ ps) (part_of (cond value (cond (not l && (w && o)) (record { kind = k; bytes = v ++ space ∷ []; gap = gap_before false ps }) (record { kind = k; bytes = v; gap = gap_before false ps }))
        (record { kind = k; bytes = v; gap = gap_before false ps })) ∷ (cond l (feed ∷ []) [] ++ rest))
    which true true lone w o is_o = lone_last lone
    which false true lone w o is_o = lone_last lone
    which false false lone w o is_o = plain lone
    which true false lone true true is_o = opened lone is_o
    which true false lone true false is_o = plain lone
    which true false lone false o is_o = plain lone
