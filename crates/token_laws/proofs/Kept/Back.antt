-- The kept text of the tokens of a text, and the text of a value, are read back.
use Rattle.std.proofs.Common.{ℕ, zero, suc, ◌≤◌, ◌≡◌, inl, inr, Bool, true, false, cond, not, ◌&&◌, List, [], ◌∷◌, ◌++◌, Option, Some, Ok, length, take, drop, refl, sym, ap, ◌∙◌, subst, arith, append_assoc, ◌⊎◌}
use Rattle.std.proofs.lemmas.Bool.{false≢true, eqb-true}
use Rattle.std.proofs.lemmas.List.{length-append}
use Rattle.css_model.specs.declared.token.Gap.{Gap}
use Rattle.css_model.specs.declared.token.Gap.TheVariants as gap
use Rattle.css_model.specs.declared.token.TokenKind.{TokenKind}
use Rattle.css_model.specs.Text.Characters.{slash, space, is_white, begins, first_passes}
use Rattle.css_model.specs.declared.token.TokenKind.TheVariants as kind
use Rattle.css_model.specs.Text.Kept.{Solid, is_lone, is_open, is_white_gap}
use Rattle.css_model.specs.Text.Lexemes.{is_white_kind}
use Rattle.css_model.specs.Text.TokenAt.{part_at}
use Rattle.css_model.specs.Text.Tokens.{Part, text_of}
use Rattle.css_tokens.specs.Lexed.{IsLexed}
use Rattle.token_laws.specs.Solids.{gap_before, solids, closed, last_kept, last_of_value, read_back, ends_called, is_ender, IsBehind, is_sign_kind, ends_in_sign, MayFollow, ReadsBack, solids_of, KeptReadsBack, ValueReadsBack}
use Rattle.token_laws.proofs.Ends.Anywhere.{ends_anywhere}
use Rattle.token_laws.proofs.Kept.Parts.{part_of, feed, gap_part, gap_parts, last_parts, last_of, kept_parts, kept_spells}
use Rattle.token_laws.proofs.Kept.Rows.{KeptRow, IsToken, token, LastMay, may_behind, middle_row, last_row, behind_no_white}
use Rattle.token_laws.proofs.Spaces.Behind.{space_closes}
use Rattle.token_laws.proofs.Parts.Facts.{PartIs, part_is, slash_first, is_gap}
use Rattle.token_laws.proofs.Parts.Solids.{lone_gap, take_none, nothing_first}

-- comments and white space stand before the first token
gap_row : (k : Option TokenKind) (v : List ℕ) (ps new : List Part) → is_gap k ≡ true → KeptRow ps new → KeptRow (record { kind = k; bytes = v } ∷ ps) new
gap_row k v ps new is row = record {
  lexed = row.lexed;
  first = λ test. rw is (row.first test);
  ends = λ solid _. absurd (false≢true (rw is at solid));
}

-- the kind of the last of tokens
abbrev pub last_kind : Solid → List Solid → TokenKind
last_kind s [] = s.kind
last_kind s (t ∷ ts) = last_kind t ts

module _ (value : Bool) (rest : List Part) (lexed : IsLexed rest) where
  -- what is to be shown of parts
  abbrev Kept : List Part → Type 0
  Kept ps = (n : ℕ) (t : Solid) (ts : List Solid) → take n (solids ps) ≡ t ∷ ts → LastMay (last_kind t ts) rest → KeptRow ps (kept_parts value (t ∷ ts) ++ rest)

  abbrev LastOf : List Solid → Type 0
  LastOf [] = Unit {0}
  LastOf (t ∷ ts) = LastMay (last_kind t ts) rest

  solid_row : (k : TokenKind) (v : List ℕ) (ps : List Part) → IsToken k v ps → Kept ps → (n : ℕ) (t : Solid) (ts : List Solid)
      → take n (record { kind = k; bytes = v; gap = gap_before false ps } ∷ solids ps) ≡ t ∷ ts → LastMay (last_kind t ts) rest → KeptRow (token k v ∷ ps) (kept_parts value (t ∷ ts) ++ rest)
  solid_row k v ps is later zero t ts some may = absurd (cc)
  solid_row k v ps is later (suc m) t ts some may =
      let R : List Solid → Type 0 = λ ss. LastOf ss → KeptRow (token k v ∷ ps) (kept_parts value ss ++ rest) in
      subst R some (which (take m (solids ps)) refl) may
    where
      s : Solid
      s = record { kind = k; bytes = v; gap = gap_before false ps }

      which : (ss : List Solid) → take m (solids ps) ≡ ss → LastMay (last_kind (record { kind = k; bytes = v; gap = gap_before false ps }) (take m (solids ps))) rest
          → KeptRow (token k v ∷ ps) (kept_parts value (record { kind = k; bytes = v; gap = gap_before false ps } ∷ take m (solids ps)) ++ rest)
      which [] last may = rw last (last_row value k v ps rest is lexed (rw last at may))
      which (u ∷ us) next may =
          let row = later m u us next (rw next at may) in
          let middle = middle_row k v ps (kept_parts value (u ∷ us) ++ rest) is row (λ none. nothing_first ps m u us is.later none next) in
          rw next (subst (λ (G : List Part). KeptRow (token k v ∷ ps) (part_of (closed s) ∷ G)) (sym (append_assoc (gap_parts s) (kept_parts value (u ∷ us)) rest)) middle)

  part_row : (k : Option TokenKind) (v : List ℕ) (ps : List Part) → part_at (v ++ text_of ps) ≡ Ok (k, length v) → IsLexed ps → Kept ps → Kept (record { kind = k; bytes = v } ∷ ps)
  part_row k v ps here is later n t ts some may = which (part_is k v (text_of ps) here)
    where
      which : PartIs k v (text_of ps) → KeptRow (record { kind = k; bytes = v } ∷ ps) (kept_parts value (t ∷ ts) ++ rest)
      which (inl white) = gap_row k v ps (kept_parts value (t ∷ ts) ++ rest) (rw white.kind refl) (later n t ts (rw white.kind at some) may)
      which (inr (inl comment)) = gap_row k v ps (kept_parts value (t ∷ ts) ++ rest) (rw comment.kind refl) (later n t ts (rw comment.kind at some) may)
      which (inr (inr solid)) =
          let read : part_at (v ++ text_of ps) ≡ Ok (Some solid.token, length v) = rw solid.kind at here in
          let row = solid_row solid.token v ps (record { here = read; later = is; solid = solid.solid; some = solid.some; first = solid.first; lone = solid.lone }) later n t ts (rw (solid.kind, solid.solid) at some) may in
          subst (λ (k : Option TokenKind). KeptRow (record { kind = k; bytes = v } ∷ ps) (kept_parts value (t ∷ ts) ++ rest)) (sym solid.kind) row

  pub kept_row : (ps : List Part) → IsLexed ps → Kept ps
  kept_row [] is n t ts some may = absurd (take_none n t ts some)
  kept_row (p ∷ ps) (here, is) n t ts some may = part_row p.kind p.bytes ps here is (kept_row ps is) n t ts some may

-- A token that is no white space. A lone backslash is followed by white space, and an open one is open no more
-- with a white space.
pub record IsGood (s : Solid) : Type 0 where
  pub solid : is_white_kind s.kind ≡ false
  pub lone : is_lone s.kind ≡ true → s.gap ≡ gap.White
  pub closes : is_lone s.kind ≡ false → is_open s.bytes ≡ true → is_open (s.bytes ++ space ∷ []) ≡ false

abbrev pub AreGood : List Solid → Type 0
AreGood [] = Unit {0}
AreGood (s ∷ ss) = IsGood s × AreGood ss

pub take_good : (n : ℕ) (ss : List Solid) → AreGood ss → AreGood (take n ss)
take_good zero ss good = tt
take_good (suc n) [] good = tt
take_good (suc n) (s ∷ ss) (good, others) = (good, take_good n ss others)

pub are_good : (ps : List Part) → IsLexed ps → AreGood (solids ps)
are_good [] is = tt
are_good (p ∷ ps) (here, is) = which (part_is p.kind p.bytes (text_of ps) here) (are_good ps is)
  where
    which : PartIs p.kind p.bytes (text_of ps) → AreGood (solids ps) → AreGood (solids (p ∷ ps))
    which (inl white) later = rw white.kind later
    which (inr (inl comment)) later = rw comment.kind later
    which (inr (inr solid)) later =
        let read : part_at (p.bytes ++ text_of ps) ≡ Ok (Some solid.token, length p.bytes) = rw solid.kind at here in
        let good : IsGood (record { kind = solid.token; bytes = p.bytes; gap = gap_before false ps }) =
        record {
          solid = solid.solid;
          lone = λ lone. lone_gap solid.token p.bytes ps (solid.lone lone) read is;
          closes = λ other open_end. (space_closes p.bytes (text_of ps) [] solid.token (record { no_white = solid.solid; no_lone = other; read = read }) open_end).1;
        } in
        rw (solid.kind, solid.solid) (good, later)

-- from some token on, tokens are those of parts that are read where they stand
pub record Rest (ps : List Part) (ss : List Solid) : Type 0 where
  pub parts : List Part
  pub lexed : IsLexed parts
  pub same : solids parts ≡ ss
  pub short : length (text_of parts) ≤ length (text_of ps)

pub rest_of : (m : ℕ) (ps : List Part) → IsLexed ps → Rest ps (drop m (solids ps))
rest_of zero ps is = record { parts = ps; lexed = is; same = refl; short = omega arith }
rest_of (suc m) [] is = record { parts = []; lexed = tt; same = refl; short = omega arith }
rest_of (suc m) (p ∷ ps) (here, is) = which (part_is p.kind p.bytes (text_of ps) here) (rest_of m ps is) (rest_of (suc m) ps is)
  where
    longer : (ss : List Solid) → Rest ps ss → Rest (p ∷ ps) ss
    longer ss r = record { parts = r.parts; lexed = r.lexed; same = r.same; short = omega (arith, r.short, length-append p.bytes (text_of ps)) }

    gone : solids (p ∷ ps) ≡ solids ps → Rest ps (drop (suc m) (solids ps)) → Rest (p ∷ ps) (drop (suc m) (solids (p ∷ ps)))
    gone same r = subst (λ (ss : List Solid). Rest (p ∷ ps) (drop (suc m) ss)) (sym same) (longer (drop (suc m) (solids ps)) r)

    which : PartIs p.kind p.bytes (text_of ps) → Rest ps (drop m (solids ps)) → Rest ps (drop (suc m) (solids ps)) → Rest (p ∷ ps) (drop (suc m) (solids (p ∷ ps)))
    which (inl white) next same = gone (rw white.kind refl) same
    which (inr (inl comment)) next same = gone (rw comment.kind refl) same
    which (inr (inr solid)) next same =
        let here : solids (p ∷ ps) ≡ record { kind = solid.token; bytes = p.bytes; gap = gap_before false ps } ∷ solids ps = rw (solid.kind, solid.solid) refl in
        subst (λ (ss : List Solid). Rest (p ∷ ps) (drop (suc m) ss)) (sym here) (longer (drop m (solids ps)) next)

-- the tokens of a part before others
part_solid : (s : Solid) (G : List Part) → is_white_kind s.kind ≡ false → gap_before false G ≡ s.gap → solids (part_of s ∷ G) ≡ s ∷ solids G
part_solid s G solid behind = rw (solid, behind) refl

closed_kind : (s : Solid) → ((closed s).kind ≡ s.kind) × ((closed s).gap ≡ s.gap)
closed_kind s = which (not (is_lone s.kind) && (is_white_gap s.gap && is_open s.bytes))
  where
    which : (b : Bool) → ((cond b (record { kind = s.kind; bytes = s.bytes ++ space ∷ []; gap = s.gap }) s).kind ≡ s.kind)
        × ((cond b (record { kind = s.kind; bytes = s.bytes ++ space ∷ []; gap = s.gap }) s).gap ≡ s.gap)
    which true = (refl, refl)
    which false = (refl, refl)

-- parts that begin with a token
record Starts (K : List Part) : Type 0 where
  nothing : gap_before false K ≡ gap.Nothing
  comment : gap_before true K ≡ gap.Comments

starts : (k : TokenKind) (v : List ℕ) (ps : List Part) → is_white_kind k ≡ false → Starts (token k v ∷ ps)
starts k v ps solid = record { nothing = rw solid refl; comment = rw solid refl }

gap_again : (s : Solid) (K : List Part) → IsGood s → Starts K → (gap_before false (gap_parts s ++ K) ≡ s.gap) × (solids (gap_parts s ++ K) ≡ solids K)
gap_again s K good is = which (is_lone s.kind) refl s.gap refl
  where
    which : (l : Bool) → is_lone s.kind ≡ l → (g : Gap) → s.gap ≡ g → (gap_before false (cond l (feed ∷ []) (gap_part g) ++ K) ≡ g) × (solids (cond l (feed ∷ []) (gap_part g) ++ K) ≡ solids K)
    which true lone g behind = (sym (good.lone lone) ∙ behind, refl)
    which false lone gap.Nothing behind = (is.nothing, refl)
    which false lone gap.Comments behind = (is.comment, refl)
    which false lone gap.White behind = (refl, refl)

behind_no_slash : (text : List ℕ) → IsBehind text → begins slash text ≡ true → ⊥
behind_no_slash [] behind slashed = false≢true slashed
behind_no_slash (c ∷ cs) (ender, bang) slashed = which (rw (eqb-true c slash slashed) at ender)
  where
    which : is_ender slash ≡ true → ⊥
    which is = false≢true is

behind_nothing : (rest : List Part) → IsLexed rest → IsBehind (text_of rest) → gap_before false rest ≡ gap.Nothing
behind_nothing [] is behind = refl
behind_nothing (p ∷ ps) (here, is) behind = which (part_is p.kind p.bytes (text_of ps) here)
  where
    white_first : (v : List ℕ) → first_passes is_white v ≡ true → first_passes is_white (v ++ text_of ps) ≡ true
    white_first [] white = absurd (false≢true white)
    white_first (c ∷ cs) white = white

    which : PartIs p.kind p.bytes (text_of ps) → gap_before false (p ∷ ps) ≡ gap.Nothing
    which (inl white) = absurd (false≢true (sym (behind_no_white (p.bytes ++ text_of ps) behind) ∙ white_first p.bytes white.first))
    which (inr (inl comment)) = absurd (behind_no_slash (p.bytes ++ text_of ps) behind (slash_first p.bytes (text_of ps) comment.first))
    which (inr (inr solid)) = rw (solid.kind, solid.solid) refl

-- the last token as it is read back
abbrev pub last_back : Bool → Solid → Solid
last_back value s = last_kept (last_of value s)

same_kind : (value : Bool) (s : Solid) → (last_of value s).kind ≡ s.kind
same_kind true s = (closed_kind s).0
same_kind false s = refl

last_again : (value : Bool) (s : Solid) (rest : List Part) → is_white_kind s.kind ≡ false → gap_before false rest ≡ gap.Nothing
    → solids (part_of (last_of value s) ∷ (last_parts s ++ rest)) ≡ last_back value s ∷ solids rest
last_again value s rest solid nothing =
    let x = last_of value s in
    let same : is_lone x.kind ≡ is_lone s.kind = ap is_lone (same_kind value s) in
    let gaps = which (is_lone s.kind) in
    part_solid (last_kept x) (last_parts s ++ rest) (ap is_white_kind (same_kind value s) ∙ solid) (gaps.0 ∙ ap (λ (b : Bool). cond b gap.White gap.Nothing) (sym same))
    ∙ ap (λ (ss : List Solid). last_back value s ∷ ss) gaps.1
  where
    which : (l : Bool) → (gap_before false (cond l (feed ∷ []) [] ++ rest) ≡ cond l gap.White gap.Nothing) × (solids (cond l (feed ∷ []) [] ++ rest) ≡ solids rest)
    which true = (refl, refl)
    which false = (nothing, refl)

kept_starts : (value : Bool) (t : Solid) (ts : List Solid) (rest : List Part) → is_white_kind t.kind ≡ false → Starts (kept_parts value (t ∷ ts) ++ rest)
kept_starts value t [] rest solid = starts (last_of value t).kind (last_of value t).bytes (last_parts t ++ rest) (ap is_white_kind (same_kind value t) ∙ solid)
kept_starts value t (u ∷ us) rest solid = starts (closed t).kind (closed t).bytes ((gap_parts t ++ kept_parts value (u ∷ us)) ++ rest) (ap is_white_kind (closed_kind t).0 ∙ solid)

kept_again : (value : Bool) (ss : List Solid) (rest : List Part) → AreGood ss → gap_before false rest ≡ gap.Nothing → solids (kept_parts value ss ++ rest) ≡ read_back (last_back value) ss ++ solids rest
kept_again value [] rest good nothing = refl
kept_again value (s ∷ []) rest (good, others) nothing = last_again value s rest good.solid nothing
kept_again value (s ∷ t ∷ ts) rest (good, (next, others)) nothing =
    let K = kept_parts value (t ∷ ts) ++ rest in
    let same : (gap_parts s ++ kept_parts value (t ∷ ts)) ++ rest ≡ gap_parts s ++ K = append_assoc (gap_parts s) (kept_parts value (t ∷ ts)) rest in
    let gaps = gap_again s K good (kept_starts value t ts rest next.solid) in
    let solid : is_white_kind (closed s).kind ≡ false = ap is_white_kind (closed_kind s).0 ∙ good.solid in
    ap (λ (G : List Part). solids (part_of (closed s) ∷ G)) same ∙ part_solid (closed s) (gap_parts s ++ K) solid (gaps.0 ∙ sym (closed_kind s).1)
    ∙ ap (λ (ss : List Solid). closed s ∷ ss) (gaps.1 ∙ kept_again value (t ∷ ts) rest (next, others) nothing)

-- what may follow tokens, by the last one's kind
sign_may : (k : TokenKind) (rest : List Part) → is_sign_kind k ≡ true → LastMay k rest
sign_may (kind.Sign c) rest sign = record {
  ends = λ _ v old. ends_anywhere (token (kind.Sign c) v) old (text_of rest) refl refl refl;
  white = λ lone. absurd (false≢true lone);
}
sign_may kind.White rest sign = absurd (false≢true sign)
sign_may kind.Str rest sign = absurd (false≢true sign)
sign_may kind.IdHash rest sign = absurd (false≢true sign)
sign_may kind.Hash rest sign = absurd (false≢true sign)
sign_may kind.Number rest sign = absurd (false≢true sign)
sign_may kind.Percentage rest sign = absurd (false≢true sign)
sign_may kind.Dimension rest sign = absurd (false≢true sign)
sign_may kind.CommentOpen rest sign = absurd (false≢true sign)
sign_may kind.CommentClose rest sign = absurd (false≢true sign)
sign_may kind.AtKeyword rest sign = absurd (false≢true sign)
sign_may kind.Ident rest sign = absurd (false≢true sign)
sign_may kind.Function rest sign = absurd (false≢true sign)
sign_may kind.Url rest sign = absurd (false≢true sign)
sign_may (kind.Delim c) rest sign = absurd (false≢true sign)

pub last_may : (t : Solid) (ts : List Solid) (rest : List Part) → AreGood (t ∷ ts) → ends_called (t ∷ ts) ≡ false → IsBehind (text_of rest) ⊎ (ends_in_sign (t ∷ ts) ≡ true) → LastMay (last_kind t ts) rest
last_may t [] rest (good, others) called (inl behind) = may_behind t.kind rest good.solid called behind
last_may t [] rest (good, others) called (inr sign) = sign_may t.kind rest sign
last_may t (u ∷ us) rest (good, others) called may = last_may u us rest others called may

-- the last token as it is read back has the same kind
back_sign : (value : Bool) (ss : List Solid) → ends_in_sign (read_back (last_back value) ss) ≡ ends_in_sign ss
back_sign value [] = refl
back_sign value (s ∷ []) = ap is_sign_kind (same_kind value s)
back_sign value (s ∷ t ∷ []) = back_sign value (t ∷ [])
back_sign value (s ∷ t ∷ u ∷ us) = back_sign value (t ∷ u ∷ us)

read_back_of : (value : Bool) (ps : List Part) (m n : ℕ) → IsLexed ps → ends_called (solids_of ps m n) ≡ false
    → ReadsBack (text_of (kept_parts value (solids_of ps m n))) (read_back (last_back value) (solids_of ps m n))
read_back_of value ps m n is called =
    let from = rest_of m ps is in
    let R : List Solid → Type 0 = λ ss. ends_called (take n ss) ≡ false → ReadsBack (text_of (kept_parts value (take n ss))) (read_back (last_back value) (take n ss)) in
    subst R from.same (λ (called : ends_called (take n (solids from.parts)) ≡ false). of_parts from.parts from.lexed called) called
  where
    lexed_of : (qs : List Part) → IsLexed qs → (ss : List Solid) → take n (solids qs) ≡ ss → AreGood ss → ends_called ss ≡ false → (rest : List Part) → IsLexed rest
        → IsBehind (text_of rest) ⊎ (ends_in_sign ss ≡ true) → IsLexed (kept_parts value ss ++ rest)
    lexed_of qs lexed [] is good called rest others may = others
    lexed_of qs lexed (t ∷ ts) is good called rest others may = (kept_row value rest others qs lexed n t ts is (last_may t ts rest good called may)).lexed

    may_of : (ss : List Solid) (rest : List Part) → MayFollow (read_back (last_back value) ss) rest → IsBehind (text_of rest) ⊎ (ends_in_sign ss ≡ true)
    may_of ss rest (inl behind) = inl behind
    may_of ss rest (inr sign) = inr (sym (back_sign value ss) ∙ sign.0)

    nothing_of : (ss : List Solid) (rest : List Part) → IsLexed rest → MayFollow ss rest → gap_before false rest ≡ gap.Nothing
    nothing_of ss rest others (inl behind) = behind_nothing rest others behind
    nothing_of ss rest others (inr sign) = sign.1

    of_parts : (qs : List Part) → IsLexed qs → ends_called (take n (solids qs)) ≡ false → ReadsBack (text_of (kept_parts value (take n (solids qs)))) (read_back (last_back value) (take n (solids qs)))
    of_parts qs lexed called =
        let ss = take n (solids qs) in
        let good : AreGood ss = take_good n (solids qs) (are_good qs lexed) in
        record {
          parts = kept_parts value ss;
          spells = refl;
          lexed = λ rest others may. lexed_of qs lexed ss refl good called rest others (may_of ss rest may);
          reads = λ rest others may. kept_again value ss rest good (nothing_of (read_back (last_back value) ss) rest others may);
        }

pub kept_reads_back : KeptReadsBack
kept_reads_back ps m n is called =
    subst (λ (text : List ℕ). ReadsBack text (read_back last_kept (solids_of ps m n))) (kept_spells false (solids_of ps m n)) (read_back_of false ps m n is called)

pub value_reads_back : ValueReadsBack
value_reads_back ps m n is called =
    subst (λ (text : List ℕ). ReadsBack text (read_back last_of_value (solids_of ps m n))) (kept_spells true (solids_of ps m n)) (read_back_of true ps m n is called)
