-- The tokens of a printed selector are read where they stand.
use Rattle.std.proofs.Common.{◌≡◌, ℕ, zero, suc, ◌+◌, ◌-◌, ◌<◌, ◌≤◌, ◌⊎◌, inl, inr, Bool, true, false, not, ◌&&◌, ◌||◌, ◌==◌, cond, List, [], ◌∷◌, ◌++◌, Option, Some, Ok, length, take, drop, refl, sym, ap, subst, ◌∙◌, arith, eqb-true, append_assoc}
use Rattle.std.specs.Prelude.{None, is_some, nat_lt}
use Rattle.std.specs.List.{AllByRecursion, flat_map, list_any, position_or_len}
use Rattle.std.proofs.lemmas.Bool.{false≢true}
use Rattle.std.proofs.lemmas.List.{append-nil}
use Rattle.css_model.specs.declared.position.AnB.{AnB}
use Rattle.css_model.specs.declared.token.Gap.{Gap}
use Rattle.css_model.specs.declared.token.Gap.TheVariants as gap
use Rattle.css_model.specs.declared.token.TokenKind.{TokenKind}
use Rattle.css_model.specs.declared.token.TokenKind.TheVariants as kind
use Rattle.css_model.specs.Selectors.Terms.{combinator_of, counted_gap, depth_behind, op_of, white_alone}
use Rattle.css_model.specs.Selectors.Tokens.{selector_token}
use Rattle.css_model.specs.Text.Characters.{backslash, close_round, colon, dot, greater_than, line_feed, plus, space, begins, first_passes}
use Rattle.css_model.specs.Text.Kept.{Solid, between, behind_last, gap_text, is_lone, is_open, is_white_gap}
use Rattle.css_model.specs.Text.Lexemes.{is_delim_of, is_sign_of, is_white_kind}
use Rattle.css_model.specs.Text.TokenAt.{part_at}
use Rattle.css_model.specs.Text.Tokens.{Part, Parts, parts as parts_of_text, text_of}
use Rattle.css_model.specs.Text.Names.{is_url}
use Rattle.css_tokens.specs.Lexed.{IsLexed}
use Rattle.token_laws.specs.Solids.{closed, gap_before, last_kept, solids}
use Rattle.token_laws.proofs.ForCallers.{AreGood, are_good, last_kind, last_may, rest_of, take_good}
use Rattle.token_laws.proofs.ForCallers.{part_of, feed, gap_part, gap_parts, last_parts, text_append}
use Rattle.token_laws.proofs.ForCallers.{KeptRow, IsToken, token, LastMay, middle_row, last_row}
use Rattle.css_tokens.proofs.ForCallers.{lexed_are_parts}
use Rattle.token_laws.proofs.ForCallers.{PartIs, part_is, is_gap, first_of}
use Rattle.token_laws.proofs.ForCallers.{lone_gap, nothing_first, sign-text, take_none}
use Rattle.css_model.specs.Positions.Printed.{anb_text}
use Rattle.selector_text_laws.specs.Notation.Printed.{IsSized}
use Rattle.selector_text_laws.specs.Notation.Tokens.{IsWord, StandsBeforeSigns, is_word_kind}
use Rattle.selector_text_laws.proofs.Left.{SelectorsAreLexed, argument_or_gap, left_from, left_of, left_with, behind_text, spelled_from}
use Rattle.selector_text_laws.specs.Back.{argument, is_closing, own_tokens, skipped}
use Rattle.selector_text_laws.specs.Text.{parts_behind, parts_for}
use Rattle.selector_text_laws.specs.Together.{ending_bytes, is_dashes, is_numeric, is_one_of, lone_bytes, together}
use Rattle.selector_text_laws.proofs.Notation.Tokens.{text_stands}
use Rattle.selector_text_laws.proofs.Arguments.{argument_is}
use Rattle.selector_text_laws.proofs.Rows.{argument_row, together_row}
use Rattle.selector_text_laws.proofs.Together.{IsLooking, plain_byte, sign_byte, each_of, looking}

-- ---- what the second token may be

begins_is : (b : ℕ) (w : List ℕ) → begins b w ≡ first_passes (λ c. c == b) w
begins_is b [] = refl
begins_is b (c ∷ cs) = refl

-- of the second token its first byte counts
together_first : (j : TokenKind) (v : List ℕ) (k : TokenKind) (w u : List ℕ) → ((test : ℕ → Bool) → first_passes test w ≡ first_passes test u) → together j v k u ≡ true → together j v k w ≡ true
together_first kind.Ident v k w u same e =
    ap (λ b. (b && not (is_numeric (Some k))) && not (is_dashes v && begins greater_than w)) (same (is_one_of ending_bytes))
    ∙ ap (λ b. (first_passes (is_one_of ending_bytes) u && not (is_numeric (Some k))) && not (is_dashes v && b)) (begins_is greater_than w ∙ same (λ c. c == greater_than) ∙ sym (begins_is greater_than u)) ∙ e
together_first kind.IdHash v k w u same e = ap (λ b. b && not (is_numeric (Some k))) (same (is_one_of ending_bytes)) ∙ e
together_first kind.Function v k w u same e = e
together_first kind.Str v k w u same e = e
together_first (kind.Sign c) v k w u same e = e
together_first (kind.Delim c) v k w u same e = e
together_first _ v k w u same e = absurd (cc)

not_lone : (j : TokenKind) (v : List ℕ) (k : TokenKind) (w : List ℕ) → together j v k w ≡ true → is_lone j ≡ false
not_lone (kind.Delim c) v k w e = which (looking c k e)
  where
    which : IsLooking c k → (c == backslash) ≡ false
    which (plain_byte some) = each_of (λ c. (c == backslash) ≡ false) c lone_bytes (refl, (refl, (refl, (refl, (refl, (refl, (refl, tt))))))) some
    which (sign_byte some _) = each_of (λ c. (c == backslash) ≡ false) c (plus ∷ dot ∷ []) (refl, (refl, tt)) some
not_lone _ v k w e = refl

-- ---- parts for tokens

-- parts begin with this token, up to a white space that it takes
record Begins (t : Solid) (parts : List Part) : Type 0 where
  bytes : List ℕ
  more : List Part
  is : parts ≡ token t.kind bytes ∷ more
  first : (test : ℕ → Bool) → first_passes test bytes ≡ first_passes test t.bytes
  solid : is_white_kind t.kind ≡ false

abbrev HeadOf : List Solid → List Part → Type 0
HeadOf [] parts = Unit {0}
HeadOf (t ∷ ts) parts = Begins t parts

record Out (ps : List Part) (left : ℕ) (ss : List Solid) (text : List ℕ) (back : List Solid) (rest : List Part) : Type 0 where
  parts : List Part
  are : parts ≡ parts_for back ++ rest
  spells : text_of parts ≡ text ++ text_of rest
  lexed : IsLexed parts
  kept : left ≡ 0 → KeptRow ps parts
  head : HeadOf (drop left ss) parts
  reads : solids parts ≡ back ++ solids rest

closed_begins : (s : Solid) (more : List Part) → 0 < length s.bytes → is_white_kind s.kind ≡ false → Begins s (part_of (closed s) ∷ more)
closed_begins s more some solid = which (not (is_lone s.kind) && (is_white_gap s.gap && is_open s.bytes))
  where
    which : (b : Bool) → Begins s (part_of (cond b (record { kind = s.kind; bytes = s.bytes ++ space ∷ []; gap = s.gap }) s) ∷ more)
    which true = record { bytes = s.bytes ++ space ∷ []; more = more; is = refl; first = λ test. first_of test s.bytes (space ∷ []) some; solid = solid }
    which false = record { bytes = s.bytes; more = more; is = refl; first = λ _. refl; solid = solid }

-- a token that may be closed, and what stands behind it
between_spells : (s : Solid) (rest : List ℕ) → (closed s).bytes ++ (text_of (gap_parts s) ++ rest) ≡ s.bytes ++ (between s ++ rest)
between_spells s rest = which (is_lone s.kind) s.gap (is_open s.bytes) refl
  where
    which : (l : Bool) (g : Gap) (o : Bool) → is_open s.bytes ≡ o
        → (cond (not l && (is_white_gap g && o)) (record { kind = s.kind; bytes = s.bytes ++ space ∷ []; gap = s.gap }) s).bytes ++ (text_of (cond l (feed ∷ []) (gap_part g)) ++ rest)
        ≡ s.bytes ++ (cond l (line_feed ∷ []) (gap_text s.bytes g) ++ rest)
    which true g o is = refl
    which false gap.Nothing o is = refl
    which false gap.Comments o is = refl
    which false gap.White true is = rw is (append_assoc s.bytes (space ∷ []) (space ∷ rest))
    which false gap.White false is = rw is refl

joined : (v b t rest : List ℕ) → v ++ (b ++ (t ++ rest)) ≡ (v ++ b ++ t) ++ rest
joined v b t rest = ap (λ (x : List ℕ). v ++ x) (sym (append_assoc b t rest)) ∙ sym (append_assoc v (b ++ t) rest) ∙ ap (λ (x : List ℕ). x ++ rest) (sym (append_assoc v b t))

-- ---- what is read back

-- a token before others
part_solid : (s : Solid) (G : List Part) → is_white_kind s.kind ≡ false → gap_before false G ≡ s.gap → solids (part_of s ∷ G) ≡ s ∷ solids G
part_solid s G solid behind = rw (solid, behind) refl

-- parts that begin with a token
record Starts (K : List Part) : Type 0 where
  nothing : gap_before false K ≡ gap.Nothing
  comment : gap_before true K ≡ gap.Comments

starts : (k : TokenKind) (v : List ℕ) (ps : List Part) → is_white_kind k ≡ false → Starts (token k v ∷ ps)
starts k v ps solid = record { nothing = rw solid refl; comment = rw solid refl }

begins_starts : (t : Solid) (parts : List Part) → Begins t parts → Starts parts
begins_starts t parts h = subst Starts (sym h.is) (starts t.kind h.bytes h.more h.solid)

begins_nothing : (t : Solid) (parts : List Part) → Begins t parts → gap_before false parts ≡ gap.Nothing
begins_nothing t parts h = (begins_starts t parts h).nothing

closed_kind : (s : Solid) → ((closed s).kind ≡ s.kind) × ((closed s).gap ≡ s.gap)
closed_kind s = which (not (is_lone s.kind) && (is_white_gap s.gap && is_open s.bytes))
  where
    which : (b : Bool) → ((cond b (record { kind = s.kind; bytes = s.bytes ++ space ∷ []; gap = s.gap }) s).kind ≡ s.kind)
        × ((cond b (record { kind = s.kind; bytes = s.bytes ++ space ∷ []; gap = s.gap }) s).gap ≡ s.gap)
    which true = (refl, refl)
    which false = (refl, refl)

gap_again : (s : Solid) (K : List Part) → (is_lone s.kind ≡ true → s.gap ≡ gap.White) → Starts K → (gap_before false (gap_parts s ++ K) ≡ s.gap) × (solids (gap_parts s ++ K) ≡ solids K)
gap_again s K lone_white is = which (is_lone s.kind) refl s.gap refl
  where
    which : (l : Bool) → is_lone s.kind ≡ l → (g : Gap) → s.gap ≡ g → (gap_before false (cond l (feed ∷ []) (gap_part g) ++ K) ≡ g) × (solids (cond l (feed ∷ []) (gap_part g) ++ K) ≡ solids K)
    which true lone g behind = (sym (lone_white lone) ∙ behind, refl)
    which false lone gap.Nothing behind = (is.nothing, refl)
    which false lone gap.Comments behind = (is.comment, refl)
    which false lone gap.White behind = (refl, refl)

last_reads : (k : TokenKind) (v : List ℕ) (g : Gap) (rest : List Part) → is_white_kind k ≡ false → gap_before false rest ≡ gap.Nothing
    → (let s : Solid = record { kind = k; bytes = v; gap = g } in solids (token k v ∷ (last_parts s ++ rest)) ≡ last_kept s ∷ solids rest)
last_reads k v g rest solid calm = which (is_lone k)
  where
    which : (l : Bool) → solids (token k v ∷ (cond l (feed ∷ []) [] ++ rest)) ≡ record { kind = k; bytes = v; gap = cond l gap.White gap.Nothing } ∷ solids rest
    which true = part_solid (record { kind = k; bytes = v; gap = gap.White }) (feed ∷ rest) solid refl
    which false = part_solid (record { kind = k; bytes = v; gap = gap.Nothing }) rest solid calm

together_reads : (k : TokenKind) (v : List ℕ) (G : List Part) (more : List Solid) → is_white_kind k ≡ false → is_lone k ≡ false → gap_before false G ≡ gap.Nothing → solids G ≡ more
    → solids (token k v ∷ G) ≡ closed (record { kind = k; bytes = v; gap = gap.Nothing }) ∷ more
together_reads k v G more solid lone calm reads =
    let s : Solid = record { kind = k; bytes = v; gap = gap.Nothing } in
    let same : closed s ≡ s = ap (λ b. cond (not b && (false && is_open v)) (record { kind = k; bytes = v ++ space ∷ []; gap = gap.Nothing }) s) lone in
    part_solid s G solid calm ∙ ap (λ (ss : List Solid). s ∷ ss) reads ∙ ap (λ (s : Solid). s ∷ more) (sym same)

gap_reads : (s : Solid) (G : List Part) (more : List Solid) → is_white_kind s.kind ≡ false → (is_lone s.kind ≡ true → s.gap ≡ gap.White) → Starts G → solids G ≡ more
    → solids (part_of (closed s) ∷ (gap_parts s ++ G)) ≡ closed s ∷ more
gap_reads s G more solid lone_white is reads =
    let c = closed_kind s in
    let again = gap_again s G lone_white is in
    part_solid (closed s) (gap_parts s ++ G) (ap is_white_kind c.0 ∙ solid) (again.0 ∙ sym c.1) ∙ ap (λ (ss : List Solid). closed s ∷ ss) (again.1 ∙ reads)

-- words before others
word_kind : (o : Option TokenKind) → is_word_kind o ≡ true → (k : TokenKind) × (o ≡ Some k) × (is_white_kind k ≡ false)
word_kind (Some kind.Ident) e = (kind.Ident, refl, refl)
word_kind (Some kind.Number) e = (kind.Number, refl, refl)
word_kind (Some kind.Dimension) e = (kind.Dimension, refl, refl)
word_kind _ e = absurd (cc)

words_calm : (ps N : List Part) → AllByRecursion IsWord ps → gap_before false N ≡ gap.Nothing → gap_before false (ps ++ N) ≡ gap.Nothing
words_calm [] N all calm = calm
words_calm (p ∷ ps) N (w, ws) calm = let k = word_kind p.kind w.kinds in rw (k.1, k.2) refl

one_word : (k : TokenKind) (v : List ℕ) (G : List Part) (ss : List Solid) → is_white_kind k ≡ false → gap_before false G ≡ gap.Nothing → solids G ≡ ss → solids (token k v ∷ G) ≡ record { kind = k; bytes = v; gap = gap.Nothing } ∷ ss
one_word k v G ss solid calm reads = part_solid (record { kind = k; bytes = v; gap = gap.Nothing }) G solid calm ∙ ap (λ (ss : List Solid). record { kind = k; bytes = v; gap = gap.Nothing } ∷ ss) reads

words_read : (ps N : List Part) → AllByRecursion IsWord ps → gap_before false N ≡ gap.Nothing → solids (ps ++ N) ≡ solids ps ++ solids N
words_read [] N all calm = refl
words_read (p ∷ ps) N (w, ws) calm =
    let k = word_kind p.kind w.kinds in
    let here : (G : List Part) (ss : List Solid) → gap_before false G ≡ gap.Nothing → solids G ≡ ss → solids (p ∷ G) ≡ record { kind = k.0; bytes = p.bytes; gap = gap.Nothing } ∷ ss =
    λ G ss calm reads. subst (λ (o : Option TokenKind). solids (record { kind = o; bytes = p.bytes } ∷ G) ≡ record { kind = k.0; bytes = p.bytes; gap = gap.Nothing } ∷ ss) (sym k.1) (one_word k.0 p.bytes G ss k.2 calm reads) in
    here (ps ++ N) (solids ps ++ solids N) (words_calm ps N ws calm) (words_read ps N ws calm)
    ∙ ap (λ (ss : List Solid). ss ++ solids N) (sym (here ps (solids ps) (ap (gap_before false) (sym (append-nil ps)) ∙ words_calm ps [] ws refl) refl))

-- an ident, a number or a dimension without an escape, behind which nothing stands
pub record IsOwnToken (s : Solid) : Type 0 where
  pub kinds : is_word_kind (Some s.kind) ≡ true
  pub plain : list_any (λ c. c == backslash) s.bytes ≡ false
  pub alone : s.gap ≡ gap.Nothing

-- the tokens of a text are such tokens, and spell it
pub record IsOwnText (text : List ℕ) : Type 0 where
  pub spells : flat_map (λ s. s.bytes) (own_tokens text) ≡ text
  pub each : AllByRecursion IsOwnToken (own_tokens text)

-- words by themselves
record AreOwn (ps : List Part) (ss : List Solid) : Type 0 where
  spells : flat_map (λ s. s.bytes) ss ≡ text_of ps
  each : AllByRecursion IsOwnToken ss

own_word : (o : Option TokenKind) (v : List ℕ) (ps : List Part) (k : TokenKind) → o ≡ Some k → is_white_kind k ≡ false → is_word_kind (Some k) ≡ true → list_any (λ c. c == backslash) v ≡ false
    → gap_before false ps ≡ gap.Nothing → AreOwn ps (solids ps) → AreOwn (record { kind = o; bytes = v } ∷ ps) (solids (record { kind = o; bytes = v } ∷ ps))
own_word o v ps k is solid kinds plain calm later =
    let same : solids (record { kind = o; bytes = v } ∷ ps) ≡ record { kind = k; bytes = v; gap = gap.Nothing } ∷ solids ps =
    subst (λ (o : Option TokenKind). solids (record { kind = o; bytes = v } ∷ ps) ≡ record { kind = k; bytes = v; gap = gap.Nothing } ∷ solids ps) (sym is) (one_word k v ps (solids ps) solid calm refl) in
    subst (AreOwn (record { kind = o; bytes = v } ∷ ps)) (sym same) (record {
      spells = ap (λ (t : List ℕ). v ++ t) later.spells;
      each = (record { kinds = kinds; plain = plain; alone = refl }, later.each);
    })

own_words : (ps : List Part) → AllByRecursion IsWord ps → AreOwn ps (solids ps)
own_words [] all = record { spells = refl; each = tt }
own_words (p ∷ ps) (w, ws) =
    let k = word_kind p.kind w.kinds in
    let kinds : is_word_kind (Some k.0) ≡ true = subst (λ (o : Option TokenKind). is_word_kind o ≡ true) k.1 w.kinds in
    own_word p.kind p.bytes ps k.0 k.1 k.2 kinds w.plain (ap (gap_before false) (sym (append-nil ps)) ∙ words_calm ps [] ws refl) (own_words ps ws)

pub own_is : (text : List ℕ) (s : StandsBeforeSigns text) → own_tokens text ≡ solids s.parts
own_is text s = ap (λ (t : List ℕ). solids (parts_of_text t).parts) (sym s.spells) ∙ ap (λ (p : Parts). solids p.parts) (lexed_are_parts s.parts s.alone)

pub arguments_are_words : (x : AnB) → IsSized x → IsOwnText (anb_text x)
arguments_are_words x sized =
    let s = text_stands x sized in
    let own = own_words s.parts s.words in
    record {
      spells = ap (λ (ss : List Solid). flat_map (λ s. s.bytes) ss) (own_is (anb_text x) s) ∙ own.spells ∙ s.spells;
      each = subst (AllByRecursion IsOwnToken) (sym (own_is (anb_text x) s)) own.each;
    }

argument_reads : (k : TokenKind) (v text : List ℕ) (N : List Part) (back more : List Solid) → is_white_kind k ≡ false → (s : StandsBeforeSigns text) → gap_before false N ≡ gap.Nothing → solids N ≡ back ++ more
    → solids (token k v ∷ (s.parts ++ N)) ≡ (record { kind = k; bytes = v; gap = gap.Nothing } ∷ (own_tokens text ++ back)) ++ more
argument_reads k v text N back more solid s calm reads =
    let own : own_tokens text ≡ solids s.parts =
    ap (λ (t : List ℕ). solids (parts_of_text t).parts) (sym s.spells) ∙ ap (λ (p : Parts). solids p.parts) (lexed_are_parts s.parts s.alone) in
    one_word k v (s.parts ++ N) (solids s.parts ++ solids N) solid (words_calm s.parts N s.words calm) (words_read s.parts N s.words calm)
    ∙ ap (λ (ss : List Solid). record { kind = k; bytes = v; gap = gap.Nothing } ∷ (solids s.parts ++ ss)) reads
    ∙ ap (λ (ss : List Solid). record { kind = k; bytes = v; gap = gap.Nothing } ∷ (ss ++ (back ++ more))) (sym own)
    ∙ ap (λ (ss : List Solid). record { kind = k; bytes = v; gap = gap.Nothing } ∷ ss) (sym (append_assoc (own_tokens text) back more))

-- ---- the parts of what is read back

parts_append : (xs ys : List Solid) → parts_for (xs ++ ys) ≡ parts_for xs ++ parts_for ys
parts_append [] ys = refl
parts_append (x ∷ xs) ys =
    ap (λ (ps : List Part). part_of x ∷ (parts_behind x.kind x.gap ++ ps)) (parts_append xs ys)
    ∙ ap (λ (ps : List Part). part_of x ∷ ps) (sym (append_assoc (parts_behind x.kind x.gap) (parts_for xs) (parts_for ys)))

gap_are : (s : Solid) → (is_lone s.kind ≡ true → s.gap ≡ gap.White) → gap_parts s ≡ parts_behind s.kind s.gap
gap_are s lone_white = which (is_lone s.kind) refl s.gap refl
  where
    which : (l : Bool) → is_lone s.kind ≡ l → (g : Gap) → s.gap ≡ g → cond l (feed ∷ []) (gap_part g) ≡ parts_behind s.kind g
    which true lone gap.White behind = rw lone refl
    which true lone gap.Nothing behind = absurd (let e : gap.Nothing ≡ gap.White = sym behind ∙ lone_white lone in cc)
    which true lone gap.Comments behind = absurd (let e : gap.Comments ≡ gap.White = sym behind ∙ lone_white lone in cc)
    which false lone gap.Nothing behind = refl
    which false lone gap.Comments behind = refl
    which false lone gap.White behind = rw lone refl

-- a token that may be closed, and what stands behind it
closed_are : (s : Solid) (more : List Part) (back : List Solid) (rest : List Part) → (is_lone s.kind ≡ true → s.gap ≡ gap.White) → more ≡ parts_for back ++ rest
    → part_of (closed s) ∷ (gap_parts s ++ more) ≡ parts_for (closed s ∷ back) ++ rest
closed_are s more back rest lone_white are =
    let c = closed_kind s in
    let gaps : gap_parts s ≡ parts_behind (closed s).kind (closed s).gap =
    gap_are s lone_white ∙ ap (λ k. parts_behind k s.gap) (sym c.0) ∙ ap (λ g. parts_behind (closed s).kind g) (sym c.1) in
    ap (λ (ps : List Part). part_of (closed s) ∷ (ps ++ more)) gaps
    ∙ ap (λ (ps : List Part). part_of (closed s) ∷ (parts_behind (closed s).kind (closed s).gap ++ ps)) are
    ∙ ap (λ (ps : List Part). part_of (closed s) ∷ ps) (sym (append_assoc (parts_behind (closed s).kind (closed s).gap) (parts_for back) rest))

together_are : (k : TokenKind) (v : List ℕ) (more : List Part) (back : List Solid) (rest : List Part) → is_lone k ≡ false → more ≡ parts_for back ++ rest
    → token k v ∷ more ≡ parts_for (closed (record { kind = k; bytes = v; gap = gap.Nothing }) ∷ back) ++ rest
together_are k v more back rest lone are =
    let s : Solid = record { kind = k; bytes = v; gap = gap.Nothing } in
    let same : closed s ≡ s = ap (λ b. cond (not b && (false && is_open v)) (record { kind = k; bytes = v ++ space ∷ []; gap = gap.Nothing }) s) lone in
    ap (λ (ps : List Part). token k v ∷ ps) are ∙ ap (λ (s : Solid). parts_for (s ∷ back) ++ rest) (sym same)

last_are : (k : TokenKind) (v : List ℕ) (g : Gap) (rest : List Part)
    → (let s : Solid = record { kind = k; bytes = v; gap = g } in token k v ∷ (last_parts s ++ rest) ≡ parts_for (last_kept s ∷ []) ++ rest)
last_are k v g rest = which (is_lone k) refl
  where
    which : (l : Bool) → is_lone k ≡ l → token k v ∷ (cond l (feed ∷ []) [] ++ rest) ≡ parts_for (record { kind = k; bytes = v; gap = cond l gap.White gap.Nothing } ∷ []) ++ rest
    which true lone = rw lone refl
    which false lone = refl

words_are : (ps : List Part) → AllByRecursion IsWord ps → parts_for (solids ps) ≡ ps
words_are [] all = refl
words_are (p ∷ ps) (w, ws) =
    let k = word_kind p.kind w.kinds in
    let calm = ap (gap_before false) (sym (append-nil ps)) ∙ words_calm ps [] ws refl in
    let one : solids (token k.0 p.bytes ∷ ps) ≡ record { kind = k.0; bytes = p.bytes; gap = gap.Nothing } ∷ solids ps = one_word k.0 p.bytes ps (solids ps) k.2 calm refl in
    let is : p ≡ token k.0 p.bytes = ap (λ (o : Option TokenKind). record { kind = o; bytes = p.bytes }) k.1 in
    ap (λ (q : Part). parts_for (solids (q ∷ ps))) is ∙ ap parts_for one ∙ ap (λ (qs : List Part). token k.0 p.bytes ∷ qs) (words_are ps ws) ∙ ap (λ (q : Part). q ∷ ps) (sym is)

argument_are : (k : TokenKind) (v text : List ℕ) (more : List Part) (back : List Solid) (rest : List Part) (s : StandsBeforeSigns text) → more ≡ parts_for back ++ rest
    → token k v ∷ (s.parts ++ more) ≡ parts_for (record { kind = k; bytes = v; gap = gap.Nothing } ∷ (own_tokens text ++ back)) ++ rest
argument_are k v text more back rest s are =
    let own : parts_for (own_tokens text) ≡ s.parts = ap parts_for (own_is text s) ∙ words_are s.parts s.words in
    ap (λ (ps : List Part). token k v ∷ ps)
    (ap (λ (ps : List Part). s.parts ++ ps) are ∙ sym (append_assoc s.parts (parts_for back) rest)
    ∙ ap (λ (ps : List Part). (ps ++ parts_for back) ++ rest) (sym own) ∙ ap (λ (ps : List Part). ps ++ rest) (sym (parts_append (own_tokens text) back)))

-- the last token
last_out : (k : TokenKind) (v : List ℕ) (ps rest : List Part) → IsToken k v ps → IsLexed rest → LastMay k rest → gap_before false rest ≡ gap.Nothing → (s : Solid) → s ≡ record { kind = k; bytes = v; gap = gap_before false ps }
    → Out (token k v ∷ ps) 0 (s ∷ []) (s.bytes ++ behind_last s ++ []) (last_kept s ∷ []) rest
last_out k v ps rest is lexed may calm s same =
    let row = last_row false k v ps rest is lexed may in
    subst (λ (s : Solid). Out (token k v ∷ ps) 0 (s ∷ []) (s.bytes ++ behind_last s ++ []) (last_kept s ∷ []) rest) (sym same) (record {
      parts = token k v ∷ (last_parts (record { kind = k; bytes = v; gap = gap_before false ps }) ++ rest);
      are = last_are k v (gap_before false ps) rest;
      spells = spelled (is_lone k);
      lexed = row.lexed;
      kept = λ _. row;
      head = record { bytes = v; more = last_parts (record { kind = k; bytes = v; gap = gap_before false ps }) ++ rest; is = refl; first = λ _. refl; solid = is.solid };
      reads = last_reads k v (gap_before false ps) rest is.solid calm;
    })
  where
    spelled : (l : Bool) → v ++ text_of (cond l (feed ∷ []) [] ++ rest) ≡ (v ++ cond l (line_feed ∷ []) [] ++ []) ++ text_of rest
    spelled true = joined v (line_feed ∷ []) [] (text_of rest)
    spelled false = joined v [] [] (text_of rest)

-- what counts of a gap is all of it or nothing
pub counted_is : (depth : ℕ) (k : TokenKind) (g : Gap) (next : TokenKind) → (counted_gap depth k g (Some next) ≡ g) ⊎ (counted_gap depth k g (Some next) ≡ gap.Nothing)
counted_is depth k g next = which (is_delim_of dot k || is_sign_of colon k) (nat_lt 0 depth) (is_some (op_of k) && not (is_sign_of close_round next)) (is_some (combinator_of k) || is_some (combinator_of next))
  where
    alone : (g : Gap) → (white_alone g ≡ g) ⊎ (white_alone g ≡ gap.Nothing)
    alone gap.White = inl refl
    alone gap.Nothing = inl refl
    alone gap.Comments = inr refl

    which : (a b c d : Bool) → (cond a (white_alone g) (cond b (cond c g gap.Nothing) (cond d gap.Nothing (white_alone g))) ≡ g)
        ⊎ (cond a (white_alone g) (cond b (cond c g gap.Nothing) (cond d gap.Nothing (white_alone g))) ≡ gap.Nothing)
    which true b c d = alone g
    which false true true d = inl refl
    which false true false d = inr refl
    which false false c true = inr refl
    which false false c false = alone g

-- a token before another, by what is left of its gap
middle_out : (k : TokenKind) (v : List ℕ) (ps rest : List Part) (m depth : ℕ) (u : Solid) (us : List Solid) (text : List ℕ) (back : List Solid) → IsToken k v ps → take m (solids ps) ≡ u ∷ us → Out ps 0 (u ∷ us) text back rest
    → (let s : Solid = record { kind = k; bytes = v; gap = gap_before false ps } in Out (token k v ∷ ps) 0 (s ∷ u ∷ us) (v ++ behind_text depth s (u ∷ us) ++ text) (left_of depth s (u ∷ us) ∷ back) rest)
middle_out k v ps rest m depth u us text back is next out = which (together k v u.kind u.bytes) refl (counted_is depth k (gap_before false ps) u.kind)
  where
    s : Solid
    s = record { kind = k; bytes = v; gap = gap_before false ps }

    Left : Gap → Type 0
    Left g = Out (token k v ∷ ps) 0 (record { kind = k; bytes = v; gap = gap_before false ps } ∷ u ∷ us) (v ++ between (record { kind = k; bytes = v; gap = g }) ++ text)
        (closed (record { kind = k; bytes = v; gap = g }) ∷ back) rest

    all_of_it : Left (gap_before false ps)
    all_of_it =
        let x : Solid = record { kind = k; bytes = v; gap = gap_before false ps } in
        let row : KeptRow (token k v ∷ ps) (part_of (closed x) ∷ (gap_parts x ++ out.parts)) = middle_row k v ps out.parts is (out.kept refl) (λ none. nothing_first ps m u us is.later none next) in
        record {
          parts = part_of (closed x) ∷ (gap_parts x ++ out.parts);
          are = closed_are x out.parts back rest (λ lone. lone_gap k v ps (is.lone lone) is.here is.later) out.are;
          spells = ap (λ (t : List ℕ). (closed x).bytes ++ t) (text_append (gap_parts x) out.parts) ∙ between_spells x (text_of out.parts)
              ∙ ap (λ (t : List ℕ). v ++ (between x ++ t)) out.spells ∙ joined v (between x) text (text_of rest);
          lexed = row.lexed;
          kept = λ _. row;
          head = closed_begins x (gap_parts x ++ out.parts) is.some is.solid;
          reads = gap_reads x out.parts (back ++ solids rest) is.solid (λ lone. lone_gap k v ps (is.lone lone) is.here is.later) (begins_starts u out.parts out.head) out.reads;
        }

    nothing : together k v u.kind u.bytes ≡ true → Left gap.Nothing
    nothing e =
        let h = out.head in
        let row : KeptRow (token k v ∷ ps) (token k v ∷ token u.kind h.bytes ∷ h.more) =
        together_row k u.kind v h.bytes ps h.more is (subst IsLexed h.is out.lexed) (together_first k v u.kind h.bytes u.bytes h.first e) in
        let here : KeptRow (token k v ∷ ps) (token k v ∷ out.parts) = subst (λ (N : List Part). KeptRow (token k v ∷ ps) (token k v ∷ N)) (sym h.is) row in
        let lone : is_lone k ≡ false = not_lone k v u.kind u.bytes e in
        let plain : cond (is_lone k) (line_feed ∷ []) [] ≡ [] = ap (λ b. cond b (line_feed ∷ []) []) lone in
        record {
          parts = token k v ∷ out.parts;
          are = together_are k v out.parts back rest lone out.are;
          spells = ap (λ (t : List ℕ). v ++ t) out.spells ∙ joined v [] text (text_of rest) ∙ ap (λ (b : List ℕ). (v ++ b ++ text) ++ text_of rest) (sym plain);
          lexed = here.lexed;
          kept = λ _. here;
          head = record { bytes = v; more = out.parts; is = refl; first = λ _. refl; solid = is.solid };
          reads = together_reads k v out.parts (back ++ solids rest) is.solid lone (begins_nothing u out.parts h) out.reads;
        }

    which : (b : Bool) → together k v u.kind u.bytes ≡ b → (counted_gap depth k (gap_before false ps) (Some u.kind) ≡ gap_before false ps) ⊎ (counted_gap depth k (gap_before false ps) (Some u.kind) ≡ gap.Nothing)
        → Left (cond (together k v u.kind u.bytes) (counted_gap depth k (gap_before false ps) (Some u.kind)) (gap_before false ps))
    which false e counted = subst Left (sym (ap (λ b. cond b (counted_gap depth k (gap_before false ps) (Some u.kind)) (gap_before false ps)) e)) all_of_it
    which true e (inl same) = subst Left (sym (ap (λ b. cond b (counted_gap depth k (gap_before false ps) (Some u.kind)) (gap_before false ps)) e ∙ same)) all_of_it
    which true e (inr none) = subst Left (sym (ap (λ b. cond b (counted_gap depth k (gap_before false ps) (Some u.kind)) (gap_before false ps)) e ∙ none)) (nothing e)

-- ---- an argument

-- the first `)` of tokens
pub record ClosingAt (j : ℕ) (ss : List Solid) : Type 0 where
  pub closing : Solid
  pub behind : List Solid
  pub there : drop j ss ≡ closing ∷ behind
  pub closes : is_closing closing ≡ true
  pub below : j < length ss

pub closing_at : (ss : List Solid) → list_any is_closing ss ≡ true → ClosingAt (position_or_len is_closing ss) ss
closing_at [] some = absurd (cc)
closing_at (s ∷ ss) some = which (is_closing s) refl some (closing_at ss)
  where
    which : (b : Bool) → is_closing s ≡ b → (b || list_any is_closing ss) ≡ true → (list_any is_closing ss ≡ true → ClosingAt (position_or_len is_closing ss) ss)
        → ClosingAt (position_or_len is_closing (s ∷ ss)) (s ∷ ss)
    which true e some later =
        let none : position_or_len is_closing (s ∷ ss) ≡ 0 = ap (λ b. cond (not b) (1 + position_or_len is_closing ss) 0) e in
        subst (λ (j : ℕ). ClosingAt j (s ∷ ss)) (sym none) (record { closing = s; behind = ss; there = refl; closes = e; below = omega arith })
    which false e some later =
        let c = later some in
        let more : position_or_len is_closing (s ∷ ss) ≡ suc (position_or_len is_closing ss) = ap (λ b. cond (not b) (1 + position_or_len is_closing ss) 0) e ∙ omega arith in
        let low = c.below in
        subst (λ (j : ℕ). ClosingAt j (s ∷ ss)) (sym more) (record { closing = c.closing; behind = c.behind; there = c.there; closes = c.closes; below = omega (arith, low) })

first_byte : (w : List ℕ) → first_passes (λ c. c == close_round) w ≡ true → (more : List ℕ) × (w ≡ close_round ∷ more)
first_byte [] e = absurd (cc)
first_byte (c ∷ cs) e = (cs, ap (λ (c : ℕ). c ∷ cs) (eqb-true c close_round e))

-- the first byte of `)`
closing_first : (k : TokenKind) (w : List ℕ) (more : List Part) → is_sign_of close_round k ≡ true → IsLexed (token k w ∷ more) → (later : List ℕ) × (text_of (token k w ∷ more) ≡ close_round ∷ later)
closing_first (kind.Sign c) w more closes lexed =
    let same : w ≡ c ∷ [] = sign-text w (text_of more) c lexed.0 in
    (text_of more, ap (λ (w : List ℕ). w ++ text_of more) same ∙ ap (λ (c : ℕ). c ∷ text_of more) (eqb-true c close_round closes))
closing_first _ w more closes lexed = absurd (false≢true closes)

argument_out : (k : TokenKind) (v : List ℕ) (ps rest : List Part) (j : ℕ) (ss : List Solid) (x : AnB) (text : List ℕ) (back : List Solid) (g : Gap) → IsToken k v ps → k ≡ kind.Function → is_url (take (length v - 1) v) ≡ false
    → StandsBeforeSigns (anb_text x) → ClosingAt j ss → Out ps j ss text back rest
    → Out (token k v ∷ ps) 0 (record { kind = k; bytes = v; gap = g } ∷ ss) (v ++ anb_text x ++ text) (record { kind = k; bytes = v; gap = gap.Nothing } ∷ (own_tokens (anb_text x) ++ back)) rest
argument_out k v ps rest j ss x text back g is called other stands c out =
    let h : Begins c.closing out.parts = subst (λ (ts : List Solid). HeadOf ts out.parts) c.there out.head in
    let b = closing_first c.closing.kind h.bytes h.more c.closes (subst IsLexed h.is out.lexed) in
    let closes : text_of out.parts ≡ close_round ∷ b.0 = ap text_of h.is ∙ b.1 in
    let row : KeptRow (token kind.Function v ∷ ps) (token kind.Function v ∷ (stands.parts ++ out.parts)) =
    argument_row v (anb_text x) ps out.parts b.0 (subst (λ (k : TokenKind). IsToken k v ps) called is) other stands out.lexed closes in
    let here : KeptRow (token k v ∷ ps) (token k v ∷ (stands.parts ++ out.parts)) = subst (λ (k : TokenKind). KeptRow (token k v ∷ ps) (token k v ∷ (stands.parts ++ out.parts))) (sym called) row in
    record {
      parts = token k v ∷ (stands.parts ++ out.parts);
      are = argument_are k v (anb_text x) out.parts back rest stands out.are;
      spells = ap (λ (t : List ℕ). v ++ t) (text_append stands.parts out.parts ∙ ap (λ (t : List ℕ). t ++ text_of out.parts) stands.spells ∙ ap (λ (t : List ℕ). anb_text x ++ t) out.spells)
          ∙ joined v (anb_text x) text (text_of rest);
      lexed = here.lexed;
      kept = λ _. here;
      head = record { bytes = v; more = stands.parts ++ out.parts; is = refl; first = λ _. refl; solid = is.solid };
      reads = argument_reads k v (anb_text x) out.parts back (solids rest) is.solid stands (begins_nothing c.closing out.parts h) out.reads;
    }

-- ---- all of them

-- comments and white space stand before the first token
gap_row : (k : Option TokenKind) (v : List ℕ) (ps new : List Part) → is_gap k ≡ true → KeptRow ps new → KeptRow (record { kind = k; bytes = v } ∷ ps) new
gap_row k v ps new is row = record {
  lexed = row.lexed;
  first = λ test. rw is (row.first test);
  ends = λ solid _. absurd (false≢true (rw is at solid));
}

gap_out : (k : Option TokenKind) (v : List ℕ) (ps : List Part) (left : ℕ) (ss : List Solid) (text : List ℕ) (back : List Solid) (rest : List Part) → is_gap k ≡ true → Out ps left ss text back rest
    → Out (record { kind = k; bytes = v } ∷ ps) left ss text back rest
gap_out k v ps left ss text back rest is out = record {
  parts = out.parts;
  are = out.are;
  spells = out.spells;
  lexed = out.lexed;
  kept = λ none. gap_row k v ps out.parts is (out.kept none);
  head = out.head;
  reads = out.reads;
}

module _ (rest : List Part) (lexed : IsLexed rest) (calm : gap_before false rest ≡ gap.Nothing) where
  -- what is to be shown of parts
  abbrev Rows : List Part → Type 0
  Rows ps = (n depth left : ℕ) (t : Solid) (ts : List Solid) → take n (solids ps) ≡ t ∷ ts → left ≤ length ts → LastMay (last_kind t ts) rest → Out ps left (t ∷ ts) (spelled_from depth left (t ∷ ts)) (left_from depth left (t ∷ ts)) rest

  -- a token, by what its argument is
  abbrev printed_with : Option AnB → ℕ → Solid → List Solid → List ℕ
  printed_with o depth s ss = s.bytes ++ argument_or_gap o depth s ss ++ spelled_from depth (skipped o ss) ss

  here_out : (k : TokenKind) (v : List ℕ) (ps : List Part) → IsToken k v ps → Rows ps → (m depth : ℕ) (s : Solid) → s ≡ record { kind = k; bytes = v; gap = gap_before false ps }
      → (ss : List Solid) → take m (solids ps) ≡ ss → LastMay (last_kind s ss) rest → (o : Option AnB) → argument s ss ≡ o
      → Out (token k v ∷ ps) 0 (record { kind = k; bytes = v; gap = gap_before false ps } ∷ ss) (printed_with o depth (record { kind = k; bytes = v; gap = gap_before false ps }) ss)
      (left_with o depth (record { kind = k; bytes = v; gap = gap_before false ps }) ss (left_from depth (skipped o ss) ss)) rest
  here_out k v ps is later m depth s same [] next may None e =
      last_out k v ps rest is lexed (subst (λ (k : TokenKind). LastMay k rest) (ap (λ (s : Solid). s.kind) same) may) calm (record { kind = k; bytes = v; gap = gap_before false ps }) refl
  here_out k v ps is later m depth s same (u ∷ us) next may None e =
      middle_out k v ps rest m depth u us (spelled_from depth 0 (u ∷ us)) (left_from depth 0 (u ∷ us)) is next (later m depth 0 u us next (omega arith) may)
  here_out k v ps is later m depth s same [] next may (Some x) e = absurd (false≢true (argument_is s [] x e).closed)
  here_out k v ps is later m depth s same (u ∷ us) next may (Some x) e =
      let a = argument_is s (u ∷ us) x e in
      let c = closing_at (u ∷ us) a.closed in
      let low = c.below in
      let j = position_or_len is_closing (u ∷ us) in
      let out = later m depth j u us next (omega (arith, low)) may in
      let called : k ≡ kind.Function = sym (ap (λ (s : Solid). s.kind) same) ∙ a.called in
      let other : is_url (take (length v - 1) v) ≡ false = ap (λ (s : Solid). is_url (take (length s.bytes - 1) s.bytes)) (sym same) ∙ a.other in
      argument_out k v ps rest j (u ∷ us) x (spelled_from depth j (u ∷ us)) (left_from depth j (u ∷ us)) (gap_before false ps) is called other (text_stands x a.sized) c out

  skip_out : (k : TokenKind) (v : List ℕ) (ps : List Part) → Rows ps → (m depth left : ℕ) (s : Solid) (ss : List Solid) → take m (solids ps) ≡ ss → suc left ≤ length ss → LastMay (last_kind s ss) rest
      → Out ps left ss (spelled_from depth left ss) (left_from depth left ss) rest → IsLexed (token k v ∷ ps) → Out (token k v ∷ ps) (suc left) (s ∷ ss) (spelled_from depth left ss) (left_from depth left ss) rest
  skip_out k v ps later m depth left s ss next low may out here = record {
    parts = out.parts;
    are = out.are;
    spells = out.spells;
    lexed = out.lexed;
    kept = λ none. absurd (omega (arith, none));
    head = out.head;
    reads = out.reads;
  }

  solid_out : (k : TokenKind) (v : List ℕ) (ps : List Part) → IsToken k v ps → Rows ps → (n depth left : ℕ) (t : Solid) (ts : List Solid)
      → take n (record { kind = k; bytes = v; gap = gap_before false ps } ∷ solids ps) ≡ t ∷ ts → left ≤ length ts → LastMay (last_kind t ts) rest
      → Out (token k v ∷ ps) left (t ∷ ts) (spelled_from depth left (t ∷ ts)) (left_from depth left (t ∷ ts)) rest
  solid_out k v ps is later zero depth left t ts some low may = absurd (cc)
  solid_out k v ps is later (suc m) depth left t ts some low may =
      let first : record { kind = k; bytes = v; gap = gap_before false ps } ≡ t = cc in
      let more : take m (solids ps) ≡ ts = cc in
      subst (λ (t : Solid). LastMay (last_kind t ts) rest → Out (token k v ∷ ps) left (t ∷ ts) (spelled_from depth left (t ∷ ts)) (left_from depth left (t ∷ ts)) rest) first (which left ts more low) may
    where
      which : (left : ℕ) (ts : List Solid) → take m (solids ps) ≡ ts → left ≤ length ts → LastMay (last_kind (record { kind = k; bytes = v; gap = gap_before false ps }) ts) rest
          → Out (token k v ∷ ps) left (record { kind = k; bytes = v; gap = gap_before false ps } ∷ ts) (spelled_from depth left (record { kind = k; bytes = v; gap = gap_before false ps } ∷ ts))
          (left_from depth left (record { kind = k; bytes = v; gap = gap_before false ps } ∷ ts)) rest
      which zero ts more low may =
          let s : Solid = record { kind = k; bytes = v; gap = gap_before false ps } in
          here_out k v ps is later m (depth_behind depth (selector_token s)) s refl ts more may (argument s ts) refl
      which (suc l) [] more low may = absurd (omega arith)
      which (suc l) (u ∷ us) more low may =
          skip_out k v ps later m depth l (record { kind = k; bytes = v; gap = gap_before false ps }) (u ∷ us) more low may (later m depth l u us more (omega arith) may) (is.here, is.later)

  part_out : (k : Option TokenKind) (v : List ℕ) (ps : List Part) → part_at (v ++ text_of ps) ≡ Ok (k, length v) → IsLexed ps → Rows ps → Rows (record { kind = k; bytes = v } ∷ ps)
  part_out k v ps here is later n depth left t ts some low may = which (part_is k v (text_of ps) here)
    where
      which : PartIs k v (text_of ps) → Out (record { kind = k; bytes = v } ∷ ps) left (t ∷ ts) (spelled_from depth left (t ∷ ts)) (left_from depth left (t ∷ ts)) rest
      which (inl white) = gap_out k v ps left (t ∷ ts) (spelled_from depth left (t ∷ ts)) (left_from depth left (t ∷ ts)) rest (rw white.kind refl) (later n depth left t ts (rw white.kind at some) low may)
      which (inr (inl comment)) = gap_out k v ps left (t ∷ ts) (spelled_from depth left (t ∷ ts)) (left_from depth left (t ∷ ts)) rest (rw comment.kind refl) (later n depth left t ts (rw comment.kind at some) low may)
      which (inr (inr solid)) =
          let read_ : part_at (v ++ text_of ps) ≡ Ok (Some solid.token, length v) = rw solid.kind at here in
          let row = solid_out solid.token v ps (record { here = read_; later = is; solid = solid.solid; some = solid.some; first = solid.first; lone = solid.lone }) later n depth left t ts (rw (solid.kind, solid.solid) at some) low may in
          subst (λ (k : Option TokenKind). Out (record { kind = k; bytes = v } ∷ ps) left (t ∷ ts) (spelled_from depth left (t ∷ ts)) (left_from depth left (t ∷ ts)) rest) (sym solid.kind) row

  rows : (ps : List Part) → IsLexed ps → Rows ps
  rows [] is n depth left t ts some low may = absurd (take_none n t ts some)
  rows (p ∷ ps) (here, is) n depth left t ts some low may = part_out p.kind p.bytes ps here is (rows ps is) n depth left t ts some low may

-- Whatever the tokens are, the printed text of tokens of a text is lexed.
pub selectors_are_lexed : SelectorsAreLexed
selectors_are_lexed ps rest m n s ss is some lexed behind calm called =
    let from = rest_of m ps is in
    let here : take n (solids from.parts) ≡ s ∷ ss = ap (λ (ss : List Solid). take n ss) from.same ∙ some in
    let solid : AreGood (s ∷ ss) = subst AreGood here (take_good n (solids from.parts) (are_good from.parts from.lexed)) in
    let out = rows rest lexed calm from.parts from.lexed n 0 0 s ss here (omega arith) (last_may s ss rest solid called (inl behind)) in
    record { parts = out.parts; are = out.are; spells = out.spells; lexed = out.lexed; reads = out.reads }
