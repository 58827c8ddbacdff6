-- If the front of every text is read right, the tokens of a source are those of the grammar.
use Rattle.std.proofs.Common.{ℕ, zero, suc, ◌+◌, ◌<◌, ◌≤◌, ◌≡◌, Bool, true, false, cond, ◌&&◌, List, [], ◌∷◌, ◌++◌, Result, Option, Ok, Err, Some, None, length, drop, take, refl, sym, ap, ◌∙◌, subst, arith}
use Rattle.std.specs.Prelude.{nat_eq}
use Rattle.std.specs.List.{starts_with}
use Rattle.std.proofs.lemmas.Bool.{and_parts, eqb-true, false≢true, true≢false}
use Rattle.std.proofs.lemmas.List.{drop_at, length-append, take_at}
use Rattle.css_model.specs.declared.token.Token.{Token}
use Rattle.css_model.specs.declared.token.TokenFault.{TokenFault}
use Rattle.css_model.specs.declared.token.TokenFlaw.{TokenFlaw}
use Rattle.css_model.specs.declared.token.TokenKind.{TokenKind}
use Rattle.css_model.specs.Text.TokenAt.{Shape, part_at}
use Rattle.css_model.specs.Text.Tokens.{Parts, Stream, after_first, byte_order_mark, fault_at, fault_behind, part_then, parts, parts_from, stream, stream_of, text_of, tokens, tokens_at}
use Rattle.token_grammar.specs.Laws.{TokensAreThoseOfTheGrammar}
use Rattle.token_grammar.proofs.ReadRight.{IsReadRight, answer_of}
use Rattle.token_grammar.specs.Longest.{Answer, AreTheTokens, AreTheTokensOf, IsNext}
use Rattle.token_grammar.specs.Longest.AreTheTokens.{at_end, past_comment, more, at_fault}
use Rattle.token_grammar.specs.Longest.AreTheTokensOf.{marked, unmarked}
use Rattle.token_grammar.proofs.FirstBytes.{taken_some}

parts_from-drop : (left : ℕ) (text : List ℕ) → parts_from left text ≡ parts (drop left text)
parts_from-drop zero text = refl
parts_from-drop (suc left) [] = refl
parts_from-drop (suc left) (c ∷ cs) = parts_from-drop left cs

-- a part before the others
abbrev part_before : Option TokenKind → List ℕ → Parts → Parts
part_before k text others = record { parts = record { kind = k; bytes = text } ∷ others.parts; flaw = others.flaw }

parts_ok : (text rest : List ℕ) (k : Option TokenKind) → 0 < length text → part_at (text ++ rest) ≡ Ok (k, length text) → parts (text ++ rest) ≡ part_before k text (parts rest)
parts_ok [] rest k some is = absurd (omega (arith, some))
parts_ok (c ∷ cs) rest k some is =
    let whole = c ∷ (cs ++ rest) in
    let behind : parts_from (length cs) (cs ++ rest) ≡ parts rest = parts_from-drop (length cs) (cs ++ rest) ∙ ap parts (drop_at cs rest (length cs) refl) in
    let front : take (suc (length cs)) whole ≡ c ∷ cs = take_at (c ∷ cs) rest (suc (length cs)) refl in
    ap (λ (r : Result Shape TokenFlaw). part_then r whole (parts_from (after_first r) (cs ++ rest))) is
    ∙ ap (λ (others : Parts). part_then (Ok (k, suc (length cs))) whole others) behind
    ∙ ap (λ (bytes : List ℕ). part_before k bytes (parts rest)) front

parts_err : (text : List ℕ) (f : TokenFlaw) → 0 < length text → part_at text ≡ Err f → parts text ≡ record { parts = []; flaw = Some f }
parts_err [] f some is = absurd (omega (arith, some))
parts_err (c ∷ cs) f some is = rw is refl

-- the tokens after a comment, after a token, and at a fault
placed : (at : ℕ) (text : List ℕ) (others : Parts) → fault_behind (at + length (text ++ text_of others.parts)) others.flaw ≡ fault_behind (at + length text + length (text_of others.parts)) others.flaw
placed at text others =
    let place : at + length (text ++ text_of others.parts) ≡ at + length text + length (text_of others.parts) = omega (arith, length-append text (text_of others.parts)) in
    ap (λ (n : ℕ). fault_behind n others.flaw) place

past : (at : ℕ) (comment : Bool) (text rest : List ℕ) → 0 < length text → part_at (text ++ rest) ≡ Ok (None, length text)
    → stream_of at comment (parts (text ++ rest)) ≡ stream_of (at + length text) true (parts rest)
past at comment text rest some is =
    ap (stream_of at comment) (parts_ok text rest None some is)
    ∙ ap (λ (f : Option TokenFault). record { tokens = tokens_at (at + length text) true (parts rest).parts; fault = f }) (placed at text (parts rest))

abbrev token_before : Token → Stream → Stream
token_before t others = record { tokens = t ∷ others.tokens; fault = others.fault }

abbrev token_of : ℕ → Bool → TokenKind → List ℕ → Token
token_of at comment k text = record { kind = k; span = record { start = at; «end» = at + length text }; comment_before = comment }

next : (at : ℕ) (comment : Bool) (k : TokenKind) (text rest : List ℕ) → 0 < length text → part_at (text ++ rest) ≡ Ok (Some k, length text)
    → stream_of at comment (parts (text ++ rest)) ≡ token_before (token_of at comment k text) (stream_of (at + length text) false (parts rest))
next at comment k text rest some is =
    ap (stream_of at comment) (parts_ok text rest (Some k) some is)
    ∙ ap (λ (f : Option TokenFault). record { tokens = token_of at comment k text ∷ tokens_at (at + length text) false (parts rest).parts; fault = f }) (placed at text (parts rest))

broken : (at : ℕ) (comment : Bool) (text : List ℕ) (f : TokenFlaw) → 0 < length text → part_at text ≡ Err f
    → stream_of at comment (parts text) ≡ record { tokens = []; fault = Some (fault_at at f) }
broken at comment text f some is =
    let place : at + 0 ≡ at = omega arith in
    ap (stream_of at comment) (parts_err text f some is)
    ∙ ap (λ (n : ℕ). record { tokens = []; fault = Some (fault_at n f) }) place

some_front : (text rest : List ℕ) (answer : Answer) → IsNext text rest answer → (0 < length text) × (0 < length (text ++ rest))
some_front text rest answer is = let some = taken_some text rest answer is.taken in (some, omega (arith, some, length-append text rest))

module _ (right : (text : List ℕ) → 0 < length text → IsReadRight text) where
  -- what is next is what is read
  read_ok : (text rest : List ℕ) (k : Option TokenKind) → IsNext text rest (Ok k) → part_at (text ++ rest) ≡ Ok (k, length text)
  read_ok text rest k is = by (part_at (text ++ rest)) refl
    where
      r : IsReadRight (text ++ rest)
      r = right (text ++ rest) (some_front text rest (Ok k) is).1

      two : (text ≡ r.front) × (Ok k ≡ answer_of (part_at (text ++ rest)))
      two = r.alone text rest (Ok k) refl is

      by : (a : Result Shape TokenFlaw) → part_at (text ++ rest) ≡ a → part_at (text ++ rest) ≡ Ok (k, length text)
      by (Err f) e = let answers : ◌≡◌ {A = Answer} (Ok k) (Err f) = two.1 ∙ ap answer_of e in absurd (cc (answers))
      by (Ok (j, n)) e =
          let answers : ◌≡◌ {A = Answer} (Ok k) (Ok j) = two.1 ∙ ap answer_of e in
          let same : j ≡ k = cc (answers) in
          let size : n ≡ length text = r.len (j, n) e ∙ ap (λ (t : List ℕ). length t) (sym two.0) in
          e ∙ (ap (λ (j : Option TokenKind). Ok (j, n)) same ∙ ap (λ (n : ℕ). Ok (k, n)) size)

  read_err : (text rest : List ℕ) (f : TokenFlaw) → IsNext text rest (Err f) → part_at (text ++ rest) ≡ Err f
  read_err text rest f is = by (part_at (text ++ rest)) refl
    where
      r : IsReadRight (text ++ rest)
      r = right (text ++ rest) (some_front text rest (Err f) is).1

      two : (text ≡ r.front) × (Err f ≡ answer_of (part_at (text ++ rest)))
      two = r.alone text rest (Err f) refl is

      by : (a : Result Shape TokenFlaw) → part_at (text ++ rest) ≡ a → part_at (text ++ rest) ≡ Err f
      by (Ok s) e = let answers : ◌≡◌ {A = Answer} (Err f) (Ok s.0) = two.1 ∙ ap answer_of e in absurd (cc (answers))
      by (Err g) e =
          let answers : ◌≡◌ {A = Answer} (Err f) (Err g) = two.1 ∙ ap answer_of e in
          let same : g ≡ f = cc (answers) in
          e ∙ ap (λ (f : TokenFlaw). Err f) same

  -- the tokens of the grammar are those that are read
  are_read : (at : ℕ) (comment : Bool) (text : List ℕ) (ts : List Token) (fault : Option TokenFault) → AreTheTokens at comment text ts fault
      → stream_of at comment (parts text) ≡ record { tokens = ts; fault = fault }
  are_read at comment text ts fault (at_end a c) = refl
  are_read at comment text ts fault (past_comment a c front rest others end is later) =
      past a c front rest (some_front front rest (Ok None) is).0 (read_ok front rest None is) ∙ are_read (a + length front) true rest others end later
  are_read at comment text ts fault (more a c front rest k others end is later) =
      next a c k front rest (some_front front rest (Ok (Some k)) is).0 (read_ok front rest (Some k) is)
      ∙ ap (token_before (token_of a c k front)) (are_read (a + length front) false rest others end later)
  are_read at comment text ts fault (at_fault a c front rest f is) =
      broken a c (front ++ rest) f (some_front front rest (Err f) is).1 (read_err front rest f is)

  -- these are the tokens of a text
  abbrev Are : ℕ → Bool → List ℕ → Stream → Type 0
  Are at comment text s = AreTheTokens at comment text s.tokens s.fault

  are_some : (n : ℕ) (at : ℕ) (comment : Bool) (text : List ℕ) → length text ≤ n → Are at comment text (stream_of at comment (parts text))
  are_some n at comment [] short = at_end at comment
  are_some zero at comment (c ∷ cs) short = absurd (omega (arith, short))
  are_some (suc n) at comment (c ∷ cs) short =
      by (right (c ∷ cs) (omega arith)) (λ (at : ℕ) (comment : Bool) (text : List ℕ) (short : length text ≤ n). are_some n at comment text short)
    where
      at_front : (front rest : List ℕ) (a : Result Shape TokenFlaw) → length (front ++ rest) ≤ suc n → part_at (front ++ rest) ≡ a → IsNext front rest (answer_of a)
          → ((s : Shape) → a ≡ Ok s → s.1 ≡ length front)
          → ((at : ℕ) (comment : Bool) (text : List ℕ) → length text ≤ n → Are at comment text (stream_of at comment (parts text)))
          → Are at comment (front ++ rest) (stream_of at comment (parts (front ++ rest)))
      at_front front rest (Err f) short e is len later =
          subst (Are at comment (front ++ rest)) (sym (broken at comment (front ++ rest) f (some_front front rest (Err f) is).1 e)) (at_fault at comment front rest f is)
      at_front front rest (Ok (None, m)) short e is len later =
          let some = (some_front front rest (Ok None) is).0 in
          let reads : part_at (front ++ rest) ≡ Ok (None, length front) = e ∙ ap (λ (m : ℕ). Ok (None, m)) (len (None, m) refl) in
          let others = later (at + length front) true rest (omega (arith, short, some, length-append front rest)) in
          let s = stream_of (at + length front) true (parts rest) in
          subst (Are at comment (front ++ rest)) (sym (past at comment front rest some reads)) (past_comment at comment front rest s.tokens s.fault is others)
      at_front front rest (Ok (Some k, m)) short e is len later =
          let some = (some_front front rest (Ok (Some k)) is).0 in
          let reads : part_at (front ++ rest) ≡ Ok (Some k, length front) = e ∙ ap (λ (m : ℕ). Ok (Some k, m)) (len (Some k, m) refl) in
          let others = later (at + length front) false rest (omega (arith, short, some, length-append front rest)) in
          let s = stream_of (at + length front) false (parts rest) in
          subst (Are at comment (front ++ rest)) (sym (next at comment k front rest some reads)) (more at comment front rest k s.tokens s.fault is others)

      by : IsReadRight (c ∷ cs) → ((at : ℕ) (comment : Bool) (text : List ℕ) → length text ≤ n → Are at comment text (stream_of at comment (parts text)))
          → Are at comment (c ∷ cs) (stream_of at comment (parts (c ∷ cs)))
      by r later =
          let T : List ℕ → Type 0 = λ t. Are at comment t (stream_of at comment (parts t)) in
          let same : part_at (r.front ++ r.rest) ≡ part_at (c ∷ cs) = ap part_at (sym r.joined) in
          let size : length (r.front ++ r.rest) ≡ suc (length cs) = ap (λ (t : List ℕ). length t) (sym r.joined) in
          subst T (sym r.joined) (at_front r.front r.rest (part_at (c ∷ cs)) (omega (arith, size, short)) same r.next (λ s e. r.len s e) later)

  are_these : (at : ℕ) (text : List ℕ) (ts : List Token) (fault : Option TokenFault) → stream at text ≡ record { tokens = ts; fault = fault } → AreTheTokens at false text ts fault
  are_these at text ts fault e = subst (Are at false text) e (are_some (length text) at false text (omega arith))

  -- a byte order mark at the front
  mark_is : (source : List ℕ) → starts_with nat_eq source byte_order_mark ≡ true → source ≡ byte_order_mark ++ drop 3 source
  mark_is [] h = absurd (false≢true h)
  mark_is (a ∷ []) h = absurd (false≢true (and_parts (nat_eq 0xEF a) false h).1)
  mark_is (a ∷ b ∷ []) h = absurd (false≢true (and_parts (nat_eq 0xBB b) false (and_parts (nat_eq 0xEF a) (nat_eq 0xBB b && false) h).1).1)
  mark_is (a ∷ b ∷ c ∷ cs) h =
      let first = and_parts (nat_eq 0xEF a) (nat_eq 0xBB b && (nat_eq 0xBF c && true)) h in
      let second = and_parts (nat_eq 0xBB b) (nat_eq 0xBF c && true) first.1 in
      let third = and_parts (nat_eq 0xBF c) true second.1 in
      let one : 0xEF ≡ a = eqb-true 0xEF a first.0 in
      let two : 0xBB ≡ b = eqb-true 0xBB b second.0 in
      let three : 0xBF ≡ c = eqb-true 0xBF c third.0 in
      cc

  pub tokens_given : TokensAreThoseOfTheGrammar
  tokens_given source sheet ts fault = (there, λ e. back (sheet && starts_with nat_eq source byte_order_mark) refl e)
    where
      there : AreTheTokensOf source sheet ts fault → tokens source sheet ≡ record { tokens = ts; fault = fault }
      there (marked rest is e are) =
          ap (λ (b : Bool). tokens source b) is ∙ (ap (λ (t : List ℕ). tokens t true) e ∙ are_read 3 false rest ts fault are)
      there (unmarked none are) = by (sheet && starts_with nat_eq source byte_order_mark) refl
        where
          by : (b : Bool) → (sheet && starts_with nat_eq source byte_order_mark) ≡ b → cond b (stream 3 (drop 3 source)) (stream 0 source) ≡ record { tokens = ts; fault = fault }
          by true h =
              let both = and_parts sheet (starts_with nat_eq source byte_order_mark) h in
              absurd (none both.0 (drop 3 source) (mark_is source both.1))
          by false h = are_read 0 false source ts fault are

      back : (b : Bool) → (sheet && starts_with nat_eq source byte_order_mark) ≡ b → cond b (stream 3 (drop 3 source)) (stream 0 source) ≡ record { tokens = ts; fault = fault }
          → AreTheTokensOf source sheet ts fault
      back true h e =
          let both = and_parts sheet (starts_with nat_eq source byte_order_mark) h in
          marked (drop 3 source) both.0 (mark_is source both.1) (are_these 3 (drop 3 source) ts fault e)
      back false h e = unmarked (λ is rest joined. no_mark is rest joined) (are_these 0 source ts fault e)
        where
          no_mark : sheet ≡ true → (rest : List ℕ) → source ≡ byte_order_mark ++ rest → ⊥
          no_mark is rest joined =
              let starts : starts_with nat_eq source byte_order_mark ≡ true = ap (λ (t : List ℕ). starts_with nat_eq t byte_order_mark) joined in
              true≢false (sym (ap (λ (b : Bool). b && starts_with nat_eq source byte_order_mark) is ∙ starts) ∙ h)
