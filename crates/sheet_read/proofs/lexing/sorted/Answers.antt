use Rattle.std.proofs.Common.{ℕ, ◌≡◌, ◌≤◌, ◌++◌, true, false, List, [], ◌∷◌, length, reverse, Option, Err, sym, ap, ◌∙◌, append_assoc, arith}
use Rattle.std.specs.List.{cons_option}
use Rattle.std.proofs.lemmas.List.{length-reverse}
use Rattle.css_model.specs.declared.fault.FaultKind.TheVariants.{TooDeep}
use Rattle.css_model.specs.declared.limits.TheConstants.{MAX_DEPTH}
use Rattle.css_model.specs.declared.token.Bracket.{Bracket}
use Rattle.css_model.specs.declared.token.Lexeme.{Lexeme}
use Rattle.css_model.specs.declared.token.Token.{Token}
use Rattle.css_model.specs.declared.token.TokenFault.{TokenFault}
use Rattle.css_model.specs.Sheets.Sheet.{too_deep}
use Rattle.css_model.specs.Text.Lexemes.{after, after_all, lexeme, lexemes_in}
use Rattle.css_tokens.specs.Left.{left}
use Rattle.sheet_read.specs.Steps.{is_too_deep, fault_before}
use Rattle.sheet_read.proofs.Nesting.{deep_here, deep_later, after_short}
use Rattle.sheet_read.proofs.Sorting.{next_ahead, made_of, past_solid, sorted_deep}
use Rattle.sheet_read.proofs.lexing.sorted.Goals as goal

pub returns-then-is_too_deep : goal.returns-then-is_too_deep
returns-then-is_too_deep c =
    let s = left c.args.reader.now in
    let old = left c.tokens.reader in
    let new = left c.next_of-in-Some.new.reader in
    let token = c.in-Some.token in
    let ahead = next_ahead old c.in_ok-ahead-2.ahead new c.in_ok-ahead-2.ensures in
    let us = cons_option c.in_ok-ahead-2.ahead new.tokens in
    let brackets = reverse c.tokens.brackets.items in
    let x = c.lexeme-x.result in
    let coming : cons_option c.tokens.ahead old.tokens ≡ token ∷ us =
    ap (λ (o : Option Token). cons_option o old.tokens) c.in-Some.is ∙ ap (λ (ts : List Token). token ∷ ts) ahead.tokens
    in
    let level : c.len.result ≡ length brackets = omega (arith, c.len.ensures, length-reverse c.tokens.brackets.items) in
    let made : x ≡ lexeme (length brackets) token us =
    made_of (lexeme c.len.result token) x c.in_ok-ahead-2.ahead new ahead.ended c.lexeme-x.ensures ∙ ap (λ (n : ℕ). lexeme n token us) level
    in
    let solid = sym c.is_white.ensures ∙ c.if-not-is_white.true in
    let first : lexemes_in brackets (cons_option c.tokens.ahead old.tokens) ≡ x ∷ lexemes_in (after token brackets) us =
    ap (lexemes_in brackets) coming ∙ past_solid brackets token us solid ∙ ap (λ (y : Lexeme). y ∷ lexemes_in (after token brackets) us) (sym made)
    in
    let here : is_too_deep x ≡ true = sym c.is_too_deep.ensures ∙ c.if-is_too_deep.true in
    let deep = sym c.tokens.invariant.deep ∙ ap too_deep first ∙ deep_here x (lexemes_in (after token brackets) us) here in
    sorted_deep s x.span.start deep
    ∙ ap (λ (f : Option TokenFault). Err (fault_before f (record { kind = TooDeep; at = x.span.start }))) (sym (ahead.fault ∙ c.tokens.invariant.fault))
    ∙ ap Err (sym c.fault_behind.ensures)

pub tokens-preserved-in-Continue-branch-4 : goal.tokens-preserved-in-Continue-branch-4
tokens-preserved-in-Continue-branch-4 c =
    let old = left c.tokens.reader in
    let new = left c.next_of-in-Some.new.reader in
    let token = c.in-Some.token in
    let ahead = next_ahead old c.in_ok-ahead-2.ahead new c.in_ok-ahead-2.ensures in
    let us = cons_option c.in_ok-ahead-2.ahead new.tokens in
    let brackets = reverse c.tokens.brackets.items in
    let inside = reverse c.pass.new.brackets.items in
    let x = c.lexeme-x.result in
    let coming : cons_option c.tokens.ahead old.tokens ≡ token ∷ us =
    ap (λ (o : Option Token). cons_option o old.tokens) c.in-Some.is ∙ ap (λ (ts : List Token). token ∷ ts) ahead.tokens
    in
    let level : c.len.result ≡ length brackets = omega (arith, c.len.ensures, length-reverse c.tokens.brackets.items) in
    let made : x ≡ lexeme (length brackets) token us =
    made_of (lexeme c.len.result token) x c.in_ok-ahead-2.ahead new ahead.ended c.lexeme-x.ensures ∙ ap (λ (n : ℕ). lexeme n token us) level
    in
    let solid = sym c.is_white.ensures ∙ c.if-not-is_white.true in
    let first : lexemes_in brackets (cons_option c.tokens.ahead old.tokens) ≡ x ∷ lexemes_in (after token brackets) us =
    ap (lexemes_in brackets) coming ∙ past_solid brackets token us solid ∙ ap (λ (y : Lexeme). y ∷ lexemes_in (after token brackets) us) (sym made)
    in
    let not_deep : is_too_deep x ≡ false = sym c.is_too_deep.ensures ∙ c.if-is_too_deep.false in
    let more : x ∷ lexemes_in inside us ≡ lexemes_in brackets (cons_option c.tokens.ahead old.tokens) =
    ap (λ (bs : List Bracket). x ∷ lexemes_in bs us) c.in_ok-pass.ensures ∙ sym first
    in
    let short : length inside ≤ MAX_DEPTH =
    rw c.in_ok-pass.ensures (after_short brackets token us (omega (arith, length-reverse c.tokens.brackets.items, c.tokens.invariant.levels)) (ap is_too_deep (sym made) ∙ not_deep))
    in
    record {
      parts = ap (λ (xs : List Lexeme). xs ++ lexemes_in inside us) c.in_ok-push.ensures.items
          ∙ append_assoc c.tokens.lexemes.items (x ∷ []) (lexemes_in inside us)
          ∙ ap (λ (xs : List Lexeme). c.tokens.lexemes.items ++ xs) more ∙ c.tokens.invariant.parts;
      deep = sym (deep_later x (lexemes_in inside us) not_deep) ∙ ap too_deep more ∙ c.tokens.invariant.deep;
      nested = ap (λ (bs : List Bracket). after_all bs us) c.in_ok-pass.ensures ∙ ap (after_all brackets) (sym coming) ∙ c.tokens.invariant.nested;
      levels = omega (arith, short, length-reverse c.pass.new.brackets.items);
      fault = ahead.fault ∙ c.tokens.invariant.fault;
      ended = ahead.ended;
    }
