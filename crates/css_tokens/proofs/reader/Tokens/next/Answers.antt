use Rattle.std.proofs.Common.{ℕ, List, [], Option, ◌≡◌, ◌+◌, Ok, Err, Some, None, false, sym, ap, ◌∙◌, drop, length, arith}
use Rattle.std.proofs.lemmas.List.{take_rest, length-drop}
use Rattle.css_model.specs.declared.token.TokenKind.{TokenKind}
use Rattle.css_model.specs.declared.token.TokenFault.{TokenFault}
use Rattle.css_model.specs.Text.TokenAt.{part_at}
use Rattle.css_model.specs.Text.Tokens.{Stream, stream_of, parts}
use Rattle.css_tokens.proofs.StreamLemmas.{token_before, next_comment, next_token, next_flaw, next_end}
use Rattle.css_tokens.proofs.reader.Tokens.next.Goals as goal

pub returns-in-Err : goal.returns-in-Err
returns-in-Err c =
    let source = c.args.self.now.source.now in
    let at = c.comments.at in
    let is : part_at (drop at source) ≡ Err c.in-Err.flaw = sym (c.in-Err.ensures.value ∙ ap part_at (take_rest source at)) in
    let faulty : TokenFault → Stream = λ f. record { tokens = []; fault = Some f } in (
      sym c.comments.invariant.0 ∙ next_flaw source at c.comments.comment_before c.in-Err.flaw c.comments-test.true is
          ∙ ap faulty (sym c.fault_at.ensures),
      c.comments.invariant.2,
    )

pub comments-preserved : goal.comments-preserved
comments-preserved c =
    let source = c.args.self.now.source.now in
    let at = c.comments.at in
    let len = c.in-Ok-None-default.len in
    let comment : Ok (None, len) ≡ Ok (c.in-Ok-None-default.field-0-0, len) = ap (λ (k : Option TokenKind). Ok (k, len)) (sym c.in-Ok-None-default.field-0-0-is) in
    let is : part_at (drop at source) ≡ Ok (None, len) = sym (comment ∙ c.in-Ok-None-default.ensures.value ∙ ap part_at (take_rest source at)) in (
      sym (next_comment source at len c.comments.comment_before is) ∙ c.comments.invariant.0,
      omega (arith, c.in-Ok-None-default.ensures.fits, ap length (take_rest source at), length-drop at source),
      c.comments.invariant.2,
      c.comments.invariant.3,
    )

pub returns-in-Ok-Some-default : goal.returns-in-Ok-Some-default
returns-in-Ok-Some-default c =
    let source = c.args.self.now.source.now in
    let at = c.comments.at in
    let len = c.in-Ok-Some-default.len in
    let kind = c.in-Ok-Some-default.kind in
    let token : Ok (Some kind, len) ≡ Ok (c.in-Ok-Some-default.field-0-0, len) = ap (λ (k : Option TokenKind). Ok (k, len)) (sym c.in-Ok-Some-default.field-0-0-is) in
    let is : part_at (drop at source) ≡ Ok (Some kind, len) = sym (token ∙ c.in-Ok-Some-default.ensures.value ∙ ap part_at (take_rest source at)) in
    let before : List ℕ → Stream = λ text. token_before (record { kind = kind; span = record { start = at; «end» = at + len }; comment_before = c.comments.comment_before }) (stream_of (at + len) false (parts (drop (at + len) text))) in
    sym c.comments.invariant.0 ∙ next_token source at len c.comments.comment_before kind is ∙ ap before (sym c.comments.invariant.3)

pub returns : goal.returns
returns c =
    let source = c.args.self.now.source.now in
    (sym c.comments.invariant.0 ∙ next_end source c.comments.at c.comments.comment_before c.comments-test.false, c.comments.invariant.2)
