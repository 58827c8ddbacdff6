use Rattle.std.proofs.Common.{◌≡◌, ◌∙◌, true, sym, refl}
use Rattle.std.proofs.lemmas.Bool.{true≢false}
use Rattle.doc_text.specs.DocText.{line_text}
use Rattle.doc_text.specs.Elements.{IsLine}
use Rattle.doc_text.specs.States.{may_follow}
use Rattle.doc_text.proofs.Follows.{may_from, may_to}
use Rattle.doc_text.proofs.LineText.{line_inj}
use Rattle.doc_text.proofs.state.State.read.Goals as goal

pub returns-then-not-may_follow : goal.returns-then-not-may_follow
returns-then-not-may_follow c = (
  refl,
  λ mark l good is may.
      let read : IsLine c.in-Some.line × (c.args.bytes.now ≡ line_text c.in-Some.mark c.in-Some.line) = rw c.in-Some.is at c.in_ok-mark.ensures in
      let same = line_inj mark c.in-Some.mark l c.in-Some.line good read.0 (sym is ∙ read.1) in
      let yes : may_follow c.args.self.now mark l ≡ true = may_from c.args.self.now mark l may in
      let result : c.may_follow.result ≡ true = c.may_follow.ensures ∙ (λ i. may_follow c.args.self.now (sym same.0 i) (sym same.1 i)) ∙ yes in
      true≢false (sym result ∙ c.if-not-may_follow.true),
)

pub returns-in_ok-push-in-Some : goal.returns-in_ok-push-in-Some
returns-in_ok-push-in-Some c =
    let read : IsLine c.in-Some.line × (c.args.bytes.now ≡ line_text c.in-Some.mark c.in-Some.line) = rw c.in-Some.is at c.in_ok-mark.ensures in (
      c.in-Some.mark,
      c.in-Some.line,
      c.in_ok-push-in-Some.ensures,
      read.1,
      read.0,
      may_to c.args.self.now c.in-Some.mark c.in-Some.line c.requires.start read.0 (sym c.may_follow.ensures ∙ c.if-not-may_follow.false),
    )
