use Rattle.std.proofs.Common.{◌≡◌, ◌≢◌, ◌∙◌, ◌+◌, ◌≤◌, ◌++◌, ◌==◌, List, [], ◌∷◌, None, ℕ, refl, false, true, length, sym, ap, subst, arith}
use Rattle.std.proofs.lemmas.Bool.{eqb-true, false≢true}
use Rattle.std.proofs.lemmas.List.{length-append}
use Rattle.doc_text.specs.DocText.{ended}
use Rattle.doc_text.specs.Lines.{line_ends}
use Rattle.doc_text.specs.States.{IsStart, Reads, StateParts, with_line}
use Rattle.doc_text.proofs.Begun.{texts_of}
use Rattle.doc_text.proofs.Steps.{body_more, end_bad, ends_more, read_bad, unmarked_bad}
use Rattle.doc_text.proofs.read.read_body.Goals as goal

no_bytes : (bytes : List ℕ) → length bytes ≡ 0 → bytes ≡ []
no_bytes [] none = refl
no_bytes (b ∷ bytes) none = absurd (omega (arith, none))

pub returns-then-not-branch : goal.returns-then-not-branch
returns-then-not-branch c =
    let s = c.lines.state in
    let cut = c.in-Some.ensures in
    let inv = c.lines.invariant in
    let r : Reads false s c.in-Some.line.now c.read.new.self = rw c.if-not-branch.true at c.in_ok-read.ensures in
    let count : c.len.result ≡ length s.lines = c.len.ensures ∙ c.state.inside.lines.ok.0 ∙ ap (λ (t : StateParts). length t.lines) c.state.view_is ∙ ap (λ (t : StateParts). length t.lines) r.0 in
    read_bad c.args.root_is_child c.args.pseudo s c.args.body.now c.lines.rest.now c.in-Some.line.now c.in-Some.more.now c.len.result inv.0 inv.1 cut.0 cut.1 r.1 count

pub lines-preserved : goal.lines-preserved
lines-preserved c =
    let s = c.lines.state in
    let cut = c.in-Some.ensures in
    let inv = c.lines.invariant in
    let r : Reads true s c.in-Some.line.now c.read.new.self = rw c.if-not-branch.false at c.in_ok-read.ensures in
    let new : c.read.new.self ≡ with_line s r.0 r.1 = r.2 in
    let whole = body_more s r.0 r.1 c.args.body.now c.lines.rest.now c.in-Some.line.now c.in-Some.more.now inv.0 r.5 inv.1 cut.0 r.3 in
    let ends = ends_more c.in-Some.line.now c.in-Some.more.now c.lines.rest.now cut.0 cut.1 in
    let size : length (with_line s r.0 r.1).lines ≡ length s.lines + 1 = length-append s.lines (r.1 ∷ []) in
    let fewer = inv.2 in
    (subst IsStart (sym new) r.5.start, subst (λ (t : StateParts). c.args.body.now ≡ ended (texts_of t) ++ c.in-Some.more.now) (sym new) whole, subst (λ (t : StateParts). length t.lines + line_ends c.in-Some.more.now ≤ line_ends c.args.body.now) (sym new) (omega (arith, size, ends, fewer)))

pub returns-then-not-is_empty : goal.returns-then-not-is_empty
returns-then-not-is_empty c =
    let s = c.lines.state in
    let rest = c.lines.rest.now in
    let inv = c.lines.invariant in
    let some : rest ≢ [] = λ none. false≢true (c.if-not-is_empty.ensures ∙ ap (λ (t : List ℕ). length t == 0) none) in
    let count : c.len-then-not-is_empty.result ≡ length s.lines = c.len-then-not-is_empty.ensures ∙ c.state-2.inside.lines.ok.0 ∙ ap (λ (t : StateParts). length t.lines) c.state-2.view_is in
    end_bad c.args.root_is_child c.args.pseudo s c.args.body.now rest c.len-then-not-is_empty.result inv.0 inv.1 some c.in_default.ensures count

pub returns-in-None : goal.returns-in-None
returns-in-None c =
    let s = c.lines.state in
    let rest = c.lines.rest.now in
    let inv = c.lines.invariant in
    let none : rest ≡ [] = no_bytes rest (eqb-true (length rest) 0 (sym c.if-not-is_empty.ensures)) in
    let unmarked : s.marked ≡ None = sym (ap (λ (t : StateParts). t.marked) c.state-2.view_is) ∙ c.in-None.is in
    let count : c.len-in-None.result ≡ length s.lines = c.len-in-None.ensures ∙ c.state-2.inside.lines.ok.0 ∙ ap (λ (t : StateParts). length t.lines) c.state-2.view_is in
    unmarked_bad c.args.root_is_child c.args.pseudo s c.args.body.now rest c.len-in-None.result inv.0 inv.1 none unmarked count
