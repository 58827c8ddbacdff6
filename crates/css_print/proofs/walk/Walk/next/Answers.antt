use Rattle.std.proofs.Common.{◌≡◌, ℕ, true, List, ◌∷◌, Option, Some, ap, sym, ◌∙◌, subst}
use Rattle.std.specs.List.{AllByRecursion}
use Rattle.css_model.specs.declared.token.Gap.{Gap}
use Rattle.css_model.specs.declared.token.Token.{Token}
use Rattle.css_model.specs.Text.Kept.{Solid}
use Rattle.css_model.specs.Text.Lexemes.{gap_of}
use Rattle.css_model.specs.Text.Source.{text_at}
use Rattle.css_tokens.specs.Laws.{StandsIn}
use Rattle.css_tokens.specs.Left as reader
use Rattle.css_print.specs.Words.{front, is_ahead, past_white, solids_to}
use Rattle.css_print.proofs.WordLemmas.{gap_seen, solids_first, solids_past_white, stand_past_white}
use Rattle.css_print.proofs.walk.Walk.next.Goals as goal

pub returns-clause-word : goal.returns-clause-word
returns-clause-word c =
    let source = c.args.self.now.source.now in
    let place = c.args.self.now.«end» in
    let token = c.in_ok-token.token in
    let old = (reader.left c.args.self.now.tokens).tokens in
    let was : c.args.self.now.ahead ≡ Some token = c.in_ok-token.was in
    let ahead : is_ahead place (Some token) ≡ true = ap (is_ahead place) (sym was) ∙ c.requires.ahead in
    let of : List ℕ → Gap → Solid = λ bytes gap. record { kind = token.kind; bytes = bytes; gap = gap } in
    let gap : c.gap_before.result ≡ gap_of old =
    gap_seen c.read-next.result c.gap_before.result c.gap_before.ensures (reader.left c.read-next.new.tokens).tokens ∙ ap gap_of c.read-next.ensures in
    let later = solids_to place source (front c.read_solid-self.result (reader.left c.read_solid-self.new.tokens).tokens) in
    let rest : solids_to place source old ≡ later =
    sym (ap (solids_to place source) (c.read_solid-self.ensures.same ∙ ap (past_white place) c.read-next.ensures) ∙ solids_past_white place source old) in
    ap (λ (o : Option Token). solids_to place source (front o old)) was
    ∙ solids_first place source token old ahead
    ∙ ap (λ (ss : List Solid). of (text_at source token.span) (gap_of old) ∷ ss) rest
    ∙ ap (λ (g : Gap). of (text_at source token.span) g ∷ later) (sym gap)
    ∙ ap (λ (bytes : List ℕ). of bytes c.gap_before.result ∷ later) (sym c.text-text.ensures)

pub returns-clause-ready : goal.returns-clause-ready
returns-clause-ready c =
    let source = c.args.self.now.source.now in
    let place = c.args.self.now.«end» in
    let token = c.in_ok-token.token in
    let old = (reader.left c.args.self.now.tokens).tokens in
    let was : c.args.self.now.ahead ≡ Some token = c.in_ok-token.was in
    let All : List Token → Type 0 = AllByRecursion (StandsIn source) in
    let all : All (front (Some token) old) = subst (λ (o : Option Token). AllByRecursion (StandsIn source) (front o old)) was c.requires.stand in
    record {
      ahead = c.read_solid-self.ensures.ahead;
      stand = subst All (sym (c.read_solid-self.ensures.same ∙ ap (past_white place) c.read-next.ensures)) (stand_past_white source place old all.1);
      short = c.requires.short;
    }
