use Rattle.css_tokens.proofs.StringLemmas.{plain_found}
use Rattle.css_tokens.proofs.strings.plain_len.Goals as goal

pub returns-clause-plain : goal.returns-clause-plain
returns-clause-plain c =
    plain_found c.args.quote c.args.text.now c.memchr2.result c.memchr3.result c.unwrap_or-end.result c.unwrap_or.result c.memchr2.ensures
    c.unwrap_or-end.ensures c.memchr3.ensures c.unwrap_or.ensures
