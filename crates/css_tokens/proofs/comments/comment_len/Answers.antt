use Rattle.css_tokens.proofs.CommentLemmas.{comment_found}
use Rattle.css_tokens.proofs.comments.comment_len.Goals as goal

pub returns : goal.returns
returns c = comment_found c.args.text.now c.find.result c.find.ensures
