-- A kind is that of its form, its byte and its code point.
use Rattle.std.proofs.Common.{◌≡◌, refl}
use Rattle.css_model.specs.declared.token.TokenKind.{TokenKind}
use Rattle.css_model.specs.declared.token.TokenKind.TheVariants.{White, Str, IdHash, Hash, Number, Percentage, Dimension, CommentOpen, CommentClose, AtKeyword, Ident, Function, Url, Sign, Delim}
use Rattle.sel_parse.specs.Forms.{form_of, sign_of, code_of, kind_of}

pub kind_again : (kind : TokenKind) → kind_of (form_of kind) (sign_of kind) (code_of kind) ≡ kind
kind_again White = refl
kind_again Str = refl
kind_again IdHash = refl
kind_again Hash = refl
kind_again Number = refl
kind_again Percentage = refl
kind_again Dimension = refl
kind_again CommentOpen = refl
kind_again CommentClose = refl
kind_again AtKeyword = refl
kind_again Ident = refl
kind_again Function = refl
kind_again Url = refl
kind_again (Sign byte) = refl
kind_again (Delim code) = refl
