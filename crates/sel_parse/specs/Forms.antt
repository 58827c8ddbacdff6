-- How the kind of a token is kept: its form, and apart from it the byte of a sign and the code point of one that
-- stands by itself (own).
use Rattle.std.specs.Prelude.{ℕ}
use Rattle.css_model.specs.declared.token.TokenKind.{TokenKind}
use Rattle.css_model.specs.declared.token.TokenKind.TheVariants as kinds
use Rattle.sel_parse.specs.declared.tokens.Form.{Form}
use Rattle.sel_parse.specs.declared.tokens.Form.TheVariants as forms

abbrev pub form_of : TokenKind → Form
form_of kinds.White = forms.White
form_of kinds.Str = forms.Str
form_of kinds.IdHash = forms.IdHash
form_of kinds.Hash = forms.Hash
form_of kinds.Number = forms.Number
form_of kinds.Percentage = forms.Percentage
form_of kinds.Dimension = forms.Dimension
form_of kinds.CommentOpen = forms.CommentOpen
form_of kinds.CommentClose = forms.CommentClose
form_of kinds.AtKeyword = forms.AtKeyword
form_of kinds.Ident = forms.Ident
form_of kinds.Function = forms.Function
form_of kinds.Url = forms.Url
form_of (kinds.Sign byte) = forms.Sign
form_of (kinds.Delim code) = forms.Delim

abbrev pub sign_of : TokenKind → ℕ
sign_of (kinds.Sign byte) = byte
sign_of _ = 0

abbrev pub code_of : TokenKind → ℕ
code_of (kinds.Delim code) = code
code_of _ = 0

abbrev pub kind_of : Form → ℕ → ℕ → TokenKind
kind_of forms.White sign code = kinds.White
kind_of forms.Str sign code = kinds.Str
kind_of forms.IdHash sign code = kinds.IdHash
kind_of forms.Hash sign code = kinds.Hash
kind_of forms.Number sign code = kinds.Number
kind_of forms.Percentage sign code = kinds.Percentage
kind_of forms.Dimension sign code = kinds.Dimension
kind_of forms.CommentOpen sign code = kinds.CommentOpen
kind_of forms.CommentClose sign code = kinds.CommentClose
kind_of forms.AtKeyword sign code = kinds.AtKeyword
kind_of forms.Ident sign code = kinds.Ident
kind_of forms.Function sign code = kinds.Function
kind_of forms.Url sign code = kinds.Url
kind_of forms.Sign sign code = kinds.Sign sign
kind_of forms.Delim sign code = kinds.Delim code
