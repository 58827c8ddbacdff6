-- Families, tried on names.
use Rattle.std.proofs.Common.{◌≡◌, true, false, [], refl}
use Rattle.std.specs.Prelude.{codes}
use Rattle.css_model.specs.declared.family.Family.TheVariants.{All, Custom, Named}
use Rattle.css_model.specs.Cascade.Family.{family_of, related}

all : family_of (codes "all") ≡ All
all = refl

-- a custom property keeps its case
custom : family_of (codes "--X") ≡ Custom (codes "--X")
custom = refl

border : family_of (codes "-webkit-border-radius") ≡ Named (codes "border")
border = refl

-- the parts of a row
font : family_of (codes "line-height") ≡ Named (codes "font")
font = refl

inset : family_of (codes "left") ≡ Named (codes "inset")
inset = refl

vertical : family_of (codes "alignment-baseline") ≡ Named (codes "vertical")
vertical = refl

-- `all` behind an underscore or a vendor prefix is a family like others
underscored_all : family_of (codes "_all") ≡ Named (codes "all")
underscored_all = refl

prefixed_all : family_of (codes "-x-all") ≡ Named (codes "all")
prefixed_all = refl

-- all underscores are taken away, and then one vendor prefix
underscores : family_of (codes "__-o-_top") ≡ Named (codes "_top")
underscores = refl

one_prefix : family_of (codes "-a-b-c") ≡ Named (codes "b")
one_prefix = refl

-- what has no vendor's word or no second hyphen keeps its first hyphen
no_word : family_of (codes "_--x") ≡ Named []
no_word = refl

no_second_hyphen : family_of (codes "-moz") ≡ Named []
no_second_hyphen = refl

not_a_word : family_of (codes "-o_o-top") ≡ Named []
not_a_word = refl

no_name : family_of [] ≡ Named []
no_name = refl

-- a vendor's word may hold digits and capital letters
digits : family_of (codes "-9Z-top") ≡ Named (codes "inset")
digits = refl

-- names are not looked up in another case
capitals : family_of (codes "LINE-height") ≡ Named (codes "LINE")
capitals = refl

font_sets_line_height : related (codes "font") (codes "line-height") ≡ true
font_sets_line_height = refl

all_sets_custom : related (codes "all") (codes "--x") ≡ true
all_sets_custom = refl

custom_are_apart : related (codes "--x") (codes "--y") ≡ false
custom_are_apart = refl

margin_and_padding : related (codes "margin-left") (codes "padding-left") ≡ false
margin_and_padding = refl
