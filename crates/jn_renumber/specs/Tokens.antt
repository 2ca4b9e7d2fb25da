-- Tokens whose names have other numbers.
use Rattle.std.specs.Prelude.{List, map}
use Rattle.jn_base.specs.declared.number.NameNo.{NameNo}
use Rattle.jn_trees.specs.declared.token.Token.{Token}
use Rattle.jn_trees.specs.declared.token.TokenKind.{TokenKind}
use Rattle.jn_trees.specs.declared.token.TokenKind.TheVariants.{Id, Str}
use Rattle.jn_renumber.specs.Names.{entry}

abbrev pub kind_by : List NameNo → TokenKind → TokenKind
kind_by ns (Id n) = Id (entry ns n)
kind_by ns (Str n) = Str (entry ns n)
kind_by ns kind = kind

abbrev pub token_by : List NameNo → Token → Token
token_by ns t = record { kind = kind_by ns t.kind; span = t.span }

abbrev pub tokens_by : List NameNo → List Token → List Token
tokens_by ns ts = map (token_by ns) ts
