-- A name by another number.
use Rattle.std.specs.Prelude.{List, get_or}
use Rattle.jn_base.specs.declared.number.NameNo.{NameNo}
use Rattle.jn_trees.specs.declared.expression.Literal.{Literal}
use Rattle.jn_trees.specs.declared.expression.Literal.TheVariants.{Number, Str, True, False, Null}

-- the entry of a number; one that has none stays as it is
abbrev pub entry : List NameNo → NameNo → NameNo
entry numbers name = get_or numbers name.0 name

abbrev pub renumbered_literal : List NameNo → Literal → Literal
renumbered_literal numbers (Number n) = Number n
renumbered_literal numbers (Str n) = Str (entry numbers n)
renumbered_literal numbers True = True
renumbered_literal numbers False = False
renumbered_literal numbers Null = Null
