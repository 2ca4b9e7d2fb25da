-- What the code wants of an operand, as the rules say it.
use Rattle.jn_basecheck.specs.declared.types.Want.{Want}
use Rattle.jn_basecheck.specs.declared.types.Want.TheVariants.{Within, Primitive, Same, Reference, Elements, Joinable, Printable, Valued}
use Rattle.jn_points.specs.BaseRows as rules

-- the same, as the rules have it
abbrev pub meant : Want → rules.Want
meant (Within base) = rules.Within base
meant Primitive = rules.Primitive
meant (Same base) = rules.Same base
meant Reference = rules.Reference
meant Elements = rules.Elements
meant Joinable = rules.Joinable
meant Printable = rules.Printable
meant Valued = rules.Valued
