-- The place of the tokens that stand before others.
use Rattle.std.specs.Prelude.{◌-◌, List, length, Option, Some, None, slice_get}
use Rattle.jn_base.specs.declared.place.Span.{Span}
use Rattle.jn_trees.specs.declared.token.Token.{Token}

-- the place that stands in where there is no token: nothing, at the start of file 0
abbrev pub nowhere : Span
nowhere = record { file = record { 0 = 0 }; from = 0; to = 0 }

-- the place of a token, or `nowhere` where there is none
abbrev pub span_of : Option Token → Span
span_of None = nowhere
span_of (Some t) = t.span

-- the place from the start of the first place to the end of the last, in the file of the first
abbrev pub joined : Span → Span → Span
joined first last = record { file = first.file; from = first.from; to = last.to }

-- from the first of the tokens through the last before the rest, where the rest is what they end with
abbrev pub covered : List Token → List Token → Span
covered tokens rest = joined (span_of (slice_get tokens 0)) (span_of (slice_get tokens (length tokens - length rest - 1)))
