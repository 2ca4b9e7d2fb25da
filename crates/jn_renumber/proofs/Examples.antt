-- Small lists that are merged, and small trees that are renumbered, by computation.
use Rattle.std.proofs.Common.{◌≡◌, ℕ, [], ◌∷◌, refl}
use Rattle.std.specs.Prelude.{codes}
use Rattle.jn_base.specs.declared.number.NameNo.{NameNo}
use Rattle.jn_base.specs.declared.place.Span.{Span}
use Rattle.jn_trees.specs.declared.expression.Identifier.{Identifier}
use Rattle.jn_trees.specs.declared.expression.AssignOperator.TheVariants.{Assign}
use Rattle.jn_trees.specs.declared.expression.Literal.TheVariants.{Number, Str}
use Rattle.jn_trees.specs.declared.token.TokenKind.TheVariants.{Id, Dot}
use Rattle.jn_places.specs.Placed.{PlacedTree, PlacedAssign, PlacedField, PlacedLiteral, PlacedThis}
use Rattle.jn_renumber.specs.Merged.{merged, merged_numbers}
use Rattle.jn_renumber.specs.Renumbered.{renumbered}
use Rattle.jn_renumber.specs.Tokens.{tokens_by}

abbrev name : ℕ → NameNo
name n = record { 0 = n }

abbrev at : ℕ → ℕ → Span
at from to = record { file = record { 0 = 4 }; from = from; to = to }

abbrev named : ℕ → ℕ → ℕ → Identifier
named n from to = record { name = name n; span = at from to }

-- `b`, `c` into `a`, `b`
known_and_new : merged (codes "a" ∷ codes "b" ∷ []) (codes "b" ∷ codes "c" ∷ []) ≡ codes "a" ∷ codes "b" ∷ codes "c" ∷ []
known_and_new = refl

known_and_new_numbers : merged_numbers (codes "a" ∷ codes "b" ∷ []) (codes "b" ∷ codes "c" ∷ []) ≡ name 1 ∷ name 2 ∷ []
known_and_new_numbers = refl

-- the same texts in another order
other_order : merged_numbers (codes "a" ∷ codes "b" ∷ []) (codes "b" ∷ codes "a" ∷ []) ≡ name 1 ∷ name 0 ∷ []
other_order = refl

nothing_into : merged (codes "a" ∷ []) [] ≡ codes "a" ∷ []
nothing_into = refl

into_nothing : merged_numbers [] (codes "a" ∷ codes "b" ∷ []) ≡ name 0 ∷ name 1 ∷ []
into_nothing = refl

-- `this.x = "s"` where `x` is 0 and `s` is 1
assigned : ℕ → ℕ → PlacedTree
assigned x s = PlacedAssign (PlacedField (PlacedThis (at 0 4)) (named x 5 6) (at 0 6)) Assign (PlacedLiteral (Str (name s)) (at 9 12)) (at 0 12)

names_and_strings : renumbered (name 7 ∷ name 3 ∷ []) (assigned 0 1) ≡ assigned 7 3
unfolding assigned
names_and_strings = refl

-- a number without an entry stays
without_entry : renumbered (name 7 ∷ []) (assigned 0 1) ≡ assigned 7 1
unfolding assigned
without_entry = refl

-- a literal's value is no name
value_stays : renumbered (name 7 ∷ []) (PlacedLiteral (Number 0) (at 0 1)) ≡ PlacedLiteral (Number 0) (at 0 1)
value_stays = refl

-- `a.b`
tokens_too : tokens_by (name 5 ∷ name 6 ∷ []) ((record { kind = Id (name 0); span = at 0 1 }) ∷ (record { kind = Dot; span = at 1 2 }) ∷ (record { kind = Id (name 1); span = at 2 3 }) ∷ []) ≡ (record { kind = Id (name 5); span = at 0 1 }) ∷ (record { kind = Dot; span = at 1 2 }) ∷ (record { kind = Id (name 6); span = at 2 3 }) ∷ []
tokens_too = refl
