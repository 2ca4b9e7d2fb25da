-- What statements do where they stand, that have no others in them.
use Rattle.std.specs.Prelude.{ℕ, ◌+◌, Bool, ◌≡◌, List, Option}
use Rattle.jn_places.specs.Placed.{PlacedTree, PlacedTrees, PlacedLocal, PlacedInit}
use Rattle.jn_heap.specs.Values.{Value, usual_limits}
use Rattle.jn_meaning.specs.Worlds.{Result, World}
use Rattle.jn_meaning.specs.Expressions.{Caller}
use Rattle.jn_meaning.specs.Statements as spec
use Rattle.jn_meaning.specs.Statements.{Standing}
use Rattle.jn_base.specs.declared.place.Span.{Span}
use Rattle.jn_tree_simple.specs.declared.each.Hidden.{Hidden}
use Rattle.jn_tree_simple.specs.declared.standing.Site.{Site}

module _ (b : Site) (names : List (List ℕ)) (m : Caller) (turns : ℕ) where
  abbrev pub value_at : Standing → PlacedTree → World → Result (Option Value)
  value_at st e = spec.value_in b.program.now names usual_limits.longest m turns b.class.0 st e

  abbrev pub holds_at : Standing → PlacedTree → World → Result Bool
  holds_at st e = spec.holds_in b.program.now names usual_limits.longest m turns b.class.0 st e

  abbrev pub effects_at : Standing → PlacedTrees → World → Result spec.Flow
  effects_at st es = spec.effects b.program.now names usual_limits.longest m turns b.class.0 st es

  abbrev pub declares_at : Standing → PlacedLocal → World → Result spec.Flow
  declares_at st l = spec.declaration b.program.now names usual_limits.longest m turns b.class.0 st l

  abbrev pub begins_at : Standing → PlacedInit → World → Result spec.Flow
  begins_at st l = spec.begun b.program.now names usual_limits.longest m turns b.class.0 st l

  -- the parts of a `for` over an array whose three locals begin at r
  abbrev pub each_holds : Span → ℕ → World → Result Bool
  each_holds at r = spec.each_test b.program.now names usual_limits.longest m turns b.class.0 at r

  abbrev pub each_takes : Span → ℕ → World → Result (Option Value)
  each_takes at r = spec.each_element b.program.now names usual_limits.longest m turns b.class.0 at r

  abbrev pub each_moves : Span → ℕ → World → Result (Option Value)
  each_moves at r = spec.each_next b.program.now names usual_limits.longest m turns b.class.0 at r

-- three locals in a row
pub record IsHidden (h : Hidden) (r : ℕ) : Type 0 where
  pub array : h.array.0 ≡ r
  pub index : h.index.0 ≡ r + 1
  pub item : h.item.0 ≡ r + 2
