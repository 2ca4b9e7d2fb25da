-- A program is safe by the meaning of its trees: it never comes to a null, and never to what has no meaning.
use Rattle.std.specs.Prelude.{ℕ, ◌≡◌, List}
use Rattle.jn_base.specs.declared.place.Span.{Span}
use Rattle.jn_points.specs.declared.program.Program.{Program}
use Rattle.jn_lowering.specs.Bodies.{Source}
use Rattle.jn_heap.specs.Values.{Limits}
use Rattle.jn_heap.specs.Runs.{MainForm}
use Rattle.jn_meaning.specs.Bodies.{Null, Stuck, tree}

-- no main, with any texts of strings, within any limits, with any words and any fuel, dereferences null
abbrev pub NeverNullByTrees : Program → List Source → Type 0
NeverNullByTrees P sources = (m b : ℕ) → MainForm P m b → (names : List (List ℕ)) (limits : Limits) (words : List (List ℕ)) (n : ℕ) (span : Span) → (tree P sources names limits m words n).end ≡ Null span → ⊥

-- nor comes to what has no meaning
abbrev pub NeverStuckByTrees : Program → List Source → Type 0
NeverStuckByTrees P sources = (m b : ℕ) → MainForm P m b → (names : List (List ℕ)) (limits : Limits) (words : List (List ℕ)) (n : ℕ) → (tree P sources names limits m words n).end ≡ Stuck → ⊥
