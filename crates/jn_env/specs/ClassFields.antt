-- The reference fields of classes, which the keys of constructors are.
use Rattle.std.specs.Prelude.{ℕ, ◌≡◌, ◌<◌, Bool, ◌&&◌, eqb, List, [], length, filter, slice_index_or}
use Rattle.jn_points.specs.declared.program.Program.{Program}
use Rattle.jn_points.specs.Lookup.{owner, ref_field}
use Rattle.jn_points.specs.Members.{below}

module _ (P : Program) where
  -- f is a reference field of class c
  abbrev pub is_field_of : ℕ → ℕ → Bool
  is_field_of c f = eqb (owner P f) c && ref_field P f

  -- the reference fields of a class, by rising numbers
  abbrev pub class_fields : ℕ → List ℕ
  class_fields c = filter (is_field_of c) (below (length P.fields))

-- the lists are those of the reference fields of each class
pub record AreOwnFields (P : Program) (lists : List (List ℕ)) : Type 0 where
  pub long : length lists ≡ length P.classes
  pub own : (c : ℕ) → c < length P.classes → slice_index_or lists c [] ≡ class_fields P c
