-- Fields that are members of classes and interfaces, as the Java Language Specification states it (JLS 8, 8.2 and 8.3), for programs without packages: all but private members are accessible everywhere.
use Rattle.std.specs.Prelude.{ℕ, ◌≡◌, false, List, [], ◌∷◌, Some}
use Rattle.jn_points.specs.declared.program.Field.{Field}
use Rattle.jn_points.specs.declared.program.Program.{Program}
use Rattle.jn_points.specs.Lookup.{field_info}
use Rattle.jn_points.specs.Regular.{RegularField}
use Rattle.jn_members_law.specs.Inherited.{IsDirectSuper}

module _ (P : Program) where
  -- class or interface c declares field f, which is x (8.3, 9.3)
  pub record DeclaresField (c f : ℕ) (x : Field) : Type 0 where
    pub there : field_info P f ≡ Some x
    pub owner : x.owner.0 ≡ c

  -- no declaration of c has the field's name
  abbrev pub DeclaresNoField : ℕ → Field → Type 0
  DeclaresNoField c x = (g : ℕ) (y : Field) → DeclaresField c g y → y.name.0 ≡ x.name.0 → ⊥

  -- what c inherits from d: no private field, and none that a declaration of c hides (8.3)
  pub record InheritsField (c d : ℕ) (x : Field) : Type 0 where
    pub from : IsDirectSuper P c d
    pub open_to_all : x.is_private ≡ false
    pub kept : DeclaresNoField c x

  -- the classes and interfaces from which c inherits field f, down to the one that declares it
  abbrev pub FieldBy : List ℕ → ℕ → ℕ → Field → Type 0
  FieldBy [] c f x = DeclaresField c f x
  FieldBy (d ∷ ds) c f x = InheritsField c d x × FieldBy ds d f x

  -- field f, which is x, is a member of c: c declares or inherits it (8.2)
  pub record IsFieldMember (c f : ℕ) (x : Field) : Type 0 where
    pub from : List ℕ
    pub by : FieldBy from c f x

  -- each field has what a regular program's has: a class that declares it, and no other field of its name along that class's supertypes
  abbrev pub RegularFields : Type 0
  RegularFields = (f : ℕ) (x : Field) → field_info P f ≡ Some x → RegularField P f x
