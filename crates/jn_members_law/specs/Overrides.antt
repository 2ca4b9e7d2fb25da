-- Overriding (JLS 8, 8.4.8.1 and 9.4.1.1).
use Rattle.std.specs.Prelude.{ℕ, ◌≡◌, true, false}
use Rattle.jn_points.specs.declared.program.Method.{Method}
use Rattle.jn_points.specs.declared.program.Program.{Program}
use Rattle.jn_members_law.specs.Inherited.{SameSignature, IsInterface, IsSupertype, Declares, IsMember}

module _ (P : Program) where
  -- method m, which is x, overrides from class c another method k, which is y: c declares or inherits the one, and a superclass or superinterface of c declares the other, which is neither static nor private; c doesn't inherit the method of a superclass (8.4.8.1)
  pub record OverridesFrom (c m k : ℕ) (x y : Method) : Type 0 where
    pub class : IsInterface P c false
    pub member : IsMember P c m x
    pub instance : x.is_static ≡ false
    pub above : IsSupertype P c y.owner.0
    pub declared : Declares P y.owner.0 k y
    pub same : SameSignature x y
    pub other : m ≡ k → ⊥
    pub not_static : y.is_static ≡ false
    pub not_private : y.is_private ≡ false
    pub not_inherited : IsInterface P y.owner.0 false → IsMember P c k y → ⊥

  -- a method that an interface declares overrides from it the one of a superinterface (9.4.1.1)
  pub record OverridesThere (m k : ℕ) (x y : Method) : Type 0 where
    pub interface : IsInterface P x.owner.0 true
    pub declared : Declares P x.owner.0 m x
    pub above : IsSupertype P x.owner.0 y.owner.0
    pub above_interface : IsInterface P y.owner.0 true
    pub declared_above : Declares P y.owner.0 k y
    pub same : SameSignature x y
