-- The method that a virtual call invokes (JLS 8, 15.12.4.4).
use Rattle.std.specs.Prelude.{ℕ, ◌≡◌, true, List, [], ◌∷◌}
use Rattle.jn_points.specs.declared.program.Method.{Method}
use Rattle.jn_points.specs.declared.program.Program.{Program}
use Rattle.jn_points.specs.Regular.{has_body, IsParent}
use Rattle.jn_members_law.specs.Inherited.{SameSignature, Declares}

module _ (P : Program) (s : ℕ) (named : Method) where
  -- class c declares a method k that isn't abstract, of the signature of the one named; one that is private counts at the receiver's class s alone
  pub record Runs (c k : ℕ) (x : Method) : Type 0 where
    pub declared : Declares P c k x
    pub same : SameSignature x named
    pub body : has_body x.body ≡ true
    pub own : x.is_private ≡ true → c ≡ s

  -- the search goes from class c to its superclass until one declares such a method
  abbrev pub InvokedBy : List ℕ → ℕ → ℕ → Method → Type 0
  InvokedBy [] c k x = Runs c k x
  InvokedBy (p ∷ ps) c k x = ((j : ℕ) (y : Method) → Runs c j y → ⊥) × IsParent P c p × InvokedBy ps p k x

  -- for an object of class s, method k is invoked for the one named
  pub record IsInvoked (k : ℕ) (x : Method) : Type 0 where
    pub past : List ℕ
    pub search : InvokedBy past s k x
