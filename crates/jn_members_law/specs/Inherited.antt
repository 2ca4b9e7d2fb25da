-- Methods that are members of classes and interfaces, as the Java Language Specification states it (JLS 8, 8.2, 8.4.8 and 9.4.1), for programs without packages and generics: a signature is a name and a number of parameters, and all but private members are accessible everywhere.
use Rattle.std.specs.Prelude.{ℕ, ◌≡◌, Bool, true, false, eqb, List, [], ◌∷◌, length, Some}
use Rattle.jn_points.specs.declared.program.Method.{Method}
use Rattle.jn_points.specs.declared.program.Program.{Program}
use Rattle.jn_points.specs.Lookup.{class_info, supers_of, interface_of, method_at}
use Rattle.jn_points.specs.Members.{some_of}
use Rattle.jn_points.specs.Regular.{RegularMethod, has_body}

-- two methods have one signature (8.4.2)
abbrev pub SameSignature : Method → Method → Type 0
SameSignature x y = (x.name.0 ≡ y.name.0) × (length x.params ≡ length y.params)

module _ (P : Program) where
  abbrev pub IsInterface : ℕ → Bool → Type 0
  IsInterface c b = interface_of (class_info P c) ≡ b

  -- d is the direct superclass or a direct superinterface of c (8.1.4, 8.1.5, 9.1.3)
  abbrev pub IsDirectSuper : ℕ → ℕ → Type 0
  IsDirectSuper c d = some_of (λ s. eqb s.0 d) (supers_of (class_info P c)) ≡ true

  -- d is a proper supertype of c (4.10.2), by the classes and interfaces between
  abbrev pub SuperBy : List ℕ → ℕ → ℕ → Type 0
  SuperBy [] c d = IsDirectSuper c d
  SuperBy (s ∷ ss) c d = IsDirectSuper c s × SuperBy ss s d

  pub record IsSupertype (c d : ℕ) : Type 0 where
    pub between : List ℕ
    pub by : SuperBy between c d

  -- class or interface c declares method m, which is x; constructors are no members (8.2, 8.8)
  pub record Declares (c m : ℕ) (x : Method) : Type 0 where
    pub there : method_at P m ≡ Some x
    pub method : x.ctor ≡ false
    pub owner : x.owner.0 ≡ c

  -- no declaration of c has the signature
  abbrev pub DeclaresNone : ℕ → Method → Type 0
  DeclaresNone c x = (k : ℕ) (y : Method) → Declares c k y → SameSignature y x → ⊥

  -- what c inherits from d: no private method, and none that a declaration of c overrides or hides (8.4.8)
  pub record Inherits (c d : ℕ) (x : Method) : Type 0 where
    pub from : IsDirectSuper c d
    pub open_to_all : x.is_private ≡ false
    pub kept : DeclaresNone c x

  -- the classes and interfaces from which c inherits method m, down to the one that declares it
  abbrev pub MemberBy : List ℕ → ℕ → ℕ → Method → Type 0
  MemberBy [] c m x = Declares c m x
  MemberBy (d ∷ ds) c m x = Inherits c d x × MemberBy ds d m x

  -- method m, which is x, is a member of c: c declares or inherits it (8.2)
  pub record IsMember (c m : ℕ) (x : Method) : Type 0 where
    pub from : List ℕ
    pub by : MemberBy from c m x

  -- a declaration that overrides or hides what isn't private isn't private itself (8.4.8.3)
  abbrev pub KeepsAccess : Type 0
  KeepsAccess = (c d m k : ℕ) (x y : Method) → IsDirectSuper c d → IsMember d m x → Declares c k y → SameSignature y x → y.is_private ≡ true → x.is_private ≡ true

  -- the methods of interfaces are abstract (9.4, without default and static methods)
  abbrev pub AbstractInterfaces : Type 0
  AbstractInterfaces = (m : ℕ) (x : Method) → method_at P m ≡ Some x → IsInterface x.owner.0 true → has_body x.body ≡ false

  -- each method has what a regular program's has: one of a name and arity in a class, and none in Object but constructors
  abbrev pub RegularMethods : Type 0
  RegularMethods = (m : ℕ) (x : Method) → method_at P m ≡ Some x → RegularMethod P m x
