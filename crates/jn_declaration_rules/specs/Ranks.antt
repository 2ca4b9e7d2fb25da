-- Ranks of classes, marks of what reaches a class, and labels of classes that reach each other.
use Rattle.std.specs.Prelude.{ℕ, suc, ◌≡◌, Bool, true, false, not, eqb, ltb, ◌||◌, List, length, slice_index, slice_index_or}
use Rattle.jn_base.specs.declared.number.ClassNo.{ClassNo}
use Rattle.jn_points.specs.declared.program.Class.{Class}
use Rattle.jn_points.specs.declared.program.Program.{Program}
use Rattle.jn_points.specs.Lookup.{class_info, supers_of}
use Rattle.jn_points.specs.Members.{some_of, reaches}
use Rattle.jn_declaration_rules.specs.Rows.{some_at}

-- some supertype's rank isn't below the class's
abbrev pub rises : List ℕ → ℕ → List ClassNo → Bool
rises ranks c supers = some_of (λ (s : ClassNo). not (ltb (slice_index ranks s.0) (slice_index ranks c))) supers

abbrev pub some_rises : List ℕ → Program → Bool
some_rises ranks P = some_at (λ c (x : Class). rises ranks c x.supers) 0 P.classes

abbrev pub mark_at : List Bool → ℕ → Bool
mark_at marks v = slice_index_or marks v false

-- exactly what reaches the class in so many steps is marked
abbrev pub MarksReaching : Program → ℕ → ℕ → List Bool → Type 0
MarksReaching P steps target marks = (v : ℕ) → mark_at marks v ≡ reaches P steps v target

-- the class is among the supertypes that are named
abbrev pub names_one : ℕ → List ClassNo → Bool
names_one s xs = some_of (λ (t : ClassNo). eqb t.0 s) xs

abbrev pub names_super : Program → ℕ → ℕ → Bool
names_super P c s = names_one s (supers_of (class_info P c))

-- some supertype isn't there, or its rank is above the class's
abbrev pub climbs : List ℕ → ℕ → ℕ → List ClassNo → Bool
climbs ranks count c supers = some_of (λ (s : ClassNo). not (ltb s.0 count) || ltb (slice_index ranks c) (slice_index ranks s.0)) supers

abbrev pub some_climbs : List ℕ → Program → Bool
some_climbs ranks P = some_at (λ c (x : Class). climbs ranks (length P.classes) c x.supers) 0 P.classes

-- by some number of steps class d is reached from class c
abbrev pub Reaches : Program → ℕ → ℕ → Type 0
Reaches P c d = (steps : ℕ) × (reaches P steps c d ≡ true)

-- each class reaches the class of its label, which is one less than the label; 0 is no label
abbrev pub AreBelow : Program → List ℕ → Type 0
AreBelow P labels = (v r : ℕ) → slice_index labels v ≡ suc r → Reaches P v r

-- each class is reached from the class of its label
abbrev pub AreAbove : Program → List ℕ → Type 0
AreAbove P labels = (v r : ℕ) → slice_index labels v ≡ suc r → Reaches P r v

-- some supertype has the label
abbrev pub some_labelled : List ℕ → ℕ → List ClassNo → Bool
some_labelled labels label supers = some_of (λ (s : ClassNo). eqb (slice_index labels s.0) label) supers
