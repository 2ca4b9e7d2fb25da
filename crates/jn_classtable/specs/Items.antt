-- How much is declared. No number of a program without bodies passes this count.
use Rattle.std.specs.Prelude.{ℕ, ◌+◌, ◌-◌, ◌<◌, ◌^◌, List, [], ◌∷◌, length}
use Rattle.jn_heads.specs.declared.head.MethodHead.{MethodHead}
use Rattle.jn_heads.specs.declared.head.ClassHead.{ClassHead}

-- a method, its receiver, its parameters and its result
abbrev pub method_items : MethodHead → ℕ
method_items m = length m.params + 3

abbrev pub methods_items : List MethodHead → ℕ
methods_items [] = 0
methods_items (m ∷ ms) = method_items m + methods_items ms

-- a class, its fields and its methods
abbrev pub class_items : ClassHead → ℕ
class_items h = length h.fields + methods_items h.methods + 1

abbrev pub items : List ClassHead → ℕ
items [] = 0
items (h ∷ hs) = class_items h + items hs

-- numbers of 32 bits are enough, also with what Object and String add
abbrev pub IsSmall : List ClassHead → Type 0
IsSmall hs = items hs < 2 ^ 32 - 8
