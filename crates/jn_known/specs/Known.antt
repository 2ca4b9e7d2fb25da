-- Names that have a number before any file is read.
use Rattle.std.specs.Prelude.{ℕ, Bool, List, [], ◌∷◌, codes, ltb, not, ◌&&◌}

-- the names, each as the codes of its characters; a name's number is its position in this list
abbrev pub known_names : List (List ℕ)
known_names =
    codes "String" ∷ codes "System" ∷ codes "out" ∷ codes "println" ∷ codes "length" ∷ codes "main" ∷ codes "Object"
    ∷ codes "clone" ∷ codes "equals" ∷ codes "finalize" ∷ codes "getClass" ∷ codes "hashCode" ∷ codes "notify" ∷ codes "notifyAll" ∷ codes "toString" ∷ codes "wait"
    ∷ codes "isEmpty" ∷ codes "NonNull" ∷ codes "Nullable" ∷ codes "Initialized" ∷ codes "UnderInitialization" ∷ codes "UnknownInitialization"
    ∷ codes "Override" ∷ codes "org" ∷ codes "checkerframework" ∷ codes "MonotonicNonNull"
    ∷ codes "checker" ∷ codes "nullness" ∷ codes "qual" ∷ codes "initialization" ∷ []

-- their numbers

-- `String`, the name of class 1
abbrev pub string_name : ℕ
string_name = 0

-- `System`, known for `System.out.println(..)`; no declared type may have this name
abbrev pub system_name : ℕ
system_name = 1

-- `out`, the field in `System.out.println(..)`
abbrev pub out_name : ℕ
out_name = 2

-- `println`, the method of `System.out.println(..)`, with one argument
abbrev pub println_name : ℕ
println_name = 3

-- `length`, the length of an array (JLS 8, 10.7), and a method of String without arguments
abbrev pub length_name : ℕ
length_name = 4

-- `main`, the method that a program starts with (JLS 8, 12.1.4)
abbrev pub main_name : ℕ
main_name = 5

-- `Object`, the name of class 0, which is above all other classes (JLS 8, 4.3.2)
abbrev pub object_name : ℕ
object_name = 6

-- `equals`, a member of Object, and a method of String with one argument
abbrev pub equals_name : ℕ
equals_name = 8

-- `isEmpty`, a method of String without arguments
abbrev pub is_empty_name : ℕ
is_empty_name = 16

-- `@NonNull`: the value is never null (Checker Framework manual, 3)
abbrev pub non_null_name : ℕ
non_null_name = 17

-- `@Nullable`: the value may be null (Checker Framework manual, 3)
abbrev pub nullable_name : ℕ
nullable_name = 18

-- `@Initialized`: the object is fully initialized (Checker Framework manual, 3.8)
abbrev pub initialized_name : ℕ
initialized_name = 19

-- `@UnderInitialization`: the object is still being constructed (Checker Framework manual, 3.8)
abbrev pub under_name : ℕ
under_name = 20

-- `@UnknownInitialization`: the object may still be under construction, or not (Checker Framework manual, 3.8)
abbrev pub unknown_name : ℕ
unknown_name = 21

-- `@Override`, the annotation of a method that overrides another (JLS 8, 9.6.4.4)
abbrev pub override_name : ℕ
override_name = 22

-- `org`, the first word of the packages in which the annotations for nullness and initialization stand
abbrev pub org_name : ℕ
org_name = 23

-- `checkerframework`, the second word of those packages
abbrev pub checkerframework_name : ℕ
checkerframework_name = 24

-- `@MonotonicNonNull`: a field that may start null, and is never null again once it isn't (Checker Framework manual, 3)
abbrev pub monotonic_name : ℕ
monotonic_name = 25

-- `checker`, the third word of the annotations' packages
abbrev pub checker_name : ℕ
checker_name = 26

-- `nullness`, the fourth word of the package of the annotations for nullness
abbrev pub nullness_name : ℕ
nullness_name = 27

-- `qual`, the last word of the annotations' packages
abbrev pub qual_name : ℕ
qual_name = 28

-- `initialization`, the fourth word of the package of the annotations for initialization
abbrev pub initialization_name : ℕ
initialization_name = 29

-- the members of Object (JLS 4.3.2), from `clone` to `wait`
abbrev pub is_object_member : ℕ → Bool
is_object_member n = not (ltb n 7) && ltb n 16
