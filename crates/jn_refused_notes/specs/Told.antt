-- What is said beside a row J5: which of its causes it is, in words that end before a place.
use Rattle.std.specs.Prelude.{ℕ, List, codes}
use Rattle.jn_refused_notes.specs.declared.causes.Cause.{Cause}
use Rattle.jn_refused_notes.specs.declared.causes.Cause.TheVariants.{OtherAnnotation, OnPrimitive, OfInitialization, OfField, OfNullness, Doubled, InterfaceField, StaticField, ObjectMember, OtherEquals, OtherMember, OfReferences, OtherImport, OtherPackage}

-- what is of the subset there, and what stands in its place
abbrev pub cause_words : Cause → List ℕ
cause_words OtherAnnotation = codes "the six annotations of the checker, and `@Override` on a method, are of the subset: another one stands at"
cause_words OnPrimitive = codes "an `int` or a `boolean` takes none of the checker's annotations: one stands at"
cause_words OfInitialization = codes "a field or an element takes no annotation on initialization: one stands at"
cause_words OfField = codes "`@MonotonicNonNull` is for fields alone: it stands at"
cause_words OfNullness = codes "a receiver is never null, and takes no annotation on nullness: one stands at"
cause_words Doubled = codes "two annotations of one kind stand at one place: the other one stands at"
cause_words InterfaceField = codes "an interface has no fields in the subset: one is declared at"
cause_words StaticField = codes "a static field is an `int` or a `boolean`, without a value or with one literal: another one is declared at"
cause_words ObjectMember = codes "no member of `Object` is declared or called by its name: one is named at"
cause_words OtherEquals = codes "`equals` is called of a `String` alone, with one argument: it is named at"
cause_words OtherMember = codes "a `String` has `length()`, `isEmpty()` and `equals(e)`, and `System` has `System.out.println(e)`: another member is named at"
cause_words OfReferences = codes "an `Object` or a `String` is compared by `==` and `!=` with `null` alone: it is compared otherwise at"
cause_words OtherImport = codes "only what is under `org.checkerframework.` is imported: another import stands at"
cause_words OtherPackage = codes "all files are of one package: it is first named at"
