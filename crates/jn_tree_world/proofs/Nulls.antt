-- What a comparison with null tells.
use Rattle.std.proofs.Common.{◌≡◌, ℕ, Bool, true, false, Option, Some, None, refl, sym, ap}
use Rattle.jn_base.specs.declared.place.Span.{Span}
use Rattle.jn_points.specs.declared.program.Program.{Program}
use Rattle.jn_heap.specs.Values.{Prim, Value, NullRef, Text, Plain, At, same}
use Rattle.jn_heap.specs.State.{prim_of}
use Rattle.jn_heap.specs.Steps.{is_within}
use Rattle.jn_meaning.specs.Worlds.{World, Has, Stops, NullAt, Senseless}
use Rattle.jn_meaning.specs.Operations.{is_instance, is_null_value}
use Rattle.jn_tree_world.specs.Outcomes.{passes}

pub same_null : (v : Value) (t : Bool) → t ≡ same v NullRef → t ≡ true → (span : Span) (w : World) → passes (Some v) span w ≡ Stops (NullAt span) w.out
same_null NullRef t e h span w = refl
same_null (Text s) t e h span w = absurd (cc)
same_null (Plain p) t e h span w = absurd (cc)
same_null (At o) t e h span w = absurd (cc)

pub other_null : (v : Value) (t : Bool) → t ≡ same v NullRef → t ≡ false → (span : Span) (w : World) → passes (Some v) span w ≡ Has tt w
other_null NullRef t e h span w = absurd (cc)
other_null (Text s) t e h span w = refl
other_null (Plain p) t e h span w = refl
other_null (At o) t e h span w = refl

pub null_told : (v : Value) (q : Option Prim) (t : Bool) → q ≡ prim_of (Some v) → q ≡ None → t ≡ same v NullRef → (w : World) → is_null_value (Some v) w ≡ Has t w
null_told NullRef q t p n e w = ap (λ b. Has b w) (sym e)
null_told (Text s) q t p n e w = ap (λ b. Has b w) (sym e)
null_told (Plain x) q t p n e w = absurd (cc)
null_told (At o) q t p n e w = ap (λ b. Has b w) (sym e)

pub not_reference : (v : Value) (q : Option Prim) (x : Prim) → q ≡ prim_of (Some v) → q ≡ Some x → (w : World) → is_null_value (Some v) w ≡ Stops Senseless w.out
not_reference NullRef q x p s w = absurd (cc)
not_reference (Text t) q x p s w = absurd (cc)
not_reference (Plain y) q x p s w = refl
not_reference (At o) q x p s w = absurd (cc)

pub within_told : (P : Program) (v : Value) (q : Option Prim) (t : Bool) (k : ℕ) (w : World) → q ≡ prim_of (Some v) → q ≡ None → t ≡ is_within P w.heap v k → is_instance P k (Some v) w ≡ Has t w
within_told P NullRef q t k w p n e = ap (λ b. Has b w) (sym e)
within_told P (Text s) q t k w p n e = ap (λ b. Has b w) (sym e)
within_told P (Plain x) q t k w p n e = absurd (cc)
within_told P (At o) q t k w p n e = ap (λ b. Has b w) (sym e)

pub no_instance : (P : Program) (v : Value) (q : Option Prim) (x : Prim) (k : ℕ) (w : World) → q ≡ prim_of (Some v) → q ≡ Some x → is_instance P k (Some v) w ≡ Stops Senseless w.out
no_instance P NullRef q x k w p s = absurd (cc)
no_instance P (Text t) q x k w p s = absurd (cc)
no_instance P (Plain y) q x k w p s = refl
no_instance P (At o) q x k w p s = absurd (cc)
