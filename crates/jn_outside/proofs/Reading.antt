-- One read after another.
use Rattle.std.proofs.Common.{◌≡◌, ℕ, ◌+◌, ◌≤◌, ◌++◌, List, length, Option, Some, None, take, drop, ap, ◌∙◌, append_assoc, arith, length-append}
use Rattle.std.proofs.lemmas.List.{take-append-drop, length-take}
use Rattle.jn_outside.specs.Files.{Holding, TakesNext, Reads, LeftOf, HasRead, HasReadAtMost}

left_more : (whole : Option (List ℕ)) (front old : List ℕ) (new : Option (List ℕ)) (n : ℕ) (buf : List ℕ) → TakesNext old new n buf → LeftOf whole front (Some old) → LeftOf whole (front ++ take n old) new
left_more None front old new n buf t h = h
left_more (Some bytes) front old None n buf t h = let e = t.rest in cc
left_more (Some bytes) front old (Some new) n buf t h =
    let e : new ≡ drop n old = let r = t.rest in cc in
    append_assoc front (take n old) new ∙ ap (λ x. front ++ (take n old ++ x)) e ∙ ap (λ x. front ++ x) (take-append-drop n old) ∙ h

few_more : (whole : Option (List ℕ)) (front : List ℕ) (old new : Option (List ℕ)) (n room : ℕ) (buf : List ℕ) → n ≤ room → Reads old new n buf → LeftOf whole front old → (more : List ℕ) × (length more ≤ length front + room) × LeftOf whole more new
few_more None front old new n room buf le t h = absurd h
few_more (Some bytes) front None new n room buf le t h = absurd h
few_more (Some bytes) front (Some old) new n room buf le t h =
    (front ++ take n old, omega (arith, length-append front (take n old), length-take n old, t.within, le), left_more (Some bytes) front old new n buf t h)

-- a read of at most `room` bytes
pub reads_at_most : (held : Option Holding) (name front : List ℕ) (old new : Option (List ℕ)) (n room : ℕ) (buf : List ℕ) → n ≤ room → Reads old new n buf → HasRead held name front old → HasReadAtMost held name (length front + room) new
reads_at_most None name front old new n room buf le t h = record { front = front; few = omega arith; read = tt }
reads_at_most (Some held) name front old new n room buf le t h =
    let k = few_more (held name) front old new n room buf le t h in
    record { front = k.0; few = k.1; read = k.2 }
