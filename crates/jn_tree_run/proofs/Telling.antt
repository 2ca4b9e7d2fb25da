-- What the answer of a main's body tells of its run, and that it always has a meaning.
use Rattle.std.proofs.Common.{◌≡◌, ℕ, List, [], Ok, Err, sym, ap, subst}
use Rattle.std.specs.Prelude.{Option, Result as Answer, IfOk}
use Rattle.jn_accept.specs.Mains.{IsMain}
use Rattle.jn_base.specs.declared.infer.Infer.{Infer}
use Rattle.jn_heap.specs.Values.{Limits, Value}
use Rattle.jn_meaning.specs.Bodies.{Stuck, told, tree}
use Rattle.jn_meaning.specs.Worlds.{Result, World}
use Rattle.jn_meaning_law.specs.Safety.{NeverStuckByTrees}
use Rattle.jn_places.specs.Placed.{PlacedFile}
use Rattle.jn_points.specs.BaseRows.{NoBaseRows}
use Rattle.jn_points.specs.Regular.{Regular}
use Rattle.jn_points.specs.declared.program.Program.{Program}
use Rattle.jn_program_law.specs.FileProgram.{inferring, rows_of_files}
use Rattle.jn_program_law.specs.FileSources.{sources}
use Rattle.jn_tree_world.specs.declared.halt.Halt.{Halt}
use Rattle.jn_tree_world.specs.declared.halt.Halt.TheVariants.{Faulted, NullAt, FuelOut, TooDeep, Senseless, OutOfMemory}
use Rattle.jn_tree_world.specs.Outcomes.{IsStop, Means}
use Rattle.jn_tree_run.specs.Beginning.{HasTrees}
use Rattle.jn_tree_run.specs.Ends.{EndsAs, IsEndOf}

stop_ends : (r : Result (Option Value)) (h : Halt) (out : List ℕ) → IsStop h r out → IsEndOf h (told r).end
stop_ends r (Faulted e span) out is = ap (λ q. (told q).end) is
stop_ends r (NullAt span) out is = ap (λ q. (told q).end) is
stop_ends r FuelOut out is = ap (λ q. (told q).end) is
stop_ends r TooDeep out is = ap (λ q. (told q).end) is
stop_ends r Senseless out is = ap (λ q. (told q).end) is
stop_ends r OutOfMemory out is = tt

pub ends_as : (r : Result (Option Value)) (a : Answer (Option Value) Halt) (w : World) → Means r a w → EndsAs a (told r).end
ends_as r (Ok v) w is = ap (λ q. (told q).end) is
ends_as r (Err h) w is = stop_ends r h w.out is

-- what follows of what an answer has, where it isn't an error
pub ok_then : {A E : Type 0} (r : Answer A E) (P Q : A → Type 0) → ((x : A) → P x → Q x) → IfOk r P → IfOk r Q
ok_then (Ok x) P Q f h = f x h
ok_then (Err e) P Q f h = tt

-- the trees of base-typed files have a meaning
abbrev pub MeansAlways : Type 0
MeansAlways = (infer : Infer) (files : List PlacedFile) → rows_of_files files ≡ [] → Regular (inferring infer files) → NoBaseRows (inferring infer files) → NeverStuckByTrees (inferring infer files) (sources files)

pub never_stuck : MeansAlways → (files : List PlacedFile) (P : Program) → HasTrees files P → Regular P → NoBaseRows P → (m : ℕ) → IsMain P m → (names : List (List ℕ)) (limits : Limits) (words : List (List ℕ)) (n : ℕ) → (tree P (sources files) names limits m words n).end ≡ Stuck → ⊥
never_stuck law files P has = subst (λ (Q : Program). Regular Q → NoBaseRows Q → (m : ℕ) → IsMain Q m → (names : List (List ℕ)) (limits : Limits) (words : List (List ℕ)) (n : ℕ) → (tree Q (sources files) names limits m words n).end ≡ Stuck → ⊥) (sym has.program) (λ regular typed m main names limits words n. law has.infer files has.rows regular typed m main.0 main.1 names limits words n)
