-- Runs, a step more, and after their end.
use Rattle.std.proofs.Common.{◌≡◌, ℕ, zero, suc, ◌+◌, ◌-◌, ◌<◌, List, ap, ◌∙◌, arith, add-one, add-zero, add-suc}
use Rattle.jn_points.specs.declared.program.Program.{Program}
use Rattle.jn_heap.specs.Values.{End}
use Rattle.jn_heap.specs.State.{State, Next, Goes, Ends, Stuck}
use Rattle.jn_heap.specs.Runs.{step, then_step, run}

pub run_more : (P : Program) (names : List (List ℕ)) (start next : Next) (n : ℕ) (st : State) → run P names start n ≡ Goes st → step P names st ≡ next → run P names start (n + 1) ≡ next
run_more P names start next n st goes does = rw add-one (ap (then_step P names) goes ∙ does)

pub stays_ended : (P : Program) (names : List (List ℕ)) (start : Next) (e : End) (last : State) (n more : ℕ) → run P names start n ≡ Ends e last → run P names start (n + more) ≡ Ends e last
stays_ended P names start e last n zero h = rw add-zero h
stays_ended P names start e last n (suc more) h = rw add-suc (ap (then_step P names) (stays_ended P names start e last n more h))

pub stays_stuck : (P : Program) (names : List (List ℕ)) (start : Next) (n more : ℕ) → run P names start n ≡ Stuck → run P names start (n + more) ≡ Stuck
stays_stuck P names start n zero h = rw add-zero h
stays_stuck P names start n (suc more) h = rw add-suc (ap (then_step P names) (stays_stuck P names start n more h))

-- a step that ends the run, among so many
pub ends_within : (P : Program) (names : List (List ℕ)) (start : Next) (e : End) (last : State) (n all : ℕ) (st : State) → n < all → run P names start n ≡ Goes st → step P names st ≡ Ends e last → run P names start all ≡ Ends e last
ends_within P names start e last n all st lt goes ends = let k : all ≡ (n + 1) + (all - (n + 1)) = omega arith in rw k (stays_ended P names start e last (n + 1) (all - (n + 1)) (run_more P names start (Ends e last) n st goes ends))

pub sticks_within : (P : Program) (names : List (List ℕ)) (start : Next) (n all : ℕ) (st : State) → n < all → run P names start n ≡ Goes st → step P names st ≡ Stuck → run P names start all ≡ Stuck
sticks_within P names start n all st lt goes stuck = let k : all ≡ (n + 1) + (all - (n + 1)) = omega arith in rw k (stays_stuck P names start (n + 1) (all - (n + 1)) (run_more P names start Stuck n st goes stuck))
