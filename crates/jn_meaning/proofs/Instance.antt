-- The law's premises are met: by the program that prints 10.
use Rattle.std.proofs.Common.{◌≡◌, ◌≢◌, ℕ, zero, suc, true, false, not, inr, List, [], ◌∷◌, Some, refl, sym, subst, arith}
use Rattle.std.specs.Prelude.{slice_get}
use Rattle.jn_trees.specs.declared.expression.Base.TheVariants.{Class as ClassUse}
use Rattle.jn_places.specs.Placed.{NoPlacedStatements}
use Rattle.jn_points.specs.declared.program.Program.{Program}
use Rattle.jn_points.specs.Lookup.{body_at, body_of, method_at, static_of}
use Rattle.jn_lowering.specs.Bodies.{Source, body_of_source, local_count, with_bodies}
use Rattle.jn_heap.specs.Values.{Done, usual_limits}
use Rattle.jn_heap.specs.State.{Next, State, Ends, Goes, Stuck}
use Rattle.jn_heap.specs.Runs.{run, start_state}
use Rattle.jn_meaning.proofs.Valuing.{AllValuing, BodyValued}
use Rattle.jn_lowering.specs.BodyRows.{rows_of_bodies}
use Rattle.jn_meaning.specs.Agreement.{Agrees, Sourced}
use Rattle.jn_meaning.specs.Fitting.{AllFitting, BodyFit}
use Rattle.jn_meaning.proofs.Agreeing.{agrees, never_sticks_where_it_ends}
use Rattle.jn_meaning.proofs.Rows.{at, heads, id, order, with_main}

abbrev sources : List Source
sources = with_main order

abbrev program : Program
program = with_bodies heads sources

abbrev first_source : Source
first_source = record { method = 0; parameters = []; body = NoPlacedStatements; members = [] }

abbrev main_source : Source
main_source = record { method = 1; parameters = record { marks = []; type_use = record { base = ClassUse (id 0 0 0); array = Some []; span = at 0 0 }; name = id 27 30 34 } ∷ []; body = order; members = [] }

same_number : (n b : ℕ) → Some n ≡ Some b → n ≡ b
same_number n b e = cc

same_source : (s t : Source) → Some s ≡ Some t → s ≡ t
same_source s t e = cc

abbrev HasSource : ℕ → ℕ → Type 0
HasSource m b = (s : Source) × (slice_get sources b ≡ Some s) × (s.method ≡ m) × (body_at program b ≡ Some (body_of_source program s))

-- the bodies are those of the sources, lowered in the program itself
sourced : Sourced program sources
sourced = record { each = by }
  where
    by : (m b : ℕ) → body_of (method_at program m) ≡ Some b → HasSource m b
    by zero b e = subst (HasSource 0) (same_number 0 b e) (first_source, refl, refl, refl)
    by (suc zero) b e = subst (HasSource 1) (same_number 1 b e) (main_source, refl, refl, refl)
    by (suc (suc m)) b e = cc

abbrev FitsAs : Source → Type 0
FitsAs s = BodyFit program (local_count program s.method s.body) (not (static_of (method_at program s.method))) s.method s.parameters s.body s.members

no_this : (a b : ℕ) → false ≡ true → a ≢ b
no_this a b e = cc

first_fits : FitsAs first_source
first_fits = ((tt, λ e. tt), tt)

main_fits : FitsAs main_source
main_fits = (tt, ((((omega arith, no_this 1 0), tt), tt), (inr (tt, (((omega arith, no_this 1 0), ((((omega arith, no_this 1 0), tt), tt), (omega arith, no_this 1 0))), tt)), tt)))

fits : AllFitting program sources
fits m b s has there = by m has
  where
    by : (m : ℕ) → body_of (method_at program m) ≡ Some b → FitsAs s
    by zero e = subst FitsAs (same_source first_source s (subst (λ b. slice_get sources b ≡ Some s) (sym (same_number 0 b e)) there)) first_fits
    by (suc zero) e = subst FitsAs (same_source main_source s (subst (λ b. slice_get sources b ≡ Some s) (sym (same_number 1 b e)) there)) main_fits
    by (suc (suc m)) e = cc

abbrev start : State
start = start_state program usual_limits 1 []

-- the state in which a run is
abbrev state_of : Next → State
state_of (Goes u) = u
state_of (Ends e u) = u
state_of Stuck = start

abbrev last : State
last = state_of (run program [] (Goes start) 9)

-- nine points, the last of which returns
done : run program [] (Goes start) 9 ≡ Ends Done last
done = refl

-- so the trees and the run agree on this main
agreed : Agrees program [] sources 1 1 usual_limits []
agreed = agrees program sources [] 1 1 usual_limits [] refl (omega arith) sourced fits (never_sticks_where_it_ends program [] start last Done 9 done)

-- and its trees have no row, and a value where one is asked for

no_rows : rows_of_bodies program sources ≡ []
no_rows = refl

valued : AllValuing program sources
valued m b s body there = by b there
  where
    HasValues : Source → Type 0
    HasValues s = BodyValued program s.method s.parameters s.body s.members

    by : (b : ℕ) → slice_get sources b ≡ Some s → HasValues s
    by zero e = subst HasValues (same_source first_source s e) ((tt, λ e. tt), tt)
    by (suc zero) e = subst HasValues (same_source main_source s e) (tt, ((tt, tt), (inr (refl, ((tt, ((tt, tt), tt)), tt)), tt)))
    by (suc (suc b)) e = cc
