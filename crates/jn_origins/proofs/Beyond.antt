-- After the last body nothing is least.
use Rattle.std.proofs.Common.{◌≡◌, ◌⊎◌, inl, inr, ⊎_elim, ℕ, zero, suc, ◌<◌, ◌≤◌, List, [], length, replicate, Option, Some, None, refl, sym, ap, ◌∙◌, subst, arith}
use Rattle.std.specs.Prelude.{slice_set, slice_index_or}
use Rattle.std.proofs.Math.ListN.{get_or-eq_default}
use Rattle.jn_quals.specs.Qualifier.{Qualifier}
use Rattle.jn_points.specs.declared.program.Body.{Body}
use Rattle.jn_points.specs.declared.program.Program.{Program}
use Rattle.jn_points.specs.Lookup.{points_of, body_at}
use Rattle.jn_env.specs.Order.{Table}
use Rattle.jn_transfer.specs.Transfer.{entry_env}
use Rattle.jn_transfer.specs.Least.{flow_all, all_edges, round, start_table, IsLeastTable}
use Rattle.jn_origins.proofs.Steps.{no_such}

before : (m n : ℕ) → (m < n) ⊎ (n ≤ m)
before m zero = inr (omega arith)
before zero (suc n) = inl (omega arith)
before (suc m) (suc n) = ⊎_elim (λ (h : m < n). inl (omega (arith, h))) (λ (h : n ≤ m). inr (omega (arith, h))) (before m n)

module _ (P : Program) (s : List Qualifier) (b : ℕ) where
  started : (o : Option Body) → body_at P b ≡ o → o ≡ None → [] ≡ start_table P s b
  started o is e = sym (ap (λ (q : Option Body). slice_set (replicate (length (points_of q)) None) 0 (Some (entry_env P s b))) (is ∙ e))

  settled : (o : Option Body) → body_at P b ≡ o → o ≡ None → round P s b [] ≡ []
  settled o is e = ap (λ (q : Option Body). flow_all (all_edges P s b (points_of q) 0 []) []) (is ∙ e)

  empty_least : body_at P b ≡ None → IsLeastTable P s b []
  empty_least e = record { turns = 0; made = started None e refl; stable = settled None e refl }

  module _ (tables : List Table) where
    -- the tables of the bodies are those of all numbers
    pub all_least : length tables ≡ length P.bodies → (b < length P.bodies → IsLeastTable P s b (slice_index_or tables b [])) → IsLeastTable P s b (slice_index_or tables b [])
    all_least long h = ⊎_elim h later (before b (length P.bodies))
      where
        later : length P.bodies ≤ b → IsLeastTable P s b (slice_index_or tables b [])
        later le =
            let past : length tables ≤ b = omega (arith, long, le) in
            subst (IsLeastTable P s b) (sym (get_or-eq_default tables [] past)) (empty_least (no_such P.bodies b le))
