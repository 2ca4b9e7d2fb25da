-- Least tables and signatures as parts of a certificate.
use Rattle.std.proofs.Common.{◌≡◌, ℕ, zero, suc, ◌+◌, ◌<◌, ◌≤◌, List, [], ◌∷◌, ◌++◌, length, Option, inl, inr, refl, sym, ap, ◌∙◌, subst, arith, length-append}
use Rattle.std.specs.Prelude.{◌⊎◌, Contains, slice_index_or}
use Rattle.std.proofs.lemmas.Bool.{cases_lt}
use Rattle.jn_base.specs.declared.place.Row.{Row}
use Rattle.jn_quals.specs.Qualifier.{Qualifier}
use Rattle.jn_points.specs.declared.program.Program.{Program}
use Rattle.jn_sigs.specs.Signature.{start_signature}
use Rattle.jn_sigs.proofs.Starts.{length-starts_from}
use Rattle.jn_env.specs.Environment.{Env}
use Rattle.jn_transfer.specs.Least.{IsLeastTable}
use Rattle.jn_transfer.specs.Rules.{Breaks}
use Rattle.jn_inference_law.specs.Solution.{IsLeastSignature}
use Rattle.jn_system.specs.Rows.{AreBroken}
use Rattle.jn_cert_exists_law.proofs.Written.{length-within}
use Rattle.nullcheck_cert_check.proofs.Accepted.{none_ordered}
use Rattle.nullcheck_cert_write.specs.Making.{AreLeastTables, AreRuleRows}

-- a least signature has a qualifier for each slot
pub long_sig : (P : Program) (s : List Qualifier) → IsLeastSignature P s → length s ≡ length P.slots
long_sig P s least = length-within (start_signature P) s least.starts ∙ length-starts_from P 0 P.slots

no_member : (row : Row) → Contains [] row → ⊥
no_member row h = let below = h.1 in omega (arith, below)

-- no rows in order are no rows
pub none_broken : (P : Program) (s : List Qualifier) (rows : List Row) → rows ≡ [] → AreBroken P s rows → Breaks P s []
none_broken P s rows none broken = by broken.all (λ row h. (broken.ordered.same row).1 h) broken.broken
  where
    by : (all : List Row) → ((row : Row) → Contains all row → Contains rows row) → Breaks P s all → Breaks P s []
    by [] same breaks = breaks
    by (x ∷ all) same breaks = absurd (no_member x (subst (λ rs. Contains rs x) none (same x (0, omega arith, refl))))

-- ---- tables, one after the other

abbrev pub Tables : Type 0
Tables = List (List (Option Env))

-- those of the first bodies
pub record AreFirst (P : Program) (s : List Qualifier) (n : ℕ) (tables : Tables) : Type 0 where
  pub many : length tables ≡ n
  pub each : (b : ℕ) → b < n → IsLeastTable P s b (slice_index_or tables b [])

at_front : (ts : Tables) (t : List (Option Env)) (k : ℕ) → k < length ts → slice_index_or (ts ++ t ∷ []) k [] ≡ slice_index_or ts k []
at_front [] t k lt = absurd (omega (arith, lt))
at_front (x ∷ ts) t zero lt = refl
at_front (x ∷ ts) t (suc k) lt = at_front ts t k (omega (arith, lt))

at_end : (ts : Tables) (t : List (Option Env)) → slice_index_or (ts ++ t ∷ []) (length ts) [] ≡ t
at_end [] t = refl
at_end (x ∷ ts) t = at_end ts t

pub none_first : (P : Program) (s : List Qualifier) (tables : Tables) → tables ≡ [] → AreFirst P s 0 tables
none_first P s tables none = record { many = ap length none; each = λ b lt. absurd (omega (arith, lt)) }

-- and one more
pub one_more : (P : Program) (s : List Qualifier) (n : ℕ) (tables more : Tables) (t : List (Option Env)) → AreFirst P s n tables → IsLeastTable P s n t → more ≡ tables ++ t ∷ [] → AreFirst P s (n + 1) more
one_more P s n tables more t first least is = subst (AreFirst P s (n + 1)) (sym is) (record {
  many = length-append tables (t ∷ []) ∙ ap (λ k. k + 1) first.many;
  each = λ b lt. by b lt (cases_lt b n);
})
  where
    by : (b : ℕ) → b < n + 1 → (b < n) ⊎ (n ≤ b) → IsLeastTable P s b (slice_index_or (tables ++ t ∷ []) b [])
    by b lt (inl less) =
        let long = first.many in
        subst (IsLeastTable P s b) (sym (at_front tables t b (omega (arith, less, long)))) (first.each b less)
    by b lt (inr le) =
        let long = first.many in
        let here : length tables ≡ b = omega (arith, long, lt, le) in
        let same : n ≡ b = omega (arith, lt, le) in
        subst (λ k. IsLeastTable P s k (slice_index_or (tables ++ t ∷ []) k [])) here
        (subst (IsLeastTable P s (length tables)) (sym (at_end tables t)) (subst (λ k. IsLeastTable P s k t) (sym first.many) least))

pub all_tables : (P : Program) (s : List Qualifier) (n : ℕ) (tables : Tables) → n ≡ length P.bodies → AreFirst P s n tables → AreLeastTables P s tables
all_tables P s n tables end first = record {
  many = first.many ∙ end;
  each = λ b lt. first.each b (omega (arith, lt, end));
}

-- ---- no rows

pub no_rows : (P : Program) (s : List Qualifier) → IsLeastSignature P s → Breaks P s [] → AreRuleRows P []
no_rows P s least unbroken = record { signature = s; least = least; broken = record { all = []; broken = unbroken; ordered = none_ordered } }
