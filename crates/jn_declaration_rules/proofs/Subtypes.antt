-- Supertypes as edges between numbers.
use Rattle.std.proofs.Common.{◌≡◌, ℕ, zero, suc, ◌||◌, List, map, refl, sym, ap, ◌∙◌, eqb}
use Rattle.std.specs.Prelude.{slice_get}
use Rattle.jn_base.specs.declared.number.ClassNo.{ClassNo}
use Rattle.jn_points.specs.declared.program.Class.{Class}
use Rattle.jn_points.specs.declared.program.Program.{Program}
use Rattle.jn_points.specs.Lookup.{supers_of, class_info}
use Rattle.jn_points.specs.Members.{reaches}
use Rattle.jn_declaration_rules.specs.Rows.{reach}
use Rattle.jn_declaration_rules.proofs.Lists.{some_map, some_same}

abbrev pub supers_in : List Class → ℕ → List ℕ
supers_in cs c = map (λ (s : ClassNo). s.0) (supers_of (slice_get cs c))

pub reaches_by_edges : (P : Program) (n c d : ℕ) → reaches P n c d ≡ reach (supers_in P.classes) n c d
reaches_by_edges P zero c d = refl
reaches_by_edges P (suc n) c d =
    ap (λ b. eqb c d || b) (some_same (λ (s : ClassNo). reaches P n s.0 d) (λ s. reach (supers_in P.classes) n s.0 d) (supers_of (class_info P c)) (λ s. reaches_by_edges P n s.0 d)
    ∙ sym (some_map (λ s. reach (supers_in P.classes) n s d) (λ (s : ClassNo). s.0) (supers_of (class_info P c))))
