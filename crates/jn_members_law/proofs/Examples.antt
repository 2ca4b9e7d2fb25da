-- The relations and the definitions on the example.
use Rattle.std.proofs.Common.{◌≡◌, ℕ, true, false, List, [], ◌∷◌, Some, None, refl, arith}
use Rattle.jn_points.specs.declared.program.Field.{Field}
use Rattle.jn_points.specs.declared.program.Method.{Method}
use Rattle.jn_points.specs.Lookup.{field_info, method_at}
use Rattle.jn_points.specs.Members.{method_of, field_of, dispatch, is_pair}
use Rattle.jn_points.specs.Regular.{IsConcrete}
use Rattle.jn_points.specs.Shaped.{IsVirtual}
use Rattle.jn_members_law.specs.Inherited.{MemberBy, Declares, IsMember}
use Rattle.jn_members_law.specs.InheritedFields.{IsFieldMember}
use Rattle.jn_members_law.specs.Overrides.{OverridesFrom, OverridesThere}
use Rattle.jn_members_law.specs.Invoked.{IsInvoked}
use Rattle.jn_members_law.specs.Example.{b_class, x_of_a, f_of_i, f_of_j, f_of_a, f_of_c, example}
use Rattle.jn_members_law.proofs.ExampleLists.{each_at}

private_not : false ≡ true → ⊥
private_not h = cc

-- nothing is declared in B
none_in_b : (k : ℕ) (y : Method) → method_at example k ≡ Some y → y.owner.0 ≡ 5 → ⊥
none_in_b = each_at (λ k y. y.owner.0 ≡ 5 → ⊥) example.methods (λ e. omega (e, arith), (λ e. omega (e, arith), (λ e. omega (e, arith), (λ e. omega (e, arith), (λ e. omega (e, arith), tt)))))

no_field_in_b : (g : ℕ) (y : Field) → field_info example g ≡ Some y → y.owner.0 ≡ 5 → ⊥
no_field_in_b = each_at (λ g y. y.owner.0 ≡ 5 → ⊥) example.fields (λ e. omega (e, arith), (λ e. omega (e, arith), tt))

-- B inherits f of A, and not the private g
pub b_has_f : IsMember example 5 2 f_of_a
b_has_f = record {
  from = 4 ∷ [];
  by = (record { from = refl; open_to_all = refl; kept = λ k y d same. none_in_b k y d.there d.owner }, record { there = refl; method = refl; owner = refl });
}

b_finds_no_g : method_of example 5 11 0 ≡ None
b_finds_no_g = refl

a_finds_g : method_of example 4 11 0 ≡ Some 3
a_finds_g = refl

-- B inherits x of A, and not the private y
pub b_has_x : IsFieldMember example 5 0 x_of_a
b_has_x = record {
  from = 4 ∷ [];
  by = (record { from = refl; open_to_all = refl; kept = λ g y d same. no_field_in_b g y d.there d.owner }, record { there = refl; owner = refl });
}

b_finds_no_y : field_of example 5 13 ≡ None
b_finds_no_y = refl

a_finds_y : field_of example 4 13 ≡ Some 1
a_finds_y = refl

-- f of C overrides f of A, f of J that of I
pub c_overrides_a : OverridesFrom example 6 4 2 f_of_c f_of_a
c_overrides_a = record {
  class = refl;
  member = record { from = []; by = own };
  instance = refl;
  above = record { between = 5 ∷ []; by = (refl, refl) };
  declared = record { there = refl; method = refl; owner = refl };
  same = (refl, refl);
  other = λ e. omega (e, arith);
  not_static = refl;
  not_private = refl;
  not_inherited = λ i member. not_in_c member.from member.by;
}
  where
    own : Declares example 6 4 f_of_c
    own = record { there = refl; method = refl; owner = refl }

    not_in_c : (from : List ℕ) → MemberBy example from 6 2 f_of_a → ⊥
    not_in_c [] h = let e : 4 ≡ 6 = h.owner in omega (e, arith)
    not_in_c (d ∷ from) h = h.0.kept 4 f_of_c own (refl, refl)

pub j_overrides_i : OverridesThere example 1 0 f_of_j f_of_i
j_overrides_i = record {
  interface = refl;
  declared = record { there = refl; method = refl; owner = refl };
  above = record { between = []; by = refl };
  above_interface = refl;
  declared_above = record { there = refl; method = refl; owner = refl };
  same = (refl, refl);
}

-- an object of B runs f of A for f of I
pub b_runs_f : IsInvoked example 5 f_of_i 2 f_of_a
b_runs_f = record {
  past = 4 ∷ [];
  search = ((λ j y r. none_in_b j y r.declared.there r.declared.owner), refl, record { declared = record { there = refl; method = refl; owner = refl }; same = (refl, refl); body = refl; own = λ e. absurd (private_not e) });
}

pub b_concrete : IsConcrete example 5
b_concrete = (b_class, refl, refl, refl)

pub i_virtual : IsVirtual example 0
i_virtual = record { info = f_of_i; there = refl; method = refl; instance = refl; open_to_all = refl }

c_dispatches_f : dispatch example 6 0 ≡ Some 4
c_dispatches_f = refl

-- f of C overrides all others, f of A that of I alone
c_over_i : is_pair example 4 0 ≡ true
c_over_i = refl

c_over_j : is_pair example 4 1 ≡ true
c_over_j = refl

a_over_i : is_pair example 2 0 ≡ true
a_over_i = refl

a_not_over_j : is_pair example 2 1 ≡ false
a_not_over_j = refl

i_over_nothing : is_pair example 0 2 ≡ false
i_over_nothing = refl

-- D has f of I, the first along its walk, though f of J overrides it
d_finds_i : method_of example 7 10 0 ≡ Some 0
d_finds_i = refl

d_pair : is_pair example 0 1 ≡ true
d_pair = refl
