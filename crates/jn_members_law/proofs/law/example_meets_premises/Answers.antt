use Rattle.std.proofs.Common.{refl}
use Rattle.jn_members_law.proofs.ExampleLists.{example_classes, example_fields, example_methods, example_access, example_interfaces, example_implements}
use Rattle.jn_members_law.proofs.Examples.{b_has_f, b_has_x, c_overrides_a, j_overrides_i, b_runs_f, b_concrete, i_virtual}
use Rattle.jn_members_law.proofs.law.example_meets_premises.Goals as goal

pub returns : goal.returns
returns c = record {
  classes = example_classes;
  methods = example_methods;
  fields = example_fields;
  access = example_access;
  abstract_interfaces = example_interfaces;
  implements = example_implements;
  inherits = (b_has_f, refl, refl);
  inherits_field = (b_has_x, refl);
  overrides = (c_overrides_a, refl, refl);
  overrides_there = (j_overrides_i, refl);
  invokes = (b_runs_f, refl, b_concrete, i_virtual, refl, refl);
}
