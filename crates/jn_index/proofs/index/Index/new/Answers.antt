use Rattle.std.proofs.Common.{rules}
use Rattle.jn_index.proofs.index.Index.new.Goals as goal

pub returns-clause-is : goal.returns-clause-is
returns-clause-is c = record {
  own_is = search rules;
  constructors_are = search rules;
  fields_are = search rules;
  named_is = search rules;
  named_fields_are = search rules;
  named_classes_are = search rules;
  classes_are = search rules;
  methods_are = search rules;
  open_fields_are = search rules;
  few = search rules;
  walks_have = search rules;
  under_has = search rules;
}
