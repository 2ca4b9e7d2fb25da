-- What modifiers may stand before (JLS 8.1.1, 8.3.1, 8.4.3, 8.8.3, 9.1.1, 9.4).
use Rattle.std.specs.Prelude.{Bool}
use Rattle.jn_trees.specs.Trees.{Mark}
use Rattle.jn_trees.specs.WellFormed.{marks_type, marks_interface, marks_field, marks_method, marks_interface_method, marks_constructor}
use Rattle.jn_trees.specs.declared.declaration.Bearer.{Bearer}
use Rattle.jn_trees.specs.declared.declaration.Bearer.TheVariants.{Class, Interface, Field, Method, InterfaceMethod, Constructor}

-- the modifiers that may stand before it
abbrev pub may : Bearer → Mark → Bool
may Class = marks_type
may Interface = marks_interface
may Field = marks_field
may Method = marks_method
may InterfaceMethod = marks_interface_method
may Constructor = marks_constructor
