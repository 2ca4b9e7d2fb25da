-- Things of the code as those of the definition.
use Rattle.jn_machine.specs.declared.thing.Node.{Node}
use Rattle.jn_machine.specs.declared.thing.Node.TheVariants.{Object as ObjectNode, Elems as ElemsNode}
use Rattle.jn_heap.specs.Values.{Thing, Object, Elems}

abbrev pub thing_view : Node → Thing
thing_view (ObjectNode c fields) = Object c.0 fields.items
thing_view (ElemsNode b items) = Elems b items.items
