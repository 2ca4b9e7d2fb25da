-- Values of the code as those of the definition.
use Rattle.jn_machine.specs.declared.value.Node.{Node}
use Rattle.jn_machine.specs.declared.value.Node.TheVariants.{Null, Text as TextNode, Plain as PlainNode, At as AtNode}
use Rattle.jn_heap.specs.Values.{Value, NullRef, Text, Plain, At}

abbrev pub value_view : Node → Value
value_view Null = NullRef
value_view (TextNode t) = Text t.value
value_view (PlainNode p) = Plain p
value_view (AtNode o) = At o
