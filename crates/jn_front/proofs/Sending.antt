-- Trees may cross threads.
use denote.Param.Send.{IsSend, sendable}
use Rattle.std.proofs.Crossing.{crosses}
use Rattle.jn_trees.specs.contracts.declaration.TypeTree as TypeTree
use Rattle.jn_trees.specs.contracts.declaration.FileTree as FileTree
use Rattle.jn_front.specs.contracts.outcome.Outcome as Outcome
use Rattle.jn_front.specs.contracts.renumbering.Numbered as Numbered
use Rattle.jn_trees.specs.contracts.names.Names as Names
use Rattle.jn_base.proofs.place.Span.TheSendSync as Span-crosses
use Rattle.jn_base.proofs.place.Row.TheSendSync as Row-crosses
use Rattle.jn_base.proofs.number.NameNo.TheSendSync as NameNo-crosses
use Rattle.jn_trees.proofs.names.Names.TheSendSync as Names-crosses
use Rattle.jn_trees.proofs.expression.Annotation.TheSendSync as Annotation-crosses
use Rattle.jn_trees.proofs.expression.Identifier.TheSendSync as Identifier-crosses
use Rattle.jn_trees.proofs.declaration.Modifier.TheSendSync as Modifier-crosses
use Rattle.jn_trees.proofs.declaration.Import.TheSendSync as Import-crosses
use Rattle.jn_trees.proofs.declaration.PackageLine.TheSendSync as PackageLine-crosses
use Rattle.jn_trees.proofs.declaration.QualifiedName.TheSendSync as QualifiedName-crosses
use Rattle.jn_places.proofs.Sending.{member_sends}

ruleset parts = (Span-crosses.the_send, Span-crosses.the_field_send, NameNo-crosses.the_send, NameNo-crosses.the_field_send, Annotation-crosses.the_send, Annotation-crosses.the_field_send, Identifier-crosses.the_send, Identifier-crosses.the_field_send, Modifier-crosses.the_send, Modifier-crosses.the_field_send, Import-crosses.the_send, Import-crosses.the_field_send, PackageLine-crosses.the_send, PackageLine-crosses.the_field_send, QualifiedName-crosses.the_send, QualifiedName-crosses.the_field_send)

type_sends : IsSend TypeTree.the_row
type_sends = search (sendable, crosses, member_sends, parts) depth 20

file_field : IsSend (FileTree.the_field).row
file_field = search (sendable, crosses, type_sends, parts) depth 20

pub numbered_sends : IsSend Numbered.the_row
numbered_sends = search (sendable, crosses, file_field, NameNo-crosses.the_send) depth 20

names_field : IsSend (Names.the_field).row
names_field = search (sendable, crosses, Names-crosses.the_send) depth 20

pub outcome_sends : IsSend Outcome.the_row
outcome_sends = search (sendable, crosses, file_field, names_field, Row-crosses.the_field_send) depth 20
