-- The program of small heads has numbers of 32 bits.
use Rattle.std.proofs.Common.{◌≡◌, ◌<◌, ◌+◌, ◌-◌, ◌^◌, ℕ, suc, List, [], ◌∷◌, map, length, refl, ap, subst, sym, arith}
use Rattle.std.proofs.lemmas.List.{length-map}
use Rattle.jn_heads.specs.declared.head.ClassHead.{ClassHead}
use Rattle.jn_heads.specs.Heads.{string_head}
use Rattle.jn_index.specs.Sizes.{Few}
use Rattle.jn_classtable.specs.Built.{SmallTable}
use Rattle.jn_classtable.specs.Table.{declared_class, table}

few_classes : (hs : List ClassHead) → SmallTable hs → length (table hs).classes < 2 ^ 32
few_classes hs small =
    let long = length-map (string_head ∷ hs) (declared_class hs) in
    let few = small.heads in
    omega (arith, long, few)

pub table_is_small : (hs : List ClassHead) → SmallTable hs → Few (table hs)
table_is_small hs small = record { classes = few_classes hs small; fields = small.fields; methods = small.methods; parameters = small.params }
