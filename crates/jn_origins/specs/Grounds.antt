-- What causes are over.
use Rattle.jn_chain.specs.Search.{Ground}
use Rattle.jn_origins.specs.declared.basis.Basis.{Basis}

abbrev pub ground_of : Basis → Ground
ground_of b = record { program = b.program.now; sig = b.sig.now; tables = b.tables.now }
