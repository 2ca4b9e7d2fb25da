-- Where syntax faults stand in texts that have one.
use Rattle.std.specs.Prelude.{[], ◌∷◌, List}
use Rattle.jn_base.specs.declared.number.NameNo.{NameNo}
use Rattle.jn_trees.specs.declared.token.TokenKind.{TokenKind}
use Rattle.jn_trees.specs.declared.token.TokenKind.TheVariants.{Id, Class, Interface, Public, Static, Void, This, Break, If, Else, Import, Package, LeftParen, RightParen, LeftBrace, RightBrace, Semicolon}
use Rattle.jn_trees.specs.Pieces.{AtStart, pieces, IsPlace}
use Rattle.jn_parse_decl_law.specs.PieceReader.{read_more_parameters, read_body_statement}
use Rattle.jn_parse_decl_law.specs.Progress.{file_run}
use Rattle.jn_parse_decl_law.proofs.FileLaws.{place}

abbrev C : NameNo
C = record { 0 = 1 }

abbrev D : NameNo
D = record { 0 = 2 }

abbrev m : NameNo
m = record { 0 = 3 }

-- these tokens inside a class C
abbrev in_class : List TokenKind → List TokenKind
in_class ts = Class ∷ Id C ∷ LeftBrace ∷ ts

-- `class C { public D() { } }`: at `public`
other_constructor : IsPlace pieces AtStart (in_class (Public ∷ Id D ∷ LeftParen ∷ RightParen ∷ LeftBrace ∷ RightBrace ∷ RightBrace ∷ [])) 3
unfolding file_run
other_constructor = place (in_class (Public ∷ Id D ∷ LeftParen ∷ RightParen ∷ LeftBrace ∷ RightBrace ∷ RightBrace ∷ []))

-- `class C { static void m(C this) { } }`: at `static`
static_receiver : IsPlace pieces AtStart (in_class (Static ∷ Void ∷ Id m ∷ LeftParen ∷ Id C ∷ This ∷ RightParen ∷ LeftBrace ∷ RightBrace ∷ RightBrace ∷ [])) 3
unfolding file_run read_more_parameters
static_receiver = place (in_class (Static ∷ Void ∷ Id m ∷ LeftParen ∷ Id C ∷ This ∷ RightParen ∷ LeftBrace ∷ RightBrace ∷ RightBrace ∷ []))

-- `class C { void m(D this) { } }`: at `void`
other_receiver : IsPlace pieces AtStart (in_class (Void ∷ Id m ∷ LeftParen ∷ Id D ∷ This ∷ RightParen ∷ LeftBrace ∷ RightBrace ∷ RightBrace ∷ [])) 3
unfolding file_run read_more_parameters
other_receiver = place (in_class (Void ∷ Id m ∷ LeftParen ∷ Id D ∷ This ∷ RightParen ∷ LeftBrace ∷ RightBrace ∷ RightBrace ∷ []))

-- `class C { void m(C this) { } }` is read to its end
own_receiver : IsPlace pieces AtStart (in_class (Void ∷ Id m ∷ LeftParen ∷ Id C ∷ This ∷ RightParen ∷ LeftBrace ∷ RightBrace ∷ RightBrace ∷ [])) 12
unfolding file_run read_more_parameters
own_receiver = place (in_class (Void ∷ Id m ∷ LeftParen ∷ Id C ∷ This ∷ RightParen ∷ LeftBrace ∷ RightBrace ∷ RightBrace ∷ []))

-- `interface C { void m() { } }`: at `void`
interface_body : IsPlace pieces AtStart (Interface ∷ Id C ∷ LeftBrace ∷ Void ∷ Id m ∷ LeftParen ∷ RightParen ∷ LeftBrace ∷ RightBrace ∷ RightBrace ∷ []) 3
unfolding file_run
interface_body = place (Interface ∷ Id C ∷ LeftBrace ∷ Void ∷ Id m ∷ LeftParen ∷ RightParen ∷ LeftBrace ∷ RightBrace ∷ RightBrace ∷ [])

-- `interface C { C() { } }`: at the second `C`
interface_constructor : IsPlace pieces AtStart (Interface ∷ Id C ∷ LeftBrace ∷ Id C ∷ LeftParen ∷ RightParen ∷ LeftBrace ∷ RightBrace ∷ RightBrace ∷ []) 3
unfolding file_run
interface_constructor = place (Interface ∷ Id C ∷ LeftBrace ∷ Id C ∷ LeftParen ∷ RightParen ∷ LeftBrace ∷ RightBrace ∷ RightBrace ∷ [])

-- `class C {`: at the end of the text
cut : IsPlace pieces AtStart (in_class []) 3
unfolding file_run
cut = place (in_class [])

-- `import C; package D;`: at `package`
late_package : IsPlace pieces AtStart (Import ∷ Id C ∷ Semicolon ∷ Package ∷ Id D ∷ Semicolon ∷ []) 3
unfolding file_run
late_package = place (Import ∷ Id C ∷ Semicolon ∷ Package ∷ Id D ∷ Semicolon ∷ [])

-- `class C { C() { this(); this(); } }`: at the second `this`
late_call : IsPlace pieces AtStart (in_class (Id C ∷ LeftParen ∷ RightParen ∷ LeftBrace ∷ This ∷ LeftParen ∷ RightParen ∷ Semicolon ∷ This ∷ LeftParen ∷ RightParen ∷ Semicolon ∷ RightBrace ∷ RightBrace ∷ [])) 11
unfolding file_run read_body_statement
late_call = place (in_class (Id C ∷ LeftParen ∷ RightParen ∷ LeftBrace ∷ This ∷ LeftParen ∷ RightParen ∷ Semicolon ∷ This ∷ LeftParen ∷ RightParen ∷ Semicolon ∷ RightBrace ∷ RightBrace ∷ []))

-- `class C { void m() { break; } }`: at `break`
outer_break : IsPlace pieces AtStart (in_class (Void ∷ Id m ∷ LeftParen ∷ RightParen ∷ LeftBrace ∷ Break ∷ Semicolon ∷ RightBrace ∷ RightBrace ∷ [])) 8
unfolding file_run read_body_statement
outer_break = place (in_class (Void ∷ Id m ∷ LeftParen ∷ RightParen ∷ LeftBrace ∷ Break ∷ Semicolon ∷ RightBrace ∷ RightBrace ∷ []))

-- `class C { void m() { if (m) ; else ) } }`: at `else`
broken_else : IsPlace pieces AtStart (in_class (Void ∷ Id m ∷ LeftParen ∷ RightParen ∷ LeftBrace ∷ If ∷ LeftParen ∷ Id m ∷ RightParen ∷ Semicolon ∷ Else ∷ RightParen ∷ RightBrace ∷ RightBrace ∷ [])) 13
unfolding file_run read_body_statement
broken_else = place (in_class (Void ∷ Id m ∷ LeftParen ∷ RightParen ∷ LeftBrace ∷ If ∷ LeftParen ∷ Id m ∷ RightParen ∷ Semicolon ∷ Else ∷ RightParen ∷ RightBrace ∷ RightBrace ∷ []))
