-- Methods of the Language Server Protocol 3.17.
use Rattle.std.specs.Prelude.{ℕ, List, bytes_eq, codes, if◌then◌else◌}
use Rattle.jn_lsp_messages.specs.declared.method.Method.{Method}
use Rattle.jn_lsp_messages.specs.declared.method.Method.TheVariants.{Initialize, Initialized, DidOpen, DidChange, DidSave, DidClose, WatchedFiles, ChangedFolders, CodeAction, InlayHint, Hover, Shutdown, Exit, Other}

-- the method of a name
unfoldable pub method_of : List ℕ → Method
method_of name =
    if bytes_eq name (codes "initialize") then Initialize else
    if bytes_eq name (codes "initialized") then Initialized else
    if bytes_eq name (codes "textDocument/didOpen") then DidOpen else
    if bytes_eq name (codes "textDocument/didChange") then DidChange else
    if bytes_eq name (codes "textDocument/didSave") then DidSave else
    if bytes_eq name (codes "textDocument/didClose") then DidClose else
    if bytes_eq name (codes "workspace/didChangeWatchedFiles") then WatchedFiles else
    if bytes_eq name (codes "textDocument/codeAction") then CodeAction else
    if bytes_eq name (codes "textDocument/inlayHint") then InlayHint else
    if bytes_eq name (codes "textDocument/hover") then Hover else
    if bytes_eq name (codes "shutdown") then Shutdown else
    if bytes_eq name (codes "exit") then Exit else
    if bytes_eq name (codes "workspace/didChangeWorkspaceFolders") then ChangedFolders else Other
