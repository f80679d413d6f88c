-- The idents of calls and the lines of MSG_EXEC_CMDLINE.
-- Source: the line is the one that qrexec uses for a service; the idents are this project's own.
use Rattle.std.specs.Prelude.{ℕ, ◌==◌, ◌&&◌, not, Bool, List, ◌++◌, codes, decimal, is_some, Option, Some, None, [], option_and_then, if◌then◌else◌}
use Rattle.std.specs.List.{before_first, after_first, list_any}
use Rattle.qrexec_data.specs.Pieces.{no_bytes}
use Rattle.service_gate.specs.ServiceResult.{service, after_prefix}

-- the ident by which an agent asks for a call
abbrev pub ident_of : ℕ → List ℕ
ident_of number = codes "call-" ++ decimal number

-- how each line begins: the user, and the program that runs a service
abbrev pub user : List ℕ
user = codes "DEFAULT:QUBESRPC "

-- the line of a service that a domain of this name asks for
abbrev pub exec_line : List ℕ → List ℕ → List ℕ
exec_line service name = user ++ (service ++ (codes " " ++ name))

-- whether a byte is a space
abbrev pub is_space : ℕ → Bool
is_space b = b == 32

-- whether a text is one word
abbrev pub is_word : List ℕ → Bool
is_word text = not (no_bytes text) && not (list_any is_space text)

-- the service of `SERVICE SOURCE`, if it is a built-in's name and SOURCE is one word
abbrev pub service_in : List ℕ → Option (List ℕ)
service_in rest =
    if is_word (after_first is_space rest) && is_some (service (before_first is_space rest) []) then Some (before_first is_space rest)
    else None

-- the built-in's name in a line, if the line is the user, such a name and one more word
abbrev pub service_of_line : List ℕ → Option (List ℕ)
service_of_line line = option_and_then service_in (after_prefix user line)
