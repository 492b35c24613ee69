-- What the system reports to a server that accepts connections.
use Rattle.std.specs.Prelude.{ℤ, Bool, false, ◌-◌, ◌^◌, ◌==◌, Option, None, Some}
use Rattle.mio.specs.declared.token.Token.{Token}
use Rattle.radio_sockets.specs.Steps.{lacks_descriptors}

-- the name of the bound socket
abbrev pub is_bound_socket : Token → Bool
is_bound_socket token = token.0 == 2 ^ 64 - 1

-- whether a fault of this number, or of none, is that there is no descriptor left
abbrev pub is_out_of_descriptors : Option ℤ → Bool
is_out_of_descriptors None = false
is_out_of_descriptors (Some code) = lacks_descriptors code
