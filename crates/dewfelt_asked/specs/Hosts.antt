-- The hosts by which a listener is asked. To be believed.
use Rattle.std.specs.Prelude.{ℕ, Bool, false, List, [], ◌∷◌, ◌++◌, map, codes, decimal, string_bytes, if◌then◌else◌, ◌==◌}
use Rattle.std.specs.Str.{bytes_eq}
use Rattle.std.specs.Net.Addr.{ipv4_octets, ipv6_segments}
use Rattle.std.specs.Net.Socket.{v4_ip, v6_ip, socket_port}
use Rattle.std.specs.Net.Text.{ipv4_text, ipv6_text}
use Rattle.std.specs.declared.net.socket_addr.SocketAddr.{SocketAddr}
use Rattle.std.specs.declared.net.socket_addr.SocketAddr.TheVariants.{V4, V6}

-- a host and a port, and without it where it is 80, which a browser leaves out
abbrev pub at_port : ℕ → List ℕ → List (List ℕ)
at_port port host = (host ++ codes ":" ++ decimal port) ∷ (if port == 80 then host ∷ [] else [])

-- the host of an address: one of IPv6 stands in brackets
abbrev pub host_text : SocketAddr → List ℕ
host_text (V4 a) = ipv4_text (ipv4_octets (v4_ip a))
host_text (V6 a) = codes "[" ++ ipv6_text (ipv6_segments (v6_ip a)) ++ codes "]"

-- whether a listener at an address is at each IPv6 address of its machine
abbrev pub is_everywhere : SocketAddr → Bool
is_everywhere (V4 a) = false
is_everywhere (V6 a) = bytes_eq (ipv6_segments (v6_ip a)) (0 ∷ 0 ∷ 0 ∷ 0 ∷ 0 ∷ 0 ∷ 0 ∷ 0 ∷ [])

-- the hosts of a listener at an address: it, 127.0.0.1, localhost, and [::1] where it is at each IPv6 address
abbrev pub own_hosts : SocketAddr → List (List ℕ)
own_hosts address =
    at_port (socket_port address) (host_text address)
    ++ (at_port (socket_port address) (codes "127.0.0.1")
    ++ (at_port (socket_port address) (codes "localhost")
    ++ (if is_everywhere address then at_port (socket_port address) (codes "[::1]") else [])))
