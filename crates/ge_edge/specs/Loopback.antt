-- The addresses at which connections come in and are made.
use Rattle.std.specs.Prelude.{◌≡◌, ℕ, [], ◌∷◌}
use Rattle.std.specs.declared.net.ip_addr.IpAddr.{IpAddr}
use Rattle.std.specs.declared.net.ip_addr.IpAddr.TheVariants as ip
use Rattle.std.specs.declared.net.socket_addr.SocketAddr.{SocketAddr}
use Rattle.std.specs.Net.Addr.{ipv4_octets}
use Rattle.std.specs.Net.Socket.{socket_ip, socket_port}

-- 127.0.0.1, which no other machine reaches
abbrev pub IsThisMachine : IpAddr → Type 0
IsThisMachine (ip.V4 address) = ipv4_octets address ≡ 127 ∷ 0 ∷ 0 ∷ 1 ∷ []
IsThisMachine (ip.V6 address) = ⊥

-- a port of this machine
abbrev pub IsPortHere : SocketAddr → ℕ → Type 0
IsPortHere address port = IsThisMachine (socket_ip address) × (socket_port address ≡ port)
