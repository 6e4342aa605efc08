-- What holds of a called leg and stays while datagrams come holds of it after all that come.
use Rattle.std.proofs.Common.{ℕ, List, [], ◌∷◌, Ok}
use Rattle.fax_udptl.specs.Datagrams.{DatagramValue}
use Rattle.fax_call.specs.Writings.{Writing}
use Rattle.fax_gateway.specs.CalledLegs.{CalledLeg, leg_with}
use Rattle.fax_terminal.specs.Terminals.{calling_with}
use Rattle.fax_gateway.proofs.EachLeg.{hears_each}

pub came_each : (P : CalledLeg → Type 0) → ((l : CalledLeg) (now : ℕ) (d : DatagramValue) → P l → P (leg_with (Ok d) now l)) → (writes : Writing) (now : ℕ) (came : List (List ℕ)) (l : CalledLeg) → P l → P (calling_with writes now came l)
came_each P comes writes now [] l h = h
came_each P comes writes now (octets ∷ came) l h = hears_each P octets (λ k n d e. comes k n d) writes now (calling_with writes now came l) (came_each P comes writes now came l h)
