-- What becomes of a notice that is to be sent. (This project's profile.)
use Rattle.std.specs.Prelude.{◌≡◌, ℕ, List, Option, None, Some, is_some, true}
use Rattle.fax_notify.specs.Carrying.{Carried, carried_after}
use Rattle.fax_notify.specs.declared.sending.NoticeFault.{NoticeFault}
use Rattle.fax_notify.specs.declared.sending.NoticeFault.TheVariants.{NoMemory, NoName, Socket}

-- THE SYSTEM IS HANDED ONE DATAGRAM: these octets, for this address. Of a name that is none of a socket there is no such datagram.
abbrev pub IsCarried : (address : Option (List ℕ))
    → (octets : List ℕ) → (old new : Option (List Carried)) → Type 0
IsCarried None octets old new = ⊥
IsCarried (Some address) octets old new = new ≡ carried_after address octets old

-- AND WHERE THAT FAILS: a name that is none is told as such, and no other one; where memory is refused, nothing was handed over.
abbrev pub Fails : NoticeFault
    → (address : Option (List ℕ)) → (octets : List ℕ) → (old new : Option (List Carried)) → Type 0
Fails NoName address octets old new = (address ≡ None) × (new ≡ old)
Fails NoMemory address octets old new = (is_some address ≡ true) × (new ≡ old)
Fails (Socket error) address octets old new = IsCarried address octets old new
