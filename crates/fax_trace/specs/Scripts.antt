-- SCRIPTS: what a line of a script tells. A script is what came to a gateway, a line an event. (This project's profile.)
use Rattle.std.specs.Prelude.{◌≡◌, ℕ, ◌<◌, ◌^◌, List, [], ◌∷◌, ◌++◌, codes, Ok}
use Rattle.std.specs.Str.Parse.{IsNumeral, digits_value}
use Rattle.hex.specs.Hex.{decode_of}
use Rattle.fax_trace.specs.declared.event.ScriptEvent.{ScriptEvent}
use Rattle.fax_trace.specs.declared.event.ScriptEvent.TheVariants.{Ring, FromCalling, FromCalled, Tick, Connected, NotConnected}

-- one or more decimal digits tell a moment below 2^64
abbrev pub TellsMoment : List ℕ → ℕ → Type 0
TellsMoment digits moment =
    IsNumeral 10 digits × (digits_value 10 digits ≡ moment) × (moment < 2 ^ 64)

-- a letter, a space, and a moment
abbrev pub TellsMomentAfter : List ℕ → List ℕ → ℕ → Type 0
TellsMomentAfter letter line moment =
    (digits : List ℕ) × (line ≡ letter ++ digits) × TellsMoment digits moment

-- a letter, a space, and hex text of these octets, in either case
abbrev pub TellsDatagram : List ℕ → List ℕ → List ℕ → Type 0
TellsDatagram letter line octets =
    (text : List ℕ) × (line ≡ letter ++ text) × (decode_of text ≡ Ok octets)

-- a line tells an event: a ring; a datagram of either leg; that time goes on to a moment; or that at a moment the call of the job
-- that is asked for is placed, or could not be
abbrev pub TellsEvent : List ℕ → ScriptEvent → Type 0
TellsEvent line Ring = line ≡ codes "R"
TellsEvent line (FromCalling octets) = TellsDatagram (codes "A ") line octets
TellsEvent line (FromCalled octets) = TellsDatagram (codes "B ") line octets
TellsEvent line (Tick moment) = TellsMomentAfter (codes "T ") line moment
TellsEvent line (Connected moment) = TellsMomentAfter (codes "C ") line moment
TellsEvent line (NotConnected moment) = TellsMomentAfter (codes "N ") line moment

-- lines tell these events, one by one
abbrev pub TellEvents : List (List ℕ) → List ScriptEvent → Type 0
TellEvents [] [] = Unit {0}
TellEvents (line ∷ lines) (event ∷ events) = TellsEvent line event × TellEvents lines events
TellEvents [] (event ∷ events) = ⊥
TellEvents (line ∷ lines) [] = ⊥
