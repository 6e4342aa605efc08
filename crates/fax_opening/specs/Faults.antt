-- Why a server does not begin. (This project's profile.)
use Rattle.fax_opening.specs.declared.fault.ServeFault.{ServeFault}
use Rattle.fax_opening.specs.declared.fault.ServeFault.TheVariants.{Control, Served}

-- a fault of the control socket: the system does not give it, or another process serves there
abbrev pub IsOfControl : ServeFault → Type 0
IsOfControl (Control error) = Unit {0}
IsOfControl Served = Unit {0}
IsOfControl fault = ⊥
